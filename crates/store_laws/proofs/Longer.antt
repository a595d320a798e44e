-- A service's new state has room: what is put behind the HOBs is no more than what was free.
use Rattle.std.proofs.Common.{◌≡◌, ℕ, ◌+◌, ◌-◌, ◌*◌, ◌≤◌, false, List, [], ◌∷◌, length, arith, refl, ◌∙◌, nat_lt, fold}
use Rattle.std.proofs.{lemmas.List.Sums.sum_by_push, lemmas.Bool.Decides.nat_tests}
use Rattle.store_model.specs.{declared.store_handle.DescKind.DescKind, declared.store_handle.Desc.Desc}
use Rattle.store_model.specs.declared.store_handle.DescKind.TheVariants.{Ppi, Callback, Dispatch}
use Rattle.store_model.specs.{declared.state.Body.TheVariants.Node, declared.state.HobEntry.HobEntry, Service.Descriptor.kind_at}
use Rattle.store_model.specs.StoreState.{StoreState, appended, end_place, free, hob_len, page_bytes, pool_of}
use Rattle.store_model.specs.Service.Install.{install_pairs, installed, reinstall_pairs, reinstalled, renamed, with_node, with_pending, with_ppi}
use Rattle.store_model.specs.Service.Notify.{notified, notify_pairs, with_note, with_note_of}
use Rattle.store_laws.proofs.Sound.{IsRoomy}

-- t is s with so many bytes at most behind the others
pub record Longer (s t : StoreState) (n : ℕ) : Type 0 where
  pub len : t.len ≡ s.len
  pub pages : page_bytes t.moved t.taken ≡ page_bytes s.moved s.taken
  pub end : end_place t ≤ end_place s + n

fits : (len end last pages need : ℕ) → end + 8 + pages ≤ len → nat_lt (len - 8 - end - pages) need ≡ false → last ≤ end + need → last + 8 + pages ≤ len
fits len end last pages need room e le = grind (arith, nat_tests, room, e, le)

pub longer_room : (s t : StoreState) (n : ℕ) → Longer s t n → IsRoomy s → nat_lt (free s) n ≡ false → IsRoomy t
longer_room s t n l room e =
    let told : end_place t + 8 + page_bytes s.moved s.taken ≤ s.len = fits s.len (end_place s) (end_place t) (page_bytes s.moved s.taken) n room e l.end in
    omega (arith, told, l.len, l.pages)

pub same_longer : (s : StoreState) (n : ℕ) → Longer s s n
same_longer s n = record { len = refl; pages = refl; end = omega arith }

pub longer_then : (s t u : StoreState) (m n : ℕ) → Longer s t m → Longer t u n → Longer s u (m + n)
longer_then s t u m n a b = record { len = b.len ∙ a.len; pages = b.pages ∙ a.pages; end = omega (arith, a.end, b.end) }

pub push_longer : (s : StoreState) (hob : HobEntry) (n : ℕ) → hob_len hob ≡ n → Longer s (appended s hob) n
push_longer s hob n e = record { len = refl; pages = refl; end = let sum = sum_by_push hob_len s.hobs hob in omega (arith, sum, e) }

-- entries and queued pairs
node_end : (s : StoreState) → end_place (with_node s) ≤ end_place s + 40
node_end s = (push_longer s (pool_of Node) 40 refl).end

ppi_longer : (by : ℕ) (s : StoreState) (d : Desc) → Longer s (with_ppi by s d) 40
ppi_longer by s d = record { len = refl; pages = refl; end = node_end s }

pending_longer : (by : ℕ) (s : StoreState) (pair : ℕ × ℕ) → Longer s (with_pending by s pair) 40
pending_longer by s pair = record { len = refl; pages = refl; end = node_end s }

note_longer : (kind : DescKind) (by : ℕ) (s : StoreState) (d : Desc) → Longer s (with_note_of kind by s d) 40
note_longer Ppi by s d = same_longer s 40
note_longer Callback by s d = record { len = refl; pages = refl; end = node_end s }
note_longer Dispatch by s d = record { len = refl; pages = refl; end = node_end s }

fold_longer : {A : Type 0} (f : StoreState → A → StoreState) → ((s : StoreState) (a : A) → Longer s (f s a) 40) → (xs : List A) (s : StoreState) → Longer s (fold f s xs) (40 * length xs)
fold_longer f one [] s = same_longer s _
fold_longer f one (x ∷ xs) s =
    let a = one s x in
    let b = fold_longer f one xs (f s x) in
    record { len = b.len ∙ a.len; pages = b.pages ∙ a.pages; end = omega (arith, a.end, b.end) }

pub installed_longer : (s : StoreState) (list : List Desc) (by : ℕ) → Longer s (installed s list by) (40 * length list + 40 * length (install_pairs s list))
installed_longer s list by = longer_then s (fold (with_ppi by) s list) (installed s list by) _ _ (fold_longer (with_ppi by) (ppi_longer by) list s) (fold_longer (with_pending by) (pending_longer by) (install_pairs s list) (fold (with_ppi by) s list))

pub notified_longer : (s : StoreState) (list : List Desc) (by : ℕ) → Longer s (notified s list by) (40 * length list + 40 * length (notify_pairs s list))
notified_longer s list by = longer_then s (fold (with_note by) s list) (notified s list by) _ _ (fold_longer (with_note by) (λ t d. note_longer (kind_at t d.offset) by t d) list s) (fold_longer (with_pending by) (pending_longer by) (notify_pairs s list) (fold (with_note by) s list))

pub reinstalled_longer : (s : StoreState) (old new : Desc) (by : ℕ) → Longer s (reinstalled s old new by) (40 * length (reinstall_pairs s new))
reinstalled_longer s old new by =
    let l = fold_longer (with_pending by) (pending_longer by) (reinstall_pairs s new) (record s { ppis = renamed s.ppis old.offset new.offset }) in
    record { len = l.len; pages = l.pages; end = l.end }
