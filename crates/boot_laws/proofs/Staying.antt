-- After each action what was there is there, and its sweep lies within the lists: a service adds HOBs, writes bytes into a pool, or changes none.
use Rattle.std.proofs.Common.{◌≡◌, ℕ, zero, suc, ◌+◌, ◌≤◌, Bool, true, false, cond, List, [], ◌∷◌, ◌++◌, ◌∙◌, ap, length, take, drop, length-append, replicate, ◌-◌, ◌*◌, arith, sym, refl, subst, Option, Some, None, Ok, Err, slice_set, slice_get, filter, fold, nat_lt, not, option_map}
use Rattle.std.proofs.{lemmas.List.length-replicate, lemmas.Bool.Decides.nat_tests}
use Rattle.pi_base.specs.{declared.guid.Guid.Guid, Lists.Each}
use Rattle.hob_codec.specs.HobValue.{HobValue}
use Rattle.boot_model.specs.{PeiMachine.Frame, declared.frame.Register.Register, MachineFacts.IsHeld, MachineFacts.HoldRegisters}
use Rattle.boot_model.specs.declared.frame.Register.TheVariants.{Number, PoolIn, DescriptorIn}
use Rattle.store_model.specs.{declared.state.Entry.Entry, declared.state.HobEntry.HobEntry}
use Rattle.store_model.specs.declared.state.Body.TheVariants.{Bytes, Descriptor}
use Rattle.store_model.specs.{declared.store_handle.DescKind.DescKind, declared.store_handle.DescKind.TheVariants.Ppi}
use Rattle.store_model.specs.{declared.store_handle.Desc.Desc, declared.store_handle.Pool.Pool, declared.store_handle.Sweep.Sweep}
use Rattle.store_model.specs.{declared.store_handle.StoreFault.StoreFault, Service.Service, Service.in_room, Service.Reading.ppis_of}
use Rattle.store_model.specs.declared.store_handle.StoreFault.TheVariants as F
use Rattle.store_model.specs.StoreState.{StoreState, next_body, appended, pool_of, rounded, end_place}
use Rattle.store_model.specs.StateFacts.{IsPool, IsDesc, IsEntry, IsStoreState}
use Rattle.store_model.specs.{Service.Pool.pool, Service.Hob.create_hob, Service.Hob.hob_entry}
use Rattle.store_model.specs.Service.Descriptor.{desc_of, guid_from, number_at, descriptors, offsets}
use Rattle.store_model.specs.Service.Install.{install, reinstall, installed, reinstalled, with_ppi, with_pending, install_pairs, reinstall_pairs, renamed, place_of, is_installed, node_need, install_sweep, reinstall_sweep}
use Rattle.store_model.specs.Service.Notify.{notify, notified, with_note, notify_pairs, notify_sweep}
use Rattle.store_model.specs.Service.Memory.{set_memory, pages_taken, early_pages, allocation_len, allocation_hob, with_pages, with_boot_mode, page_len}
use Rattle.boot_model.specs.PeiAction.{Called, kind_number, Effect, Wrote, Own, Shadowed, Logged, Skipped, Returned, effect}
use Rattle.boot_laws.specs.Stay.{IsLater, IsReply, Visits, HoldsAfter, ActionsAreSound, RepliesAreSound}
use Rattle.boot_model.proofs.Held.{held_pool, held_list}
use Rattle.store_laws.proofs.Bodies.{new_body}
use Rattle.boot_laws.proofs.Bodies.{hold_on, hobs_stay, added_stays, changed, written_stays}
use Rattle.boot_laws.proofs.Later.{later_self, later_then, fold_later, pending_later, ppi_later, notes_later, pendings_ppis, ppis_added, behind, renamed_len, renamed_at, callbacks_added}
use Rattle.boot_laws.specs.EffectForms.{EffectHas, RepliesHave, WritesHave}
use Rattle.boot_laws.proofs.EffectForms.{effect_has}

pub set_held : (s : StoreState) (registers : List Register) (r : ℕ) (x : Register) → IsHeld s x → HoldRegisters registers s → HoldRegisters (slice_set registers r x) s
set_held s [] r x held each = tt
set_held s (y ∷ ys) zero x held each = (held, each.1)
set_held s (y ∷ ys) (suc r) x held each = (each.0, set_held s ys r x held each.1)

-- a service that answers is past its refusals
past : {A : Type 0} (b : Bool) (fault : StoreFault) (service : Service A) (answer : A × StoreState) → cond b (Err fault) service ≡ Ok answer → service ≡ Ok answer
past true fault service answer e = cc
past false fault service answer e = e

same_ok : {A : Type 0} (own : Service A) (x y : A × StoreState) → own ≡ Ok x → own ≡ Ok y → x ≡ y
same_ok own x y a b = cc

-- what holds of an answer and its state
answer_has : {A : Type 0} (P : A × StoreState → Type 0) (own : Service A) (x y : A × StoreState) → own ≡ Ok x → own ≡ Ok y → P x → P y
answer_has P own x y a b has = subst P (same_ok own x y a b) has

-- one HOB more
added_later : (s t : StoreState) (hob : HobEntry) → t.hobs ≡ s.hobs ++ hob ∷ [] → t.ppis ≡ s.ppis → t.callbacks ≡ s.callbacks → IsLater s t
added_later s t hob e ppis callbacks =
    let p : length t.ppis ≡ length s.ppis = ap length ppis in let c : length t.callbacks ≡ length s.callbacks = ap length callbacks in
    record { held = added_stays s t hob e; ppis = omega (arith, p); callbacks = omega (arith, c) }

pool_stays : (s : StoreState) (registers : List Register) (r size : ℕ) → HoldRegisters registers s → (made : Pool) (t : StoreState) → pool s size ≡ Ok (made, t)
    → IsLater s t × HoldRegisters (slice_set registers r (PoolIn made)) t
pool_stays s registers r size h made t e =
    let zeros : List ℕ = replicate (rounded size) 0 in
    let hob : HobEntry = pool_of (Bytes zeros) in
    let own : Pool × StoreState = (record { offset = next_body s; size = size }, appended s hob) in
    let none : ℕ = 0 in
    let len : length zeros ≡ rounded size = length-replicate (rounded size) none in
    let is : IsPool own.1 own.0 = (zeros, new_body s.hobs hob 56 (next_body s) refl, omega (arith, len)) in
    let later : IsLater s own.1 = added_later s own.1 hob refl refl refl in
    answer_has (λ p. IsLater s p.1 × HoldRegisters (slice_set registers r (PoolIn p.0)) p.1) (Ok own) own (made, t) refl (past _ F.Full _ (made, t) (past _ F.Full _ (made, t) e))
    (later, set_held own.1 registers r (PoolIn own.0) is (hold_on s own.1 registers later.held h))

desc_stays : (s : StoreState) (registers : List Register) (r : ℕ) (kind : DescKind) (number : ℕ) (from : Option (Guid × Option ℕ)) → HoldRegisters registers s → (made : Desc) (t : StoreState) → desc_of s kind number from ≡ Ok (made, t)
    → IsLater s t × HoldRegisters (slice_set registers r (DescriptorIn made)) t
desc_stays s registers r kind number None h made t e = cc
desc_stays s registers r kind number (Some (guid, stands)) h made t e =
    let hob : HobEntry = pool_of (Descriptor (record { kind = kind; guid = guid; stands = stands; number = number })) in
    let own : Desc × StoreState = (record { offset = next_body s }, appended s hob) in
    let is : IsDesc own.1 own.0 = (record { kind = kind; guid = guid; stands = stands; number = number }, new_body s.hobs hob 56 (next_body s) refl) in
    let later : IsLater s own.1 = added_later s own.1 hob refl refl refl in
    answer_has (λ p. IsLater s p.1 × HoldRegisters (slice_set registers r (DescriptorIn p.0)) p.1) (Ok own) own (made, t) refl (past _ F.Full _ (made, t) e)
    (later, set_held own.1 registers r (DescriptorIn own.0) is (hold_on s own.1 registers later.held h))

-- an install visits the PPIs that it adds
installed_later : (s : StoreState) (list : List Desc) (by : ℕ) → IsLater s (installed s list by)
installed_later s list by =
    let ppis : StoreState = fold (with_ppi by) s list in
    later_then s ppis (installed s list by) (fold_later (with_ppi by) list s (ppi_later by)) (fold_later (with_pending by) (install_pairs s list) ppis (pending_later by))

installed_visits : (s : StoreState) (list : List Desc) (by : ℕ) → Visits (installed s list by) (Some (install_sweep s list)) (offsets list)
installed_visits s list by =
    let added = ppis_added by list s in
    let all : (installed s list by).ppis ≡ s.ppis ++ added.0 = pendings_ppis by (install_pairs s list) (fold (with_ppi by) s list) ∙ added.1 in
    let len : length (installed s list by).ppis ≡ length s.ppis + length added.0 = ap length all ∙ length-append s.ppis added.0 in (
      record { ppis = omega (arith, len, added.3); notes = omega (arith, (installed_later s list by).callbacks) },
      λ _. sym (ap (λ xs. descriptors (take (length s.ppis + length list - length s.ppis) (drop (length s.ppis) xs))) all ∙ (ap descriptors (behind s.ppis added.0 (length list) added.3) ∙ added.2)),
    )

pub install_stays : (s : StoreState) (list : List Desc) (by : ℕ) (sweep : Sweep) (t : StoreState) → install s list by ≡ Ok (sweep, t) → IsLater s t × Visits t (Some sweep) (offsets list)
install_stays s list by sweep t e =
    answer_has (λ p. IsLater s p.1 × Visits p.1 (Some p.0) (offsets list)) (Ok (install_sweep s list, installed s list by)) (install_sweep s list, installed s list by) (sweep, t) refl
    (past _ F.Full _ (sweep, t) (past _ F.Bad _ (sweep, t) e)) (installed_later s list by, installed_visits s list by)

-- a registration installs none
notified_later : (s : StoreState) (list : List Desc) (by : ℕ) → IsLater s (notified s list by)
notified_later s list by =
    let notes : StoreState = fold (with_note by) s list in
    later_then s notes (notified s list by) (notes_later by list s) (fold_later (with_pending by) (notify_pairs s list) notes (pending_later by))

notified_visits : (s : StoreState) (list : List Desc) (by : ℕ) → Each (IsDesc s) list → Visits (notified s list by) (Some (notify_sweep s list)) []
notified_visits s list by each =
    let notes : StoreState = fold (with_note by) s list in
    let count = callbacks_added by list s s (λ place body h. h) each in
    let more = fold_later (with_pending by) (notify_pairs s list) notes (pending_later by) in
    (record { ppis = omega (arith, (notified_later s list by).ppis); notes = omega (arith, count, more.callbacks) }, λ some. absurd (some refl))

notify_stays : (s : StoreState) (list : List Desc) (by : ℕ) → Each (IsDesc s) list → (sweep : Sweep) (t : StoreState) → notify s list by ≡ Ok (sweep, t) → IsLater s t × Visits t (Some sweep) []
notify_stays s list by each sweep t e =
    answer_has (λ p. IsLater s p.1 × Visits p.1 (Some p.0) []) (Ok (notify_sweep s list, notified s list by)) (notify_sweep s list, notified s list by) (sweep, t) refl
    (past _ F.Full _ (sweep, t) (past _ F.Bad _ (sweep, t) e)) (notified_later s list by, notified_visits s list by each)

-- one PPI in the place of another
reinstalled_later : (s : StoreState) (old new : Desc) (by : ℕ) → IsLater s (reinstalled s old new by)
reinstalled_later s old new by =
    let named : StoreState = record s { ppis = renamed s.ppis old.offset new.offset } in
    let len : length named.ppis ≡ length s.ppis = renamed_len s.ppis old.offset new.offset in
    later_then s named (reinstalled s old new by) (record { held = hobs_stay s named refl; ppis = omega (arith, len); callbacks = omega arith })
    (fold_later (with_pending by) (reinstall_pairs s new) named (pending_later by))

reinstalled_visits : (s : StoreState) (old new : Desc) (by : ℕ) → is_installed s old ≡ true → Visits (reinstalled s old new by) (Some (reinstall_sweep s old)) (new.offset ∷ [])
reinstalled_visits s old new by is =
    let place : ℕ = place_of s.ppis old.offset in
    let all : (reinstalled s old new by).ppis ≡ renamed s.ppis old.offset new.offset = pendings_ppis by (reinstall_pairs s new) (record s { ppis = renamed s.ppis old.offset new.offset }) in
    let at = renamed_at s.ppis old.offset new.offset is in
    let one : place + 1 - place ≡ 1 = omega arith in
    let later = reinstalled_later s old new by in (
      record { ppis = omega (arith, at.0, later.ppis); notes = omega (arith, later.callbacks) },
      λ _. sym (ap (λ xs. descriptors (take (place + 1 - place) (drop place xs))) all ∙ (ap (λ n. descriptors (take n (drop place (renamed s.ppis old.offset new.offset)))) one ∙ at.1)),
    )

reinstall_on : (b : Bool) (s : StoreState) (old new : Desc) (by : ℕ) (sweep : Sweep) (t : StoreState) → is_installed s old ≡ b
    → cond (not b) (Err F.Missing) (in_room s (node_need (length (reinstall_pairs s new))) (Ok (reinstall_sweep s old, reinstalled s old new by))) ≡ Ok (sweep, t) → IsLater s t × Visits t (Some sweep) (new.offset ∷ [])
reinstall_on false s old new by sweep t is e = cc
reinstall_on true s old new by sweep t is e =
    answer_has (λ p. IsLater s p.1 × Visits p.1 (Some p.0) (new.offset ∷ [])) (Ok (reinstall_sweep s old, reinstalled s old new by)) (reinstall_sweep s old, reinstalled s old new by) (sweep, t) refl
    (past _ F.Full _ (sweep, t) e) (reinstalled_later s old new by, reinstalled_visits s old new by is)

reinstall_stays : (s : StoreState) (old new : Desc) (by : ℕ) (sweep : Sweep) (t : StoreState) → reinstall s old new by ≡ Ok (sweep, t) → IsLater s t × Visits t (Some sweep) (new.offset ∷ [])
reinstall_stays s old new by sweep t e = reinstall_on (is_installed s old) s old new by sweep t refl (past _ F.Bad _ (sweep, t) e)

kept_by : (b : Bool) (s : StoreState) (entry : Entry) (rest : List Entry) → IsEntry s Ppi entry → Each (IsEntry s Ppi) rest → Each (IsEntry s Ppi) (cond b (entry ∷ rest) rest)
kept_by true s entry rest is each = (is, each)
kept_by false s entry rest is each = each

filter_each : (s : StoreState) (test : Entry → Bool) (entries : List Entry) → Each (IsEntry s Ppi) entries → Each (IsEntry s Ppi) (filter test entries)
filter_each s test [] each = tt
filter_each s test (entry ∷ entries) each = kept_by (test entry) s entry (filter test entries) each.0 (filter_each s test entries each.1)

nth_is : (s : StoreState) (entries : List Entry) (n : ℕ) (found : Desc × ℕ) → Each (IsEntry s Ppi) entries
    → Some found ≡ option_map (λ entry. (record { offset = entry.descriptor }, number_at s entry.descriptor)) (slice_get entries n) → IsDesc s found.0
nth_is s [] n found each e = cc
nth_is s (entry ∷ entries) zero found each e =
    let own : Desc × ℕ = (record { offset = entry.descriptor }, number_at s entry.descriptor) in let same : own ≡ found = cc in
    subst (λ p. IsDesc s p.0) same (each.0.1.0, each.0.1.1)
nth_is s (entry ∷ entries) (suc n) found each e = nth_is s entries n found each.1 e

hob_stays : (s : StoreState) (hob : HobValue) (address : ℕ) (t : StoreState) → create_hob s hob ≡ Ok (address, t) → IsLater s t
hob_stays s hob address t e =
    let own : ℕ × StoreState = (s.base + end_place s, appended s (hob_entry hob)) in
    answer_has (λ p. IsLater s p.1) (Ok own) own (address, t) refl (past _ F.Full _ (address, t) e) (added_later s own.1 (hob_entry hob) refl refl refl)

-- no HOB more
same_later : (s t : StoreState) → s.hobs ≡ t.hobs → t.ppis ≡ s.ppis → t.callbacks ≡ s.callbacks → IsLater s t
same_later s t e ppis callbacks =
    let p : length t.ppis ≡ length s.ppis = ap length ppis in let c : length t.callbacks ≡ length s.callbacks = ap length callbacks in
    record { held = hobs_stay s t e; ppis = omega (arith, p); callbacks = omega (arith, c) }

memory_stays : (s : StoreState) (begin len : ℕ) (none : Unit {0}) (t : StoreState) → set_memory s begin len ≡ Ok (none, t) → IsLater s t
memory_stays s begin len none t e =
    let own : Unit {0} × StoreState = (tt, record s { planned = Some (record { base = begin; len = len }) }) in
    answer_has (λ p. IsLater s p.1) (Ok own) own (none, t) refl (past _ F.Bad _ (none, t) e) (same_later s own.1 refl refl refl)

taken_stays : (s : StoreState) (memory_type len address : ℕ) (t : StoreState) → pages_taken s memory_type len ≡ Ok (address, t) → IsLater s t
taken_stays s memory_type len address t e =
    let own : ℕ × StoreState = (s.page_end - (s.taken + len), with_pages s memory_type len) in
    answer_has (λ p. IsLater s p.1) (Ok own) own (address, t) refl e (added_later s own.1 (allocation_hob memory_type len (s.taken + len)) refl refl refl)

pages_on : (b : Bool) (s : StoreState) (memory_type count address : ℕ) (t : StoreState)
    → cond b (in_room s (allocation_len + page_len * count) (pages_taken s memory_type (page_len * count))) (early_pages s memory_type (page_len * count)) ≡ Ok (address, t) → IsLater s t
pages_on true s memory_type count address t e = taken_stays s memory_type (page_len * count) address t (past _ F.Full _ (address, t) e)
pages_on false s memory_type count address t e =
    taken_stays s memory_type (page_len * count) address t (past _ F.Full _ (address, t) (past _ F.Full _ (address, t) (past _ F.NotYet _ (address, t) e)))

store_on : (b : Bool) (s new : StoreState) (to : Pool) (at : ℕ) (bytes : List ℕ) → nat_lt to.size (at + length bytes) ≡ b → IsPool s to → Some new ≡ cond b None (Some (changed s to.offset at bytes)) → IsLater s new
store_on true s new to at bytes t is e = cc
store_on false s new to at bytes t is e =
    let fits : at + length bytes ≤ to.size = grind (arith, nat_tests, t) in let same : changed s to.offset at bytes ≡ new = cc in
    subst (λ u. IsLater s u) same (record { held = written_stays s to at bytes is fits; ppis = omega arith; callbacks = omega arith })

replies_hold : (s : StoreState) (frame : Frame) → IsStoreState s → HoldRegisters frame.registers s → RepliesHave s frame (λ action reply. IsReply s reply)
replies_hold s frame facts h = record {
  refused = λ action status other. record { registers = h; later = later_self s; visits = refl };
  pool = λ r size made new e. let k = pool_stays s frame.registers r size h made new e in record { registers = k.1; later = k.0; visits = refl };
  store = λ p offset bytes to new held e.
      let later = store_on (nat_lt to.size (offset + length bytes)) s new to offset bytes refl (held_pool s frame.registers p to h (sym held)) (sym e) in
      record { registers = hold_on s new frame.registers later.held h; later = later; visits = refl };
  peek = λ v n bytes. record { registers = h; later = later_self s; visits = refl };
  desc = λ d kind guid arg of made new e f.
      let k = desc_stays s frame.registers d (kind_number kind) of.1 (guid_from s of.0) h made new f in record { registers = k.1; later = k.0; visits = refl };
  install = λ list found sweep new e f. let k = install_stays s found frame.module_number sweep new f in record { registers = hold_on s new frame.registers k.0.held h; later = k.0; visits = k.1 };
  reinstall = λ old new pair sweep after e f.
      let k = reinstall_stays s pair.0 pair.1 frame.module_number sweep after f in record { registers = hold_on s after frame.registers k.0.held h; later = k.0; visits = k.1 };
  notify = λ list found sweep new e f.
      let k = notify_stays s found frame.module_number (held_list s frame.registers list found found h (sym e) refl) sweep new f in
      record { registers = hold_on s new frame.registers k.0.held h; later = k.0; visits = k.1 };
  locate = λ d v guid instance found e. record {
    registers = set_held s (slice_set frame.registers d (DescriptorIn found.0)) v (Number found.1) tt
        (set_held s frame.registers d (DescriptorIn found.0) (nth_is s (ppis_of s guid) instance found (filter_each s _ s.ppis facts.ppis) (sym e)) h);
    later = later_self s;
    visits = refl;
  };
  hob = λ kind body hob address new e f. let later = hob_stays s hob address new f in record { registers = hold_on s new frame.registers later.held h; later = later; visits = refl };
  memory = λ begin len span done new e f. let later = memory_stays s span.0 span.1 done new f in record { registers = hold_on s new frame.registers later.held h; later = later; visits = refl };
  pages = λ r memory_type count address new e.
      let later = pages_on s.moved s memory_type count address new e in
      record { registers = set_held new frame.registers r (Number address) tt (hold_on s new frame.registers later.held h); later = later; visits = refl };
  mode = λ r. record { registers = set_held s frame.registers r (Number s.boot_mode) tt h; later = later_self s; visits = refl };
  set_mode = λ form r mode small.
      let later : IsLater s (with_boot_mode s mode) = same_later s (with_boot_mode s mode) refl refl refl in
      record { registers = hold_on s (with_boot_mode s mode) frame.registers later.held h; later = later; visits = refl };
}

writes_hold : (s : StoreState) (frame : Frame) → HoldRegisters frame.registers s → WritesHave s frame (λ action registers. HoldRegisters registers s)
writes_hold s frame h = record {
  same = λ action. h;
  set = λ r n. set_held s frame.registers r (Number n) tt h;
  add = λ r n sum e. set_held s frame.registers r (Number sum) tt h;
  addr = λ v x offset address e. set_held s frame.registers v (Number address) tt h;
}

holds_after : (s : StoreState) (does : Effect) → EffectHas (λ reply. IsReply s reply) (λ registers. HoldRegisters registers s) does → HoldsAfter s does
holds_after s (Wrote registers status) h = h
holds_after s (Called name reply) h = h
holds_after s (Own Shadowed) h = tt
holds_after s (Logged text) h = tt
holds_after s (Skipped n) h = tt
holds_after s (Returned status) h = tt

pub action_holds : ActionsAreSound
action_holds s frame action facts h =
    holds_after s (effect s frame action) (effect_has s frame (λ _ reply. IsReply s reply) (λ _ registers. HoldRegisters registers s) (writes_hold s frame h) (replies_hold s frame facts h) action)

pub replies_are_sound : RepliesAreSound
replies_are_sound s frame action name reply facts h e = let is : HoldsAfter s (Called name reply) = subst (λ x. HoldsAfter s x) e (action_holds s frame action facts h) in is
