-- The rows of the calls that make entries.
use Rattle.std.proofs.Common.{◌≡◌, ◌∙◌, ◌≤◌, ◌+◌, ℕ, true, false, cond, List, [], ◌∷◌, length, Ok, Err, ap, refl, sym, subst, arith, fold, nat_lt, not}
use Rattle.std.specs.List.{list_all, list_any}
use Rattle.std.proofs.lemmas.Bool.Decides.{nat_tests}
use Rattle.pi_base.specs.Lists.{Each}
use Rattle.phys_mem.specs.declared.memory.PhysMem.{PhysMem}
use Rattle.store_model.specs.{declared.store_handle.Desc.Desc, declared.store_handle.DescKind.TheVariants.Ppi}
use Rattle.store_model.specs.declared.store_handle.StoreFault.TheVariants.{Full, Missing}
use Rattle.store_model.specs.{declared.store_handle.Sweep.Sweep, StoreState.StoreState, StoreState.free}
use Rattle.store_model.specs.{StateFacts.IsDesc, StateFacts.IsDescOf, Service.Descriptor.is_ppi, Service.Descriptor.kind_at}
use Rattle.store_model.specs.Service.{Service, in_room, unless_bad}
use Rattle.store_model.specs.Service.Install.{install, install_pairs, install_sweep, installed, is_installed, node_need, reinstall, reinstall_pairs, reinstall_sweep, reinstalled, with_pending, with_ppi}
use Rattle.store_model.specs.Service.Notify.{notified, notify, notify_pairs, notify_sweep, with_note}
use Rattle.pei_heap.specs.{declared.links.heads.Heads.Heads, Linked.IsLinked, Replaced.with_renamed}
use Rattle.pei_heap.specs.Pairs.{CanQueueAll, CanQueueNew, queued}
use Rattle.heap_store.specs.{declared.store.HeapStore.HeapStore, HeapState.StandsFor}
use Rattle.heap_store.specs.Made.{CanMakeNotes, CanMakePpis, IsMade, IsSame}
use Rattle.heap_store.proofs.HandedIn.{each_ppi, still_descs, still_notes, still_ppis}
use Rattle.heap_store.proofs.{OnWay.then_same, Standing.stands_linked}

queue_same : (by : ℕ) (pairs : List (ℕ × ℕ)) (t : StoreState) → IsSame t (queued by t pairs)
queue_same by [] t = record { board = refl; planned = refl; moved = refl; taken = refl }
queue_same by (pair ∷ pairs) t = then_same t (with_pending by t pair) (queued by (with_pending by t pair) pairs) (record { board = refl; planned = refl; moved = refl; taken = refl }) (queue_same by pairs (with_pending by t pair))

fits : (a b : ℕ) → nat_lt a b ≡ false → b ≤ a
fits a b e = grind (arith, nat_tests, e)

-- PPIs
pub can_make : (s : StoreState) (list : List Desc) (pairs : ℕ) → Each (IsDesc s) list → list_all (λ d. is_ppi (kind_at s d.offset)) list ≡ true
    → nat_lt (free s) (node_need (length list) + node_need pairs) ≡ false → CanMakePpis s list
can_make s list pairs descs all room = let le = fits (free s) (node_need (length list) + node_need pairs) room in record { ppis = each_ppi s list descs all; room = omega (arith, le) }

pub can_queue : (m : HeapStore) (s t : StoreState) (list : List Desc) (pairs : ℕ) (memory : PhysMem) (heads : Heads) → Each (IsDesc s) list → list_all (λ d. is_ppi (kind_at s d.offset)) list ≡ true
    → nat_lt (free s) (node_need (length list) + node_need pairs) ≡ false → pairs ≡ length (install_pairs s list) → install_pairs t list ≡ install_pairs s list
    → IsMade m.heap memory heads s t (length list) → CanQueueAll t list pairs
can_queue m s t list pairs memory heads descs all room count stay made =
    let le = fits (free s) (node_need (length list) + node_need pairs) room in
    let left = made.step.free_is in
    let same : length (install_pairs t list) ≡ pairs = ap length stay ∙ sym count in
    record { ppis = still_ppis s t list made.step.bodies (each_ppi s list descs all); count_is = sym same; room = omega (arith, le, left, same) }

pub install_row : (m : HeapStore) (s : StoreState) (list : List Desc) (by pairs : ℕ) (sweep : Sweep) (memory after : PhysMem) (heads ends : Heads) → StandsFor m s
    → list_all (λ d. is_ppi (kind_at s d.offset)) list ≡ true → nat_lt (free s) (node_need (length list) + node_need pairs) ≡ false → pairs ≡ length (install_pairs s list)
    → sweep ≡ install_sweep s list → install_pairs (fold (with_ppi by) s list) list ≡ install_pairs s list → IsMade m.heap memory heads s (fold (with_ppi by) s list) (length list)
    → IsLinked m.heap after ends (queued by (fold (with_ppi by) s list) (install_pairs (fold (with_ppi by) s list) list))
    → (t : StoreState) × (install s list by ≡ Ok (sweep, t)) × StandsFor (record m { memory = after; heads = ends }) t
install_row m s list by pairs sweep memory after heads ends h all room count swept stay made linked =
    let first = fold (with_ppi by) s list in
    let t = installed s list by in
    let here : IsLinked m.heap after ends t = subst (λ p. IsLinked m.heap after ends (queued by first p)) stay linked in
    let answer : Service Sweep = Ok (install_sweep s list, t) in
    let need = node_need (length list) + node_need (length (install_pairs s list)) in
    let row : install s list by ≡ answer = ap (λ b. unless_bad (not b) (in_room s need answer)) all
    ∙ ap (λ n. cond (nat_lt (free s) (node_need (length list) + node_need n)) (Err Full) answer) (sym count) ∙ ap (λ b. cond b (Err Full) answer) room in
    (t, row ∙ ap (λ x. Ok (x, t)) (sym swept), stands_linked m s t after ends h here (then_same s first t made.same (queue_same by (install_pairs s list) first)))

-- a PPI in the place of another
pub can_requeue : (s : StoreState) (old new : Desc) (pairs : ℕ) → IsDescOf s Ppi new → nat_lt (free s) (node_need 0 + node_need pairs) ≡ false → pairs ≡ length (install_pairs s (new ∷ []))
    → CanQueueAll (with_renamed s old new) (new ∷ []) pairs
can_requeue s old new pairs is room count =
    let le = fits (free s) (node_need 0 + node_need pairs) room in
    record { ppis = (is, tt); count_is = count; room = omega (arith, le, count) }

pub reinstall_row : (m : HeapStore) (s : StoreState) (old new : Desc) (by pairs : ℕ) (sweep : Sweep) (after : PhysMem) (ends : Heads) → StandsFor m s
    → is_ppi (kind_at s new.offset) ≡ true → is_installed s old ≡ true → nat_lt (free s) (node_need 0 + node_need pairs) ≡ false → pairs ≡ length (install_pairs s (new ∷ []))
    → sweep ≡ reinstall_sweep s old → IsLinked m.heap after ends (queued by (with_renamed s old new) (install_pairs (with_renamed s old new) (new ∷ [])))
    → (t : StoreState) × (reinstall s old new by ≡ Ok (sweep, t)) × StandsFor (record m { memory = after; heads = ends }) t
reinstall_row m s old new by pairs sweep after ends h is there room count swept linked =
    let first = with_renamed s old new in
    let t = reinstalled s old new by in
    let answer : Service Sweep = Ok (reinstall_sweep s old, t) in
    let need = node_need (length (reinstall_pairs s new)) in
    let le = fits (free s) (node_need 0 + node_need pairs) room in
    let enough : nat_lt (free s) need ≡ false = grind (arith, nat_tests, le, count) in
    let row : reinstall s old new by ≡ answer = ap (λ b. unless_bad (not b) (cond (not (is_installed s old)) (Err Missing) (in_room s need answer))) is
    ∙ ap (λ b. cond (not b) (Err Missing) (in_room s need answer)) there ∙ ap (λ b. cond b (Err Full) answer) enough in
    let same : IsSame s first = record { board = refl; planned = refl; moved = refl; taken = refl } in
    (t, row ∙ ap (λ x. Ok (x, t)) (sym swept), stands_linked m s t after ends h linked (then_same s first t same (queue_same by (reinstall_pairs s new) first)))

-- notifications
pub can_note : (s : StoreState) (list : List Desc) (pairs : ℕ) → Each (IsDesc s) list → list_any (λ d. is_ppi (kind_at s d.offset)) list ≡ false
    → nat_lt (free s) (node_need (length list) + node_need pairs) ≡ false → CanMakeNotes s list
can_note s list pairs descs none room = let le = fits (free s) (node_need (length list) + node_need pairs) room in record { descs = descs; notes = none; room = omega (arith, le) }

pub can_queue_new : (m : HeapStore) (s t : StoreState) (list : List Desc) (pairs : ℕ) (memory : PhysMem) (heads : Heads) → Each (IsDesc s) list → list_any (λ d. is_ppi (kind_at s d.offset)) list ≡ false
    → nat_lt (free s) (node_need (length list) + node_need pairs) ≡ false → pairs ≡ length (notify_pairs s list) → notify_pairs t list ≡ notify_pairs s list
    → IsMade m.heap memory heads s t (length list) → CanQueueNew t list pairs
can_queue_new m s t list pairs memory heads descs none room count stay made =
    let le = fits (free s) (node_need (length list) + node_need pairs) room in
    let left = made.step.free_is in
    let same : length (notify_pairs t list) ≡ pairs = ap length stay ∙ sym count in
    let grown = made.step.bodies in
    record { descs = still_descs s t list grown descs; notes = still_notes s t list grown descs ∙ none; count_is = sym same; room = omega (arith, le, left, same) }

pub notify_row : (m : HeapStore) (s : StoreState) (list : List Desc) (by pairs : ℕ) (sweep : Sweep) (memory after : PhysMem) (heads ends : Heads) → StandsFor m s
    → list_any (λ d. is_ppi (kind_at s d.offset)) list ≡ false → nat_lt (free s) (node_need (length list) + node_need pairs) ≡ false → pairs ≡ length (notify_pairs s list)
    → sweep ≡ notify_sweep s list → notify_pairs (fold (with_note by) s list) list ≡ notify_pairs s list → IsMade m.heap memory heads s (fold (with_note by) s list) (length list)
    → IsLinked m.heap after ends (queued by (fold (with_note by) s list) (notify_pairs (fold (with_note by) s list) list))
    → (t : StoreState) × (notify s list by ≡ Ok (sweep, t)) × StandsFor (record m { memory = after; heads = ends }) t
notify_row m s list by pairs sweep memory after heads ends h none room count swept stay made linked =
    let first = fold (with_note by) s list in
    let t = notified s list by in
    let here : IsLinked m.heap after ends t = subst (λ p. IsLinked m.heap after ends (queued by first p)) stay linked in
    let answer : Service Sweep = Ok (notify_sweep s list, t) in
    let need = node_need (length list) + node_need (length (notify_pairs s list)) in
    let row : notify s list by ≡ answer = ap (λ b. unless_bad b (in_room s need answer)) none
    ∙ ap (λ n. cond (nat_lt (free s) (node_need (length list) + node_need n)) (Err Full) answer) (sym count) ∙ ap (λ b. cond b (Err Full) answer) room in
    (t, row ∙ ap (λ x. Ok (x, t)) (sym swept), stands_linked m s t after ends h here (then_same s first t made.same (queue_same by (notify_pairs s list) first)))
