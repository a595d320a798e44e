-- Entries that are made, while they are made.
use Rattle.std.proofs.Common.{◌≡◌, ◌∙◌, ◌≤◌, ◌<◌, ◌+◌, ℕ, zero, suc, List, [], ◌∷◌, length, drop, get_or, arith, ap, refl, sym, subst, fold}
use Rattle.pi_base.specs.Lists.{Each}
use Rattle.phys_mem.specs.declared.memory.PhysMem.{PhysMem}
use Rattle.store_model.specs.{declared.store_handle.Desc.Desc, StoreState.StoreState, StoreState.free, StateFacts.IsStoreState}
use Rattle.store_model.specs.Service.Install.{node_need}
use Rattle.store_laws.specs.Steps.{HasRoom, IsStep}
use Rattle.pei_heap.specs.{declared.heap.Heap.Heap, declared.links.heads.Heads.Heads, Linked.IsLinked}
use Rattle.heap_store.specs.Made.{IsMade, IsSame}

-- so many of a list are made, and the others will be
pub record IsOnWay (heap : Heap) (memory : PhysMem) (heads : Heads) (s : StoreState) (make : StoreState → Desc → StoreState) (list : List Desc) (count : ℕ) : Type 0 where
  pub state : StoreState
  pub made : IsMade heap memory heads s state count
  pub on : fold make state (drop count list) ≡ fold make s list
  pub few : count ≤ length list

pub each_at : {A : Type 0} (P : A → Type 0) (xs : List A) (i : ℕ) (d : A) → i < length xs → Each P xs → P (get_or xs i d)
each_at P [] i d le h = absurd (omega (arith, le))
each_at P (x ∷ xs) zero d le h = h.0
each_at P (x ∷ xs) (suc i) d le h = each_at P xs i d (omega (arith, le)) h.1

fold_on : {S A : Type 0} (f : S → A → S) (s : S) (xs : List A) (i : ℕ) (d : A) → i < length xs → fold f (f s (get_or xs i d)) (drop (i + 1) xs) ≡ fold f s (drop i xs)
fold_on f s [] i d le = absurd (omega (arith, le))
fold_on f s (x ∷ xs) zero d le = refl
fold_on f s (x ∷ xs) (suc i) d le = let next : suc i + 1 ≡ suc (i + 1) = omega arith in rw next (fold_on f s xs i d (omega (arith, le)))

drop_all : {A : Type 0} (xs : List A) (i : ℕ) → length xs ≤ i → drop i xs ≡ []
drop_all [] zero le = refl
drop_all [] (suc i) le = refl
drop_all (x ∷ xs) zero le = absurd (omega (arith, le))
drop_all (x ∷ xs) (suc i) le = drop_all xs i (omega (arith, le))

none_yet : (s : StoreState) → IsStoreState s → IsStep s s (node_need 0)
none_yet s h = record { state = h; bodies = λ place body e. e; free_is = omega arith }

pub start : (heap : Heap) (memory : PhysMem) (heads : Heads) (s : StoreState) (make : StoreState → Desc → StoreState) (list : List Desc) → IsLinked heap memory heads s → IsOnWay heap memory heads s make list 0
start heap memory heads s make list h = record {
  state = s;
  made = record { linked = h; step = none_yet s h.heap_is.state; same = record { board = refl; planned = refl; moved = refl; taken = refl } };
  on = refl;
  few = omega arith;
}

-- room for one more
pub room_on : (heap : Heap) (memory : PhysMem) (heads : Heads) (s : StoreState) (make : StoreState → Desc → StoreState) (list : List Desc) (count : ℕ) (way : IsOnWay heap memory heads s make list count)
    → node_need (length list) ≤ free s → count < length list → HasRoom way.state (node_need 1)
room_on heap memory heads s make list count way room le =
    let left = way.made.step.free_is in
    record { state = way.made.step.state; room = omega (arith, left, room, le) }

then_step : (s t u : StoreState) (count : ℕ) → IsStep s t (node_need count) → IsStep t u (node_need 1) → IsStep s u (node_need (count + 1))
then_step s t u count first second =
    let a = first.free_is in
    let b = second.free_is in
    record { state = second.state; bodies = λ place body e. second.bodies place body (first.bodies place body e); free_is = omega (arith, a, b) }

pub then_same : (s t u : StoreState) → IsSame s t → IsSame t u → IsSame s u
then_same s t u a b = record { board = b.board ∙ a.board; planned = b.planned ∙ a.planned; moved = b.moved ∙ a.moved; taken = b.taken ∙ a.taken }

-- one more is made
pub one_more : (heap : Heap) (memory after : PhysMem) (heads ends : Heads) (s : StoreState) (make : StoreState → Desc → StoreState) (list : List Desc) (count : ℕ) (none : Desc)
    (way : IsOnWay heap memory heads s make list count) → count < length list → IsLinked heap after ends (make way.state (get_or list count none))
    → IsStep way.state (make way.state (get_or list count none)) (node_need 1) → IsSame way.state (make way.state (get_or list count none)) → IsOnWay heap after ends s make list (count + 1)
one_more heap memory after heads ends s make list count none way le linked step same =
    let t = way.state in
    let u = make t (get_or list count none) in
    record {
      state = u;
      made = record { linked = linked; step = then_step s t u count way.made.step step; same = then_same s t u way.made.same same };
      on = fold_on make t list count none le ∙ way.on;
      few = omega (arith, le);
    }

-- all are made
pub all_made : (heap : Heap) (memory : PhysMem) (heads : Heads) (s : StoreState) (make : StoreState → Desc → StoreState) (list : List Desc) (count : ℕ) → IsOnWay heap memory heads s make list count → length list ≤ count
    → IsMade heap memory heads s (fold make s list) (length list)
all_made heap memory heads s make list count way le =
    let few = way.few in
    let all : count ≡ length list = omega (arith, le, few) in
    let end : way.state ≡ fold make s list = ap (λ x. fold make way.state x) (sym (drop_all list count le)) ∙ way.on in
    let here : IsMade heap memory heads s way.state (length list) = subst (IsMade heap memory heads s way.state) all way.made in
    subst (λ t. IsMade heap memory heads s t (length list)) end here
