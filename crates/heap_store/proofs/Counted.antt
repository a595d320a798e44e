-- The dispatch notifications of a GUID that a walk has counted.
use Rattle.std.proofs.Common.{◌≡◌, ◌∙◌, ◌≤◌, ◌+◌, ◌^◌, ℕ, Bool, true, false, cond, List, [], ◌∷◌, length, Option, Some, None, ap, sym, refl, arith, filter}
use Rattle.pi_base.specs.{declared.guid.Guid.Guid, Guids.same_guid}
use Rattle.store_model.specs.{declared.store_handle.EntryTold.EntryTold, declared.store_handle.EntryList.TheVariants.Dispatches}
use Rattle.store_model.specs.{StoreState.StoreState, StateFacts.IsStoreState, StoreCall.IsNodeIn}
use Rattle.store_model.specs.Service.Reading.{entry_behind, told_of}
use Rattle.store_laws.specs.Behind.{EntriesAreTold, left_behind}
use Rattle.heap_store.proofs.ListTests.{kept_by}

abbrev pub of_guid : Guid → EntryTold → Bool
of_guid guid told = same_guid guid told.guid

-- so many so far, and those that are left behind a node
pub record IsCounted (s : StoreState) (guid : Guid) (count : ℕ) (node : Option ℕ) (passed : ℕ) : Type 0 where
  pub there : IsNodeIn Dispatches node s
  pub all : count + length (filter (of_guid guid) (left_behind s Dispatches node)) ≡ length (filter (of_guid guid) (told_of s Dispatches))
  pub few : count ≤ passed
  pub left : passed + length (left_behind s Dispatches node) ≤ 2 ^ 28

pub counted_first : (s : StoreState) (guid : Guid) → EntriesAreTold → IsStoreState s → IsCounted s guid 0 None 0
counted_first s guid law h =
    let few = law.few s Dispatches h in
    let same : length (filter (of_guid guid) (left_behind s Dispatches None)) ≡ length (filter (of_guid guid) (told_of s Dispatches)) = refl in
    record { there = tt; all = omega (arith, same); few = omega arith; left = omega (arith, few) }

none_kept : (guid : Guid) (xs : List EntryTold) → length xs ≡ 0 → length (filter (of_guid guid) xs) ≡ 0
none_kept guid [] e = refl
none_kept guid (x ∷ xs) e = absurd (omega (arith, e))

pub counted_end : (s : StoreState) (guid : Guid) (count : ℕ) (node : Option ℕ) (passed : ℕ) (counted : IsCounted s guid count node passed) → EntriesAreTold → None ≡ entry_behind s Dispatches node
    → count ≡ length (filter (of_guid guid) (told_of s Dispatches))
counted_end s guid count node passed counted law e =
    let none : left_behind s Dispatches node ≡ [] = law.last s Dispatches node (sym e) in
    let kept : length (filter (of_guid guid) (left_behind s Dispatches node)) ≡ 0 = ap (λ (xs : List EntryTold). length (filter (of_guid guid) xs)) none in
    let all = counted.all in
    omega (arith, all, kept)

pub counted_all : (s : StoreState) (guid : Guid) (count : ℕ) (node : Option ℕ) (passed : ℕ) (counted : IsCounted s guid count node passed) → 2 ^ 28 ≤ passed
    → count ≡ length (filter (of_guid guid) (told_of s Dispatches))
counted_all s guid count node passed counted le =
    let left = counted.left in
    let kept = none_kept guid (left_behind s Dispatches node) (omega (arith, left, le)) in
    let all = counted.all in
    omega (arith, all, kept)

pub one_most : (b : Bool) → cond b 1 0 ≤ 1
one_most true = omega arith
one_most false = omega arith

one_longer : (told : EntryTold) (rest : List EntryTold) → length (told ∷ rest) ≡ length rest + 1
one_longer told rest = omega arith

pub counted_more : (s : StoreState) (guid : Guid) (count : ℕ) (node : Option ℕ) (passed : ℕ) (told : EntryTold) (one : ℕ) (counted : IsCounted s guid count node passed) → EntriesAreTold → IsStoreState s
    → entry_behind s Dispatches node ≡ Some told → one ≡ cond (same_guid guid told.guid) 1 0 → IsCounted s guid (count + one) (Some told.node) (passed + 1)
counted_more s guid count node passed told one counted law h e o =
    let first = law.first s Dispatches node told h e in
    let rest = left_behind s Dispatches (Some told.node) in
    let kept : length (filter (of_guid guid) (left_behind s Dispatches node)) ≡ cond (same_guid guid told.guid) 1 0 + length (filter (of_guid guid) rest) =
    ap (λ (xs : List EntryTold). length (filter (of_guid guid) xs)) first.left ∙ kept_by (same_guid guid told.guid) told (filter (of_guid guid) rest) in
    let size : length (left_behind s Dispatches node) ≡ length rest + 1 = ap (λ (xs : List EntryTold). length xs) first.left ∙ one_longer told rest in
    let all = counted.all in
    let few = counted.few in
    let left = counted.left in
    let most = one_most (same_guid guid told.guid) in
    record {
      there = first.is_in;
      all = omega (arith, all, kept, o);
      few = omega (arith, few, most, o);
      left = omega (arith, left, size);
    }
