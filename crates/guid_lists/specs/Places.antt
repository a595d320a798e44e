-- The places of a list that pass a test, by GUID, and the first of them from one on.
-- Own.
use Rattle.std.specs.Prelude.{◌≡◌, ℕ, ◌<◌, ◌≤◌, Bool, true, false, List, filter, Option, Some, None}
use Rattle.pi_base.specs.{declared.guid.Guid.Guid, Lists.numbers}
use Rattle.guid_lists.specs.{declared.lists.GuidLists.GuidLists, Lists.list_of}

-- the places before one that pass a test
abbrev pub places : (ℕ → Bool) → ℕ → List ℕ
places test count = filter test (numbers 0 count)

-- each GUID has the places before one that pass its test
abbrev pub AreAt : GuidLists → (Guid → ℕ → Bool) → ℕ → Type 0
AreAt lists test count = (guid : Guid) → list_of lists guid ≡ places (test guid) count

-- the first number that is at or above both bounds and passes the test, or none if no such number does
abbrev pub IsFirstFrom : (ℕ → Bool) → (low from : ℕ) → Option ℕ → Type 0
IsFirstFrom test low from (Some place) =
    (low ≤ place) × (from ≤ place) × (test place ≡ true) × ((other : ℕ) → low ≤ other → from ≤ other → other < place → test other ≡ false)
IsFirstFrom test low from None = (other : ℕ) → low ≤ other → from ≤ other → test other ≡ false
