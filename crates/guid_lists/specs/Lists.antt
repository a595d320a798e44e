-- The numbers that a GUID has, lowest first.
-- Own.
use Rattle.std.specs.Prelude.{◌≡◌, ℕ, suc, ◌<◌, ◌==◌, nat_lt, Bool, if◌then◌else◌, List, [], ◌∷◌, Some, None}
use Rattle.pi_base.specs.{declared.guid.Guid.Guid, Guids.same_guid, Lists.Ordered}
use Rattle.indexmap.specs.IndexMap.{get_by}
use Rattle.guid_lists.specs.declared.lists.GuidLists.{GuidLists}

-- the numbers that a GUID has
abbrev pub list_of : GuidLists → Guid → List ℕ
list_of h guid = elim (get_by (same_guid guid) h.lists) [ None ↦ [] | Some numbers ↦ numbers.items ]

-- each GUID has the numbers that it had
abbrev pub HaveStill : GuidLists → GuidLists → Type 0
HaveStill old new = (other : Guid) → list_of new other ≡ list_of old other

-- a GUID has these numbers, and each other one those that it had
abbrev pub HasInstead : GuidLists → Guid → List ℕ → GuidLists → Type 0
HasInstead old guid numbers new = (other : Guid) → list_of new other ≡ (if same_guid guid other then numbers else list_of old other)

-- each number is below those after it
abbrev pub Rises : List ℕ → Type 0
Rises numbers = Ordered (λ a b. a < b) numbers

-- how many items at the front pass a test
abbrev pub leading : {A : Type 0} → (A → Bool) → List A → ℕ
leading test [] = 0
leading test (item ∷ rest) = if test item then suc (leading test rest) else 0

-- with a number before the first that is not below it
abbrev pub with_number : ℕ → List ℕ → List ℕ
with_number number [] = number ∷ []
with_number number (other ∷ rest) = if nat_lt other number then other ∷ with_number number rest else number ∷ other ∷ rest

-- without a number
abbrev pub without_number : ℕ → List ℕ → List ℕ
without_number number [] = []
without_number number (other ∷ rest) = if other == number then rest else other ∷ without_number number rest

-- a number moves from one GUID's list to another's, if the two GUIDs differ
abbrev pub passed_list : ℕ → Guid → Guid → Guid → List ℕ → List ℕ
passed_list number from to guid list =
    if same_guid from to then list else (if same_guid from guid then without_number number list else (if same_guid to guid then with_number number list else list))

abbrev pub Passes : GuidLists → ℕ → Guid → Guid → GuidLists → Type 0
Passes old number from to new = (guid : Guid) → list_of new guid ≡ passed_list number from to guid (list_of old guid)
