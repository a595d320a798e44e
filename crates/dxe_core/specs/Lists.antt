-- Numbers by name.
-- Own.
use Rattle.std.specs.Prelude.{◌≡◌, ℕ, if◌then◌else◌, List, [], ◌∷◌, ◌++◌, Option, map}
use Rattle.pi_base.specs.declared.guid.Guid.{Guid}
use Rattle.dxe_core.specs.{declared.lists.NumberLists.NumberLists, Order.gives, Order.numbers_at}

-- the names with their numbers
abbrev pub lists_of : NumberLists → List (Guid × List ℕ)
lists_of lists = map (λ entry. (entry.0, entry.1.items)) lists.lists.entries

-- the numbers of a name
abbrev pub numbers_under : NumberLists → Guid → List ℕ
numbers_under lists name = numbers_at (lists_of lists) name

-- a number was added to those of this name, if there is one, and each other name has those that it had
abbrev pub IsPushed : NumberLists → Option Guid → ℕ → NumberLists → Type 0
IsPushed old name number new = (other : Guid) → numbers_under new other ≡ numbers_under old other ++ (if gives other name then number ∷ [] else [])
