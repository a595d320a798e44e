-- What stands for the parts of a tree while its opcodes are taken in order: the ways in which a part holds, and those in which it does not; the last one first.
-- Own.
use Rattle.std.specs.Prelude.{Bool, true, false, not, List, [], ◌∷◌, ◌++◌, Option, Some, None, option_and_then}
use Rattle.pi_base.specs.declared.guid.Guid.{Guid}
use Rattle.depex_code.specs.{Tree.DepexTree, declared.opcode.Opcode.Opcode}
use Rattle.depex_code.specs.declared.opcode.Opcode.TheVariants as O
use Rattle.explain_text.specs.declared.ways.side.Side.{Side}
use Rattle.explain_text.specs.Ways.{crossed, fewest, says, ways}

-- a part of a tree
abbrev pub side_of : (Guid → Bool) → DepexTree → Side
side_of has node = record { holds = ways has true node; fails = ways has false node }

-- a part that holds, or does not, whatever is installed
abbrev pub fixed_side : Bool → Side
fixed_side true = record { holds = [] ∷ []; fails = [] }
fixed_side false = record { holds = []; fails = [] ∷ [] }

-- a GUID
abbrev pub guid_side : (Guid → Bool) → Guid → Side
guid_side has guid = record { holds = says guid true (has guid); fails = says guid false (not (has guid)) }

-- the parts of operators
abbrev pub not_side : Side → Side
not_side side = record { holds = side.fails; fails = side.holds }

abbrev pub and_side : Side → Side → Side
and_side first second = record { holds = fewest (crossed first.holds second.holds); fails = fewest (first.fails ++ second.fails) }

abbrev pub or_side : Side → Side → Side
or_side first second = record { holds = fewest (first.holds ++ second.holds); fails = fewest (crossed first.fails second.fails) }

-- the parts after an opcode, where its operands are there
abbrev pub sides_after : (Guid → Bool) → Opcode → List Side → Option (List Side)
sides_after has O.True sides = Some (fixed_side true ∷ sides)
sides_after has O.False sides = Some (fixed_side false ∷ sides)
sides_after has (O.Push guid) sides = Some (guid_side has guid ∷ sides)
sides_after has O.Not (side ∷ sides) = Some (not_side side ∷ sides)
sides_after has O.Not [] = None
sides_after has O.And (second ∷ (first ∷ sides)) = Some (and_side first second ∷ sides)
sides_after has O.And (second ∷ []) = None
sides_after has O.And [] = None
sides_after has O.Or (second ∷ (first ∷ sides)) = Some (or_side first second ∷ sides)
sides_after has O.Or (second ∷ []) = None
sides_after has O.Or [] = None

-- the parts after opcodes
abbrev pub sides_behind : (Guid → Bool) → List Opcode → List Side → Option (List Side)
sides_behind has [] sides = Some sides
sides_behind has (opcode ∷ code) sides = option_and_then (λ next. sides_behind has code next) (sides_after has opcode sides)
