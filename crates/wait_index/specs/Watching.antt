-- The slots of the GUIDs that expressions push, and the modules that watch each, while they are made.
use Rattle.std.specs.Prelude.{◌≡◌, ℕ, ◌<◌, ◌+◌, ◌-◌, Bool, true, false, ◌||◌, ◌==◌, List, [], ◌∷◌, ◌++◌, length, Option, Some, None, slice_get, if◌then◌else◌}
use Rattle.pi_base.specs.{declared.guid.Guid.Guid, declared.phase.Phase.Phase, GuidMap.value_of, Guids.same_guid}
use Rattle.depex_code.specs.{declared.opcode.Opcode.Opcode, Tree.postfix}
use Rattle.depex_code.specs.declared.opcode.Opcode.TheVariants as O
use Rattle.depex_code.specs.declared.depex.Depex.TheVariants as D
use Rattle.mod_catalog.specs.{declared.catalogue.Module.Module, declared.catalogue.Part.Part, declared.catalogue.PartExpr.PartExpr}
use Rattle.mod_catalog.specs.declared.catalogue.PartExpr.TheVariants as E
use Rattle.mod_catalog.specs.WellFormed.{part_of}
use Rattle.wait_index.specs.{declared.watch.Watch.Watch, Index.watchers_at}

-- whether opcodes push a GUID
abbrev pub opcode_pushes : Guid → Opcode → Bool
opcode_pushes guid (O.Push other) = same_guid other guid
opcode_pushes guid O.And = false
opcode_pushes guid O.Or = false
opcode_pushes guid O.Not = false
opcode_pushes guid O.True = false
opcode_pushes guid O.False = false

abbrev pub code_pushes : Guid → List Opcode → Bool
code_pushes guid [] = false
code_pushes guid (opcode ∷ code) = opcode_pushes guid opcode || code_pushes guid code

-- the opcodes of an expression that is a tree
abbrev pub code_in : PartExpr → List Opcode
code_in E.Absent = []
code_in (E.Malformed at) = []
code_in (E.Held (D.Before name)) = []
code_in (E.Held (D.After name)) = []
code_in (E.Held (D.Expr sor node)) = postfix node

abbrev pub part_code : Option Part → List Opcode
part_code None = []
part_code (Some part) = code_in part.expr

abbrev pub module_code : Phase → Module → List Opcode
module_code phase m = part_code (part_of phase m)

abbrev pub modules_push : Phase → Guid → List Module → Bool
modules_push phase guid [] = false
modules_push phase guid (m ∷ ms) = code_pushes guid (module_code phase m) || modules_push phase guid ms

-- each slot is that of one GUID, and no module watches yet
pub record IsNumbering (watch : Watch) : Type 0 where
  pub below : (guid : Guid) (slot : ℕ) → value_of watch.slots guid ≡ Some slot → slot < length watch.watchers
  pub apart : (guid other : Guid) (slot : ℕ) → value_of watch.slots guid ≡ Some slot → value_of watch.slots other ≡ Some slot → same_guid guid other ≡ true
  pub empty : (slot : ℕ) → watchers_at watch.watchers slot ≡ []

-- those that had a slot keep it, and each GUID that passes the test has one
pub record Covers (test : Guid → Bool) (old new : Watch) : Type 0 where
  pub kept : (guid : Guid) (slot : ℕ) → value_of old.slots guid ≡ Some slot → value_of new.slots guid ≡ Some slot
  pub covered : (guid : Guid) → test guid ≡ true → (slot : ℕ) × (value_of new.slots guid ≡ Some slot)

-- whether a list ends with a number
abbrev pub is_one : Option ℕ → ℕ → Bool
is_one None number = false
is_one (Some other) number = other == number

abbrev pub ends_with : List ℕ → ℕ → Bool
ends_with list number = is_one (slice_get list (length list - 1)) number

-- a number at the end of a list, once
abbrev pub noted : List ℕ → ℕ → List ℕ
noted list number = if ends_with list number then list else list ++ number ∷ []

-- a list of watchers after the opcodes of one of them
abbrev pub noted_by : Guid → ℕ → List ℕ → List Opcode → List ℕ
noted_by guid number list [] = list
noted_by guid number list (opcode ∷ code) = noted_by guid number (if opcode_pushes guid opcode then noted list number else list) code

-- and after modules, of which the first has this number
abbrev pub noted_from : Phase → Guid → ℕ → List ℕ → List Module → List ℕ
noted_from phase guid number list [] = list
noted_from phase guid number list (m ∷ ms) = noted_from phase guid (number + 1) (noted_by guid number list (module_code phase m)) ms

-- the slots are those of lists, and each that of one GUID
abbrev pub IsBelow : List (Guid × ℕ) → ℕ → Type 0
IsBelow slots count = (guid : Guid) (slot : ℕ) → value_of slots guid ≡ Some slot → slot < count

abbrev pub AreApart : List (Guid × ℕ) → Type 0
AreApart slots = (guid other : Guid) (slot : ℕ) → value_of slots guid ≡ Some slot → value_of slots other ≡ Some slot → same_guid guid other ≡ true

-- the list of each GUID's slot is changed so
pub record AreNoted (slots : List (Guid × ℕ)) (change : Guid → List ℕ → List ℕ) (old new : List (List ℕ)) : Type 0 where
  pub as_many : length new ≡ length old
  pub lists : (guid : Guid) (slot : ℕ) → value_of slots guid ≡ Some slot → watchers_at new slot ≡ change guid (watchers_at old slot)
