-- GUIDs that are noted, each once.
-- Own.
use Rattle.std.specs.Prelude.{◌≡◌, if◌then◌else◌, List, [], ◌∷◌, ◌++◌, is_some}
use Rattle.pi_base.specs.{GuidMap.value_of, declared.guid.Guid.Guid}
use Rattle.depex_code.specs.declared.opcode.Opcode.{Opcode}
use Rattle.depex_code.specs.declared.opcode.Opcode.TheVariants as O
use Rattle.boot_reasons.specs.{declared.noted.Noted.Noted, Asked.is_among}

-- a GUID has been seen where it is among those that were noted
abbrev pub AreSeen : Noted → Type 0
AreSeen noted = (guid : Guid) → is_some (value_of noted.seen guid) ≡ is_among guid noted.guids

-- one more, unless it is among them
abbrev pub once_more : List Guid → Guid → List Guid
once_more found guid = if is_among guid found then found else found ++ guid ∷ []

-- and these, one behind the other
abbrev pub noted_all : List Guid → List Guid → List Guid
noted_all found [] = found
noted_all found (guid ∷ guids) = noted_all (once_more found guid) guids

-- what an opcode pushes
abbrev pub pushed_one : Opcode → List Guid
pushed_one (O.Push guid) = guid ∷ []
pushed_one O.And = []
pushed_one O.Or = []
pushed_one O.Not = []
pushed_one O.True = []
pushed_one O.False = []

-- and with what opcodes push, one behind the other
abbrev pub noted_code : List Guid → List Opcode → List Guid
noted_code found [] = found
noted_code found (opcode ∷ code) = noted_code (noted_all found (pushed_one opcode)) code
