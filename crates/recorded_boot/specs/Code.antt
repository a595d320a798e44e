-- The GUIDs that an expression pushes, as they are found in its opcodes one after the other.
-- Own.
use Rattle.std.specs.Prelude.{Bool, not, if◌then◌else◌, List, [], ◌∷◌, ◌++◌, flat_map}
use Rattle.pi_base.specs.declared.guid.Guid.{Guid}
use Rattle.depex_code.specs.{Tree.postfix, declared.opcode.Opcode.Opcode}
use Rattle.depex_code.specs.declared.depex.Depex.TheVariants as D
use Rattle.depex_code.specs.declared.opcode.Opcode.TheVariants as O
use Rattle.mod_catalog.specs.declared.catalogue.PartExpr.{PartExpr}
use Rattle.mod_catalog.specs.declared.catalogue.PartExpr.TheVariants as E
use Rattle.boot_laws.specs.ChangedGuids.{is_among}

-- the opcodes of an expression that is a tree
abbrev pub code_in : PartExpr → List Opcode
code_in E.Absent = []
code_in (E.Malformed at) = []
code_in (E.Held (D.Before name)) = []
code_in (E.Held (D.After name)) = []
code_in (E.Held (D.Expr sor node)) = postfix node

-- what an opcode pushes
abbrev pub pushed_one : Opcode → List Guid
pushed_one (O.Push guid) = guid ∷ []
pushed_one O.And = []
pushed_one O.Or = []
pushed_one O.Not = []
pushed_one O.True = []
pushed_one O.False = []

abbrev pub pushed_by_code : List Opcode → List Guid
pushed_by_code code = flat_map pushed_one code

-- one more, unless it is among them
abbrev pub once_more : List Guid → Guid → List Guid
once_more found guid = if is_among guid found then found else found ++ guid ∷ []

-- with what an opcode pushes and is not there
abbrev pub more_lacking : (Guid → Bool) → List Guid → Opcode → List Guid
more_lacking has found (O.Push guid) = if not (has guid) then once_more found guid else found
more_lacking has found O.And = found
more_lacking has found O.Or = found
more_lacking has found O.Not = found
more_lacking has found O.True = found
more_lacking has found O.False = found

-- with what opcodes push and is not there, one after the other
abbrev pub lacking_from : (Guid → Bool) → List Guid → List Opcode → List Guid
lacking_from has found [] = found
lacking_from has found (opcode ∷ code) = lacking_from has (more_lacking has found opcode) code
