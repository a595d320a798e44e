-- The GUIDs that a dependency expression asks for: those that it pushes. A driver without an expression asks for the architectural protocols.
-- PI 1.8, volumes 1 and 2, "Dependency Expressions".
use Rattle.std.specs.Prelude.{Bool, List, [], ◌∷◌, ◌++◌}
use Rattle.std.specs.List.{list_any}
use Rattle.pi_base.specs.{declared.guid.Guid.Guid, declared.phase.Phase.Phase}
use Rattle.pi_base.specs.{declared.phase.Phase.TheVariants.Pei, declared.phase.Phase.TheVariants.Dxe, Guids.same_guid, Lists.firsts}
use Rattle.depex_code.specs.Tree.{DepexTree, True, False, Push, Not, And, Or}
use Rattle.depex_code.specs.declared.depex.Depex.TheVariants as D
use Rattle.mod_catalog.specs.declared.catalogue.PartExpr.{PartExpr}
use Rattle.mod_catalog.specs.declared.catalogue.PartExpr.TheVariants as E
use Rattle.boot_model.specs.declared.known_guid.TheConstants.{ARCHITECTURAL}

-- the GUIDs that a tree pushes, from left to right
abbrev pub pushed_by : DepexTree → List Guid
pushed_by True = []
pushed_by False = []
pushed_by (Push guid) = guid ∷ []
pushed_by (Not node) = pushed_by node
pushed_by (And first second) = pushed_by first ++ pushed_by second
pushed_by (Or first second) = pushed_by first ++ pushed_by second

-- what a part without an expression asks for
abbrev pub asked_without : Phase → List Guid
asked_without Pei = []
asked_without Dxe = ARCHITECTURAL

-- what the expression of a part asks for; BEFORE and AFTER push no GUID
abbrev pub asked_by : Phase → PartExpr → List Guid
asked_by phase E.Absent = asked_without phase
asked_by phase (E.Malformed at) = []
asked_by phase (E.Held (D.Before name)) = []
asked_by phase (E.Held (D.After name)) = []
asked_by phase (E.Held (D.Expr sor node)) = pushed_by node

-- each once, in the order in which they are first mentioned
abbrev pub asked : Phase → PartExpr → List Guid
asked phase expr = firsts same_guid (asked_by phase expr)

-- whether a GUID is one of these
abbrev pub is_among : Guid → List Guid → Bool
is_among guid guids = list_any (λ other. same_guid other guid) guids
