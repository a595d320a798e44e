-- Why a start that an order asks for is not possible: no module has that name and a part of the phase; it has started and may not again; or it may not start
-- yet, with the GUIDs that its dependency expression names and that are not installed. PI 1.8, volumes 1 and 2, "Dependency Expressions"; the causes are own.
use Rattle.std.specs.Prelude.{◌≡◌, ◌++◌, ℕ, Bool, not, List, [], ◌∷◌, Some, filter}
use Rattle.pi_base.specs.{declared.guid.Guid.Guid, declared.phase.Phase.Phase}
use Rattle.pi_base.specs.{declared.phase.Phase.TheVariants.Pei, declared.phase.Phase.TheVariants.Dxe, Guids.same_guid, Lists.firsts}
use Rattle.depex_code.specs.Tree.{DepexTree, True, False, Push, Not, And, Or}
use Rattle.depex_code.specs.declared.depex.Depex.TheVariants as D
use Rattle.mod_catalog.specs.{declared.catalogue.Catalog.Catalog, declared.catalogue.Part.Part, declared.catalogue.PartExpr.PartExpr}
use Rattle.mod_catalog.specs.declared.catalogue.PartExpr.TheVariants as E
use Rattle.mod_catalog.specs.Parts.{part_at}
use Rattle.store_model.specs.{HandleState.HandleState, HandleState.has_protocol, StoreState.StoreState, Service.Install.has_ppi}
use Rattle.recorded_boot.specs.{Named.IsNamed, declared.order.line.Start.Start, declared.follow.against.Against.Against}
use Rattle.recorded_boot.specs.declared.follow.against.Against.TheVariants.{Unknown, Started, NotEligible}

-- the GUIDs that a tree pushes, from left to right
abbrev pub pushed_by : DepexTree → List Guid
pushed_by True = []
pushed_by False = []
pushed_by (Push guid) = guid ∷ []
pushed_by (Not node) = pushed_by node
pushed_by (And first second) = pushed_by first ++ pushed_by second
pushed_by (Or first second) = pushed_by first ++ pushed_by second

-- the GUIDs that an expression pushes; BEFORE and AFTER push none
abbrev pub pushed_in : PartExpr → List Guid
pushed_in E.Absent = []
pushed_in (E.Malformed at) = []
pushed_in (E.Held (D.Before name)) = []
pushed_in (E.Held (D.After name)) = []
pushed_in (E.Held (D.Expr sor node)) = pushed_by node

-- those that are not installed, once each, in the order in which they are first mentioned
abbrev pub lacking : (Guid → Bool) → List Guid → List Guid
lacking has guids = firsts same_guid (filter (λ guid. not (has guid)) guids)

-- whether a GUID is installed: as a PPI for modules of PEI, as a protocol for drivers
abbrev pub is_installed : Phase → StoreState → HandleState → Guid → Bool
is_installed Pei s h guid = has_ppi s guid
is_installed Dxe s h guid = has_protocol h guid

-- a start is among others
abbrev pub IsAmong : Start → List Start → Type 0
IsAmong start made = (before : List Start) × (behind : List Start) × (made ≡ before ++ start ∷ behind)

-- the module of a start, and its part of the phase
pub record IsModuleOf (catalog : Catalog) (start : Start) (part : Part) : Type 0 where
  pub number : ℕ
  pub named : IsNamed catalog start.volume start.name number
  pub part_is : part_at start.phase catalog number ≡ Some part

-- why a start after these starts is not possible, with this installed
abbrev pub StandsAgainst : Catalog → List Start → StoreState → HandleState → Start → Against → Type 0
StandsAgainst catalog made s h start Unknown = (part : Part) → IsModuleOf catalog start part → ⊥
StandsAgainst catalog made s h start Started = ((part : Part) × IsModuleOf catalog start part) × IsAmong start made
StandsAgainst catalog made s h start (NotEligible guids) =
    (IsAmong start made → ⊥) × ((part : Part) × IsModuleOf catalog start part × (guids ≡ lacking (is_installed start.phase s h) (pushed_in part.expr)))
