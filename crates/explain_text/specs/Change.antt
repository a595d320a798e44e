-- The change that would make the expression of a part hold: the GUIDs that have to come, and those that have to go. Of the ways that are kept it is the one that changes the fewest GUIDs, and of several the leftmost.
-- Own; PI 1.8, volume 2, "Dependency Expressions", for a driver without one.
use Rattle.std.specs.Prelude.{◌≡◌, Bool, true, false, not, ◌&&◌, ◌||◌, List, [], ◌∷◌, filter, map, Option, Some, None, option_map}
use Rattle.std.specs.List.{list_any}
use Rattle.pi_base.specs.{declared.guid.Guid.Guid, declared.phase.Phase.Phase, Guids.same_guid, Lists.Each, Lists.Ordered}
use Rattle.pi_base.specs.declared.phase.Phase.TheVariants.{Pei, Dxe}
use Rattle.depex_code.specs.Tree.{DepexTree, truth}
use Rattle.depex_code.specs.declared.depex.Depex.TheVariants as D
use Rattle.mod_catalog.specs.declared.catalogue.PartExpr.{PartExpr}
use Rattle.mod_catalog.specs.declared.catalogue.PartExpr.TheVariants as E
use Rattle.boot_model.specs.declared.known_guid.TheConstants.{ARCHITECTURAL}
use Rattle.explain_text.specs.{declared.ways.literal.Literal.Literal, declared.ways.change.Change.Change}
use Rattle.explain_text.specs.Ways.{Way, first_way, same_truth, ways}

-- the GUIDs that a way wants there, or gone, and that are not so
abbrev pub is_wanted : Bool → Literal → Bool
is_wanted there literal = not literal.is_so && same_truth there literal.there

abbrev pub wanted : Bool → Way → List Guid
wanted there way = map (λ literal. literal.guid) (filter (is_wanted there) way)

-- what a way changes
abbrev pub change_by : Way → Change
change_by way = record { would = wanted true way; unless = wanted false way }

-- the way that says that these GUIDs are there
abbrev pub all_there : (Guid → Bool) → List Guid → Way
all_there has guids = map (λ guid. record { guid = guid; there = true; is_so = has guid }) guids

-- what a part without an expression wants there
abbrev pub wanted_without : Phase → List Guid
wanted_without Pei = []
wanted_without Dxe = ARCHITECTURAL

-- the way for the expression of a part, where the GUIDs that pass the test are installed; that of BEFORE or AFTER holds by no GUID
abbrev pub way_for : (Guid → Bool) → Phase → PartExpr → Option Way
way_for has phase E.Absent = Some (all_there has (wanted_without phase))
way_for has phase (E.Malformed at) = None
way_for has phase (E.Held (D.Before name)) = None
way_for has phase (E.Held (D.After name)) = None
way_for has phase (E.Held (D.Expr sor node)) = first_way (ways has true node)

-- and the change by it
abbrev pub change_for : (Guid → Bool) → Phase → PartExpr → Option Change
change_for has phase expr = option_map change_by (way_for has phase expr)

-- whether a GUID is one of these
abbrev pub is_one_of : Guid → List Guid → Bool
is_one_of guid guids = list_any (λ other. same_guid other guid) guids

-- what is installed once a change is made
abbrev pub with_change : (Guid → Bool) → Change → Guid → Bool
with_change has change guid = is_one_of guid change.would || (has guid && not (is_one_of guid change.unless))

-- what is installed is as a way says
abbrev pub Agrees : (Guid → Bool) → Way → Type 0
Agrees has way = Each (λ literal. has literal.guid ≡ literal.there) way

-- a way makes a tree true, or false, whatever else is installed
abbrev pub Makes : Bool → DepexTree → Way → Type 0
Makes want node way = (new : Guid → Bool) → Agrees new way → truth new node ≡ want

-- a way says one thing of each GUID
abbrev pub SaysOnce : Way → Type 0
SaysOnce way = Ordered (λ a b. same_guid a.guid b.guid ≡ false) way
