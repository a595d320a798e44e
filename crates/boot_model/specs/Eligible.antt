-- Which PEI part may start: one that has not started and has an a priori place, no expression, or one that holds over the installed PPIs; or one that started once, registered for shadow, and memory has moved.
-- PI 1.8, volume 1, "PEI Dispatcher", "Dependency Expressions" and `RegisterForShadow()`.
use Rattle.std.specs.Prelude.{ℕ, Bool, true, false, ◌||◌, ◌&&◌, not, if◌then◌else◌, Option, Some, None, is_some}
use Rattle.pi_base.specs.{declared.guid.Guid.Guid, declared.phase.Phase.TheVariants.Pei}
use Rattle.depex_code.specs.{declared.depex.Depex.Depex, Tree.truth}
use Rattle.depex_code.specs.declared.depex.Depex.TheVariants as D
use Rattle.mod_catalog.specs.{declared.catalogue.Catalog.Catalog, declared.catalogue.Part.Part, declared.catalogue.PartExpr.PartExpr}
use Rattle.mod_catalog.specs.declared.catalogue.PartExpr.TheVariants as E
use Rattle.boot_model.specs.{declared.licence.Licence.Licence, PeiMachine.PeiMachine}
use Rattle.boot_model.specs.declared.licence.Licence.TheVariants as G
use Rattle.store_model.specs.{StoreState.StoreState, Service.Install.has_ppi}
use Rattle.mod_catalog.specs.Parts.{has_number, part_at}

-- whether an expression holds over a set of GUIDs; BEFORE and AFTER never hold by themselves
abbrev pub depex_holds : (Guid → Bool) → Depex → Bool
depex_holds has (D.Before name) = false
depex_holds has (D.After name) = false
depex_holds has (D.Expr sor node) = truth has node

-- whether the expression of a part allows it to start over the installed PPIs
abbrev pub lets_start : StoreState → PartExpr → Bool
lets_start s E.Absent = true
lets_start s (E.Malformed at) = false
lets_start s (E.Held expression) = depex_holds (has_ppi s) expression

-- whether a part that has not started may start: one of the a priori list always
abbrev pub may_start : StoreState → Option Part → Bool
may_start s None = false
may_start s (Some part) = is_some part.rank || lets_start s part.expr

-- whether a part that has started may start again
abbrev pub may_start_again : PeiMachine → ℕ → Bool
may_start_again m number = has_number m.shadows number && not (has_number m.again number) && m.store.moved

-- whether a part may start from here, for the first time or again
abbrev pub is_eligible : Catalog → PeiMachine → ℕ → Bool
is_eligible catalog m number = if has_number m.started number then may_start_again m number else may_start m.store (part_at Pei catalog number)

-- the licence of a first start
abbrev pub licence_by : Option ℕ → PartExpr → Licence
licence_by (Some rank) expr = G.Apriori
licence_by None E.Absent = G.Absent
licence_by None (E.Malformed at) = G.True
licence_by None (E.Held expression) = G.True

-- and of a start from here
abbrev pub licence_at : PeiMachine → ℕ → Part → Licence
licence_at m number part = if has_number m.started number then G.Shadow else licence_by part.rank part.expr
