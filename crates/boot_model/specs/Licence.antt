-- What holds of every run of PEI: no part starts twice but one that registered for shadow; each start has its licence in the machine before it. The move
-- changes no PPI, notification or other HOB, and PEI stops only when no part of a reported volume may start. PI 1.8, volume 1, "PEI Dispatcher".
use Rattle.std.specs.Prelude.{◌≡◌, ◌≢◌, ℕ, Bool, zero, suc, true, false, List, [], ◌∷◌, Some, None, is_some, ⊤}
use Rattle.pi_base.specs.{declared.phase.Phase.Phase, declared.phase.Phase.TheVariants.Pei, Lists.Each}
use Rattle.depex_code.specs.declared.depex.Depex.{Depex}
use Rattle.mod_catalog.specs.{declared.catalogue.Catalog.Catalog, declared.catalogue.Part.Part, WellFormed.IsWellFormed}
use Rattle.mod_catalog.specs.declared.catalogue.PartExpr.TheVariants as E
use Rattle.boot_model.specs.{declared.licence.Licence.Licence, Unchanged.IsUnchanged, PeiMachine.PeiMachine}
use Rattle.boot_model.specs.declared.licence.Licence.TheVariants as G
use Rattle.store_model.specs.{StoreState.StoreState, StoreState.Board, StateFacts.IsBoard, Service.Install.has_ppi}
use Rattle.mod_catalog.specs.Parts.{has_number, part_at, module_volume}
use Rattle.boot_model.specs.Eligible.{depex_holds, is_eligible, licence_at}
use Rattle.boot_model.specs.PeiStep.{pei_step, case_of, Starts, Moves, Stops}
use Rattle.boot_model.specs.PeiRun.{pei_run, pei_opening}

-- no number is in the list twice
abbrev pub AllDiffer : List ℕ → Type 0
AllDiffer [] = ⊤
AllDiffer (first ∷ rest) = (has_number rest first ≡ false) × AllDiffer rest

-- no part has started twice, but those that registered for shadow: once more, and after the move
pub record AreStartedOnce (started again shadows : List ℕ) (moved : Bool) : Type 0 where
  pub first : AllDiffer started
  pub second : AllDiffer again
  pub before : Each (λ number. has_number started number ≡ true) again
  pub shadowed : Each (λ number. has_number shadows number ≡ true) again
  pub after : again ≢ [] → moved ≡ true

-- the same of a machine of PEI
abbrev pub StartedOnce : PeiMachine → Type 0
StartedOnce m = AreStartedOnce m.started m.again m.shadows m.store.moved

-- the licence of a PEIM's start from a machine
abbrev pub IsLicensed : PeiMachine → ℕ → Part → Licence → Type 0
IsLicensed m number part G.Apriori = is_some part.rank ≡ true
IsLicensed m number part G.Absent = part.expr ≡ E.Absent
IsLicensed m number part G.True =
    (expression : Depex) × (part.expr ≡ E.Held expression) × (depex_holds (has_ppi m.store) expression ≡ true)
IsLicensed m number part G.Shadow =
    (has_number m.shadows number ≡ true) × (has_number m.again number ≡ false) × (m.store.moved ≡ true)
IsLicensed m number part G.Before = ⊥
IsLicensed m number part G.After = ⊥

-- if a PEIM starts from here, it has its licence
abbrev pub StartsLicensed : Catalog → PeiMachine → Type 0
StartsLicensed catalog m =
    (number : ℕ) (part : Part) → case_of catalog m ≡ Starts number → part_at Pei catalog number ≡ Some part
    → IsLicensed m number part (licence_at m number part)

-- if memory moves from here, it changes no PPI, notification or other HOB
abbrev pub MovesUnchanged : Catalog → PeiMachine → Type 0
MovesUnchanged catalog m = (new : StoreState) → case_of catalog m ≡ Moves new → IsUnchanged m.store new

-- a module has a part of the phase, and its volume is one of these
abbrev pub IsPartAmong : Phase → Catalog → List ℕ → ℕ → Type 0
IsPartAmong phase catalog volumes number =
    (is_some (part_at phase catalog number) ≡ true) × (has_number volumes (module_volume catalog number) ≡ true)

-- if PEI stops from here, no part of a reported volume may start
abbrev pub StopsIdle : Catalog → PeiMachine → Type 0
StopsIdle catalog m =
    case_of catalog m ≡ Stops → (number : ℕ) → IsPartAmong Pei catalog m.reported number → is_eligible catalog m number ≡ false

-- what a step from here does is licensed
pub record IsLicensedStep (catalog : Catalog) (m : PeiMachine) : Type 0 where
  pub starts : StartsLicensed catalog m
  pub moves : MovesUnchanged catalog m
  pub stops : StopsIdle catalog m

-- P holds of each machine of the run from which a step is taken
abbrev pub AlongRun : Catalog → ℕ → (PeiMachine → Type 0) → ℕ → PeiMachine → Type 0
AlongRun catalog fuel P zero m = ⊤
AlongRun catalog fuel P (suc n) m = elim m.ended [ Some end ↦ ⊤ | None ↦ P m × AlongRun catalog fuel P n (pei_step catalog fuel m) ]

-- every run of PEI over a well-formed catalogue is licensed at each step
abbrev pub IsLicensedRun : Type 0
IsLicensedRun =
    (catalog : Catalog) (board : Board) → IsWellFormed catalog → IsBoard board
    → (fuel n : ℕ) → AlongRun catalog fuel (IsLicensedStep catalog) n (pei_opening board catalog)

-- in every run of PEI no part starts twice, but those that registered for shadow
abbrev pub StartsAtMostOnce : Type 0
StartsAtMostOnce = (catalog : Catalog) (fuel n : ℕ) (board : Board) → StartedOnce (pei_run catalog fuel n (pei_opening board catalog))
