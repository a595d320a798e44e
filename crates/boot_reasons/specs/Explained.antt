-- A boot by choices, explained: why modules started and why others never did, along the runs of PEI and of DXE to which the choices lead. Or it is left before the start of a module that they do not let.
-- Own; PI 1.8, volumes 1 and 2, leave the order of the modules that may start to the dispatchers.
use Rattle.std.specs.Prelude.{◌≡◌, ℕ, List, Some}
use Rattle.mod_catalog.specs.declared.catalogue.Catalog.{Catalog}
use Rattle.store_model.specs.StoreState.{Board, StoreState}
use Rattle.boot_model.specs.declared.line.RunEnd.TheVariants as E
use Rattle.boot_model.specs.{declared.phase_end.PeiEnd.PeiEnd, DxeMachine.DxeMachine, DxeRun.dxe_opening, PeiMachine.PeiMachine}
use Rattle.boot_model.specs.declared.phase_end.PeiEnd.TheVariants.{Handoff, NoMemory, NoIpl, Spent, Deep}
use Rattle.boot_model.specs.PeiRun.{pei_opening}
use Rattle.boot_laws.specs.{declared.choice.Reached.Reached, Naming.first_eligible_rules}
use Rattle.boot_laws.specs.declared.choice.Reached.TheVariants as R
use Rattle.pei_core.specs.declared.pei.Pei.{Pei}
use Rattle.pei_dispatch.specs.Choices.{IsRunBy}
use Rattle.boot_core.specs.Choices.{Choices}
use Rattle.boot_reasons.specs.{declared.dxe.DxeExplained.DxeExplained, declared.pei.PeiExplained.PeiExplained}
use Rattle.explain_text.specs.declared.reasons.Explained.{Explained}
use Rattle.boot_reasons.specs.DxeTelling as D
use Rattle.boot_reasons.specs.{Joining.alone, Joining.together, PeiEnding.ExplainsRun, PeiEnding.IsPeiExplained, Unseen.choices_of}
use Rattle.boot_reasons.specs.PeiTelling as P

-- behind the hand-off a run of DXE by them is explained, and both phases are put together
pub record IsExplainedInDxe (by : Choices) (catalog : Catalog) (fuel : ℕ) (pei : PeiMachine) (first : PeiExplained) (e : Explained) : Type 0 where
  pub second : DxeExplained
  pub drivers : D.ExplainsRun (by.drivers pei) (by.lets_driver pei) catalog fuel (dxe_opening catalog pei.store pei.actions) second
  pub is : e ≡ together first second

-- behind a PEI that has ended so
abbrev pub IsExplainedAfter : Choices → Catalog → ℕ → PeiMachine → PeiExplained → PeiEnd → Explained → Type 0
IsExplainedAfter by catalog fuel pei first Handoff e = IsExplainedInDxe by catalog fuel pei first e
IsExplainedAfter by catalog fuel pei first NoMemory e = e ≡ alone first pei.actions E.NoMemory
IsExplainedAfter by catalog fuel pei first NoIpl e = e ≡ alone first pei.actions E.NoIpl
IsExplainedAfter by catalog fuel pei first Spent e = e ≡ alone first pei.actions E.Spent
IsExplainedAfter by catalog fuel pei first Deep e = e ≡ alone first pei.actions E.Deep

-- the boot by these choices comes to its end, and this is its explanation
pub record IsExplainedBy (by : Choices) (board : Board) (catalog : Catalog) (fuel : ℕ) (e : Explained) : Type 0 where
  pub earlier : List PeiMachine
  pub pei : PeiMachine
  pub run : IsRunBy by.peims by.lets_peim catalog fuel (pei_opening board catalog) earlier pei
  pub first : PeiExplained
  pub peims : IsPeiExplained catalog earlier pei first
  pub ends : IsExplainedAfter by catalog fuel pei first first.«end» e

-- the boot by these choices comes to the start of this module, which they do not let
pub data IsLeftBefore (by : Choices) (board : Board) (catalog : Catalog) (fuel : ℕ) (number : ℕ) : Type 0 where
  left_in_pei : (earlier : List PeiMachine) (m : PeiMachine) → P.IsBarred by.peims by.lets_peim board catalog fuel earlier m number
      → IsLeftBefore by board catalog fuel number
  left_in_dxe : (earlier : List PeiMachine) (pei : PeiMachine) → IsRunBy by.peims by.lets_peim catalog fuel (pei_opening board catalog) earlier pei
      → pei.ended ≡ Some Handoff → (over : List DxeMachine)
      → D.IsBarred (by.drivers pei) (by.lets_driver pei) catalog fuel (dxe_opening catalog pei.store pei.actions) over number
      → IsLeftBefore by board catalog fuel number

-- either of the two
abbrev pub ExplainsTo : Choices → Board → Catalog → ℕ → Reached Explained → Type 0
ExplainsTo by board catalog fuel (R.End e) = IsExplainedBy by board catalog fuel e
ExplainsTo by board catalog fuel (R.Barred number) = IsLeftBefore by board catalog fuel number

-- so behind a PEI that is explained, over each board
abbrev pub ExplainsBehind : {M : Type 0} → Choices → (M → StoreState → Type 0) → Catalog → ℕ → Pei M → PeiExplained → Reached Explained → Type 0
ExplainsBehind by stands catalog fuel pei first reached =
    (board : Board) → ExplainsRun by.peims by.lets_peim stands board catalog fuel pei first → ExplainsTo by board catalog fuel reached

-- the choices of the machine itself: no module is named, so that the first that may start does, and each is let
abbrev pub own_choices : Catalog → ℕ → Choices
own_choices catalog fuel = choices_of first_eligible_rules catalog fuel

-- this is the explanation of the machine's own boot
abbrev pub IsExplained : Board → Catalog → ℕ → Explained → Type 0
IsExplained board catalog fuel e = IsExplainedBy (own_choices catalog fuel) board catalog fuel e
