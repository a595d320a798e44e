-- Of which boot an explanation is.
-- Own; PI 1.8, volumes 1 and 2, leave the order of the modules that may start to the dispatchers.
use Rattle.std.specs.Prelude.{◌≡◌, ℕ, Some}
use Rattle.mod_catalog.specs.{declared.catalogue.Catalog.Catalog, WellFormed.IsWellFormed}
use Rattle.store_model.specs.StoreState.{Board}
use Rattle.boot_model.specs.{DxeMachine.DxeMachine, PeiRun.pei_end, declared.phase_end.PeiEnd.TheVariants.Handoff, DxeRun.dxe_end}
use Rattle.boot_laws.specs.declared.choice.Reached.{Reached}
use Rattle.boot_core.specs.{WholeEnd.end_of, ByChoice.BootBy, Choices.Choices, Choices.NameOne}
use Rattle.explain_text.specs.declared.reasons.Explained.{Explained}
use Rattle.boot_reasons.specs.Explained.{ExplainsTo, IsExplained, IsExplainedBy}

-- over each board a boot by such choices, those of its catalogue and fuel, has one explanation, or is left before one start
abbrev pub HasOneExplanation : (Catalog → ℕ → Choices) → Type 0
HasOneExplanation by =
    (board : Board) (catalog : Catalog) (fuel : ℕ) → NameOne (by catalog fuel) → IsWellFormed catalog → (one other : Reached Explained)
    → ExplainsTo (by catalog fuel) board catalog fuel one → ExplainsTo (by catalog fuel) board catalog fuel other → one ≡ other

-- a boot by these choices, whose last machine of PEI is the one that is explained, and whose result is the one that is told
pub record IsOfBoot (by : Choices) (board : Board) (catalog : Catalog) (fuel : ℕ) (e : Explained) (is : IsExplainedBy by board catalog fuel e) : Type 0 where
  pub boot : BootBy by board catalog fuel
  pub pei_is : boot.pei ≡ is.pei
  pub result_is : boot.result ≡ e.result

-- each explanation is of such a boot
abbrev pub ExplainsBoots : (Catalog → ℕ → Choices) → Type 0
ExplainsBoots by =
    (board : Board) (catalog : Catalog) (fuel : ℕ) (e : Explained) (is : IsExplainedBy (by catalog fuel) board catalog fuel e)
    → IsOfBoot (by catalog fuel) board catalog fuel e is

-- what is told of the drivers is of this last machine of DXE
pub record AreDriversOf (m : DxeMachine) (e : Explained) : Type 0 where
  pub discovered_are : e.discovered ≡ m.discovered
  pub actions_are : e.actions ≡ m.actions

-- the machine's own boot: its last machine of PEI, behind a hand-off that of DXE, and its result
pub record IsOfOwnBoot (board : Board) (catalog : Catalog) (fuel : ℕ) (e : Explained) (is : IsExplained board catalog fuel e) : Type 0 where
  pub pei_is : is.pei ≡ pei_end board catalog fuel
  pub drivers : is.pei.ended ≡ Some Handoff → AreDriversOf (dxe_end catalog fuel is.pei.store is.pei.actions) e
  pub result_is : end_of board catalog fuel ≡ Some e.result
