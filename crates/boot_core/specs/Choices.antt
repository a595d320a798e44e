-- What the choices of a boot may name, and which starts they let.
-- Own; PI 1.8, volumes 1 and 2, leave the order of the modules that may start to the dispatchers.
use Rattle.std.specs.Prelude.{◌≡◌, ◌+◌, ℕ, Bool, length, List, ◌++◌, Option}
use Rattle.mod_catalog.specs.declared.catalogue.Catalog.{Catalog}
use Rattle.boot_model.specs.{DxeMachine.DxeMachine, DxeRun.dxe_opening, PeiMachine.PeiMachine}
use Rattle.boot_laws.specs.{declared.choice.Before.Before, Naming.Chooser, Naming.MayName}
use Rattle.pei_dispatch.specs.{Choices.LetsPeims, Choices.NamesPeims, Ends.pei_starts}
use Rattle.dxe_dispatch.specs.{Choices.LetsDrivers, Passes.told_in_dxe}

-- in a machine of PEI; and in one of DXE behind the last one of PEI and behind steps from these machines, with what is told before a start there
pub record Choices : Type 1 where
  pub peims : PeiMachine → Option ℕ → Type 0
  pub lets_peim : PeiMachine → ℕ → Bool
  pub drivers : PeiMachine → List DxeMachine → DxeMachine → Option ℕ → Type 0
  pub lets_driver : PeiMachine → List DxeMachine → DxeMachine → ℕ → Bool
  pub told : PeiMachine → List DxeMachine → Before

-- how many starts there were in both phases
abbrev pub starts_of : PeiMachine → DxeMachine → ℕ
starts_of pei m = pei_starts pei + length m.started

-- what a choice is told before a start in DXE, behind this machine of PEI and behind steps from these machines
abbrev pub told_behind : {S : Type 0} → Chooser S → Catalog → ℕ → PeiMachine → List DxeMachine → Before
told_behind by catalog fuel pei = told_in_dxe (record { by = by; in_pei = pei_starts pei }) catalog fuel (dxe_opening catalog pei.store pei.actions)

-- the drivers that it may name if it looks into the sink, which has the lines of both phases
abbrev pub NamesBehind : {S : Type 0} → Chooser S → (List DxeMachine → Before) → S → PeiMachine → List DxeMachine → DxeMachine → Option ℕ → Type 0
NamesBehind by told first pei earlier m named =
    MayName (λ sink other. by.rules.drivers sink (told earlier) other) by.text by.faults first (pei.lines ++ m.lines) named

-- the choices that it makes from this sink on, in a boot of a catalogue with this fuel
abbrev pub choices_of : {S : Type 0} → Chooser S → Catalog → ℕ → S → Choices
choices_of by catalog fuel first = record {
  peims = NamesPeims by catalog first;
  lets_peim = LetsPeims by.rules catalog;
  drivers = λ pei. NamesBehind by (told_behind by catalog fuel pei) first pei;
  lets_driver = λ pei. LetsDrivers by.rules (told_behind by catalog fuel pei);
  told = told_behind by catalog fuel;
}

-- where they may name a module it is one alone, or they name none
pub record NameOne (by : Choices) : Type 0 where
  pub peims : (m : PeiMachine) (one other : Option ℕ) → by.peims m one → by.peims m other → one ≡ other
  pub drivers : (pei : PeiMachine) (earlier : List DxeMachine) (m : DxeMachine) (one other : Option ℕ) → by.drivers pei earlier m one → by.drivers pei earlier m other → one ≡ other
