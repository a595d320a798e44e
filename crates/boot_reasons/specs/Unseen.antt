-- What a choice names that sees no text: it is told how many starts there were, and whose turn it is, if it wants to know.
-- Own; PI 1.8, volumes 1 and 2, leave the order of the modules that may start to the dispatchers.
use Rattle.std.specs.Prelude.{ℕ, Bool, List, Option, None}
use Rattle.mod_catalog.specs.declared.catalogue.Catalog.{Catalog}
use Rattle.boot_model.specs.{DxeMachine.DxeMachine, PeiMachine.PeiMachine}
use Rattle.boot_laws.specs.{declared.choice.Before.Before, Naming.Chooser, Naming.Rules}
use Rattle.pei_dispatch.specs.{Choices.LetsPeims, InTurn.told_in_pei}
use Rattle.dxe_dispatch.specs.{Choices.LetsDrivers, Passes.DriverChoice, Passes.told_in_dxe}
use Rattle.boot_core.specs.Choices.{Choices, told_behind}
use Rattle.boot_reasons.specs.declared.nowhere.Nowhere.{Nowhere}

-- the one sink that tells nothing
abbrev pub nowhere : Nowhere
nowhere = record {}

-- a choice over it, by its rules
abbrev pub unseen_by : Rules Nowhere → Chooser Nowhere
unseen_by rules = record { rules = rules; text = λ sink. None; faults = λ sink. 0 }

-- the same behind so many starts in PEI
abbrev pub unseen_behind : Rules Nowhere → ℕ → DriverChoice Nowhere
unseen_behind rules in_pei = record { by = unseen_by rules; in_pei = in_pei }

-- the PEIMs that it may name
abbrev pub NamesUnseen : Rules Nowhere → Catalog → PeiMachine → Option ℕ → Type 0
NamesUnseen rules catalog m named = rules.peims nowhere (told_in_pei rules catalog m) named

-- the drivers, by what it is told behind steps from earlier machines
abbrev pub NamesUnseenDrivers : Rules Nowhere → (List DxeMachine → Before) → List DxeMachine → DxeMachine → Option ℕ → Type 0
NamesUnseenDrivers rules told earlier m named = rules.drivers nowhere (told earlier) named

-- the drivers that it may name, and those that it lets, from an opening behind so many starts in PEI
abbrev pub NamesUnseenAfter : Rules Nowhere → ℕ → Catalog → ℕ → DxeMachine → List DxeMachine → DxeMachine → Option ℕ → Type 0
NamesUnseenAfter rules in_pei catalog fuel opening = NamesUnseenDrivers rules (told_in_dxe (unseen_behind rules in_pei) catalog fuel opening)

abbrev pub LetsUnseenAfter : Rules Nowhere → ℕ → Catalog → ℕ → DxeMachine → List DxeMachine → DxeMachine → ℕ → Bool
LetsUnseenAfter rules in_pei catalog fuel opening = LetsDrivers rules (told_in_dxe (unseen_behind rules in_pei) catalog fuel opening)

-- its choices in a boot of a catalogue with this fuel
abbrev pub choices_of : Rules Nowhere → Catalog → ℕ → Choices
choices_of rules catalog fuel = record {
  peims = NamesUnseen rules catalog;
  lets_peim = LetsPeims rules catalog;
  drivers = λ pei. NamesUnseenDrivers rules (told_behind (unseen_by rules) catalog fuel pei);
  lets_driver = λ pei. LetsDrivers rules (told_behind (unseen_by rules) catalog fuel pei);
  told = told_behind (unseen_by rules) catalog fuel;
}
