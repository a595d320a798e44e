-- The PEIM whose turn it is in the order of EDK2 2022.11's PEI core (`MdeModulePkg/Core/Pei/Dispatcher/Dispatcher.c`): after the move each part that registered for shadow, in the PEI order; then the first that may start, read from the place after the part that started for the first time last. PI 1.8, volume 1, "PEI Dispatcher", leaves the order to the dispatcher.
use Rattle.std.specs.Prelude.{ℕ, ◌&&◌, List, [], ◌∷◌, Option, find}
use Rattle.std.specs.Option.{option_or}
use Rattle.mod_catalog.specs.{declared.catalogue.Catalog.Catalog, Parts.has_number}
use Rattle.boot_model.specs.{Eligible.is_eligible, PeiMachine.PeiMachine}
use Rattle.boot_model.specs.PeiChoice.{cursor_behind, next_peim, pei_order}
use Rattle.boot_laws.specs.{declared.choice.Before.Before, Naming.Rules, Naming.told_before, PeiAim.with_cursor}
use Rattle.pei_dispatch.specs.Ends.{pei_starts}

-- the place after the part that started for the first time last; second starts do not move it
abbrev pub walked : List ℕ → List ℕ → ℕ
walked order [] = 0
walked order (last ∷ earlier) = cursor_behind order last

-- the first part that may start a second time
abbrev pub next_again : Catalog → PeiMachine → Option ℕ
next_again catalog m = find (λ number. has_number m.started number && is_eligible catalog m number) (pei_order catalog m.reported)

-- the part whose turn it is
abbrev pub in_turn : Catalog → PeiMachine → Option ℕ
in_turn catalog m = option_or (next_again catalog m) (next_peim catalog (with_cursor m (walked (pei_order catalog m.reported) m.started)))

-- what a choice is told before a start in PEI
abbrev pub told_in_pei : {S : Type 0} → Rules S → Catalog → PeiMachine → Before
told_in_pei rules catalog m = told_before rules (pei_starts m) (in_turn catalog m)
