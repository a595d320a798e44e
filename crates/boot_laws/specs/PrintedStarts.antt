-- The lines of a run show its starts: each start line, in order, is a start of the machine, and each start has its line. A module is named by its volume and
-- its file name. Own.
use Rattle.std.specs.Prelude.{◌≡◌, ℕ, List, [], ◌∷◌, map, flat_map, reverse, Option, Some, None}
use Rattle.pi_base.specs.declared.guid.Guid.{Guid}
use Rattle.mod_catalog.specs.{declared.catalogue.Catalog.Catalog, Parts.module_name, Parts.module_volume}
use Rattle.store_model.specs.StoreState.{Board, StoreState}
use Rattle.boot_model.specs.declared.licence.Licence.TheVariants as G
use Rattle.boot_model.specs.{declared.line.Line.Line, declared.phase_end.PeiEnd.PeiEnd, PeiMachine.PeiMachine, BootRun.boot_lines}
use Rattle.boot_model.specs.declared.line.Line.TheVariants as L
use Rattle.boot_model.specs.declared.phase_end.PeiEnd.TheVariants.{Handoff, NoMemory, NoIpl, Spent, Deep}
use Rattle.boot_model.specs.PeiRun.{pei_run, pei_opening, pei_end}
use Rattle.boot_model.specs.DxeRun.{dxe_run, dxe_opening, dxe_end}

-- if a line is a first start in PEI, the module that it names
abbrev pub first_start : Line → List (ℕ × Guid)
first_start (L.PeiStart volume name G.Shadow) = []
first_start (L.PeiStart volume name licence) = (volume, name) ∷ []
first_start line = []

-- and for the second time, after it registered for shadow
abbrev pub second_start : Line → List (ℕ × Guid)
second_start (L.PeiStart volume name G.Shadow) = (volume, name) ∷ []
second_start line = []

-- and in DXE
abbrev pub driver_start : Line → List (ℕ × Guid)
driver_start (L.DxeStart volume name licence) = (volume, name) ∷ []
driver_start line = []

-- the start lines among these lines are these starts, in order
pub record TellStarts (lines : List Line) (first second drivers : List (ℕ × Guid)) : Type 0 where
  pub first_starts : flat_map first_start lines ≡ first
  pub second_starts : flat_map second_start lines ≡ second
  pub driver_starts : flat_map driver_start lines ≡ drivers

-- a module by its volume and name, and those that have started, in order of their starts: a machine has the last one first
abbrev pub named : Catalog → ℕ → ℕ × Guid
named catalog number = (module_volume catalog number, module_name catalog number)

abbrev pub in_order : Catalog → List ℕ → List (ℕ × Guid)
in_order catalog started = map (named catalog) (reverse started)

-- of each machine of a run of PEI, and of one of DXE
abbrev pub StartsArePrinted : Type 0
StartsArePrinted =
    (catalog : Catalog) (board : Board) (fuel n : ℕ)
    → let m = pei_run catalog fuel n (pei_opening board catalog) in
    TellStarts m.lines (in_order catalog m.started) (in_order catalog m.again) []

abbrev pub DriverStartsArePrinted : Type 0
DriverStartsArePrinted =
    (catalog : Catalog) (s : StoreState) (actions fuel n : ℕ)
    → let m = dxe_run catalog fuel n (dxe_opening catalog s actions) in TellStarts m.lines [] [] (in_order catalog m.started)

-- the drivers that start after a PEI that has ended so
abbrev pub drivers_behind : Catalog → ℕ → PeiMachine → Option PeiEnd → List ℕ
drivers_behind catalog fuel pei None = []
drivers_behind catalog fuel pei (Some Handoff) = (dxe_end catalog fuel pei.store pei.actions).started
drivers_behind catalog fuel pei (Some NoMemory) = []
drivers_behind catalog fuel pei (Some NoIpl) = []
drivers_behind catalog fuel pei (Some Spent) = []
drivers_behind catalog fuel pei (Some Deep) = []

-- of all lines of a boot
abbrev pub BootsPrintStarts : Type 0
BootsPrintStarts =
    (board : Board) (catalog : Catalog) (fuel : ℕ)
    → let pei = pei_end board catalog fuel in
    let drivers = drivers_behind catalog fuel pei pei.ended in
    TellStarts (boot_lines board catalog fuel) (in_order catalog pei.started) (in_order catalog pei.again) (in_order catalog drivers)
