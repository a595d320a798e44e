-- A free boot is one of runs of which the laws of each phase hold.
use Rattle.std.proofs.Common.{ℕ, List, Option, Some, None}
use Rattle.mod_catalog.specs.{declared.catalogue.Catalog.Catalog, WellFormed.IsWellFormed}
use Rattle.boot_model.specs.{declared.line.Line.Line, declared.phase_end.PeiEnd.PeiEnd, PeiMachine.PeiMachine}
use Rattle.boot_model.specs.{PeiRun.last_machine, PeiRun.pei_opening, DxeRun.dxe_opening}
use Rattle.boot_model.specs.declared.phase_end.PeiEnd.TheVariants.{Handoff, NoMemory, NoIpl, Spent, Deep}
use Rattle.boot_model.specs.FreeRun.{AreFreeDxeLines, AreFreeLinesAfter}
use Rattle.free_laws.specs.FreePei.{FreeMovesChangeNothing, FreePeiStopsIdle, FreePeimsStartLicensed, FreePeimsStartOnce}
use Rattle.free_laws.specs.FreeDxe.{FreeCompanionsStartBeside, FreeDriversStartLicensed, FreeDriversStartOnce, FreeDxeStopsIdle}
use Rattle.free_laws.specs.FreeBoots.{AreLawfulDxeLines, AreLawfulLinesAfter, FreeBootsAreLawful}

-- the laws of both phases
pub record Laws : Type 0 where
  pub peims_once : FreePeimsStartOnce
  pub peims_licensed : FreePeimsStartLicensed
  pub moves : FreeMovesChangeNothing
  pub pei_stops : FreePeiStopsIdle
  pub drivers_once : FreeDriversStartOnce
  pub drivers_licensed : FreeDriversStartLicensed
  pub beside : FreeCompanionsStartBeside
  pub dxe_stops : FreeDxeStopsIdle

dxe_lines : Laws → (catalog : Catalog) (fuel : ℕ) (pei : PeiMachine) (lines : List Line) → IsWellFormed catalog → AreFreeDxeLines catalog fuel pei (dxe_opening catalog pei.store pei.actions) lines
    → AreLawfulDxeLines catalog fuel pei (dxe_opening catalog pei.store pei.actions) lines
dxe_lines laws catalog fuel pei lines well free = (
  free.0,
  record {
    free = free.1;
    once = laws.drivers_once catalog well.parents fuel pei.store pei.actions free.0 free.1;
    licensed = laws.drivers_licensed catalog fuel pei.store pei.actions free.0 free.1;
    beside = laws.beside catalog well.parents fuel pei.store pei.actions free.0 free.1;
    stops = laws.dxe_stops catalog fuel pei.store pei.actions free.0 free.1;
  },
  free.2,
)

lines_after : Laws → (catalog : Catalog) (fuel : ℕ) (pei : PeiMachine) (end : Option PeiEnd) (lines : List Line) → IsWellFormed catalog → AreFreeLinesAfter catalog fuel pei end lines → AreLawfulLinesAfter catalog fuel pei end lines
lines_after laws catalog fuel pei None lines well free = free
lines_after laws catalog fuel pei (Some Handoff) lines well free = dxe_lines laws catalog fuel pei lines well free
lines_after laws catalog fuel pei (Some NoMemory) lines well free = free
lines_after laws catalog fuel pei (Some NoIpl) lines well free = free
lines_after laws catalog fuel pei (Some Spent) lines well free = free
lines_after laws catalog fuel pei (Some Deep) lines well free = free

pub are_lawful : Laws → FreeBootsAreLawful
are_lawful laws board catalog fuel lines well sound free =
    let last = last_machine (pei_opening board catalog) free.0 in
    record {
      run = free.0;
      pei = record {
        free = free.1;
        once = laws.peims_once board catalog fuel free.0 free.1;
        licensed = laws.peims_licensed board catalog fuel free.0 free.1;
        moves = laws.moves board catalog fuel free.0 well sound free.1;
        stops = laws.pei_stops board catalog fuel free.0 well free.1;
      };
      after = lines_after laws catalog fuel last last.ended lines well free.2;
    }
