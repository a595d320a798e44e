-- A boot in which the dispatchers choose freely: any eligible PEIM may start in the place of the first, also for a second start, and any eligible driver, with
-- its group, in the place of the first. Every other step is that of the machine, and so are the opening, the hand-off, the last lists and the result. PI 1.8,
-- volumes 1 and 2, leave the order to the dispatchers.
use Rattle.std.specs.Prelude.{◌≡◌, ℕ, true, List, [], ◌∷◌, Option, Some, None, is_some}
use Rattle.pi_base.specs.declared.phase.Phase.TheVariants.{Dxe}
use Rattle.mod_catalog.specs.{declared.catalogue.Catalog.Catalog, Parts.has_number, Parts.part_at}
use Rattle.boot_model.specs.{Eligible.is_eligible, declared.line.Line.Line, declared.phase_end.PeiEnd.PeiEnd, PeiMachine.PeiMachine}
use Rattle.store_model.specs.StoreState.{Board}
use Rattle.boot_model.specs.declared.phase_end.PeiEnd.TheVariants.{Handoff, NoMemory, NoIpl, Spent, Deep}
use Rattle.boot_model.specs.{PeiRun.pei_opening, PeiRun.last_machine, DxeRun.dxe_opening, BootRun.both_lines, BootRun.lines_after}
use Rattle.boot_model.specs.{PeiChoice.pei_order, DxeMachine.DxeMachine, DxeMachine.Scheduled}
use Rattle.boot_model.specs.PeiStep.{PeiCase, Fires, Acts, Moves, Pops, Starts, Stops, case_of, in_case, started}
use Rattle.boot_model.specs.DxeChoice.{is_eligible_driver, waiting, group_scheduled}
use Rattle.boot_model.specs.DxeStep.{DxeCase, DxeFires, DxeActs, DxeStarts, DxeStops, dxe_case_of, in_dxe_case, driver_started}

-- the part is one of a reported volume and may start
abbrev pub MayStart : Catalog → PeiMachine → ℕ → Type 0
MayStart catalog m number = (has_number (pei_order catalog m.reported) number ≡ true) × (is_eligible catalog m number ≡ true)

-- a machine that may follow a case: when a PEIM starts it may be any eligible one, and each other case has one outcome
abbrev pub IsFreeIn : Catalog → ℕ → PeiMachine → PeiCase → PeiMachine → Type 0
IsFreeIn catalog fuel m (Fires firing sweep) later = later ≡ in_case catalog fuel m (Fires firing sweep)
IsFreeIn catalog fuel m (Acts frame below) later = later ≡ in_case catalog fuel m (Acts frame below)
IsFreeIn catalog fuel m (Moves new) later = later ≡ in_case catalog fuel m (Moves new)
IsFreeIn catalog fuel m (Pops firing new) later = later ≡ in_case catalog fuel m (Pops firing new)
IsFreeIn catalog fuel m (Starts first) later = (number : ℕ) × MayStart catalog m number × (later ≡ started catalog m number)
IsFreeIn catalog fuel m Stops later = later ≡ in_case catalog fuel m Stops

-- a machine that may come next
abbrev pub IsFreePeiStep : Catalog → ℕ → PeiMachine → PeiMachine → Type 0
IsFreePeiStep catalog fuel m later = IsFreeIn catalog fuel m (case_of catalog m) later

-- these are the later machines of a free run of PEI
abbrev pub IsFreePeiRun : Catalog → ℕ → PeiMachine → List PeiMachine → Type 0
IsFreePeiRun catalog fuel m [] = is_some m.ended ≡ true
IsFreePeiRun catalog fuel m (later ∷ rest) = (m.ended ≡ None) × IsFreePeiStep catalog fuel m later × IsFreePeiRun catalog fuel later rest

-- a driver that waits and may start
abbrev pub MaySchedule : Catalog → DxeMachine → ℕ → Type 0
MaySchedule catalog m number = (has_number (waiting catalog m) number ≡ true) × (is_eligible_driver catalog m number ≡ true)

-- the first of a queue has started
abbrev pub IsStarted : Catalog → DxeMachine → List Scheduled → DxeMachine → Type 0
IsStarted catalog m [] later = ⊥
IsStarted catalog m (next ∷ queue) later = later ≡ driver_started catalog m next queue (part_at Dxe catalog next.module_number)

-- the first of what is scheduled starts, or else of the group of any driver that may
abbrev pub IsFreeStart : Catalog → DxeMachine → List Scheduled → DxeMachine → Type 0
IsFreeStart catalog m [] later = (number : ℕ) × MaySchedule catalog m number × IsStarted catalog m (group_scheduled catalog m (Some number)) later
IsFreeStart catalog m (next ∷ queue) later = IsStarted catalog m (next ∷ queue) later

-- a machine of DXE that may come after a case
abbrev pub IsFreeInDxe : Catalog → ℕ → DxeMachine → DxeCase → DxeMachine → Type 0
IsFreeInDxe catalog fuel m (DxeFires note sweep frame below) later = later ≡ in_dxe_case catalog fuel m (DxeFires note sweep frame below)
IsFreeInDxe catalog fuel m (DxeActs frame below) later = later ≡ in_dxe_case catalog fuel m (DxeActs frame below)
IsFreeInDxe catalog fuel m (DxeStarts next queue) later = IsFreeStart catalog m m.scheduled later
IsFreeInDxe catalog fuel m DxeStops later = later ≡ in_dxe_case catalog fuel m DxeStops

-- these are the later machines of a free run of DXE
abbrev pub IsFreeDxeRun : Catalog → ℕ → DxeMachine → List DxeMachine → Type 0
IsFreeDxeRun catalog fuel m [] = is_some m.ended ≡ true
IsFreeDxeRun catalog fuel m (later ∷ rest) = (m.ended ≡ None) × IsFreeInDxe catalog fuel m (dxe_case_of catalog m) later × IsFreeDxeRun catalog fuel later rest

-- the last machine of a run of DXE
abbrev pub last_of_dxe : DxeMachine → List DxeMachine → DxeMachine
last_of_dxe m [] = m
last_of_dxe m (later ∷ rest) = last_of_dxe later rest

-- all lines of a boot that goes freely from a machine of DXE on, after this machine of PEI
abbrev pub AreFreeDxeLines : Catalog → ℕ → PeiMachine → DxeMachine → List Line → Type 0
AreFreeDxeLines catalog fuel pei m lines = (run : List DxeMachine) × IsFreeDxeRun catalog fuel m run × (lines ≡ both_lines pei (last_of_dxe m run) (last_of_dxe m run).ended)

-- all lines after a PEI that has ended so: after a hand-off DXE goes freely from its opening
abbrev pub AreFreeLinesAfter : Catalog → ℕ → PeiMachine → Option PeiEnd → List Line → Type 0
AreFreeLinesAfter catalog fuel pei None lines = lines ≡ lines_after catalog fuel pei None
AreFreeLinesAfter catalog fuel pei (Some Handoff) lines = AreFreeDxeLines catalog fuel pei (dxe_opening catalog pei.store pei.actions) lines
AreFreeLinesAfter catalog fuel pei (Some NoMemory) lines = lines ≡ lines_after catalog fuel pei (Some NoMemory)
AreFreeLinesAfter catalog fuel pei (Some NoIpl) lines = lines ≡ lines_after catalog fuel pei (Some NoIpl)
AreFreeLinesAfter catalog fuel pei (Some Spent) lines = lines ≡ lines_after catalog fuel pei (Some Spent)
AreFreeLinesAfter catalog fuel pei (Some Deep) lines = lines ≡ lines_after catalog fuel pei (Some Deep)

-- all lines of a boot that goes freely from a machine of PEI on
abbrev pub AreFreePeiLines : Catalog → ℕ → PeiMachine → List Line → Type 0
AreFreePeiLines catalog fuel m lines = (run : List PeiMachine) × IsFreePeiRun catalog fuel m run × AreFreeLinesAfter catalog fuel (last_machine m run) (last_machine m run).ended lines

-- all lines of a free boot
abbrev pub AreFreeLines : Board → Catalog → ℕ → List Line → Type 0
AreFreeLines board catalog fuel lines = AreFreePeiLines catalog fuel (pei_opening board catalog) lines
