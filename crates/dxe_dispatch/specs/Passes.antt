-- EDK2's order of the drivers. Its dispatcher starts drivers from the head of a queue. If the queue is empty, it goes once over the discovered drivers, volume by
-- volume, and puts those that wait and may start at the end, each with its companions: a pass. The a priori drivers of a volume that comes are put at the end at once.
-- EDK2 2022.11, DXE core; PI 1.8, volume 2, "DXE Dispatcher", leaves the order to the dispatcher.
use Rattle.std.specs.Prelude.{ℕ, ◌+◌, ◌-◌, Bool, false, ◌==◌, if◌then◌else◌, List, [], ◌∷◌, ◌++◌, drop, length, filter, flat_map, Option, Some, None, option_map, slice_get, unwrap_or}
use Rattle.pi_base.specs.declared.phase.Phase.TheVariants.{Dxe}
use Rattle.mod_catalog.specs.{declared.catalogue.Catalog.Catalog, Parts.parts_in}
use Rattle.boot_model.specs.{DxeChoice.a_priori_drivers, DxeChoice.companion_group, DriverLicence.numbers_of}
use Rattle.boot_model.specs.{DxeMachine.DriverFrame, DxeMachine.DxeMachine, DxeStep.dxe_step}
use Rattle.boot_laws.specs.{declared.choice.Before.Before, Naming.Chooser, Naming.told_before}
use Rattle.dxe_dispatch.specs.Aim.{may_be_next}

-- whether a module is a file of this type
abbrev pub has_type : Catalog → ℕ → ℕ → Bool
has_type catalog kind number = unwrap_or (option_map (λ m. m.kind == kind) (slice_get catalog.modules number)) false

-- the drivers of a volume, as EDK2 goes over it: the DRIVER files, the COMBINED_PEIM_DRIVER files, the COMBINED_SMM_DXE files
abbrev pub in_types : Catalog → ℕ → List ℕ
in_types catalog volume = flat_map (λ kind. filter (has_type catalog kind) (parts_in Dxe catalog volume)) (7 ∷ 12 ∷ 8 ∷ [])

-- what a driver puts into the queue: itself with its companions, if it waits and may start
abbrev pub group_of : Catalog → DxeMachine → ℕ → List ℕ
group_of catalog m number = if may_be_next catalog m number then companion_group catalog m number else []

-- what drivers put into the queue, one after the other
abbrev pub pass_of : Catalog → DxeMachine → List ℕ → List ℕ
pass_of catalog m drivers = flat_map (group_of catalog m) drivers

-- a pass over the discovered drivers
abbrev pub pass : Catalog → DxeMachine → List ℕ
pass catalog m = pass_of catalog m (flat_map (in_types catalog) m.discovered)

-- a queue, or if it is empty the next pass
abbrev pub or_pass : List ℕ → List ℕ → List ℕ
or_pass [] next = next
or_pass (first ∷ rest) next = first ∷ rest

-- the same by the scripts that run: there is a next pass only if none does
abbrev pub refilled_over : List DriverFrame → List ℕ → List ℕ → List ℕ
refilled_over [] queue next = or_pass queue next
refilled_over (frame ∷ below) queue next = queue

-- the queue from which the dispatcher goes on in a machine
abbrev pub refilled : Catalog → DxeMachine → List ℕ → List ℕ
refilled catalog m queue = refilled_over m.frames queue (pass catalog m)

-- the first of a queue
abbrev pub first_in : List ℕ → Option ℕ
first_in [] = None
first_in (first ∷ rest) = Some first

-- the driver whose turn it is in a machine
abbrev pub turn_in : Catalog → DxeMachine → List ℕ → Option ℕ
turn_in catalog m queue = first_in (refilled catalog m queue)

-- the queue after a step: as many have left it as have started, and the a priori drivers of the volumes that came are at its end
abbrev pub queued_behind : Catalog → DxeMachine → DxeMachine → List ℕ → List ℕ
queued_behind catalog before later queue =
    drop (length later.started - length before.started) queue ++ numbers_of (a_priori_drivers catalog (drop (length before.discovered) later.discovered))

-- the machine after steps from these ones, the last of them first
abbrev pub came : Catalog → ℕ → DxeMachine → List DxeMachine → DxeMachine
came catalog fuel opening [] = opening
came catalog fuel opening (target ∷ earlier) = dxe_step catalog fuel target

-- the queue there; at the opening it has the a priori drivers, which are scheduled
abbrev pub queued : Catalog → ℕ → DxeMachine → List DxeMachine → List ℕ
queued catalog fuel opening [] = numbers_of opening.scheduled
queued catalog fuel opening (target ∷ earlier) =
    queued_behind catalog target (dxe_step catalog fuel target) (refilled catalog (came catalog fuel opening earlier) (queued catalog fuel opening earlier))

-- a way to choose drivers: who chooses, and how many starts there were in PEI
pub record DriverChoice (S : Type 0) : Type 1 where
  pub by : Chooser S
  pub in_pei : ℕ

-- what the choice is told in a machine: how many starts there were, those in PEI with them, and whose turn it is by the queue, if it wants to know
abbrev pub told_in : {S : Type 0} → DriverChoice S → Catalog → DxeMachine → List ℕ → Before
told_in choice catalog m queue = told_before choice.by.rules (choice.in_pei + length m.started) (turn_in catalog m queue)

-- what it is told after steps from these machines
abbrev pub told_in_dxe : {S : Type 0} → DriverChoice S → Catalog → ℕ → DxeMachine → List DxeMachine → Before
told_in_dxe choice catalog fuel opening earlier = told_in choice catalog (came catalog fuel opening earlier) (queued catalog fuel opening earlier)
