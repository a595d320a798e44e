-- The GUIDs of an event of PEI: those that a successful install or reinstall, or the core's install, adds, and the one that a reinstall may remove. Own; PI
-- 1.8, volume 1, `InstallPpi()` and `ReInstallPpi()`.
use Rattle.std.specs.Prelude.{ℕ, Option, None, option_map, List, [], map, unwrap_or, if◌then◌else◌, nat_le, option_to_list}
use Rattle.pi_base.specs.declared.guid.Guid.{Guid}
use Rattle.act_code.specs.declared.action.Action.{Action}
use Rattle.act_code.specs.declared.action.Action.TheVariants as A
use Rattle.mod_catalog.specs.declared.catalogue.Catalog.{Catalog}
use Rattle.store_model.specs.{StoreState.StoreState, Service.Descriptor.guid_at, Service.Descriptor.offsets, Service.Install.core_install}
use Rattle.boot_model.specs.{Registers.descriptor_in, Registers.descriptors_in, PeiMachine.PeiMachine, PeiMachine.Frame, PeiAction.effect}
use Rattle.boot_model.specs.PeiStep.{PeiCase, Fires, Acts, Moves, Pops, Starts, Stops, case_of, action_at}
use Rattle.boot_model.specs.EvaluationBound.{is_called, core_guids}

-- the places of the descriptors that an action adds
abbrev pub placed : Frame → Action → List ℕ
placed frame (A.Install list) = unwrap_or (option_map offsets (descriptors_in frame.registers list)) []
placed frame (A.Reinstall old new) = offsets (option_to_list (descriptor_in frame.registers new))
placed frame _ = []

-- the GUIDs that an action adds, if it succeeds
abbrev pub placed_guids : StoreState → Frame → Action → List Guid
placed_guids s frame action = if is_called (effect s frame action) then map (guid_at s) (placed frame action) else []

-- the GUIDs that a case adds
abbrev pub case_placed : Catalog → ℕ → PeiMachine → PeiCase → List Guid
case_placed catalog fuel m (Fires firing sweep) = []
case_placed catalog fuel m (Acts frame below) = if nat_le fuel m.actions then [] else placed_guids m.store frame (action_at catalog frame)
case_placed catalog fuel m (Moves new) = core_guids (core_install new)
case_placed catalog fuel m (Pops firing new) = []
case_placed catalog fuel m (Starts number) = []
case_placed catalog fuel m Stops = []

-- the GUIDs that the event from here adds
abbrev pub pei_placed : Catalog → ℕ → PeiMachine → List Guid
pei_placed catalog fuel m = case_placed catalog fuel m (case_of catalog m)

-- the place of the descriptor that an action takes away
abbrev pub taken_place : Frame → Action → Option ℕ
taken_place frame (A.Reinstall old new) = option_map (λ d. d.offset) (descriptor_in frame.registers old)
taken_place frame _ = None

-- the GUID that an action removes, if it succeeds
abbrev pub taken_guid : StoreState → Frame → Action → Option Guid
taken_guid s frame action = if is_called (effect s frame action) then option_map (guid_at s) (taken_place frame action) else None

-- the GUID that a case takes away
abbrev pub case_taken : Catalog → ℕ → PeiMachine → PeiCase → Option Guid
case_taken catalog fuel m (Fires firing sweep) = None
case_taken catalog fuel m (Acts frame below) = if nat_le fuel m.actions then None else taken_guid m.store frame (action_at catalog frame)
case_taken catalog fuel m (Moves new) = None
case_taken catalog fuel m (Pops firing new) = None
case_taken catalog fuel m (Starts number) = None
case_taken catalog fuel m Stops = None

-- the GUID that the event from here takes away; another PPI may have it still
abbrev pub pei_taken : Catalog → ℕ → PeiMachine → Option Guid
pei_taken catalog fuel m = case_taken catalog fuel m (case_of catalog m)
