-- The GUIDs of an event are the one that is taken away, and those that are put in.
use Rattle.std.proofs.Common.{◌≡◌, ℕ, Bool, true, false, cond, List, [], ◌++◌, refl, Option, Some, None, map, nat_le, option_map, option_to_list}
use Rattle.pi_base.specs.declared.guid.Guid.{Guid}
use Rattle.act_code.specs.declared.action.Action.{Action}
use Rattle.act_code.specs.declared.action.Action.TheVariants as A
use Rattle.mod_catalog.specs.declared.catalogue.Catalog.{Catalog}
use Rattle.boot_model.specs.{PeiMachine.Frame, PeiMachine.PeiMachine, Registers.descriptor_in, PeiAction.effect}
use Rattle.store_model.specs.{declared.store_handle.Desc.Desc, StoreState.StoreState}
use Rattle.store_model.specs.Service.Descriptor.{guid_at, offsets}
use Rattle.boot_model.specs.PeiStep.{PeiCase, Fires, Acts, Moves, Pops, Starts, Stops, action_at}
use Rattle.boot_model.specs.EvaluationBound.{action_guids, case_guids, changed_places, is_called}
use Rattle.boot_model.specs.EventGuids.{case_placed, case_taken, placed, placed_guids, taken_guid, taken_place}

-- whether or not the call succeeded
by_answer : (b : Bool) (changed : List Guid) (taken : Option Guid) (added : List Guid) → changed ≡ option_to_list taken ++ added
    → cond b changed [] ≡ option_to_list (cond b taken None) ++ cond b added []
by_answer true changed taken added e = e
by_answer false changed taken added e = refl

two : (s : StoreState) (old new : Option Desc) → map (guid_at s) (offsets (option_to_list old ++ option_to_list new)) ≡ option_to_list (option_map (guid_at s) (option_map (λ d. d.offset) old)) ++ map (guid_at s) (offsets (option_to_list new))
two s None new = refl
two s (Some old) new = refl

places : (s : StoreState) (frame : Frame) (action : Action) → map (guid_at s) (changed_places frame action) ≡ option_to_list (option_map (guid_at s) (taken_place frame action)) ++ map (guid_at s) (placed frame action)
places s frame (A.Reinstall old new) = two s (descriptor_in frame.registers old) (descriptor_in frame.registers new)
places s frame _ = refl

action_is : (s : StoreState) (frame : Frame) (action : Action) → action_guids s frame action ≡ option_to_list (taken_guid s frame action) ++ placed_guids s frame action
action_is s frame action = by_answer (is_called (effect s frame action)) (map (guid_at s) (changed_places frame action)) (option_map (guid_at s) (taken_place frame action)) (map (guid_at s) (placed frame action)) (places s frame action)

by_fuel : (b : Bool) (changed : List Guid) (taken : Option Guid) (added : List Guid) → changed ≡ option_to_list taken ++ added
    → cond b [] changed ≡ option_to_list (cond b None taken) ++ cond b [] added
by_fuel true changed taken added e = refl
by_fuel false changed taken added e = e

pub case_is : (catalog : Catalog) (fuel : ℕ) (m : PeiMachine) (case : PeiCase) → case_guids catalog fuel m case ≡ option_to_list (case_taken catalog fuel m case) ++ case_placed catalog fuel m case
case_is catalog fuel m (Fires firing sweep) = refl
case_is catalog fuel m (Acts frame below) =
    let action : Action = action_at catalog frame in
    by_fuel (nat_le fuel m.actions) (action_guids m.store frame action) (taken_guid m.store frame action) (placed_guids m.store frame action) (action_is m.store frame action)
case_is catalog fuel m (Moves new) = refl
case_is catalog fuel m (Pops firing new) = refl
case_is catalog fuel m (Starts number) = refl
case_is catalog fuel m Stops = refl
