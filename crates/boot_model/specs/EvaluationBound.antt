-- How many evaluations of expressions a phase may take. There is one for each part of a volume that is reported or discovered. For each GUID of an event that
-- may have changed whether it is installed, there is one for each waiting part whose expression pushes that GUID. The events are a successful install or
-- reinstall, the core's install, and in DXE a successful install or uninstall. An event counts the parts that wait in the machine before it; those of a volume
-- that it reports are counted once, with their volume. A PEIM waits until it starts, a driver until it is scheduled. Own.
use Rattle.std.specs.Prelude.{ℕ, zero, suc, ◌+◌, Bool, false, ◌&&◌, ◌||◌, not, if◌then◌else◌, nat_le, List, [], ◌∷◌, ◌++◌, length, map, filter, sum_by, Some, None, Ok, Err, unwrap_or, option_map, option_to_list}
use Rattle.pi_base.specs.{declared.guid.Guid.Guid, declared.phase.Phase.Phase}
use Rattle.pi_base.specs.declared.phase.Phase.TheVariants.{Pei, Dxe}
use Rattle.depex_code.specs.Tree.{DepexTree, True, False, Push, Not, And, Or}
use Rattle.depex_code.specs.declared.depex.Depex.TheVariants as D
use Rattle.act_code.specs.declared.action.Action.{Action}
use Rattle.act_code.specs.declared.action.Action.TheVariants as A
use Rattle.mod_catalog.specs.{declared.catalogue.Catalog.Catalog, declared.catalogue.PartExpr.PartExpr, Parts.has_number, Parts.part_at}
use Rattle.mod_catalog.specs.declared.catalogue.PartExpr.TheVariants as E
use Rattle.pi_base.specs.{declared.known_guid.TheConstants.MEMORY_PPI, Guids.same_guid, Lists.firsts}
use Rattle.store_model.specs.{declared.store_handle.Sweep.Sweep, StoreState.StoreState, Service.Service}
use Rattle.store_model.specs.{Service.Descriptor.guid_at, Service.Descriptor.offsets, Service.Install.core_install}
use Rattle.boot_model.specs.Registers.{descriptor_in, descriptors_in, is_success}
use Rattle.boot_model.specs.{PeiMachine.PeiMachine, PeiMachine.Frame, PeiChoice.pei_order, DxeMachine.DxeMachine, DxeMachine.DriverFrame}
use Rattle.boot_model.specs.PeiAction.{Effect, Wrote, Called, Own, Shadowed, Logged, Skipped, Returned, effect}
use Rattle.boot_model.specs.PeiStep.{PeiCase, Fires, Acts, Moves, Pops, Starts, Stops, case_of, action_at, pei_step}
use Rattle.boot_model.specs.{DxeAction.DxeEffect, DxeAction.dxe_effect, DxeChoice.discovered_order, DxeChoice.waiting}
use Rattle.boot_model.specs.DxeStep.{DxeCase, DxeFires, DxeActs, DxeStarts, DxeStops, dxe_case_of, dxe_action_at, dxe_step, with_action}

-- whether a tree pushes a GUID
abbrev pub tree_pushes : Guid → DepexTree → Bool
tree_pushes guid True = false
tree_pushes guid False = false
tree_pushes guid (Push other) = same_guid other guid
tree_pushes guid (Not node) = tree_pushes guid node
tree_pushes guid (And first second) = tree_pushes guid first || tree_pushes guid second
tree_pushes guid (Or first second) = tree_pushes guid first || tree_pushes guid second

-- whether an expression pushes a GUID; BEFORE and AFTER push none
abbrev pub expression_pushes : Guid → PartExpr → Bool
expression_pushes guid E.Absent = false
expression_pushes guid (E.Malformed at) = false
expression_pushes guid (E.Held (D.Before name)) = false
expression_pushes guid (E.Held (D.After name)) = false
expression_pushes guid (E.Held (D.Expr sor node)) = tree_pushes guid node

-- whether the expression of a module's part does
abbrev pub part_pushes : Phase → Catalog → Guid → ℕ → Bool
part_pushes phase catalog guid number = unwrap_or (option_map (λ part. expression_pushes guid part.expr) (part_at phase catalog number)) false

-- each GUID once
abbrev pub each_once : List Guid → List Guid
each_once guids = firsts same_guid guids

-- whether an action of PEI is a call that succeeds
abbrev pub is_called : Effect → Bool
is_called (Wrote registers status) = false
is_called (Called name reply) = is_success reply.status
is_called (Own Shadowed) = false
is_called (Logged text) = false
is_called (Skipped n) = false
is_called (Returned status) = false

-- the places of the descriptors that an action of PEI installs or replaces
abbrev pub changed_places : Frame → Action → List ℕ
changed_places frame (A.Install list) = unwrap_or (option_map offsets (descriptors_in frame.registers list)) []
changed_places frame (A.Reinstall old new) = offsets (option_to_list (descriptor_in frame.registers old) ++ option_to_list (descriptor_in frame.registers new))
changed_places frame _ = []

-- the GUIDs of an action that succeeds
abbrev pub action_guids : StoreState → Frame → Action → List Guid
action_guids s frame action = if is_called (effect s frame action) then map (guid_at s) (changed_places frame action) else []

-- the GUID that the core's install adds, if it succeeds
abbrev pub core_guids : Service Sweep → List Guid
core_guids (Ok done) = MEMORY_PPI ∷ []
core_guids (Err fault) = []

-- the GUIDs of a case
abbrev pub case_guids : Catalog → ℕ → PeiMachine → PeiCase → List Guid
case_guids catalog fuel m (Fires firing sweep) = []
case_guids catalog fuel m (Acts frame below) = if nat_le fuel m.actions then [] else action_guids m.store frame (action_at catalog frame)
case_guids catalog fuel m (Moves new) = core_guids (core_install new)
case_guids catalog fuel m (Pops firing new) = []
case_guids catalog fuel m (Starts number) = []
case_guids catalog fuel m Stops = []

-- the GUIDs of the event from here
abbrev pub pei_guids : Catalog → ℕ → PeiMachine → List Guid
pei_guids catalog fuel m = each_once (case_guids catalog fuel m (case_of catalog m))

-- the parts that wait in a machine and push a GUID
abbrev pub pei_asked : Catalog → PeiMachine → Guid → ℕ
pei_asked catalog m guid = length (filter (λ number. not (has_number m.started number) && part_pushes Pei catalog guid number) (pei_order catalog m.reported))

-- those of each GUID of each event of a run, counted in the machine before the event
abbrev pub pei_changes : Catalog → ℕ → ℕ → PeiMachine → ℕ
pei_changes catalog fuel zero m = 0
pei_changes catalog fuel (suc n) m = elim m.ended [
  | Some end ↦ 0
  | None ↦ sum_by (pei_asked catalog m) (pei_guids catalog fuel m) + pei_changes catalog fuel n (pei_step catalog fuel m)
]

-- the bound of a run of PEI from one machine to its last
abbrev pub pei_evaluations : Catalog → ℕ → ℕ → PeiMachine → PeiMachine → ℕ
pei_evaluations catalog fuel n m last = length (pei_order catalog last.reported) + pei_changes catalog fuel n m

-- whether an action of DXE is a call that succeeds
abbrev pub is_dxe_called : DxeEffect → Bool
is_dxe_called (Wrote registers status) = false
is_dxe_called (Called name reply) = is_success reply.status
is_dxe_called (Logged text) = false
is_dxe_called (Skipped n) = false
is_dxe_called (Returned status) = false
is_dxe_called (Own own) = absurd own

-- the GUIDs that an action of DXE installs or takes away
abbrev pub changed_protocols : Action → List Guid
changed_protocols (A.DxeInstall form h guid v) = guid ∷ []
changed_protocols (A.DxeUninstall h guid v) = guid ∷ []
changed_protocols _ = []

-- the GUIDs of an action of DXE that succeeds
abbrev pub dxe_action_guids : Catalog → DxeMachine → DriverFrame → Action → List Guid
dxe_action_guids catalog m frame action = if is_dxe_called (dxe_effect catalog m frame action) then changed_protocols action else []

-- the GUIDs of a case
abbrev pub dxe_case_guids : Catalog → ℕ → DxeMachine → DxeCase → List Guid
dxe_case_guids catalog fuel m (DxeFires note sweep frame below) = []
dxe_case_guids catalog fuel m (DxeActs frame below) = if nat_le fuel m.actions then [] else dxe_action_guids catalog (with_action m) frame (dxe_action_at catalog frame)
dxe_case_guids catalog fuel m (DxeStarts next queue) = []
dxe_case_guids catalog fuel m DxeStops = []

-- the GUIDs of the event from here
abbrev pub dxe_guids : Catalog → ℕ → DxeMachine → List Guid
dxe_guids catalog fuel m = dxe_case_guids catalog fuel m (dxe_case_of catalog m)

-- the drivers that wait in a machine and push a GUID
abbrev pub dxe_asked : Catalog → DxeMachine → Guid → ℕ
dxe_asked catalog m guid = length (filter (part_pushes Dxe catalog guid) (waiting catalog m))

-- those of each GUID of each event of a run, counted in the machine before the event
abbrev pub dxe_changes : Catalog → ℕ → ℕ → DxeMachine → ℕ
dxe_changes catalog fuel zero m = 0
dxe_changes catalog fuel (suc n) m = elim m.ended [
  | Some end ↦ 0
  | None ↦ sum_by (dxe_asked catalog m) (dxe_guids catalog fuel m) + dxe_changes catalog fuel n (dxe_step catalog fuel m)
]

-- the bound of a run of DXE
abbrev pub dxe_evaluations : Catalog → ℕ → ℕ → DxeMachine → DxeMachine → ℕ
dxe_evaluations catalog fuel n m last = length (discovered_order catalog last) + dxe_changes catalog fuel n m
