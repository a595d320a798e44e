-- One step of the boot machine in PEI: the first of its cases that applies. A pair of the open sweep that fires begins a callback; else the top frame takes its
-- next action. If no script runs and no sweep is open, memory moves if it is due; else the first queued pair leaves the queue and runs; else the next PEIM
-- starts; else PEI stops. PI 1.8, volume 1, "PEI Dispatcher", `NotifyPpi()`, "Installing PEI Memory"; the frames and their bounds are own.
use Rattle.std.specs.Prelude.{ℕ, ◌+◌, ◌/◌, ◌%◌, ◌&&◌, not, if◌then◌else◌, List, [], ◌∷◌, ◌++◌, Option, Some, None, option_map, slice_get, unwrap_or, Ok, Err, length, nat_le, map, option_and_then, option_to_list, flat_map}
use Rattle.pi_base.specs.declared.phase.Phase.TheVariants.{Pei}
use Rattle.pi_base.specs.declared.word.Word.TheVariants.{Success, AlreadyStarted}
use Rattle.act_code.specs.{declared.action.Action.Action, declared.action.Action.TheVariants.Ret}
use Rattle.mod_catalog.specs.{declared.catalogue.Catalog.Catalog, declared.catalogue.Part.Part, declared.catalogue.PartExpr.PartExpr}
use Rattle.mod_catalog.specs.declared.catalogue.PartExpr.TheVariants as E
use Rattle.boot_model.specs.{declared.frame.TheConstants.MOST_FRAMES, declared.frame.TheConstants.BLOCKS, declared.licence.Licence.Licence}
use Rattle.pi_base.specs.declared.known_guid.TheConstants.{DXE_IPL_PPI}
use Rattle.boot_model.specs.{declared.line.Line.Line, declared.line.Reason.Reason, declared.phase_end.PeiEnd.PeiEnd, Eligible.licence_at}
use Rattle.boot_model.specs.declared.line.Line.TheVariants as L
use Rattle.boot_model.specs.declared.line.CallName.TheVariants as C
use Rattle.boot_model.specs.declared.line.Extra.TheVariants as X
use Rattle.boot_model.specs.declared.line.Reason.TheVariants as R
use Rattle.store_model.specs.{declared.store_handle.Sweep.Sweep, declared.store_handle.Firing.Firing, StoreState.StoreState}
use Rattle.store_model.specs.{Service.Service, Service.Sweep.next_match, Service.Queue.queue_pop}
use Rattle.store_model.specs.{Service.Install.core_install, Service.Install.has_ppi, Migration.migration}
use Rattle.boot_model.specs.PeiMachine.{PeiMachine, Frame, notified_frame, printed}
use Rattle.boot_model.specs.declared.phase_end.PeiEnd.TheVariants.{Handoff, NoMemory, NoIpl, Spent, Deep}
use Rattle.mod_catalog.specs.Parts.{has_number, part_at, module_name, module_volume, block_of}
use Rattle.boot_model.specs.PeiChoice.{pei_order, next_peim, cursor_behind}
use Rattle.boot_model.specs.PeiAction.{Reply, Effect, Wrote, Called, Own, Shadowed, Logged, Skipped, Returned, effect, status_of}
use Rattle.boot_model.specs.Reporting.{reports}
pub use Rattle.boot_model.specs.Frames.{past, start_frames, swept}

-- what comes next
pub data PeiCase : Type 0 where
  Fires : (firing : Firing) (sweep : Sweep) → PeiCase
  Acts : (frame : Frame) (below : List Frame) → PeiCase
  Moves : (new : StoreState) → PeiCase
  Pops : (firing : Firing) (new : StoreState) → PeiCase
  Starts : (number : ℕ) → PeiCase
  Stops : PeiCase

-- the sweep that is open: the top frame's, or without frames the core's
abbrev pub open_sweep : PeiMachine → List Frame → Option Sweep
open_sweep m [] = m.core_sweep
open_sweep m (frame ∷ below) = frame.sweep

-- the next pair of the open sweep that fires begins a callback
abbrev pub fires : PeiMachine → Option PeiCase
fires m = option_map (λ pair. Fires pair.0 pair.1) (option_and_then (next_match m.store) (open_sweep m m.frames))

-- the top frame takes its next action
abbrev pub acts : List Frame → Option PeiCase
acts [] = None
acts (frame ∷ below) = Some (Acts frame below)

-- if memory is due, the store moves
abbrev pub moves : PeiMachine → Option PeiCase
moves m = option_map (λ new. Moves new) (migration m.store)

-- the first queued pair leaves the queue
abbrev pub pops : PeiMachine → Option PeiCase
pops m = option_map (λ pair. Pops pair.0 pair.1) (queue_pop m.store)

-- the next PEIM starts
abbrev pub starts : Catalog → PeiMachine → Option PeiCase
starts catalog m = option_map (λ number. Starts number) (next_peim catalog m)

-- the first of these that applies; if none does, PEI stops
abbrev pub first_that_applies : List (Option PeiCase) → PeiCase
first_that_applies [] = Stops
first_that_applies (Some case ∷ others) = case
first_that_applies (None ∷ others) = first_that_applies others

-- what comes next from a machine
abbrev pub case_of : Catalog → PeiMachine → PeiCase
case_of catalog m = first_that_applies (fires m ∷ acts m.frames ∷ moves m ∷ pops m ∷ starts catalog m ∷ [])

-- a notification's entry is a block of a module
abbrev pub module_of : Firing → ℕ
module_of firing = firing.entry / BLOCKS

-- the frame of a notification that begins
abbrev pub notification_frame : Firing → Frame
notification_frame firing = notified_frame (module_of firing) (firing.entry % BLOCKS) firing

-- the line of a callback: its module, and the GUID for which it runs
abbrev pub callback_line : Catalog → Firing → Line
callback_line catalog firing = L.NotifyCallback (module_volume catalog (module_of firing)) (module_name catalog (module_of firing)) firing.guid

-- and that of a dispatch notification
abbrev pub dispatch_line : Catalog → Firing → Line
dispatch_line catalog firing = L.NotifyDispatch (module_volume catalog (module_of firing)) (module_name catalog (module_of firing)) firing.guid

-- if no frame is running, the core's sweep is the open one, and is past what was visited
abbrev pub core_swept : List Frame → Sweep → Option Sweep → Option Sweep
core_swept [] sweep old = Some sweep
core_swept (frame ∷ below) sweep old = old

-- a callback begins
abbrev pub callback_begun : Catalog → PeiMachine → Firing → Sweep → PeiMachine
callback_begun catalog m firing sweep =
    record (printed m (callback_line catalog firing ∷ [])) {
      frames = notification_frame firing ∷ swept m.frames sweep;
      core_sweep = core_swept m.frames sweep m.core_sweep;
    }

-- a notification begins, unless the most frames are running
abbrev pub fired : Catalog → PeiMachine → Firing → Sweep → PeiMachine
fired catalog m firing sweep = if nat_le MOST_FRAMES (length m.frames) then record m { ended = Some Deep } else callback_begun catalog m firing sweep

-- a line for each volume that is reported
abbrev pub report_lines : List ℕ → List Line
report_lines volumes = map (λ volume. L.Report volume) volumes

-- after a call come its line, and a line for each volume that it reports
abbrev pub after_call : Catalog → PeiMachine → Frame → List Frame → Line → Reply → PeiMachine
after_call catalog m frame below line reply =
    record (printed m (line ∷ report_lines (reports catalog reply.store m.reported reply.installs))) {
      store = reply.store;
      reported = m.reported ++ reports catalog reply.store m.reported reply.installs;
      frames = record (past frame 0) { registers = reply.registers; last = reply.status; sweep = reply.sweep } ∷ below;
    }

-- a module registers for shadow once
abbrev pub shadowed : PeiMachine → Frame → List Frame → PeiMachine
shadowed m frame below =
    if has_number m.shadows frame.module_number
    then record (printed m (L.Call C.Shadow AlreadyStarted X.Nothing ∷ [])) { frames = record (past frame 0) { last = AlreadyStarted } ∷ below }
    else record (printed m (L.Call C.Shadow Success X.Nothing ∷ [])) {
      frames = record (past frame 0) { last = Success } ∷ below;
      shadows = m.shadows ++ frame.module_number ∷ [];
    }

-- the machine after an action of its top frame
abbrev pub after_effect : Catalog → PeiMachine → Frame → List Frame → Effect → PeiMachine
after_effect catalog m frame below (Wrote registers status) = record m { frames = record (past frame 0) { registers = registers; last = status } ∷ below }
after_effect catalog m frame below (Called name reply) = after_call catalog m frame below (L.Call name reply.status reply.extra) reply
after_effect catalog m frame below (Own Shadowed) = shadowed m frame below
after_effect catalog m frame below (Logged text) = record (printed m (L.Log (record { items = text }) ∷ [])) { frames = past frame 0 ∷ below }
after_effect catalog m frame below (Skipped n) = record m { frames = past frame n ∷ below }
after_effect catalog m frame below (Returned status) = record (printed m (L.End status ∷ [])) { frames = below }

-- the next action of a frame
abbrev pub action_at : Catalog → Frame → Action
action_at catalog frame = unwrap_or (slice_get (block_of Pei catalog frame.module_number frame.block) frame.position) (Ret Success)

-- an action is taken, unless the fuel is spent
abbrev pub acted : Catalog → ℕ → PeiMachine → Frame → List Frame → PeiMachine
acted catalog fuel m frame below =
    if nat_le fuel m.actions then record m { ended = Some Spent }
    else after_effect catalog (record m { actions = m.actions + 1 }) frame below (effect m.store frame (action_at catalog frame))

-- the core's call after the move, with its line and its sweep
abbrev pub core_called : PeiMachine → Service Sweep → PeiMachine
core_called m (Ok (sweep, new)) = record (printed m (L.CoreInstall Success ∷ [])) { store = new; core_sweep = Some sweep }
core_called m (Err fault) = record (printed m (L.CoreInstall (status_of fault) ∷ [])) { core_sweep = None }

-- the store has moved, and the core installs the PPI of permanent memory
abbrev pub moved_to : PeiMachine → StoreState → PeiMachine
moved_to m new = core_called (record (printed m (L.Migrate m.store.base new.base ∷ [])) { store = new }) (core_install new)

-- a dispatch notification begins
abbrev pub popped_to : Catalog → PeiMachine → Firing → StoreState → PeiMachine
popped_to catalog m firing new = record (printed m (dispatch_line catalog firing ∷ [])) { store = new; core_sweep = None; frames = notification_frame firing ∷ [] }

-- a script without blocks ends at once
abbrev pub start_lines : Line → List (List Action) → List Line
start_lines line [] = line ∷ L.End Success ∷ []
start_lines line (block ∷ blocks) = line ∷ []

-- a second start adds the part to those that started again
abbrev pub with_start : PeiMachine → ℕ → PeiMachine
with_start m number = record m {
  started = if has_number m.started number then m.started else number ∷ m.started;
  again = if has_number m.started number then number ∷ m.again else m.again;
}

-- the line of a PEIM's start
abbrev pub start_line : Catalog → PeiMachine → ℕ → Licence → Line
start_line catalog m number licence = L.PeiStart (module_volume catalog number) (module_name catalog number) licence

-- a part starts by a licence, and the cursor is after it
abbrev pub started_by : Catalog → PeiMachine → ℕ → Part → Licence → PeiMachine
started_by catalog m number part licence =
    record (printed (with_start m number) (start_lines (start_line catalog m number licence) part.script.blocks)) {
      cursor = cursor_behind (pei_order catalog m.reported) number;
      core_sweep = None;
      frames = start_frames number part.script.blocks;
    }

-- the same of a part that is there
abbrev pub started_part : Catalog → PeiMachine → ℕ → Option Part → PeiMachine
started_part catalog m number None = m
started_part catalog m number (Some part) = started_by catalog m number part (licence_at m number part)

-- a part starts by its number
abbrev pub started : Catalog → PeiMachine → ℕ → PeiMachine
started catalog m number = started_part catalog m number (part_at Pei catalog number)

-- why a part that has not started waits
abbrev pub reason_by : PartExpr → Reason
reason_by E.Absent = R.False
reason_by (E.Malformed at) = R.Malformed
reason_by (E.Held expression) = R.False

-- why a part waits after the stop, if it does
abbrev pub reason_of : Catalog → PeiMachine → ℕ → Option Reason
reason_of catalog m number =
    if has_number m.started number
    then (if has_number m.shadows number && not (has_number m.again number) then Some R.Shadow else None)
    else option_map (λ part. reason_by part.expr) (part_at Pei catalog number)

-- the line of a part that waits
abbrev pub waiting_line : Catalog → PeiMachine → ℕ → Option Line
waiting_line catalog m number = option_map (λ reason. L.Waiting (module_volume catalog number) (module_name catalog number) reason) (reason_of catalog m number)

-- a line for each part that waits, in PEI order
abbrev pub waiting_lines : Catalog → PeiMachine → List Line
waiting_lines catalog m = flat_map (λ number. option_to_list (waiting_line catalog m number)) (pei_order catalog m.reported)

-- how PEI ends: without the move, without the DXE IPL, or by the hand-off
abbrev pub outcome_of : StoreState → PeiEnd
outcome_of s = if s.moved then (if has_ppi s DXE_IPL_PPI then Handoff else NoIpl) else NoMemory

-- the line of a hand-off: the address of the HOB list
abbrev pub handoff_lines : StoreState → PeiEnd → List Line
handoff_lines s Handoff = L.Handoff s.base ∷ []
handoff_lines s NoMemory = []
handoff_lines s NoIpl = []
handoff_lines s Spent = []
handoff_lines s Deep = []

-- PEI stops, and its end is known
abbrev pub stopped : Catalog → PeiMachine → PeiMachine
stopped catalog m =
    record (printed m (L.PeiStop ∷ (waiting_lines catalog m ++ handoff_lines m.store (outcome_of m.store)))) { ended = Some (outcome_of m.store); core_sweep = None }

-- what each case does
abbrev pub in_case : Catalog → ℕ → PeiMachine → PeiCase → PeiMachine
in_case catalog fuel m (Fires firing sweep) = fired catalog m firing sweep
in_case catalog fuel m (Acts frame below) = acted catalog fuel m frame below
in_case catalog fuel m (Moves new) = moved_to m new
in_case catalog fuel m (Pops firing new) = popped_to catalog m firing new
in_case catalog fuel m (Starts number) = started catalog m number
in_case catalog fuel m Stops = stopped catalog m

-- one step of the machine
abbrev pub pei_step : Catalog → ℕ → PeiMachine → PeiMachine
pei_step catalog fuel m = in_case catalog fuel m (case_of catalog m)
