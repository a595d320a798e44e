-- One step of the boot machine in DXE: the first of its cases that applies. A notification of the top frame's sweep begins; else the top frame takes its next
-- action. If no script runs, the next driver starts; else DXE stops.
-- PI 1.8, volume 2, "DXE Dispatcher"; the frames and their bounds are own.
use Rattle.std.specs.Prelude.{ℕ, ◌+◌, ◌-◌, Bool, false, if◌then◌else◌, List, [], ◌∷◌, Option, Some, None, option_map, slice_get, unwrap_or, length, nat_le, map, find, option_and_then}
use Rattle.pi_base.specs.{declared.phase.Phase.TheVariants.Dxe, declared.word.Word.TheVariants.Success, Guids.same_guid, Lists.numbers}
use Rattle.act_code.specs.{declared.action.Action.Action, declared.action.Action.TheVariants.Ret}
use Rattle.depex_code.specs.declared.depex.Depex.TheVariants as D
use Rattle.mod_catalog.specs.{declared.catalogue.Catalog.Catalog, declared.catalogue.Part.Part, declared.catalogue.PartExpr.PartExpr}
use Rattle.mod_catalog.specs.declared.catalogue.PartExpr.TheVariants as E
use Rattle.boot_model.specs.{declared.frame.TheConstants.MOST_FRAMES, declared.licence.Licence.Licence, declared.line.Line.Line}
use Rattle.boot_model.specs.declared.line.Line.TheVariants as L
use Rattle.boot_model.specs.{declared.line.Reason.Reason, PeiStep.start_lines, Discovery.discovery_lines}
use Rattle.boot_model.specs.declared.line.Reason.TheVariants as R
pub use Rattle.boot_model.specs.Frames.{past, start_frames, swept}
use Rattle.boot_model.specs.DxeMachine.{DxeMachine, DriverFrame, ProtocolSweep, ProtocolNote, Scheduled, protocol_frame, dxe_printed}
use Rattle.boot_model.specs.declared.phase_end.DxeEnd.TheVariants as DxeEnds
use Rattle.boot_model.specs.DxeChoice.{next_driver, waiting, is_unrequested}
use Rattle.boot_model.specs.DxeAction.{DxeReply, DxeEffect, Wrote, Called, Logged, Skipped, Returned, Own, dxe_effect}
use Rattle.mod_catalog.specs.Parts.{part_at, module_name, module_volume, block_of}

-- what comes next
pub data DxeCase : Type 0 where
  DxeFires : (note : ProtocolNote) (sweep : ProtocolSweep) (frame : DriverFrame) (below : List DriverFrame) → DxeCase
  DxeActs : (frame : DriverFrame) (below : List DriverFrame) → DxeCase
  DxeStarts : (next : Scheduled) (queue : List Scheduled) → DxeCase
  DxeStops : DxeCase

-- whether the notification in a place is one of a sweep's protocol
abbrev pub is_of_sweep : DxeMachine → ProtocolSweep → ℕ → Bool
is_of_sweep m sweep place = elim (slice_get m.notes place) [ None ↦ false | Some note ↦ same_guid note.guid sweep.guid ]

-- the first place of a sweep that is one of its protocol
abbrev pub next_place : DxeMachine → ProtocolSweep → Option ℕ
next_place m sweep = find (is_of_sweep m sweep) (numbers sweep.note_at (sweep.note_to - sweep.note_at))

-- the notification there, and the sweep after it
abbrev pub next_note : DxeMachine → ProtocolSweep → Option (ProtocolNote × ProtocolSweep)
next_note m sweep = option_and_then (λ place. option_map (λ note. (note, record sweep { note_at = place + 1 })) (slice_get m.notes place)) (next_place m sweep)

-- the case of a frame: its sweep's next notification, else its next action
abbrev pub frame_case : DxeMachine → DriverFrame → List DriverFrame → DxeCase
frame_case m frame below = elim (option_and_then (next_note m) frame.sweep) [ None ↦ DxeActs frame below | Some pair ↦ DxeFires pair.0 pair.1 frame below ]

-- if no script runs: the next driver starts, or DXE stops
abbrev pub queue_case : Option (Scheduled × List Scheduled) → DxeCase
queue_case None = DxeStops
queue_case (Some pair) = DxeStarts pair.0 pair.1

-- the case by the frames that are running
abbrev pub dxe_case_in : Catalog → DxeMachine → List DriverFrame → DxeCase
dxe_case_in catalog m [] = queue_case (next_driver catalog m)
dxe_case_in catalog m (frame ∷ below) = frame_case m frame below

-- what comes next from a machine
abbrev pub dxe_case_of : Catalog → DxeMachine → DxeCase
dxe_case_of catalog m = dxe_case_in catalog m m.frames

-- the line of a notification: its module, and the protocol
abbrev pub protocol_line : Catalog → ProtocolSweep → ProtocolNote → Line
protocol_line catalog sweep note = L.NotifyProtocol (module_volume catalog note.module_number) (module_name catalog note.module_number) sweep.guid

-- a notification begins, and the sweep is after it
abbrev pub protocol_begun : Catalog → DxeMachine → ProtocolNote → ProtocolSweep → DriverFrame → List DriverFrame → DxeMachine
protocol_begun catalog m note sweep frame below =
    record (dxe_printed m (protocol_line catalog sweep note ∷ [])) { frames = protocol_frame sweep note ∷ swept (frame ∷ below) sweep }

-- a notification begins, unless the most frames are running
abbrev pub dxe_fired : Catalog → DxeMachine → ProtocolNote → ProtocolSweep → DriverFrame → List DriverFrame → DxeMachine
dxe_fired catalog m note sweep frame below =
    if nat_le MOST_FRAMES (length m.frames) then record m { ended = Some DxeEnds.Deep } else protocol_begun catalog m note sweep frame below

-- after a call come its line, and a line for each volume that it discovers
abbrev pub after_dxe_call : DriverFrame → List DriverFrame → Line → DxeReply → DxeMachine
after_dxe_call frame below line reply =
    record (dxe_printed reply.machine (line ∷ discovery_lines reply.volumes)) {
      frames = record (past frame 0) { registers = reply.registers; last = reply.status; sweep = reply.sweep } ∷ below;
    }

-- the machine after an action of its top frame
abbrev pub after_dxe_effect : DxeMachine → DriverFrame → List DriverFrame → DxeEffect → DxeMachine
after_dxe_effect m frame below (Wrote registers status) = record m { frames = record (past frame 0) { registers = registers; last = status } ∷ below }
after_dxe_effect m frame below (Called name reply) = after_dxe_call frame below (L.Call name reply.status reply.extra) reply
after_dxe_effect m frame below (Logged text) = record (dxe_printed m (L.Log (record { items = text }) ∷ [])) { frames = past frame 0 ∷ below }
after_dxe_effect m frame below (Skipped n) = record m { frames = past frame n ∷ below }
after_dxe_effect m frame below (Returned status) = record (dxe_printed m (L.End status ∷ [])) { frames = below }
after_dxe_effect m frame below (Own own) = absurd own

-- the next action of a frame
abbrev pub dxe_action_at : Catalog → DriverFrame → Action
dxe_action_at catalog frame = unwrap_or (slice_get (block_of Dxe catalog frame.module_number frame.block) frame.position) (Ret Success)

-- an action is counted
abbrev pub with_action : DxeMachine → DxeMachine
with_action m = record m { actions = m.actions + 1 }

-- an action is taken, unless the fuel is spent
abbrev pub dxe_acted : Catalog → ℕ → DxeMachine → DriverFrame → List DriverFrame → DxeMachine
dxe_acted catalog fuel m frame below =
    if nat_le fuel m.actions then record m { ended = Some DxeEnds.Spent }
    else after_dxe_effect (with_action m) frame below (dxe_effect catalog (with_action m) frame (dxe_action_at catalog frame))

-- the line of a driver's start
abbrev pub dxe_start_line : Catalog → ℕ → Licence → Line
dxe_start_line catalog number licence = L.DxeStart (module_volume catalog number) (module_name catalog number) licence

-- a driver starts by its licence; a script without blocks ends at once
abbrev pub driver_started_by : Catalog → DxeMachine → Scheduled → List Scheduled → Part → DxeMachine
driver_started_by catalog m next queue part =
    record (dxe_printed m (start_lines (dxe_start_line catalog next.module_number next.licence) part.script.blocks)) {
      scheduled = queue;
      started = next.module_number ∷ m.started;
      frames = start_frames next.module_number part.script.blocks;
    }

-- a number without a driver leaves the queue alone
abbrev pub driver_started : Catalog → DxeMachine → Scheduled → List Scheduled → Option Part → DxeMachine
driver_started catalog m next queue None = record m { scheduled = queue }
driver_started catalog m next queue (Some part) = driver_started_by catalog m next queue part

-- why a driver waits
abbrev pub tree_reason : Bool → Reason
tree_reason unrequested = if unrequested then R.Unrequested else R.False

-- the same by the expression: a companion waits for the driver that it names
abbrev pub driver_reason_by : Bool → PartExpr → Reason
driver_reason_by unrequested E.Absent = R.Absent
driver_reason_by unrequested (E.Malformed at) = R.Malformed
driver_reason_by unrequested (E.Held (D.Before name)) = R.Before
driver_reason_by unrequested (E.Held (D.After name)) = R.After
driver_reason_by unrequested (E.Held (D.Expr sor node)) = tree_reason unrequested

-- the same of a driver by its number
abbrev pub driver_reason : Catalog → DxeMachine → ℕ → Reason
driver_reason catalog m number = unwrap_or (option_map (λ part. driver_reason_by (is_unrequested catalog m number) part.expr) (part_at Dxe catalog number)) R.False

-- the line of a driver that waits
abbrev pub driver_waiting_line : Catalog → DxeMachine → ℕ → Line
driver_waiting_line catalog m number = L.Waiting (module_volume catalog number) (module_name catalog number) (driver_reason catalog m number)

-- a line for each driver that waits, in discovered order
abbrev pub driver_waiting_lines : Catalog → DxeMachine → List Line
driver_waiting_lines catalog m = map (driver_waiting_line catalog m) (waiting catalog m)

-- DXE stops, and its end is Done
abbrev pub dxe_stopped : Catalog → DxeMachine → DxeMachine
dxe_stopped catalog m = record (dxe_printed m (L.DxeStop ∷ driver_waiting_lines catalog m)) { ended = Some DxeEnds.Done }

-- what each case does
abbrev pub in_dxe_case : Catalog → ℕ → DxeMachine → DxeCase → DxeMachine
in_dxe_case catalog fuel m (DxeFires note sweep frame below) = dxe_fired catalog m note sweep frame below
in_dxe_case catalog fuel m (DxeActs frame below) = dxe_acted catalog fuel m frame below
in_dxe_case catalog fuel m (DxeStarts next queue) = driver_started catalog m next queue (part_at Dxe catalog next.module_number)
in_dxe_case catalog fuel m DxeStops = dxe_stopped catalog m

-- one step of the machine
abbrev pub dxe_step : Catalog → ℕ → DxeMachine → DxeMachine
dxe_step catalog fuel m = in_dxe_case catalog fuel m (dxe_case_of catalog m)
