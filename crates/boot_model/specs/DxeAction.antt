-- What an action of a DXE script does: it writes registers, calls a service, logs, skips or returns. A refusal changes nothing but the last status.
-- PI 1.8, volume 2, "Protocol Handler Services" and "DXE Services"; the actions and their operands are own.
use Rattle.std.specs.Prelude.{ℕ, zero, suc, ◌&&◌, if◌then◌else◌, List, [], ◌∷◌, ◌++◌, length, Option, Some, None, option_map, find, slice_set, Ok, Err}
use Rattle.pi_base.specs.{declared.guid.Guid.Guid, declared.word.Word.Word, Guids.same_guid}
use Rattle.pi_base.specs.declared.word.Word.TheVariants.{Success, InvalidParameter, NotFound, AlreadyStarted}
use Rattle.act_code.specs.declared.action.Action.{Action}
use Rattle.act_code.specs.declared.action.Action.TheVariants as A
use Rattle.mod_catalog.specs.declared.catalogue.Catalog.{Catalog}
use Rattle.boot_model.specs.{declared.line.CallName.CallName, declared.line.Extra.Extra, Effect.Effect as OfEach, Effect.effect_by}
use Rattle.boot_model.specs.declared.line.CallName.TheVariants as C
use Rattle.boot_model.specs.declared.line.Extra.TheVariants as X
use Rattle.store_model.specs.MemoryReading.{bytes_at}
use Rattle.store_model.specs.HandleState.{HandleState, HandleService, install_interface, reinstall_interface, uninstall_interface, locate_handle}
pub use Rattle.boot_model.specs.Effect.{Wrote, Called, Logged, Skipped, Returned, Own, number_written}
use Rattle.boot_model.specs.PeiMachine.{Register, Number, HandleIn}
use Rattle.boot_model.specs.DxeMachine.{DxeMachine, DriverFrame, ProtocolSweep}
use Rattle.boot_model.specs.DxeChoice.{waiting, is_unrequested, a_priori_drivers}
use Rattle.mod_catalog.specs.Parts.{has_number, module_name, volume_at}
use Rattle.boot_model.specs.Reporting.{newcomers}
use Rattle.boot_model.specs.Registers.{number_in, handle_in, both}

-- what a service answered a script: its status, what its line shows, the machine and the registers after it, the notifications to visit, and the volumes that it discovered
pub record DxeReply : Type 0 where
  pub status : Word
  pub extra : Extra
  pub machine : DxeMachine
  pub registers : List Register
  pub sweep : Option ProtocolSweep
  pub volumes : List ℕ

-- what an action of DXE does; every action of its own is a call
abbrev pub DxeEffect : Type 0
DxeEffect = OfEach DxeReply ⊥

-- an answer without a change
abbrev pub dxe_told : DxeMachine → List Register → Extra → DxeReply
dxe_told m registers extra = record { status = Success; extra = extra; machine = m; registers = registers; sweep = None; volumes = [] }

-- a refusal, which changes nothing
abbrev pub dxe_refusal : DxeMachine → DriverFrame → Word → DxeReply
dxe_refusal m frame status = record (dxe_told m frame.registers X.Nothing) { status = status }

-- the answer that an argument has, if there is one, and else a refusal
abbrev pub dxe_where : {A : Type 0} → Option A → (A → DxeReply) → DxeMachine → DriverFrame → Word → DxeReply
dxe_where None reply m frame status = dxe_refusal m frame status
dxe_where (Some argument) reply m frame status = reply argument

-- the machine with these handles
abbrev pub with_handles : DxeMachine → HandleState → DxeMachine
with_handles m handles = record m { handles = handles }

-- the notifications of a protocol that were registered before a call
abbrev pub protocol_sweep : DxeMachine → Guid → ℕ → ℕ → ProtocolSweep
protocol_sweep m guid interface handle = record { guid = guid; interface = interface; handle = handle; note_at = 0; note_to = length m.notes }

-- an interface was installed, on a new handle (form 0) or on one that is there
abbrev pub installed_on : DxeMachine → DriverFrame → ℕ → ℕ → Guid → ℕ → ℕ → HandleState → DxeReply
installed_on m frame zero h guid value handle new =
    record (dxe_told (with_handles m new) (slice_set frame.registers h (HandleIn handle)) (X.Number handle)) { sweep = Some (protocol_sweep m guid value handle) }
installed_on m frame (suc form) h guid value handle new =
    record (dxe_told (with_handles m new) frame.registers X.Nothing) { sweep = Some (protocol_sweep m guid value handle) }

-- the answer of `InstallProtocolInterface()`, by what the handles said
abbrev pub install_answer : HandleService ℕ → DxeMachine → DriverFrame → ℕ → ℕ → Guid → ℕ → DxeReply
install_answer (Ok (handle, new)) m frame form h guid value = installed_on m frame form h guid value handle new
install_answer (Err status) m frame form h guid value = dxe_refusal m frame status

-- the handle on which an install puts the interface; nothing for a new handle
abbrev pub install_target : DriverFrame → ℕ → ℕ → Option (Option ℕ)
install_target frame zero h = Some None
install_target frame (suc form) h = option_map (λ handle. Some handle) (handle_in frame.registers h)

-- the reply of an install on a handle or on a new one, if the registers hold the handle and the value
abbrev pub install_reply : DxeMachine → DriverFrame → ℕ → ℕ → Guid → (Option ℕ × ℕ) → DxeReply
install_reply m frame form h guid argument = install_answer (install_interface m.handles argument.0 guid argument.1) m frame form h guid argument.1

-- the answer of `ReinstallProtocolInterface()`: the notifications of the protocol are visited
abbrev pub reinstall_answer : HandleService (Unit {0}) → DxeMachine → DriverFrame → ProtocolSweep → DxeReply
reinstall_answer (Ok (done, new)) m frame sweep = record (dxe_told (with_handles m new) frame.registers X.Nothing) { sweep = Some sweep }
reinstall_answer (Err status) m frame sweep = dxe_refusal m frame status

-- the same of a handle, an old value and a new one
abbrev pub reinstall_reply : DxeMachine → DriverFrame → Guid → (ℕ × (ℕ × ℕ)) → DxeReply
reinstall_reply m frame guid argument =
    reinstall_answer (reinstall_interface m.handles argument.0 guid argument.1.0 argument.1.1) m frame (protocol_sweep m guid argument.1.1 argument.0)

-- the answer of `UninstallProtocolInterface()`: no notification is visited
abbrev pub uninstall_answer : HandleService (Unit {0}) → DxeMachine → DriverFrame → DxeReply
uninstall_answer (Ok (done, new)) m frame = dxe_told (with_handles m new) frame.registers X.Nothing
uninstall_answer (Err status) m frame = dxe_refusal m frame status

-- the same of a handle and a value
abbrev pub uninstall_reply : DxeMachine → DriverFrame → Guid → (ℕ × ℕ) → DxeReply
uninstall_reply m frame guid argument = uninstall_answer (uninstall_interface m.handles argument.0 guid argument.1) m frame

-- the answer of `LocateProtocol()`: the handle is written first, then the value
abbrev pub locate_reply : DxeMachine → DriverFrame → ℕ → ℕ → (ℕ × ℕ) → DxeReply
locate_reply m frame h v found = dxe_told m (slice_set (slice_set frame.registers h (HandleIn found.0)) v (Number found.1)) (X.Number found.1)

-- a notification more
abbrev pub notify_reply : DxeMachine → DriverFrame → Guid → ℕ → DxeReply
notify_reply m frame guid block =
    dxe_told (record m { notes = m.notes ++ record { guid = guid; module_number = frame.module_number; block = block } ∷ [] }) frame.registers X.Nothing

-- the first unrequested driver of a file name that waits, in discovered order
abbrev pub unrequested_named : Catalog → DxeMachine → Guid → Option ℕ
unrequested_named catalog m name = find (λ number. is_unrequested catalog m number && same_guid (module_name catalog number) name) (waiting catalog m)

-- the answer of `Schedule()`: the driver is requested, and starts when its expression holds
abbrev pub schedule_reply : DxeMachine → DriverFrame → ℕ → DxeReply
schedule_reply m frame number = dxe_told (record m { requested = m.requested ++ number ∷ [] }) frame.registers X.Nothing

-- volumes are discovered, and their a priori drivers scheduled
abbrev pub with_volumes : Catalog → DxeMachine → List ℕ → DxeMachine
with_volumes catalog m volumes = record m { discovered = m.discovered ++ volumes; scheduled = m.scheduled ++ a_priori_drivers catalog volumes }

-- the answer of `ProcessFirmwareVolume()` that discovers these volumes
abbrev pub processed : Catalog → DxeMachine → DriverFrame → List ℕ → DxeReply
processed catalog m frame volumes = record (dxe_told (with_volumes catalog m volumes) frame.registers X.Nothing) { volumes = volumes }

-- the same of a volume, unless it was discovered before
abbrev pub process_volume : Catalog → DxeMachine → DriverFrame → ℕ → DxeReply
process_volume catalog m frame volume =
    if has_number m.discovered volume then dxe_refusal m frame AlreadyStarted else processed catalog m frame (newcomers catalog m.discovered (Some volume))

-- the same of the base of a volume
abbrev pub process_reply : Catalog → DxeMachine → DriverFrame → ℕ → DxeReply
process_reply catalog m frame base = dxe_where (volume_at catalog base) (process_volume catalog m frame) m frame NotFound

-- the reply to a read of memory: the bytes at an address, if one region has all of them
abbrev pub peek_reply : DxeMachine → DriverFrame → ℕ → ℕ → DxeReply
peek_reply m frame n at = dxe_where (bytes_at m.store at n) (λ bytes. dxe_told m frame.registers (X.Bytes (record { items = bytes }))) m frame NotFound

-- a call whose arguments are in registers
abbrev pub dxe_call_where : {A : Type 0} → CallName → Option A → (A → DxeReply) → DxeMachine → DriverFrame → DxeEffect
dxe_call_where name argument reply m frame = Called name (dxe_where argument reply m frame InvalidParameter)

-- what an action does in a frame; an action of PEI is not part of a DXE script
abbrev pub own_dxe_effect : Catalog → DxeMachine → DriverFrame → Action → DxeEffect
own_dxe_effect catalog m frame (A.Peek v n) = dxe_call_where C.Peek (number_in frame.registers v) (peek_reply m frame n) m frame
own_dxe_effect catalog m frame (A.DxeInstall form h guid v) = dxe_call_where C.Install (both (install_target frame form h) (number_in frame.registers v)) (install_reply m frame form h guid) m frame
own_dxe_effect catalog m frame (A.DxeReinstall h guid old new) =
    dxe_call_where C.Reinstall (both (handle_in frame.registers h) (both (number_in frame.registers old) (number_in frame.registers new))) (reinstall_reply m frame guid) m frame
own_dxe_effect catalog m frame (A.DxeUninstall h guid v) = dxe_call_where C.Uninstall (both (handle_in frame.registers h) (number_in frame.registers v)) (uninstall_reply m frame guid) m frame
own_dxe_effect catalog m frame (A.DxeLocate h v guid) = Called C.Locate (dxe_where (locate_handle m.handles guid) (locate_reply m frame h v) m frame NotFound)
own_dxe_effect catalog m frame (A.DxeNotify guid block) = Called C.Notify (notify_reply m frame guid block)
own_dxe_effect catalog m frame (A.Schedule name) = Called C.Schedule (dxe_where (unrequested_named catalog m name) (schedule_reply m frame) m frame NotFound)
own_dxe_effect catalog m frame (A.Process v) = dxe_call_where C.Process (number_in frame.registers v) (process_reply catalog m frame) m frame
own_dxe_effect catalog m frame A.Dispatch = Called C.Dispatch (dxe_refusal m frame AlreadyStarted)
own_dxe_effect catalog m frame _ = Skipped 0

-- what an action does in a frame, one of both phases or of DXE
abbrev pub dxe_effect : Catalog → DxeMachine → DriverFrame → Action → DxeEffect
dxe_effect catalog m frame action = effect_by (own_dxe_effect catalog m frame) frame action
