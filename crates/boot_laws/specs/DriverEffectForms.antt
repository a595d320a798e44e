-- The forms of what an action of DXE does. What holds of each refusal and of the reply of each service that succeeds holds of every action:
-- `driver_effect_has`.
-- Own.
use Rattle.std.specs.Prelude.{◌≡◌, ℕ, false, List, Option, Some, Ok}
use Rattle.pi_base.specs.{declared.guid.Guid.Guid, declared.word.Word.Word}
use Rattle.act_code.specs.declared.action.Action.{Action}
use Rattle.act_code.specs.declared.action.Action.TheVariants as A
use Rattle.mod_catalog.specs.{declared.catalogue.Catalog.Catalog, Parts.has_number}
use Rattle.store_model.specs.HandleState.{HandleState, install_interface, reinstall_interface, uninstall_interface, locate_handle}
use Rattle.boot_model.specs.{declared.frame.Register.Register, declared.line.Extra.Extra, Reporting.newcomers}
use Rattle.boot_model.specs.declared.line.Extra.TheVariants as X
use Rattle.boot_model.specs.DxeMachine.{DxeMachine, DriverFrame}
use Rattle.boot_model.specs.DxeAction.{DxeReply, dxe_told, dxe_refusal, with_handles, protocol_sweep, locate_reply, notify_reply, unrequested_named, schedule_reply, processed}

-- of each reply to an action of DXE: a refusal, or a service that succeeds
pub record DriverRepliesHave (catalog : Catalog) (m : DxeMachine) (frame : DriverFrame) (P : Action → DxeReply → Type 0) : Type 0 where
  pub refused : (action : Action) (status : Word) → P action (dxe_refusal m frame status)
  pub peek : (v n : ℕ) (bytes : List ℕ) → P (A.Peek v n) (dxe_told m frame.registers (X.Bytes (record { items = bytes })))
  pub install : (form h : ℕ) (guid : Guid) (v : ℕ) (target : Option ℕ) (value handle : ℕ) (new : HandleState) (registers : List Register) (extra : Extra)
      → install_interface m.handles target guid value ≡ Ok (handle, new)
      → P (A.DxeInstall form h guid v) (record (dxe_told (with_handles m new) registers extra) { sweep = Some (protocol_sweep m guid value handle) })
  pub reinstall : (h : ℕ) (guid : Guid) (old new : ℕ) (handle before after : ℕ) (done : Unit {0}) (handles : HandleState)
      → reinstall_interface m.handles handle guid before after ≡ Ok (done, handles)
      → P (A.DxeReinstall h guid old new) (record (dxe_told (with_handles m handles) frame.registers X.Nothing) { sweep = Some (protocol_sweep m guid after handle) })
  pub uninstall : (h : ℕ) (guid : Guid) (v : ℕ) (handle value : ℕ) (done : Unit {0}) (handles : HandleState)
      → uninstall_interface m.handles handle guid value ≡ Ok (done, handles)
      → P (A.DxeUninstall h guid v) (dxe_told (with_handles m handles) frame.registers X.Nothing)
  pub locate : (h v : ℕ) (guid : Guid) (found : ℕ × ℕ) → locate_handle m.handles guid ≡ Some found
      → P (A.DxeLocate h v guid) (locate_reply m frame h v found)
  pub notify : (guid : Guid) (block : ℕ) → P (A.DxeNotify guid block) (notify_reply m frame guid block)
  pub schedule : (name : Guid) (number : ℕ) → unrequested_named catalog m name ≡ Some number
      → P (A.Schedule name) (schedule_reply m frame number)
  pub process : (v volume : ℕ) → has_number m.discovered volume ≡ false
      → P (A.Process v) (processed catalog m frame (newcomers catalog m.discovered (Some volume)))
