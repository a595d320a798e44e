-- What holds of each form of reply holds of every action of DXE: the one list of its actions.
use Rattle.std.proofs.Common.{◌≡◌, ℕ, zero, suc, ◌+◌, ◌%◌, ◌^◌, Bool, true, false, cond, Option, Some, None, refl, Ok, Err, option_map}
use Rattle.std.specs.Prelude.{⊤}
use Rattle.pi_base.specs.{declared.guid.Guid.Guid, declared.word.Word.Word}
use Rattle.pi_base.specs.declared.word.Word.TheVariants.{InvalidParameter, NotFound, AlreadyStarted}
use Rattle.act_code.specs.declared.action.Action.{Action}
use Rattle.act_code.specs.declared.action.Action.TheVariants as A
use Rattle.mod_catalog.specs.{declared.catalogue.Catalog.Catalog, Parts.has_number, Parts.volume_at}
use Rattle.store_model.specs.MemoryReading.{bytes_at}
use Rattle.store_model.specs.HandleState.{HandleState, HandleService, install_interface, reinstall_interface, uninstall_interface, locate_handle}
use Rattle.boot_model.specs.{declared.driver.ProtocolSweep.ProtocolSweep, DxeMachine.DxeMachine, DxeMachine.DriverFrame}
use Rattle.boot_model.specs.declared.line.Extra.TheVariants as X
use Rattle.boot_model.specs.Registers.{both, handle_in, number_in}
use Rattle.boot_model.specs.DxeAction.{DxeReply, dxe_effect, dxe_told, dxe_where, dxe_refusal, with_handles, protocol_sweep, peek_reply, install_answer, install_target, install_reply, reinstall_answer, reinstall_reply, uninstall_answer, uninstall_reply, locate_reply, unrequested_named, schedule_reply, process_reply, process_volume}
use Rattle.boot_laws.specs.{EffectForms.EffectHas, DriverEffectForms.DriverRepliesHave}
use Rattle.boot_laws.proofs.EffectForms.{number_has}

-- with an argument, or without one
argued : {B : Type 0} (P : DxeReply → Type 0) (argument : Option B) (reply : B → DxeReply) (m : DxeMachine) (frame : DriverFrame) (status : Word) → P (dxe_refusal m frame status)
    → ((b : B) → argument ≡ Some b → P (reply b)) → P (dxe_where argument reply m frame status)
argued P None reply m frame status refused h = refused
argued P (Some b) reply m frame status refused h = h b refl

installed : (catalog : Catalog) (m : DxeMachine) (frame : DriverFrame) (P : Action → DxeReply → Type 0) → DriverRepliesHave catalog m frame P → (form h : ℕ) (guid : Guid) (v : ℕ) (target : Option ℕ) (value : ℕ)
    (service : HandleService ℕ) → install_interface m.handles target guid value ≡ service → P (A.DxeInstall form h guid v) (install_answer service m frame form h guid value)
installed catalog m frame P has zero h guid v target value (Ok (handle, new)) e = has.install zero h guid v target value handle new _ _ e
installed catalog m frame P has (suc form) h guid v target value (Ok (handle, new)) e = has.install (suc form) h guid v target value handle new _ _ e
installed catalog m frame P has form h guid v target value (Err status) e = has.refused (A.DxeInstall form h guid v) status

reinstalled : (P : DxeReply → Type 0) (m : DxeMachine) (frame : DriverFrame) (sweep : ProtocolSweep) (service : HandleService (Unit {0})) → ((status : Word) → P (dxe_refusal m frame status))
    → ((done : Unit {0}) (handles : HandleState) → service ≡ Ok (done, handles) → P (record (dxe_told (with_handles m handles) frame.registers X.Nothing) { sweep = Some sweep })) → P (reinstall_answer service m frame sweep)
reinstalled P m frame sweep (Ok (done, handles)) refused h = h done handles refl
reinstalled P m frame sweep (Err status) refused h = refused status

uninstalled : (P : DxeReply → Type 0) (m : DxeMachine) (frame : DriverFrame) (service : HandleService (Unit {0})) → ((status : Word) → P (dxe_refusal m frame status))
    → ((done : Unit {0}) (handles : HandleState) → service ≡ Ok (done, handles) → P (dxe_told (with_handles m handles) frame.registers X.Nothing)) → P (uninstall_answer service m frame)
uninstalled P m frame (Ok (done, handles)) refused h = h done handles refl
uninstalled P m frame (Err status) refused h = refused status

either : (P : DxeReply → Type 0) (b : Bool) (one other : DxeReply) → P one → (b ≡ false → P other) → P (cond b one other)
either P true one other h k = h
either P false one other h k = k refl

pub driver_effect_has : (catalog : Catalog) (m : DxeMachine) (frame : DriverFrame) (P : Action → DxeReply → Type 0) → DriverRepliesHave catalog m frame P → (action : Action)
    → EffectHas (P action) (λ registers. ⊤) (dxe_effect catalog m frame action)
driver_effect_has catalog m frame P has (A.Add r n) = number_has ⊥ (P (A.Add r n)) (λ registers. ⊤) frame.registers r (option_map (λ old. (old + n) % 2 ^ 64) (number_in frame.registers r)) tt (λ sum e. tt)
driver_effect_has catalog m frame P has (A.Peek v n) =
    let own : Action = A.Peek v n in
    argued (P own) (number_in frame.registers v) (peek_reply m frame n) m frame InvalidParameter (has.refused own InvalidParameter)
    (λ at _. argued (P own) (bytes_at m.store at n) _ m frame NotFound (has.refused own NotFound) (λ bytes _. has.peek v n bytes))
driver_effect_has catalog m frame P has (A.DxeInstall form h guid v) =
    let own : Action = A.DxeInstall form h guid v in
    argued (P own) (both (install_target frame form h) (number_in frame.registers v)) (install_reply m frame form h guid) m frame InvalidParameter (has.refused own InvalidParameter)
    (λ pair _. installed catalog m frame P has form h guid v pair.0 pair.1 (install_interface m.handles pair.0 guid pair.1) refl)
driver_effect_has catalog m frame P has (A.DxeReinstall h guid old new) =
    let own : Action = A.DxeReinstall h guid old new in
    argued (P own) (both (handle_in frame.registers h) (both (number_in frame.registers old) (number_in frame.registers new))) (reinstall_reply m frame guid) m frame InvalidParameter (has.refused own InvalidParameter)
    (λ triple _. reinstalled (P own) m frame (protocol_sweep m guid triple.1.1 triple.0) (reinstall_interface m.handles triple.0 guid triple.1.0 triple.1.1) (has.refused own)
    (λ done handles e. has.reinstall h guid old new triple.0 triple.1.0 triple.1.1 done handles e))
driver_effect_has catalog m frame P has (A.DxeUninstall h guid v) =
    let own : Action = A.DxeUninstall h guid v in
    argued (P own) (both (handle_in frame.registers h) (number_in frame.registers v)) (uninstall_reply m frame guid) m frame InvalidParameter (has.refused own InvalidParameter)
    (λ pair _. uninstalled (P own) m frame (uninstall_interface m.handles pair.0 guid pair.1) (has.refused own) (λ done handles e. has.uninstall h guid v pair.0 pair.1 done handles e))
driver_effect_has catalog m frame P has (A.DxeLocate h v guid) =
    let own : Action = A.DxeLocate h v guid in argued (P own) (locate_handle m.handles guid) (locate_reply m frame h v) m frame NotFound (has.refused own NotFound) (has.locate h v guid)
driver_effect_has catalog m frame P has (A.DxeNotify guid block) = has.notify guid block
driver_effect_has catalog m frame P has (A.Schedule name) =
    let own : Action = A.Schedule name in argued (P own) (unrequested_named catalog m name) (schedule_reply m frame) m frame NotFound (has.refused own NotFound) (has.schedule name)
driver_effect_has catalog m frame P has (A.Process v) =
    let own : Action = A.Process v in
    argued (P own) (number_in frame.registers v) (process_reply catalog m frame) m frame InvalidParameter (has.refused own InvalidParameter)
    (λ base _. argued (P own) (volume_at catalog base) (process_volume catalog m frame) m frame NotFound (has.refused own NotFound)
    (λ volume _. either (P own) (has_number m.discovered volume) _ _ (has.refused own AlreadyStarted) (has.process v volume)))
driver_effect_has catalog m frame P has A.Dispatch = has.refused A.Dispatch AlreadyStarted
driver_effect_has catalog m frame P has _ = tt
