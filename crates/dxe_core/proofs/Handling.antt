-- What the services of handles answer is the machine's reply.
use Rattle.std.proofs.Common.{◌≡◌, ℕ, List, [], ◌∷◌, ◌++◌, zero, refl, ap, sym, subst, ◌∙◌, Option, Some, None, Result, Err, suc, length, option_map, option_to_list}
use Rattle.pi_base.specs.{declared.guid.Guid.Guid, declared.word.Word.Word, declared.memory.OutOfMemory.OutOfMemory}
use Rattle.pi_base.specs.declared.word.Word.TheVariants as S
use Rattle.act_code.specs.declared.action.Action.{Action}
use Rattle.act_code.specs.declared.action.Action.TheVariants as A
use Rattle.mod_catalog.specs.declared.catalogue.Catalog.{Catalog}
use Rattle.boot_model.specs.{declared.line.CallName.CallName, declared.line.Extra.Extra}
use Rattle.boot_model.specs.declared.line.CallName.TheVariants as C
use Rattle.boot_model.specs.declared.line.Extra.TheVariants as X
use Rattle.store_model.specs.HandleState.{HandleState, HandleService, install_new, install_on, locate_handle, reinstall_interface, uninstall_interface}
use Rattle.boot_model.specs.declared.frame.Register.TheVariants.{HandleIn, Number}
use Rattle.boot_model.specs.Registers.{both, handle_in, number_in}
use Rattle.boot_model.specs.{declared.driver.ProtocolNote.ProtocolNote, DxeMachine.DxeMachine, DxeMachine.DriverFrame}
use Rattle.boot_model.specs.EvaluationBound.{changed_protocols}
use Rattle.boot_model.specs.DxeAction.{DxeReply, Called, own_dxe_effect, dxe_call_where, dxe_refusal, dxe_told, dxe_where, install_answer, install_reply, locate_reply, protocol_sweep, reinstall_answer, reinstall_reply, uninstall_answer, uninstall_reply, with_handles}
use Rattle.dxe_core.specs.{declared.database.fault.HandleFault.HandleFault, Rows.IsRow, declared.reply.Reply.Reply}
use Rattle.dxe_core.specs.declared.database.fault.HandleFault.TheVariants as F
use Rattle.phase_parts.specs.{declared.registers.Writes.Writes, Writes.written}
use Rattle.phase_parts.specs.declared.registers.Writes.TheVariants as W
use Rattle.dxe_core.specs.Answered.{did, refusal, refused, swept, sweep_of, told}
use Rattle.dxe_core.specs.{Event.changes, Event.quiet, Reply.IsReply, Reply.Replies, Services.Services, Services.AreServicesOf}
use Rattle.dxe_core.proofs.Growing as G
use Rattle.dxe_core.proofs.Replying.{changed, none_more, refuses, unchanged}

-- a success that changes the handles
pub tells : (catalog : Catalog) (m : DxeMachine) (frame : DriverFrame) (action : Action) (name : CallName) (extra : Extra) (writes : Writes) (old : Services) (handles : HandleState) (guid : Guid) (reply : Reply)
    → AreServicesOf catalog m old → guid ∷ [] ≡ changed_protocols action → own_dxe_effect catalog m frame action ≡ Called name (dxe_told (with_handles m handles) (written frame.registers writes) extra)
    → reply ≡ did (changes guid) (told name extra writes) → IsReply catalog m frame action reply (G.with_handles old handles)
tells catalog m frame action name extra writes old handles guid reply has protocols e is =
    subst (λ r. IsReply catalog m frame action r (G.with_handles old handles)) (sym is)
    (changed catalog m frame action (did (changes guid) (told name extra writes)) old (G.with_handles old handles) handles m.notes m.requested has refl refl has.notes has.requested refl (none_more m) tt protocols e)

-- one that has notifications to visit
pub sweeps : (catalog : Catalog) (m : DxeMachine) (frame : DriverFrame) (action : Action) (name : CallName) (extra : Extra) (writes : Writes) (guid : Guid) (value handle : ℕ)
    → (old : Services) (handles : HandleState) (protocol : Option Guid) (reply : Reply) → AreServicesOf catalog m old → option_to_list protocol ≡ changed_protocols action
    → own_dxe_effect catalog m frame action ≡ Called name (record (dxe_told (with_handles m handles) (written frame.registers writes) extra) { sweep = Some (protocol_sweep m guid value handle) })
    → reply ≡ did (record quiet { changed = protocol }) (swept name extra writes (sweep_of (G.with_handles old handles) guid value handle)) → IsReply catalog m frame action reply (G.with_handles old handles)
sweeps catalog m frame action name extra writes guid value handle old handles protocol reply has protocols e is =
    let visits : sweep_of (G.with_handles old handles) guid value handle ≡ protocol_sweep m guid value handle =
    ap (λ notes. record { guid = guid; interface = value; handle = handle; note_at = 0; note_to = length notes }) (sym has.notes) in
    subst (λ r. IsReply catalog m frame action r (G.with_handles old handles)) (sym (is ∙ ap (λ sweep. did (record quiet { changed = protocol }) (swept name extra writes sweep)) visits))
    (changed catalog m frame action (did (record quiet { changed = protocol }) (swept name extra writes (protocol_sweep m guid value handle))) old (G.with_handles old handles) handles m.notes m.requested has refl refl has.notes has.requested refl (none_more m) tt protocols e)

-- a fault
pub faulted : {A : Type 0} (catalog : Catalog) (m : DxeMachine) (frame : DriverFrame) (action : Action) (name : CallName) (old : Services) (handles : HandleState)
    → (row : HandleService A) (reply : HandleService A → DxeReply) (fault : HandleFault) (result : Result Reply OutOfMemory)
    → AreServicesOf catalog m old → own_dxe_effect catalog m frame action ≡ Called name (reply row) → ((status : Word) → reply (Err status) ≡ dxe_refusal m frame status)
    → IsRow row old.handles (Err fault) handles → result ≡ refused name fault
    → Replies catalog m frame action result (G.with_handles old handles)
faulted catalog m frame action name old handles row reply F.InvalidParameter result has e tells_of is_row is =
    subst (λ r. Replies catalog m frame action r (G.with_handles old handles)) (sym is)
    (subst (λ hs. IsReply catalog m frame action (refusal name S.InvalidParameter) (G.with_handles old hs)) (sym is_row.1)
    (refuses catalog m frame action (refusal name S.InvalidParameter) old name S.InvalidParameter refl has refl (e ∙ ap (λ r. Called name (reply r)) is_row.0 ∙ ap (λ r. Called name r) (tells_of S.InvalidParameter))))
faulted catalog m frame action name old handles row reply F.NotFound result has e tells_of is_row is =
    subst (λ r. Replies catalog m frame action r (G.with_handles old handles)) (sym is)
    (subst (λ hs. IsReply catalog m frame action (refusal name S.NotFound) (G.with_handles old hs)) (sym is_row.1)
    (refuses catalog m frame action (refusal name S.NotFound) old name S.NotFound refl has refl (e ∙ ap (λ r. Called name (reply r)) is_row.0 ∙ ap (λ r. Called name r) (tells_of S.NotFound))))
faulted catalog m frame action name old handles row reply F.Memory result has e tells_of is_row is =
    subst (λ r. Replies catalog m frame action r (G.with_handles old handles)) (sym is) tt

-- what each action does where its registers hold what it asks for
pub news : (catalog : Catalog) (m : DxeMachine) (frame : DriverFrame) (h v : ℕ) (guid : Guid) (value : ℕ) (old : Services) → AreServicesOf catalog m old
    → Some value ≡ number_in frame.registers v
    → own_dxe_effect catalog m frame (A.DxeInstall 0 h guid v) ≡ Called C.Install (install_answer (install_new old.handles guid value) m frame 0 h guid value)
news catalog m frame h v guid value old has number =
    ap (λ n. dxe_call_where C.Install (both (Some None) n) (install_reply m frame 0 h guid) m frame) (sym number)
    ∙ ap (λ hs. Called C.Install (install_answer (install_new hs guid value) m frame 0 h guid value)) has.handles

abbrev on_handle : ℕ × ℕ → Option ℕ × ℕ
on_handle pair = (Some pair.0, pair.1)

targeted : (on number : Option ℕ) → both (option_map (λ a. Some a) on) number ≡ option_map on_handle (both on number)
targeted None number = refl
targeted (Some a) None = refl
targeted (Some a) (Some b) = refl

pub adds : (catalog : Catalog) (m : DxeMachine) (frame : DriverFrame) (form h v : ℕ) (guid : Guid) (handle value : ℕ) (old : Services) → AreServicesOf catalog m old
    → Some (handle, value) ≡ both (handle_in frame.registers h) (number_in frame.registers v)
    → own_dxe_effect catalog m frame (A.DxeInstall (suc form) h guid v) ≡ Called C.Install (install_answer (install_on old.handles handle guid value) m frame (suc form) h guid value)
adds catalog m frame form h v guid handle value old has args =
    ap (λ given. dxe_call_where C.Install given (install_reply m frame (suc form) h guid) m frame)
    (targeted (handle_in frame.registers h) (number_in frame.registers v) ∙ ap (option_map on_handle) (sym args))
    ∙ ap (λ hs. Called C.Install (install_answer (install_on hs handle guid value) m frame (suc form) h guid value)) has.handles

pub replaces : (catalog : Catalog) (m : DxeMachine) (frame : DriverFrame) (h from to : ℕ) (guid : Guid) (handle old_value new_value : ℕ) (old : Services) → AreServicesOf catalog m old
    → Some (handle, (old_value, new_value)) ≡ both (handle_in frame.registers h) (both (number_in frame.registers from) (number_in frame.registers to))
    → own_dxe_effect catalog m frame (A.DxeReinstall h guid from to)
    ≡ Called C.Reinstall (reinstall_answer (reinstall_interface old.handles handle guid old_value new_value) m frame (protocol_sweep m guid new_value handle))
replaces catalog m frame h from to guid handle old_value new_value old has args =
    ap (λ given. dxe_call_where C.Reinstall given (reinstall_reply m frame guid) m frame) (sym args)
    ∙ ap (λ hs. Called C.Reinstall (reinstall_answer (reinstall_interface hs handle guid old_value new_value) m frame (protocol_sweep m guid new_value handle))) has.handles

pub removes : (catalog : Catalog) (m : DxeMachine) (frame : DriverFrame) (h v : ℕ) (guid : Guid) (handle value : ℕ) (old : Services) → AreServicesOf catalog m old
    → Some (handle, value) ≡ both (handle_in frame.registers h) (number_in frame.registers v)
    → own_dxe_effect catalog m frame (A.DxeUninstall h guid v) ≡ Called C.Uninstall (uninstall_answer (uninstall_interface old.handles handle guid value) m frame)
removes catalog m frame h v guid handle value old has args =
    ap (λ given. dxe_call_where C.Uninstall given (uninstall_reply m frame guid) m frame) (sym args)
    ∙ ap (λ hs. Called C.Uninstall (uninstall_answer (uninstall_interface hs handle guid value) m frame)) has.handles

-- a call whose registers do not hold what it asks for
pub unasked : {A : Type 0} (catalog : Catalog) (m : DxeMachine) (frame : DriverFrame) (action : Action) (name : CallName) (services : Services) (reply : Reply) (asked : Option A) (answer : A → DxeReply)
    → AreServicesOf catalog m services → None ≡ asked → reply ≡ refusal name S.InvalidParameter → own_dxe_effect catalog m frame action ≡ dxe_call_where name asked answer m frame
    → IsReply catalog m frame action reply services
unasked catalog m frame action name services reply asked answer has none is e =
    refuses catalog m frame action reply services name S.InvalidParameter refl has is (e ∙ ap (λ a. dxe_call_where name a answer m frame) (sym none))

pub on_none : (on number : Option ℕ) → None ≡ both on number → None ≡ both (option_map (λ a. Some a) on) number
on_none on number none = sym (targeted on number ∙ ap (option_map on_handle) (sym none))

-- a protocol that is located, or on no handle
locates : (catalog : Catalog) (m : DxeMachine) (frame : DriverFrame) (h v : ℕ) (guid : Guid) (found : Option (ℕ × ℕ)) (services : Services) → AreServicesOf catalog m services → found ≡ locate_handle services.handles guid
    → own_dxe_effect catalog m frame (A.DxeLocate h v guid) ≡ Called C.Locate (dxe_where found (locate_reply m frame h v) m frame S.NotFound)
locates catalog m frame h v guid found services has is =
    ap (λ found. Called C.Locate (dxe_where found (locate_reply m frame h v) m frame S.NotFound)) (ap (λ hs. locate_handle hs guid) has.handles ∙ sym is)

pub located : (catalog : Catalog) (m : DxeMachine) (frame : DriverFrame) (h v : ℕ) (guid : Guid) (handle value : ℕ) (services : Services) (reply : Reply) → AreServicesOf catalog m services → Some (handle, value) ≡ locate_handle services.handles guid
    → reply ≡ told C.Locate (X.Number value) (W.Two (record { r = h; register = HandleIn handle }) (record { r = v; register = Number value })) → IsReply catalog m frame (A.DxeLocate h v guid) reply services
located catalog m frame h v guid handle value services reply has found is =
    subst (λ r. IsReply catalog m frame (A.DxeLocate h v guid) r services) (sym is)
    (unchanged catalog m frame (A.DxeLocate h v guid) (told C.Locate (X.Number value) (W.Two (record { r = h; register = HandleIn handle }) (record { r = v; register = Number value }))) services has refl refl
    (locates catalog m frame h v guid (Some (handle, value)) services has found))

pub unlocated : (catalog : Catalog) (m : DxeMachine) (frame : DriverFrame) (h v : ℕ) (guid : Guid) (services : Services) (reply : Reply) → AreServicesOf catalog m services → None ≡ locate_handle services.handles guid → reply ≡ refusal C.Locate S.NotFound
    → IsReply catalog m frame (A.DxeLocate h v guid) reply services
unlocated catalog m frame h v guid services reply has none is =
    refuses catalog m frame (A.DxeLocate h v guid) reply services C.Locate S.NotFound refl has is (locates catalog m frame h v guid None services has none)

-- the form of an install that is not 0
pub other_form : (P : ℕ → Type 0) (form : ℕ) → (form ≡ 0 → ⊥) → ((n : ℕ) → P (suc n)) → P form
other_form P zero e each = absurd (e refl)
other_form P (suc n) e each = each n

-- a notification more
abbrev pub with_notes : Services → List ProtocolNote → Services
with_notes s notes = record s { notes = notes }

pub notifies : (catalog : Catalog) (m : DxeMachine) (frame : DriverFrame) (guid : Guid) (block : ℕ) (old : Services) (notes : List ProtocolNote) (reply : Reply) → AreServicesOf catalog m old
    → notes ≡ old.notes ++ record { guid = guid; module_number = frame.module_number; block = block } ∷ [] → reply ≡ told C.Notify X.Nothing W.Nothing
    → IsReply catalog m frame (A.DxeNotify guid block) reply (with_notes old notes)
notifies catalog m frame guid block old notes reply has pushed is =
    let note : ProtocolNote = record { guid = guid; module_number = frame.module_number; block = block } in
    subst (λ r. IsReply catalog m frame (A.DxeNotify guid block) r (with_notes old notes)) (sym is)
    (changed catalog m frame (A.DxeNotify guid block) (told C.Notify X.Nothing W.Nothing) old (with_notes old notes) m.handles (m.notes ++ note ∷ []) m.requested has refl has.handles
    (ap (λ ns. ns ++ note ∷ []) has.notes ∙ sym pushed) has.requested refl (none_more m) tt refl refl)
