-- What a service answers is the machine's reply, with the machine behind it.
use Rattle.std.proofs.Common.{◌≡◌, ℕ, false, List, [], ◌++◌, None, refl, ap, sym, subst, IfSome, if◌then◌else◌, option_to_list, append-nil}
use Rattle.pi_base.specs.declared.word.Word.{Word}
use Rattle.act_code.specs.declared.action.Action.{Action}
use Rattle.mod_catalog.specs.declared.catalogue.Catalog.{Catalog}
use Rattle.boot_model.specs.{declared.line.CallName.CallName, declared.driver.ProtocolNote.ProtocolNote}
use Rattle.store_model.specs.HandleState.{HandleState}
use Rattle.boot_model.specs.{DxeMachine.DxeMachine, DxeMachine.DriverFrame, EvaluationBound.changed_protocols, Registers.is_success}
use Rattle.boot_model.specs.DxeAction.{Called, own_dxe_effect, dxe_refusal}
use Rattle.dxe_core.specs.{declared.event.Event.Event, declared.reply.Reply.Reply, Answered.refusal, Order.IsOrderOf}
use Rattle.dxe_core.specs.Event.{EventLeaves, IsDiscoveredDriver, quiet}
use Rattle.dxe_core.specs.Reply.{IsReply, changed_by, reply_in}
use Rattle.dxe_core.specs.Services.{Services, AreServicesOf, AreFlags}

-- the machine with other handles, notifications and requests
abbrev pub with_others : DxeMachine → HandleState → List ProtocolNote → List ℕ → DxeMachine
with_others m handles notes requested = record m { handles = handles; notes = notes; requested = requested }

-- an event that discovers no volume
abbrev leaves_volumes : (catalog : Catalog) (m : DxeMachine) (handles : HandleState) (notes : List ProtocolNote) (requested : List ℕ) (event : Event) → event.discovered ≡ 0 → requested ≡ m.requested ++ option_to_list event.requested → IfSome event.requested (IsDiscoveredDriver catalog m)
    → EventLeaves catalog event m (with_others m handles notes requested)
leaves_volumes catalog m handles notes requested event none grown known = record {
  volumes = [];
  count = none;
  discovered = sym (append-nil m.discovered);
  scheduled = sym (append-nil m.scheduled);
  started = refl;
  requested = grown;
  in_order = known;
}

-- nothing is requested
pub none_more : (m : DxeMachine) → m.requested ≡ m.requested ++ option_to_list None
none_more m = sym (append-nil m.requested)

-- a reply that changes no more than the handles, the notifications and the requests
pub changed : (catalog : Catalog) (m : DxeMachine) (frame : DriverFrame) (action : Action) (reply : Reply) (old new : Services)
    → (handles : HandleState) (notes : List ProtocolNote) (requested : List ℕ)
    → AreServicesOf catalog m old → new.order ≡ old.order → handles ≡ new.handles → notes ≡ new.notes → AreFlags requested new.requested
    → reply.event.discovered ≡ 0 → requested ≡ m.requested ++ option_to_list reply.event.requested → IfSome reply.event.requested (IsDiscoveredDriver catalog m)
    → option_to_list reply.event.changed ≡ changed_by action reply.status
    → own_dxe_effect catalog m frame action ≡ Called reply.name (reply_in reply frame.registers (with_others m handles notes requested) [])
    → IsReply catalog m frame action reply new
changed catalog m frame action reply old new handles notes requested has same handles_are notes_are flags none grown known protocols e = record {
  later = with_others m handles notes requested;
  left = leaves_volumes catalog m handles notes requested reply.event none grown known;
  changed = protocols;
  does = e;
  has = record { handles = handles_are; notes = notes_are; order = subst (λ order. IsOrderOf catalog m.discovered order) (sym same) has.order; requested = flags };
  rest = record { store = refl; actions = refl; lines = refl; ended = refl };
}

-- a reply that changes nothing
pub unchanged : (catalog : Catalog) (m : DxeMachine) (frame : DriverFrame) (action : Action) (reply : Reply) (services : Services)
    → AreServicesOf catalog m services → reply.event ≡ quiet → [] ≡ changed_by action reply.status → own_dxe_effect catalog m frame action ≡ Called reply.name (reply_in reply frame.registers m [])
    → IsReply catalog m frame action reply services
unchanged catalog m frame action reply services has none protocols e =
    changed catalog m frame action reply services services m.handles m.notes m.requested has refl has.handles has.notes has.requested (ap (λ (event : Event). event.discovered) none)
    (subst (λ (event : Event). m.requested ≡ m.requested ++ option_to_list event.requested) (sym none) (none_more m)) (subst (λ (event : Event). IfSome event.requested (IsDiscoveredDriver catalog m)) (sym none) tt)
    (subst (λ (event : Event). option_to_list event.changed ≡ changed_by action reply.status) (sym none) protocols) e

-- a call that is refused changes no protocol
pub none_changed : (action : Action) (status : Word) → is_success status ≡ false → [] ≡ changed_by action status
none_changed action status refused = sym (ap (λ b. if b then changed_protocols action else []) refused)

-- a refusal
pub refuses : (catalog : Catalog) (m : DxeMachine) (frame : DriverFrame) (action : Action) (reply : Reply) (services : Services) (name : CallName) (status : Word) → is_success status ≡ false
    → AreServicesOf catalog m services → reply ≡ refusal name status → own_dxe_effect catalog m frame action ≡ Called name (dxe_refusal m frame status)
    → IsReply catalog m frame action reply services
refuses catalog m frame action reply services name status refused has is e =
    subst (λ r. IsReply catalog m frame action r services) (sym is) (unchanged catalog m frame action (refusal name status) services has refl (none_changed action status refused) e)
