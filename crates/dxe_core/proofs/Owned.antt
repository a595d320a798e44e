-- What an action of DXE's own, of the top frame, leaves.
use Rattle.std.proofs.Common.{◌≡◌, ℕ, List, [], ◌∷◌, ◌++◌, refl, sym, ap, ◌∙◌, subst, Some, None, if◌then◌else◌, option_to_list}
use Rattle.act_code.specs.declared.action.Action.{Action}
use Rattle.mod_catalog.specs.declared.catalogue.Catalog.{Catalog}
use Rattle.boot_model.specs.{declared.driver.ProtocolSweep.ProtocolSweep, declared.line.Line.Line, Discovery.discovery_lines}
use Rattle.boot_model.specs.declared.line.Line.TheVariants as L
use Rattle.boot_model.specs.EvaluationBound.{changed_protocols, dxe_action_guids, is_dxe_called}
use Rattle.boot_model.specs.DxeAction.{Called, DxeEffect, DxeReply, dxe_effect, own_dxe_effect}
use Rattle.boot_model.specs.{DxeMachine.DriverFrame, DxeMachine.DxeMachine, DxeStep.after_dxe_call, DxeStep.after_dxe_effect}
use Rattle.dxe_core.specs.{Reply.IsReply, Reply.reply_in, Services.Services, declared.reply.Reply.Reply, Event.EventLeaves, Parts.acted_to}
use Rattle.phase_parts.specs.{Alike.AreAlike, Deed.deed, Frames.answered, Frames.top_of, Writes.written}
use Rattle.dxe_core.specs.Standing.{DxeCore, IsCoreOf}
use Rattle.dxe_core.proofs.Fired.{same_services}

-- the frame that was found is the top one
same_some : {A : Type 0} (a b : A) → Some a ≡ Some b → a ≡ b
same_some a b e = cc

pub top_is : (found top : DriverFrame) (below frames of : List DriverFrame) → Some found ≡ top_of frames → of ≡ frames → of ≡ top ∷ below → found ≡ top
top_is found top below frames of e same is = same_some found top (e ∙ ap top_of (sym same ∙ is))

abbrev pub call_line : Reply → Line
call_line reply = L.Call reply.name reply.status reply.extra

-- a service replied to the top frame
pub record Replied (catalog : Catalog) (m : DxeMachine) (top : DriverFrame) (below : List DriverFrame) (action : Action) (reply : Reply) (core : DxeCore) : Type 0 where
  pub later : DxeMachine
  pub left : EventLeaves catalog reply.event m (acted_to catalog m top below action)
  pub changed : option_to_list reply.event.changed ≡ dxe_action_guids catalog m top action
  pub store : (acted_to catalog m top below action).store ≡ m.store
  pub fields : IsCoreOf catalog core (acted_to catalog m top below action)
  pub all : core.services.order.volumes ≡ m.discovered ++ left.volumes
  pub printed : (acted_to catalog m top below action).lines ≡ m.lines ++ (call_line reply ∷ discovery_lines left.volumes)

-- the machine behind the reply
abbrev to : DxeMachine → DriverFrame → List DriverFrame → Reply → List ℕ → DxeMachine
to later top below reply volumes = after_dxe_call top below (call_line reply) (reply_in reply top.registers later volumes)

reply_core : (catalog : Catalog) (m : DxeMachine) (top : DriverFrame) (below : List DriverFrame) (action : Action) (reply : Reply) (core : DxeCore) (services : Services) (frames : List DriverFrame)
    → (r : IsReply catalog m top action reply services) → IsCoreOf catalog core m → frames ≡ answered top (written top.registers reply.writes) reply.status reply.sweep ∷ below
    → IsCoreOf catalog (record core { frames = frames; services = services }) (to r.later top below reply r.left.volumes)
reply_core catalog m top below action reply core services frames r of is = record {
  frames = sym is;
  services = same_services catalog r.later (to r.later top below reply r.left.volumes) services refl refl refl refl r.has;
  actions = r.rest.actions ∙ of.actions;
  running = r.rest.ended ∙ of.running;
}

pub replied : (law : AreAlike ProtocolSweep DxeReply ⊥) (catalog : Catalog) (m : DxeMachine) (found top : DriverFrame) (below : List DriverFrame) (action : Action) (reply : Reply) (core : DxeCore) (services : Services) (frames : List DriverFrame)
    → found ≡ top → deed top action ≡ None → IsReply catalog m found action reply services → IsCoreOf catalog core m → frames ≡ answered top (written top.registers reply.writes) reply.status reply.sweep ∷ below
    → Replied catalog m top below action reply (record core { frames = frames; services = services })
replied law catalog m found top below action reply core services frames same own given of is =
    let r = subst (λ f. IsReply catalog m f action reply services) same given in
    let effect_is : dxe_effect catalog m top action ≡ Called reply.name (reply_in reply top.registers r.later r.left.volumes) = law.one (own_dxe_effect catalog m top) top action own ∙ r.does in
    let leads : acted_to catalog m top below action ≡ to r.later top below reply r.left.volumes = ap (after_dxe_effect m top below) effect_is in
    record {
      later = r.later;
      left = record {
        volumes = r.left.volumes;
        count = r.left.count;
        discovered = ap (λ (x : DxeMachine). x.discovered) leads ∙ r.left.discovered;
        scheduled = ap (λ (x : DxeMachine). x.scheduled) leads ∙ r.left.scheduled;
        started = ap (λ (x : DxeMachine). x.started) leads ∙ r.left.started;
        requested = ap (λ (x : DxeMachine). x.requested) leads ∙ r.left.requested;
        in_order = r.left.in_order;
      };
      changed = r.changed ∙ ap (λ (has : DxeEffect). if is_dxe_called has then changed_protocols action else []) (sym effect_is);
      store = ap (λ (x : DxeMachine). x.store) leads ∙ r.rest.store;
      fields = subst (IsCoreOf catalog (record core { frames = frames; services = services })) (sym leads) (reply_core catalog m top below action reply core services frames r of is);
      all = r.has.order.volumes_are ∙ r.left.discovered;
      printed = ap (λ (x : DxeMachine). x.lines) leads ∙ ap (λ lines. lines ++ (call_line reply ∷ discovery_lines r.left.volumes)) r.rest.lines;
    }
