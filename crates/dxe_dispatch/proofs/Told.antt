-- The queue, told of the protocol that an event changed and of the driver that it requested.
use Rattle.std.proofs.Common.{◌≡◌, ◌≤◌, ℕ, ◌+◌, Bool, true, false, ◌||◌, [], ◌++◌, Some, None, refl, sym, ap, ◌∙◌, subst, arith, IfSome, sum_by, option_to_list, append-nil}
use Rattle.std.proofs.lemmas.List.Sums.{sum_by-cons}
use Rattle.pi_base.specs.{declared.guid.Guid.Guid, Guids.same_guid}
use Rattle.mod_catalog.specs.declared.catalogue.Catalog.{Catalog}
use Rattle.store_model.specs.HandleState.{HandleState, has_protocol}
use Rattle.boot_model.specs.{DxeMachine.DxeMachine, EvaluationBound.dxe_asked}
use Rattle.dxe_core.specs.{Event.IsDiscoveredDriver, declared.event.Event.Event}
use Rattle.dxe_dispatch.specs.Queue.{HasProtocol, HasRequest, IsQueueOf, Queue, Requests}
use Rattle.dxe_dispatch.specs.Events.{HasEvent, HasHandles}
use Rattle.dxe_dispatch.proofs.Standing.{queue_same}

right_false : (b : Bool) → b ≡ false → (b || false) ≡ false
right_false true h = h
right_false false h = refl

-- one protocol differs at most
pub has_protocol_now : (handles : HandleState) (guid : Guid) (there : Bool) (m later : DxeMachine) → there ≡ has_protocol handles guid → HasHandles handles (Some guid) m later → HasProtocol guid there m later
has_protocol_now handles guid there m later is has = record {
  here = ap (λ h. has_protocol h guid) has.same ∙ sym is;
  others = λ other apart. has.others other (right_false (same_guid guid other) apart);
  discovered = has.discovered;
  requested = has.requested;
  scheduled = has.scheduled;
  started = has.started;
}

-- none differs
pub none_changed : (catalog : Catalog) (queue : Queue) (handles : HandleState) (m later : DxeMachine) → IsQueueOf catalog m queue → HasHandles handles None m later → IsQueueOf catalog later queue
none_changed catalog queue handles m later is has = queue_same catalog queue m later is has.discovered has.requested has.scheduled has.started (λ guid. has.others guid refl)

-- the machine with the handles alone
abbrev pub with_handles : DxeMachine → HandleState → DxeMachine
with_handles m handles = record m { handles = handles }

pub has_handles : (handles : HandleState) (catalog : Catalog) (event : Event) (m later : DxeMachine) → HasEvent handles catalog event m later → HasHandles handles event.changed m (with_handles m handles)
has_handles handles catalog event m later has = record {
  same = refl;
  others = λ guid none. ap (λ h. has_protocol h guid) (sym has.same) ∙ has.others guid none;
  discovered = refl;
  requested = refl;
  scheduled = refl;
  started = refl;
}

-- and then the driver that was requested
pub request_told : (catalog : Catalog) (queue grown : Queue) (handles : HandleState) (event : Event) (number : ℕ) (m later : DxeMachine) → event.requested ≡ Some number → HasEvent handles catalog event m later
    → IsQueueOf catalog (with_handles m handles) queue → Requests catalog queue number grown → IsQueueOf catalog later grown
request_told catalog queue grown handles event number m later is has here requests =
    let has_request : HasRequest catalog number (with_handles m handles) later = record {
      known = subst (λ asked. IfSome asked (IsDiscoveredDriver catalog m)) is has.in_order;
      requested = has.requested ∙ ap (λ asked. m.requested ++ option_to_list asked) is;
      discovered = has.discovered;
      scheduled = has.scheduled;
      started = has.started;
      handles = has.same;
    } in
    requests (with_handles m handles) later here has_request

-- or none
pub none_told : (catalog : Catalog) (queue : Queue) (handles : HandleState) (event : Event) (m later : DxeMachine) → event.requested ≡ None → HasEvent handles catalog event m later → IsQueueOf catalog (with_handles m handles) queue
    → IsQueueOf catalog later queue
none_told catalog queue handles event m later none has here =
    queue_same catalog queue (with_handles m handles) later here has.discovered (has.requested ∙ ap (λ asked. m.requested ++ option_to_list asked) none ∙ append-nil m.requested) has.scheduled has.started
    (λ guid. ap (λ h. has_protocol h guid) has.same)

-- the sum over the one protocol
pub one_asked : (catalog : Catalog) (m : DxeMachine) (guid : Guid) (before now : ℕ) → now ≤ before + dxe_asked catalog m guid → now ≤ before + sum_by (dxe_asked catalog m) (option_to_list (Some guid))
one_asked catalog m guid before now few = let one = sum_by-cons (dxe_asked catalog m) guid [] in sums before now _ _ _ one few
  where
    sums : (before now sum one rest : ℕ) → sum ≡ one + rest → now ≤ before + one → now ≤ before + sum
    sums before now sum one rest is few = omega (arith, is, few)
