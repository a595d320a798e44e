-- A step of DXE changes which protocols are on the handles only for that of its event.
use Rattle.std.proofs.Common.{◌≡◌, ℕ, ◌+◌, Bool, true, false, ◌&&◌, ◌||◌, not, cond, List, [], ◌∷◌, Option, Some, None, Ok, Err, refl, sym, ap, ◌∙◌, nat_le, nat_lt, length, subst}
use Rattle.std.specs.{Prelude.⊤, List.list_any}
use Rattle.std.proofs.{lemmas.List.Folds.list_any-append, lemmas.Slice.Eq.bytes_eq-Decides}
use Rattle.pi_base.specs.{declared.guid.Guid.Guid, declared.phase.Phase.TheVariants.Dxe, declared.word.Word.Word}
use Rattle.pi_base.specs.{declared.word.Word.TheVariants.InvalidParameter, declared.word.Word.TheVariants.NotFound, Guids.same_guid}
use Rattle.act_code.specs.declared.action.Action.{Action}
use Rattle.mod_catalog.specs.{declared.catalogue.Catalog.Catalog, declared.catalogue.Part.Part, Parts.part_at}
use Rattle.store_model.specs.declared.interface.Interface.{Interface}
use Rattle.store_model.specs.HandleState.{HandleState, HandleService, change_of, has_protocol, install_interface, is_live, is_on, is_on_with, placed, with_value, without}
use Rattle.boot_model.specs.{declared.driver.Scheduled.Scheduled, Registers.is_success, DxeMachine.DxeMachine, DxeMachine.DriverFrame}
use Rattle.boot_model.specs.declared.phase_end.DxeEnd.TheVariants as DxeEnds
use Rattle.boot_model.specs.DxeAction.{DxeReply, DxeEffect, Wrote, Called, Logged, Skipped, Returned, Own, dxe_effect}
use Rattle.boot_model.specs.DxeStep.{DxeCase, DxeFires, DxeActs, DxeStarts, DxeStops, dxe_case_of, dxe_step, in_dxe_case, protocol_begun, after_dxe_effect, with_action, dxe_action_at, driver_started}
use Rattle.boot_model.specs.EvaluationBound.{changed_protocols, dxe_action_guids, dxe_case_guids, dxe_guids, is_dxe_called}
use Rattle.boot_laws.specs.{ChangedGuids.is_among, EffectForms.EffectHas, DriverEffectForms.DriverRepliesHave}
use Rattle.boot_laws.proofs.DriverEffectForms.{driver_effect_has}

-- an interface of a protocol
abbrev is_of : Guid → Interface → Bool
is_of guid i = same_guid i.guid guid

abbrev HasOf : Guid → List Interface → Bool
HasOf guid is = list_any (is_of guid) is

or_false : (b : Bool) → (b || false) ≡ false → b ≡ false
or_false true h = h
or_false false h = h

right_false : (a b : Bool) → b ≡ false → (a || b) ≡ a
right_false true b h = refl
right_false false b h = h

left_false : (a b : Bool) → a ≡ false → (a || b) ≡ b
left_false true b h = cc
left_false false b h = refl

-- one of another protocol is put among them
placed_by : (b : Bool) (guid : Guid) (new i : Interface) (is : List Interface) → is_of guid new ≡ false → HasOf guid (placed new is) ≡ HasOf guid is
    → HasOf guid (cond b (new ∷ i ∷ is) (i ∷ placed new is)) ≡ HasOf guid (i ∷ is)
placed_by true guid new i is other h = left_false (is_of guid new) (HasOf guid (i ∷ is)) other
placed_by false guid new i is other h = ap (λ b. is_of guid i || b) h

placed_has : (guid : Guid) (new : Interface) (is : List Interface) → is_of guid new ≡ false → HasOf guid (placed new is) ≡ HasOf guid is
placed_has guid new [] other = left_false (is_of guid new) false other
placed_has guid new (i ∷ is) other = placed_by (nat_lt new.handle i.handle) guid new i is other (placed_has guid new is other)

-- one gets another value
valued_by : (b : Bool) (guid : Guid) (test : Interface → Bool) (value : ℕ) (i : Interface) (is : List Interface) → HasOf guid (with_value test value is) ≡ HasOf guid is
    → HasOf guid (cond b (record i { value = value } ∷ is) (i ∷ with_value test value is)) ≡ HasOf guid (i ∷ is)
valued_by true guid test value i is h = refl
valued_by false guid test value i is h = ap (λ b. is_of guid i || b) h

valued_has : (guid : Guid) (test : Interface → Bool) (value : ℕ) (is : List Interface) → HasOf guid (with_value test value is) ≡ HasOf guid is
valued_has guid test value [] = refl
valued_has guid test value (i ∷ is) = valued_by (test i) guid test value i is (valued_has guid test value is)

-- one of another protocol is taken away
without_by : (b : Bool) (guid : Guid) (test : Interface → Bool) (i : Interface) (is : List Interface) → test i ≡ b → ((i : Interface) → test i ≡ true → is_of guid i ≡ false)
    → HasOf guid (without test is) ≡ HasOf guid is → HasOf guid (cond b is (i ∷ without test is)) ≡ HasOf guid (i ∷ is)
without_by true guid test i is e other h = sym (left_false (is_of guid i) (HasOf guid is) (other i e))
without_by false guid test i is e other h = ap (λ b. is_of guid i || b) h

without_has : (guid : Guid) (test : Interface → Bool) (is : List Interface) → ((i : Interface) → test i ≡ true → is_of guid i ≡ false) → HasOf guid (without test is) ≡ HasOf guid is
without_has guid test [] other = refl
without_has guid test (i ∷ is) other = without_by (test i) guid test i is refl other (without_has guid test is other)

both_of : (a b c : Bool) → ((a && b) && c) ≡ true → b ≡ true
both_of true true c h = refl
both_of true false c h = h
both_of false b c h = cc

same_is : (a b : Guid) → same_guid a b ≡ true → a ≡ b
same_is a b h = ap (λ bytes. record { 0 = bytes }) ((bytes_eq-Decides a.0 b.0).0 h)

-- those that a test for a protocol passes are of no other
on_other : (handle : ℕ) (changed : Guid) (value : ℕ) (guid : Guid) (i : Interface) → same_guid changed guid ≡ false → is_on_with handle changed value i ≡ true → is_of guid i ≡ false
on_other handle changed value guid i other h =
    ap (λ g. same_guid g guid) (same_is i.guid changed (both_of _ (same_guid i.guid changed) _ h)) ∙ other

-- a service keeps whether the protocol is on a handle
abbrev Lasts : {A : Type 0} → HandleState → Guid → HandleService A → Type 0
Lasts h guid (Ok pair) = has_protocol pair.1 guid ≡ has_protocol h guid
Lasts h guid (Err status) = ⊤

either_lasts : {A : Type 0} (h : HandleState) (guid : Guid) (b : Bool) (status : Word) (service : HandleService A) → Lasts h guid service → Lasts h guid (cond b (Err status) service)
either_lasts h guid true status service k = tt
either_lasts h guid false status service k = k

found_lasts : {A : Type 0} (h : HandleState) (guid : Guid) (b : Bool) (status : Word) (service : HandleService A) → Lasts h guid service → Lasts h guid (cond b service (Err status))
found_lasts h guid true status service k = k
found_lasts h guid false status service k = tt

install_lasts : (h : HandleState) (target : Option ℕ) (changed : Guid) (value : ℕ) (guid : Guid) → same_guid changed guid ≡ false → Lasts h guid (install_interface h target changed value)
install_lasts h None changed value guid other =
    list_any-append (is_of guid) h.interfaces (record { handle = h.made + 1; guid = changed; value = value } ∷ [])
    ∙ right_false (HasOf guid h.interfaces) (same_guid changed guid || false) (left_false (same_guid changed guid) false other)
install_lasts h (Some handle) changed value guid other =
    let new : Interface = record { handle = handle; guid = changed; value = value } in
    either_lasts h guid (not (is_live h handle) || list_any (is_on handle changed) h.interfaces) InvalidParameter (Ok (handle, record h { interfaces = placed new h.interfaces })) (placed_has guid new h.interfaces other)

change_lasts : (h : HandleState) (handle : ℕ) (changed : Guid) (value : ℕ) (guid : Guid) (is : List Interface) → HasOf guid is ≡ HasOf guid h.interfaces → Lasts h guid (change_of h handle changed value is)
change_lasts h handle changed value guid is same =
    either_lasts h guid (not (is_live h handle)) InvalidParameter (cond (list_any (is_on_with handle changed value) h.interfaces) (Ok (tt, record h { interfaces = is })) (Err NotFound))
    (found_lasts h guid (list_any (is_on_with handle changed value) h.interfaces) NotFound (Ok (tt, record h { interfaces = is })) same)

-- a reply keeps it, unless it succeeds and the protocol is among these
abbrev Keeps : DxeMachine → Guid → List Guid → DxeReply → Type 0
Keeps m guid changed reply = is_among guid (cond (is_success reply.status) changed []) ≡ false → has_protocol reply.machine.handles guid ≡ has_protocol m.handles guid

abbrev EffectKeeps : DxeMachine → Guid → List Guid → DxeEffect → Type 0
EffectKeeps m guid changed does = EffectHas (Keeps m guid changed) (λ registers. ⊤) does

replies_keep : (catalog : Catalog) (m : DxeMachine) (guid : Guid) (frame : DriverFrame) → DriverRepliesHave catalog m frame (λ action reply. Keeps m guid (changed_protocols action) reply)
replies_keep catalog m guid frame = record {
  refused = λ action status none. refl;
  peek = λ v n bytes none. refl;
  install = λ form h changed v target value handle new registers extra e none.
      subst (λ x. Lasts m.handles guid x) e (install_lasts m.handles target changed value guid (or_false (same_guid changed guid) none));
  reinstall = λ h changed old new handle before after done handles e none.
      subst (λ x. Lasts m.handles guid x) e (change_lasts m.handles handle changed before guid _ (valued_has guid (is_on_with handle changed before) after m.handles.interfaces));
  uninstall = λ h changed v handle value done handles e none.
      let gone = without_has guid (is_on_with handle changed value) m.handles.interfaces (λ i is. on_other handle changed value guid i (or_false (same_guid changed guid) none) is) in
      subst (λ x. Lasts m.handles guid x) e (change_lasts m.handles handle changed value guid _ gone);
  locate = λ h v changed found e none. refl;
  notify = λ changed block none. refl;
  schedule = λ name number e none. refl;
  process = λ v volume new none. refl;
}

effect_keeps : (catalog : Catalog) (m : DxeMachine) (guid : Guid) (frame : DriverFrame) (action : Action) → EffectKeeps m guid (changed_protocols action) (dxe_effect catalog m frame action)
effect_keeps catalog m guid frame action = driver_effect_has catalog m frame (λ own reply. Keeps m guid (changed_protocols own) reply) (replies_keep catalog m guid frame) action

-- the machine behind an effect
effect_lasts : (m : DxeMachine) (guid : Guid) (changed : List Guid) (frame : DriverFrame) (below : List DriverFrame) (e : DxeEffect) → EffectKeeps m guid changed e → is_among guid (cond (is_dxe_called e) changed []) ≡ false
    → has_protocol (after_dxe_effect m frame below e).handles guid ≡ has_protocol m.handles guid
effect_lasts m guid changed frame below (Wrote registers status) k none = refl
effect_lasts m guid changed frame below (Called name reply) k none = k none
effect_lasts m guid changed frame below (Logged text) k none = refl
effect_lasts m guid changed frame below (Skipped n) k none = refl
effect_lasts m guid changed frame below (Returned status) k none = refl
effect_lasts m guid changed frame below (Own own) k none = absurd own

fired_lasts : (m : DxeMachine) (guid : Guid) (b : Bool) (one other : DxeMachine) → one.handles ≡ m.handles → other.handles ≡ m.handles → has_protocol (cond b one other).handles guid ≡ has_protocol m.handles guid
fired_lasts m guid true one other h k = ap (λ s. has_protocol s guid) h
fired_lasts m guid false one other h k = ap (λ s. has_protocol s guid) k

acted_lasts : (m : DxeMachine) (guid : Guid) (b : Bool) (one other : DxeMachine) (changed : List Guid) → one.handles ≡ m.handles → (is_among guid changed ≡ false → has_protocol other.handles guid ≡ has_protocol m.handles guid)
    → is_among guid (cond b [] changed) ≡ false → has_protocol (cond b one other).handles guid ≡ has_protocol m.handles guid
acted_lasts m guid true one other changed h k none = ap (λ s. has_protocol s guid) h
acted_lasts m guid false one other changed h k none = k none

started_lasts : (catalog : Catalog) (m : DxeMachine) (next : Scheduled) (queue : List Scheduled) (part : Option Part) → (driver_started catalog m next queue part).handles ≡ m.handles
started_lasts catalog m next queue None = refl
started_lasts catalog m next queue (Some part) = refl

case_lasts : (catalog : Catalog) (fuel : ℕ) (m : DxeMachine) (guid : Guid) (case : DxeCase) → is_among guid (dxe_case_guids catalog fuel m case) ≡ false
    → has_protocol (in_dxe_case catalog fuel m case).handles guid ≡ has_protocol m.handles guid
case_lasts catalog fuel m guid (DxeFires note sweep frame below) none =
    fired_lasts m guid (nat_le 64 (length m.frames)) (record m { ended = Some DxeEnds.Deep }) (protocol_begun catalog m note sweep frame below) refl refl
case_lasts catalog fuel m guid (DxeActs frame below) none =
    let action = dxe_action_at catalog frame in
    let does : DxeEffect = dxe_effect catalog (with_action m) frame action in
    acted_lasts m guid (nat_le fuel m.actions) (record m { ended = Some DxeEnds.Spent }) (after_dxe_effect (with_action m) frame below does) (dxe_action_guids catalog (with_action m) frame action) refl
    (effect_lasts (with_action m) guid (changed_protocols action) frame below does (effect_keeps catalog (with_action m) guid frame action)) none
case_lasts catalog fuel m guid (DxeStarts next queue) none = ap (λ s. has_protocol s guid) (started_lasts catalog m next queue (part_at Dxe catalog next.module_number))
case_lasts catalog fuel m guid DxeStops none = refl

pub protocols_change : (catalog : Catalog) (fuel : ℕ) (m : DxeMachine) (guid : Guid) → is_among guid (dxe_guids catalog fuel m) ≡ false → has_protocol (dxe_step catalog fuel m).handles guid ≡ has_protocol m.handles guid
protocols_change catalog fuel m guid none = case_lasts catalog fuel m guid (dxe_case_of catalog m) none
