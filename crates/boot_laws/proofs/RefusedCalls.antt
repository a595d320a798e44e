-- A refused reply is a refusal and nothing else, so the machine behind it is the machine before it.
use Rattle.std.proofs.Common.{◌≡◌, ℕ, ◌+◌, Bool, true, false, cond, List, [], ◌∷◌, ◌++◌, refl, sym, ap, subst, ◌≢◌, nat_le}
use Rattle.std.specs.Prelude.{⊤}
use Rattle.pi_base.specs.{declared.word.Word.Word, declared.word.Word.TheVariants.Success, declared.word.Word.TheVariants.AlreadyStarted}
use Rattle.act_code.specs.declared.action.Action.{Action}
use Rattle.mod_catalog.specs.{declared.catalogue.Catalog.Catalog, Parts.has_number}
use Rattle.store_model.specs.StoreState.{StoreState}
use Rattle.boot_model.specs.declared.frame.Register.{Register}
use Rattle.boot_model.specs.declared.line.CallName.TheVariants as C
use Rattle.boot_model.specs.declared.line.Extra.TheVariants as X
use Rattle.boot_model.specs.declared.line.Line.TheVariants as L
use Rattle.boot_model.specs.PeiMachine.{PeiMachine, Frame, printed}
use Rattle.boot_model.specs.PeiAction.{Reply, Effect, Wrote, Called, Own, Shadowed, Logged, Skipped, Returned, effect, refusal}
use Rattle.boot_model.specs.PeiStep.{in_case, action_at, after_effect, past}
use Rattle.boot_laws.specs.RefusedCalls.{HasStoreOf, IsRefusedCall, LeavesIfRefused, RefusedPeiCallsChangeNothing}
use Rattle.boot_laws.specs.EffectForms.{EffectHas, RepliesHave}
use Rattle.boot_laws.proofs.EffectForms.{effect_has, any_writes}

-- a reply with another status than Success is a refusal
abbrev RefusedIs : StoreState → List Register → Reply → Type 0
RefusedIs s registers reply = reply.status ≢ Success → reply ≡ refusal s registers reply.status

-- each reply of a service that succeeds has the status Success
replies_are : (s : StoreState) (frame : Frame) → RepliesHave s frame (λ action reply. RefusedIs s frame.registers reply)
replies_are s frame = record {
  refused = λ action status other never. refl;
  pool = λ r size made new e never. absurd (never refl);
  store = λ p offset bytes to new held e never. absurd (never refl);
  peek = λ v n bytes never. absurd (never refl);
  desc = λ d kind guid arg of made new e f never. absurd (never refl);
  install = λ list found sweep new e f never. absurd (never refl);
  reinstall = λ old new pair sweep after e f never. absurd (never refl);
  notify = λ list found sweep new e f never. absurd (never refl);
  locate = λ d v guid instance found e never. absurd (never refl);
  hob = λ kind body hob address new e f never. absurd (never refl);
  memory = λ begin len span done new e f never. absurd (never refl);
  pages = λ r memory_type count address new e never. absurd (never refl);
  mode = λ r never. absurd (never refl);
  set_mode = λ form r mode small never. absurd (never refl);
}

abbrev EffectIs : StoreState → Frame → Effect → Type 0
EffectIs s frame does = EffectHas (RefusedIs s frame.registers) (λ registers. ⊤) does

effect_is : (s : StoreState) (frame : Frame) (action : Action) → EffectIs s frame (effect s frame action)
effect_is s frame action = effect_has s frame (λ _ reply. RefusedIs s frame.registers reply) (λ _ registers. ⊤) (any_writes s frame) (replies_are s frame) action

-- the machine with the action counted
abbrev counted : PeiMachine → PeiMachine
counted m = record m { actions = m.actions + 1 }

to_end : (xs : List ℕ) → xs ++ [] ≡ xs
to_end [] = refl
to_end (x ∷ xs) = ap (λ l. x ∷ l) (to_end xs)

same_store : (s : StoreState) → HasStoreOf s s
same_store s = record { hobs = refl; ppis = refl; callbacks = refl; dispatches = refl; queue = refl; others = refl }

-- behind a refusal
after_refusal : (catalog : Catalog) (m : PeiMachine) (frame : Frame) (below : List Frame) (name : _) (status : Word)
    → IsRefusedCall m frame below name status (after_effect catalog (counted m) frame below (Called name (refusal m.store frame.registers status)))
after_refusal catalog m frame below name status = record {
  store = same_store m.store;
  volumes = to_end m.reported;
  starts = (refl, refl, refl, refl);
  sweep = refl;
  registers = refl;
  counted = refl;
  line = refl;
  goes_on = refl;
}

-- behind a second registration for shadow
after_shadow : (m : PeiMachine) (frame : Frame) (below : List Frame) (b : Bool) (other : PeiMachine) → b ≡ true
    → IsRefusedCall m frame below C.Shadow AlreadyStarted
    (cond b (record (printed (counted m) (L.Call C.Shadow AlreadyStarted X.Nothing ∷ [])) { frames = record (past frame 0) { last = AlreadyStarted } ∷ below }) other)
after_shadow m frame below true other e = record {
  store = same_store m.store;
  volumes = refl;
  starts = (refl, refl, refl, refl);
  sweep = refl;
  registers = refl;
  counted = refl;
  line = refl;
  goes_on = refl;
}
after_shadow m frame below false other e = cc

leaves : (catalog : Catalog) (m : PeiMachine) (frame : Frame) (below : List Frame) (does : Effect) → EffectIs m.store frame does → LeavesIfRefused m frame below does (after_effect catalog (counted m) frame below does)
leaves catalog m frame below (Called name reply) is = λ other.
    subst (λ (r : Reply). IsRefusedCall m frame below name reply.status (after_effect catalog (counted m) frame below (Called name r))) (sym (is other)) (after_refusal catalog m frame below name reply.status)
leaves catalog m frame below (Own Shadowed) is = λ there. after_shadow m frame below (has_number m.shadows frame.module_number) _ there
leaves catalog m frame below (Wrote registers status) is = tt
leaves catalog m frame below (Logged text) is = tt
leaves catalog m frame below (Skipped n) is = tt
leaves catalog m frame below (Returned status) is = tt

unspent : (m one other : PeiMachine) (frame : Frame) (below : List Frame) (does : Effect) (b : Bool) → b ≡ false → LeavesIfRefused m frame below does other → LeavesIfRefused m frame below does (cond b one other)
unspent m one other frame below does true e h = cc
unspent m one other frame below does false e h = h

pub refused_pei_calls_change_nothing : RefusedPeiCallsChangeNothing
refused_pei_calls_change_nothing catalog fuel m frame below case fuelled =
    let does : Effect = effect m.store frame (action_at catalog frame) in
    let left = leaves catalog m frame below does (effect_is m.store frame (action_at catalog frame)) in
    subst (λ c. LeavesIfRefused m frame below does (in_case catalog fuel m c)) (sym case) (unspent m _ _ frame below does (nat_le fuel m.actions) fuelled left)
