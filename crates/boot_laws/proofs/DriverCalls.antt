-- What the calls of DXE keep of the store, the requests, the lines and the actions, and that a refused one changes nothing.
use Rattle.std.proofs.Common.{◌≡◌, ℕ, List, [], ◌∷◌, ◌++◌, refl, ap, ◌∙◌, ◌≢◌}
use Rattle.std.specs.Prelude.{⊤}
use Rattle.pi_base.specs.{declared.word.Word.Word, declared.word.Word.TheVariants.Success}
use Rattle.act_code.specs.declared.action.Action.{Action}
use Rattle.mod_catalog.specs.declared.catalogue.Catalog.{Catalog}
use Rattle.boot_model.specs.DxeMachine.{DxeMachine, DriverFrame}
use Rattle.boot_model.specs.DxeAction.{DxeReply, DxeEffect, Wrote, Called, Logged, Skipped, Returned, Own, dxe_effect, dxe_refusal}
use Rattle.boot_laws.specs.DriverSteps.{IsWithoutEffect, BeginsWith, ChangesNothingIfRefused, RefusedCallsChangeNothing}
use Rattle.boot_laws.specs.{EffectForms.EffectHas, DriverEffectForms.DriverRepliesHave}
use Rattle.boot_laws.proofs.DriverEffectForms.{driver_effect_has}

-- what an answer keeps
pub record KeepsMost (m : DxeMachine) (frame : DriverFrame) (reply : DxeReply) : Type 0 where
  pub store : reply.machine.store ≡ m.store
  pub lines : reply.machine.lines ≡ m.lines
  pub actions : reply.machine.actions ≡ m.actions
  pub requested : BeginsWith m.requested reply.machine.requested
  pub refused : reply.status ≢ Success → IsWithoutEffect m frame reply

pub to_end : (xs : List ℕ) → xs ≡ xs ++ []
to_end [] = refl
to_end (x ∷ xs) = ap (λ l. x ∷ l) (to_end xs)

refusal : (m : DxeMachine) (frame : DriverFrame) (status : Word) → KeepsMost m frame (dxe_refusal m frame status)
refusal m frame status = record { store = refl; lines = refl; actions = refl; requested = ([], to_end m.requested); refused = λ _. record { machine = refl; registers = refl; sweep = refl; volumes = refl } }

-- an answer with success
done : (m : DxeMachine) (frame : DriverFrame) (reply : DxeReply)
    → reply.status ≡ Success → reply.machine.store ≡ m.store → reply.machine.lines ≡ m.lines → reply.machine.actions ≡ m.actions → reply.machine.requested ≡ m.requested
    → KeepsMost m frame reply
done m frame reply status store lines actions requested = record { store = store; lines = lines; actions = actions; requested = ([], requested ∙ to_end m.requested); refused = λ never. absurd (never status) }

abbrev pub EffectKeeps : DxeMachine → DriverFrame → DxeEffect → Type 0
EffectKeeps m frame does = EffectHas (KeepsMost m frame) (λ registers. ⊤) does

replies_keep : (catalog : Catalog) (m : DxeMachine) (frame : DriverFrame) → DriverRepliesHave catalog m frame (λ action reply. KeepsMost m frame reply)
replies_keep catalog m frame = record {
  refused = λ action status. refusal m frame status;
  peek = λ v n bytes. done m frame _ refl refl refl refl refl;
  install = λ form h guid v target value handle new registers extra e. done m frame _ refl refl refl refl refl;
  reinstall = λ h guid old new handle before after none handles e. done m frame _ refl refl refl refl refl;
  uninstall = λ h guid v handle value none handles e. done m frame _ refl refl refl refl refl;
  locate = λ h v guid found e. done m frame _ refl refl refl refl refl;
  notify = λ guid block. done m frame _ refl refl refl refl refl;
  schedule = λ name number e. record { store = refl; lines = refl; actions = refl; requested = (number ∷ [], refl); refused = λ never. absurd (never refl) };
  process = λ v volume new. done m frame _ refl refl refl refl refl;
}

pub effect_keeps : (catalog : Catalog) (m : DxeMachine) (frame : DriverFrame) (action : Action) → EffectKeeps m frame (dxe_effect catalog m frame action)
effect_keeps catalog m frame action = driver_effect_has catalog m frame (λ _ reply. KeepsMost m frame reply) (replies_keep catalog m frame) action

refused_of : (m : DxeMachine) (frame : DriverFrame) (e : DxeEffect) → EffectKeeps m frame e → ChangesNothingIfRefused m frame e
refused_of m frame (Called name reply) k = k.refused
refused_of m frame (Wrote registers status) k = tt
refused_of m frame (Logged text) k = tt
refused_of m frame (Skipped n) k = tt
refused_of m frame (Returned status) k = tt
refused_of m frame (Own own) k = tt

pub refused_calls_change_nothing : RefusedCallsChangeNothing
refused_calls_change_nothing catalog m frame action = refused_of m frame (dxe_effect catalog m frame action) (effect_keeps catalog m frame action)
