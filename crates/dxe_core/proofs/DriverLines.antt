-- A service of DXE prints nothing: its line comes behind it.
use Rattle.std.proofs.Common.{◌≡◌, List, [], ◌∷◌, ◌++◌, refl, sym, ap, append-nil}
use Rattle.std.specs.Prelude.{⊤}
use Rattle.act_code.specs.declared.action.Action.{Action}
use Rattle.mod_catalog.specs.declared.catalogue.Catalog.{Catalog}
use Rattle.boot_model.specs.{declared.line.Line.Line, Discovery.discovery_lines, DxeMachine.DxeMachine, DxeMachine.DriverFrame}
use Rattle.boot_model.specs.declared.line.Line.TheVariants as L
use Rattle.boot_model.specs.DxeAction.{DxeReply, DxeEffect, Wrote, Called, Logged, Skipped, Returned, Own, dxe_effect}
use Rattle.boot_model.specs.DxeStep.{after_dxe_effect}
use Rattle.boot_laws.specs.{EffectForms.EffectHas, DriverEffectForms.DriverRepliesHave}
use Rattle.boot_laws.proofs.DriverEffectForms.{driver_effect_has}

abbrev Quiet : DxeMachine → DxeReply → Type 0
Quiet m reply = reply.machine.lines ≡ m.lines

abbrev IsQuiet : DxeMachine → DxeEffect → Type 0
IsQuiet m does = EffectHas (Quiet m) (λ registers. ⊤) does

replies_quiet : (catalog : Catalog) (m : DxeMachine) (frame : DriverFrame) → DriverRepliesHave catalog m frame (λ action reply. Quiet m reply)
replies_quiet catalog m frame = record {
  refused = λ action status. refl;
  peek = λ v n bytes. refl;
  install = λ form h guid v target value handle new registers extra e. refl;
  reinstall = λ h guid old new handle before after done handles e. refl;
  uninstall = λ h guid v handle value done handles e. refl;
  locate = λ h v guid found e. refl;
  notify = λ guid block. refl;
  schedule = λ name number e. refl;
  process = λ v volume new. refl;
}

effect_quiet : (catalog : Catalog) (m : DxeMachine) (frame : DriverFrame) (action : Action) → IsQuiet m (dxe_effect catalog m frame action)
effect_quiet catalog m frame action = driver_effect_has catalog m frame (λ _ reply. Quiet m reply) (replies_quiet catalog m frame) action

after_effect : (m : DxeMachine) (frame : DriverFrame) (below : List DriverFrame) (has : DxeEffect) → IsQuiet m has → (told : List Line) × ((after_dxe_effect m frame below has).lines ≡ m.lines ++ told)
after_effect m frame below (Wrote registers status) quiet = ([], sym (append-nil m.lines))
after_effect m frame below (Called name reply) quiet = (_, ap (λ lines. lines ++ (L.Call name reply.status reply.extra ∷ discovery_lines reply.volumes)) quiet)
after_effect m frame below (Logged text) quiet = (_, refl)
after_effect m frame below (Skipped n) quiet = ([], sym (append-nil m.lines))
after_effect m frame below (Returned status) quiet = (_, refl)
after_effect m frame below (Own own) quiet = absurd own

-- what an action prints
pub action_prints : (catalog : Catalog) (m : DxeMachine) (frame : DriverFrame) (below : List DriverFrame) (action : Action)
    → (told : List Line) × ((after_dxe_effect m frame below (dxe_effect catalog m frame action)).lines ≡ m.lines ++ told)
action_prints catalog m frame below action = after_effect m frame below (dxe_effect catalog m frame action) (effect_quiet catalog m frame action)
