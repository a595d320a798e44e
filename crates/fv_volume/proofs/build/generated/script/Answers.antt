use Rattle.std.proofs.Common.{◌≡◌, List, [], ◌∷◌, ◌++◌, sym, ap, ◌∙◌, subst, arith}
use Rattle.act_code.specs.{declared.action.Action.Action, declared.script.Script.Script, Script.IsInGrammar}
use Rattle.pi_base.specs.declared.phase.Phase.TheVariants.{Pei}
use Rattle.fv_volume.specs.Generated.{actions_of}
use Rattle.fv_volume.proofs.Modules.{in_grammar}
use Rattle.fv_volume.proofs.build.generated.script.Goals as goal

pub write_script-written-requires : goal.write_script-written-requires
write_script-written-requires c =
    let is : c.push.new.self ≡ actions_of c.args.first c.args.last c.args.i ∷ [] =
    c.in_ok-push.ensures.ok ∙ ap (λ (blocks : List (List Action)). blocks ++ c.add_actions.new.actions ∷ []) c.new-blocks.ensures
    ∙ ap (λ (actions : List Action). actions ∷ []) (c.in_ok-add_actions.ensures ∙ ap (λ (actions : List Action). actions ++ actions_of c.args.first c.args.last c.args.i) c.new-actions.ensures) in
    subst (λ (blocks : List (List Action)). let s : Script = record { phase = Pei; blocks = blocks } in IsInGrammar s) (sym is)
    (in_grammar c.args.first c.args.last c.args.i (omega arith))
