use Rattle.std.proofs.Common.{◌≡◌, [], ◌∷◌, ◌++◌, sym, ap, ◌∙◌, subst, append_assoc, append-nil, OnOk}
use Rattle.act_code.specs.declared.action.Action.TheVariants.{Ret}
use Rattle.pi_base.specs.declared.word.Word.TheVariants.{Success}
use Rattle.fv_volume.specs.declared.build.generated.TheConstants.{PPIS}
use Rattle.fv_volume.specs.Generated.{numbered, installs, memory_said, hand_off}
use Rattle.fv_volume.proofs.build.generated.add_actions.Goals as goal
use Rattle.fv_volume.proofs.build.generated.add_actions.Goals.{then-last+in_ok-add_install-2, else-last}

pub returns : goal.returns
returns c =
    let said = c.add_memory.new.actions in
    let own = installs 0 1 (numbered PPIS c.args.i) c.args.i in
    let memory = memory_said c.args.first in
    let rest = hand_off c.args.last ++ Ret Success ∷ [] in
    let installed : c.add_install.new.actions ≡ c.args.actions.now ++ own = rw (c.numbered.ensures, c.from.ensures) at c.in_ok-add_install.ensures in
    let handed : c.if-last.actions ≡ said ++ hand_off c.args.last = elim c.if-last.branch [
      | then-last+in_ok-add_install-2 w ↦ w.actions-is ∙ w.in_ok-add_install-2.ensures ∙ ap (λ last. said ++ hand_off last) (sym w.if-last.true)
      | else-last w ↦ w.actions-is ∙ sym (append-nil said) ∙ ap (λ last. said ++ hand_off last) (sym w.if-last.false)
    ] in
    let all : c.if-last.actions ++ Ret Success ∷ [] ≡ c.args.actions.now ++ (own ++ (memory ++ rest)) =
    ap (λ actions. actions ++ Ret Success ∷ []) handed ∙ append_assoc said (hand_off c.args.last) (Ret Success ∷ [])
    ∙ ap (λ actions. actions ++ rest) c.in_ok-add_memory.ensures ∙ append_assoc c.add_install.new.actions memory rest
    ∙ ap (λ actions. actions ++ (memory ++ rest)) installed ∙ append_assoc c.args.actions.now own (memory ++ rest) in
    subst (λ actions. OnOk c.push.result (c.push.new.self ≡ actions)) all c.push.ensures.ok
