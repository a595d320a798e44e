use Rattle.std.proofs.Common.{◌≡◌, ◌+◌, Bool, List, [], ◌∷◌, ◌++◌, ap, sym, subst, take, ◌∙◌, take_all}
use Rattle.std.proofs.lemmas.List.{take_more}
use Rattle.explain_text.specs.{declared.reasons.Begun.Begun, Flags.AreStarted}
use Rattle.explain_text.proofs.Flagged.{none_started, started_more, started_other}
use Rattle.explain_text.proofs.flags.started.Goals.{then-same_phase, else-same_phase}
use Rattle.explain_text.proofs.flags.started.Goals as goal

pub starts-init : goal.starts-init
starts-init c = subst (AreStarted [] c.args.phase c.args.count) (sym c.in_ok-flags.ensures) (none_started c.args.phase c.args.count)

pub starts-preserved : goal.starts-preserved
starts-preserved c =
    let begun = c.args.begun.now in
    let phase = c.args.phase in
    let at = c.starts.start-index in
    let start = c.start-item.result in
    let more : take (at + 1) begun ≡ take at begun ++ start ∷ [] = take_more begun at start c.starts-test.true ∙ ap (λ (s : Begun). take at begun ++ s ∷ []) (sym c.start-item.is) in
    let Are : List Begun → List Bool → Type 0 = λ list flags. AreStarted list phase c.args.count flags in
    subst (λ list. Are list c.if-same_phase.flags) (sym more) (elim c.if-same_phase.branch [
      | then-same_phase w ↦
          subst (Are (take at begun ++ start ∷ [])) (sym (w.flags-is ∙ w.mark.ensures)) (started_more (take at begun) start phase c.args.count c.starts.flags (sym c.same_phase.ensures ∙ w.if-same_phase.true) c.starts.invariant)
      | else-same_phase w ↦
          subst (Are (take at begun ++ start ∷ [])) (sym w.flags-is) (started_other (take at begun) start phase c.args.count c.starts.flags (sym c.same_phase.ensures ∙ w.if-same_phase.false) c.starts.invariant)
    ])

pub returns : goal.returns
returns c = subst (λ (list : List Begun). AreStarted list c.args.phase c.args.count c.starts.flags) (take_all c.starts.start-index c.args.begun.now c.starts-test.false) c.starts.invariant
