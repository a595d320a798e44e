use Rattle.std.proofs.Common.{◌≡◌, ◌+◌, Bool, List, [], ◌∷◌, ◌++◌, ap, sym, subst, take, ◌∙◌, take_all}
use Rattle.std.proofs.lemmas.List.{take_more}
use Rattle.explain_text.specs.{declared.reasons.Held.Held, Flags.AddsHeld}
use Rattle.explain_text.proofs.Flagged.{held_more, held_other, none_held}
use Rattle.explain_text.proofs.flags.add_held.Goals.{then-same_phase, else-same_phase}
use Rattle.explain_text.proofs.flags.add_held.Goals as goal

pub held-init : goal.held-init
held-init c = none_held c.args.phase c.args.flags.now

pub held-preserved : goal.held-preserved
held-preserved c =
    let held = c.args.held.now in
    let phase = c.args.phase in
    let at = c.held.wait-index in
    let wait = c.wait-item.result in
    let more : take (at + 1) held ≡ take at held ++ wait ∷ [] = take_more held at wait c.held-test.true ∙ ap (λ (w : Held). take at held ++ w ∷ []) (sym c.wait-item.is) in
    let Adds : List Held → List Bool → Type 0 = λ list flags. AddsHeld list phase c.args.flags.now flags in
    subst (λ list. Adds list c.if-same_phase.flags) (sym more) (elim c.if-same_phase.branch [
      | then-same_phase w ↦
          subst (Adds (take at held ++ wait ∷ [])) (sym (w.flags-is ∙ w.mark.ensures)) (held_more (take at held) wait phase c.args.flags.now c.held.flags (sym c.same_phase.ensures ∙ w.if-same_phase.true) c.held.invariant)
      | else-same_phase w ↦
          subst (Adds (take at held ++ wait ∷ [])) (sym w.flags-is) (held_other (take at held) wait phase c.args.flags.now c.held.flags (sym c.same_phase.ensures ∙ w.if-same_phase.false) c.held.invariant)
    ])

pub returns : goal.returns
returns c = subst (λ (list : List Held). AddsHeld list c.args.phase c.args.flags.now c.held.flags) (take_all c.held.wait-index c.args.held.now c.held-test.false) c.held.invariant
