use Rattle.std.proofs.Common.{sym, ap, ◌∙◌}
use Rattle.pei_dispatch.specs.View.{awaits_again, awaits_at}
use Rattle.pei_dispatch.proofs.Returning.{found_here, none_more}
use Rattle.pei_dispatch.proofs.whose_turn.first_awaiting.Goals as goal

pub returns-then-awaits_again : goal.returns-then-awaits_again
returns-then-awaits_again c =
    sym (found_here (awaits_at c.args.states.now) c.args.order.now c.parts.number-index c.parts-test.true c.parts.invariant.none
    (sym (c.awaits_again.ensures ∙ ap awaits_again c.state_of.ensures) ∙ c.if-awaits_again.true))

pub parts-preserved : goal.parts-preserved
parts-preserved c = record {
  none = none_more (awaits_at c.args.states.now) c.args.order.now c.parts.number-index c.parts-test.true c.parts.invariant.none
      (sym (c.awaits_again.ensures ∙ ap awaits_again c.state_of.ensures) ∙ c.if-awaits_again.false);
}
