use Rattle.std.proofs.Common.{inl, inr, refl, sym, ◌∙◌}
use Rattle.recorded_boot.proofs.order.lines.take_line.Goals as goal

pub returns-then-is_some : goal.returns-then-is_some
returns-then-is_some c = (refl, sym c.is_passed_over.ensures ∙ c.if-is_passed_over.false, inr (sym c.is_some.ensures ∙ c.if-is_some.true))

pub returns-in-None : goal.returns-in-None
returns-in-None c = (refl, sym c.is_passed_over.ensures ∙ c.if-is_passed_over.false, inl (sym c.asked_of.ensures ∙ c.in-None.is))
