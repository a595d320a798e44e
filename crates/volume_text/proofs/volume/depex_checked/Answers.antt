use Rattle.std.proofs.Common.{refl, sym, ap, ◌∙◌}
use Rattle.volume_text.specs.Open.{last_of}
use Rattle.volume_text.proofs.volume.depex_checked.Goals as goal

pub returns-then-has_depex : goal.returns-then-has_depex
returns-then-has_depex c =
    let there = sym (ap last_of c.as_slice.ensures) ∙ c.in-Some.ensures.1 in
    rw (c.in_ok-part_checked.ensures, there, sym c.has_depex.ensures ∙ c.if-has_depex.true) refl

pub returns-else-has_depex : goal.returns-else-has_depex
returns-else-has_depex c =
    let there = sym (ap last_of c.as_slice.ensures) ∙ c.in-Some.ensures.1 in
    rw (c.in_ok-part_checked.ensures, there, sym c.has_depex.ensures ∙ c.if-has_depex.false) refl
