use Rattle.std.proofs.Common.{refl, sym, ap, ◌∙◌}
use Rattle.volume_text.specs.Open.{last_of}
use Rattle.volume_text.proofs.volume.part_checked.Goals as goal

pub returns-then-has_part : goal.returns-then-has_part
returns-then-has_part c =
    let there = sym (ap last_of c.as_slice.ensures) ∙ c.in-Some.ensures.1 in
    rw (there, sym c.has_part.ensures ∙ c.if-has_part.true) refl

pub returns-else-has_part : goal.returns-else-has_part
returns-else-has_part c =
    let there = sym (ap last_of c.as_slice.ensures) ∙ c.in-Some.ensures.1 in
    rw (there, sym c.has_part.ensures ∙ c.if-has_part.false) refl
