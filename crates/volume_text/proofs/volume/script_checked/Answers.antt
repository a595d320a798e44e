use Rattle.std.proofs.Common.{refl, sym, ap, ◌∙◌}
use Rattle.volume_text.specs.Open.{last_of}
use Rattle.volume_text.proofs.volume.script_checked.Goals as goal

pub returns-then-has_script : goal.returns-then-has_script
returns-then-has_script c =
    let there = sym (ap last_of c.as_slice.ensures) ∙ c.in-Some.ensures.1 in
    rw (c.in_ok-part_checked.ensures, there, sym c.has_script.ensures ∙ c.if-has_script.true) refl

pub returns-else-has_script : goal.returns-else-has_script
returns-else-has_script c =
    let there = sym (ap last_of c.as_slice.ensures) ∙ c.in-Some.ensures.1 in
    rw (c.in_ok-part_checked.ensures, there, sym c.has_script.ensures ∙ c.if-has_script.false) refl
