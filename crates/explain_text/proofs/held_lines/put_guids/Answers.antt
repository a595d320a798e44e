use Rattle.std.proofs.Common.{◌++◌, ap, ◌∙◌}
use Rattle.boot_io.specs.Line.{spaced}
use Rattle.pi_base.specs.WordText.{guid_text}
use Rattle.explain_text.proofs.HeldText.{word_put, all_put}
use Rattle.explain_text.proofs.held_lines.put_guids.Goals as goal

pub guids-preserved : goal.guids-preserved
guids-preserved c =
    word_put guid_text c.args.guids.now c.guids.guid-index _ c.args.out.now c.guids.out c.put_word.new.out c.guids-test.true
    (c.in_ok-put_word.ensures ∙ ap (λ w. c.guids.out ++ spaced w) c.to_text.ensures) c.guids.invariant

pub returns : goal.returns
returns c = all_put guid_text c.args.guids.now c.guids.guid-index c.args.out.now c.guids.out c.guids-test.false c.guids.invariant
