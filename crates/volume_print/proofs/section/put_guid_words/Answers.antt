use Rattle.std.proofs.Common.{◌+◌, ◌++◌, arith, ap, ◌∙◌}
use Rattle.pi_base.specs.WordText.{guid_text}
use Rattle.volume_print.proofs.Lists.{guids_more}
use Rattle.volume_print.proofs.section.put_guid_words.Goals as goal

pub guids-preserved : goal.guids-preserved
guids-preserved c =
    guids_more c.args.bytes.now c.args.out.now c.guids.out c.append.new.self c.put_guid.new.out c.guids.index (c.guids.index + 1) (omega arith) c.guids.invariant c.in_ok-append.ensures.ok
    (c.in_ok-put_guid.ensures ∙ ap (λ g. c.append.new.self ++ guid_text g) c.at.ensures)
