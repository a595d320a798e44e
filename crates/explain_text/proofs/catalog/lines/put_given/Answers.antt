use Rattle.pi_base.specs.WordText.{guid_text}
use Rattle.explain_text.specs.Lines.{gives_line}
use Rattle.explain_text.proofs.Words.{text_put}
use Rattle.explain_text.proofs.catalog.lines.put_given.Goals as goal

pub guids-preserved : goal.guids-preserved
guids-preserved c =
    text_put (λ guid. gives_line c.args.number c.args.phase (guid_text guid)) c.args.guids.now c.guids.guid-index _ c.args.out.now c.guids.out c.put_gives.new.out c.guids-test.true c.in_ok-put_gives.ensures c.guids.invariant
