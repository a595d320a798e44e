use Rattle.volume_text.proofs.Ending.{block_said}
use Rattle.volume_text.proofs.script.add_block.Goals as goal

pub returns-clause-said : goal.returns-clause-said
returns-clause-said c = rw (c.in_ok-push.ensures.ok, c.new.ensures) (block_said c.args.script.now c.requires.said)
