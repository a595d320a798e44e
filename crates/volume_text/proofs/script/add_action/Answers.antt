use Rattle.std.proofs.Common.{ap, ◌∙◌}
use Rattle.volume_text.specs.Script.{last_block}
use Rattle.volume_text.proofs.{Ending.with_said, Lasts.last_push}
use Rattle.volume_text.proofs.script.add_action.Goals as goal

pub returns-in_ok-push-in-Ok-2-clause-said : goal.returns-in_ok-push-in-Ok-2-clause-said
returns-in_ok-push-in-Ok-2-clause-said c =
    let parted = ap last_block c.in-Some.ensures.last ∙ last_push c.pop.new.self c.in-Some.last in
    with_said c.args.script.now c.pop.new.self c.push-in-Ok.new.self c.in-Some.last c.push.new.self c.in-Ok.action parted c.requires.said c.in-Ok.ensures.said
    c.in_ok-push-in-Ok.ensures.ok c.in_ok-push-in-Ok-2.ensures.ok
