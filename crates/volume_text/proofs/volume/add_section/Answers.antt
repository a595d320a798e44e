use Rattle.volume_text.specs.Open.{holding}
use Rattle.volume_text.proofs.LastFile.{last_changed, last_stops}
use Rattle.volume_text.proofs.volume.add_section.Goals as goal

pub returns-in_ok-push-in-Ok : goal.returns-in_ok-push-in-Ok
returns-in_ok-push-in-Ok c =
    last_changed c.args.volume.now (holding c.args.section) c.pop.new.self c.in-Some.last c.hold.new.file c.push.new.self c.in-Some.ensures.last c.in-Ok.ensures c.in_ok-push-in-Ok.ensures.ok

pub returns-in-Err : goal.returns-in-Err
returns-in-Err c = last_stops c.args.volume.now (holding c.args.section) c.pop.new.self c.in-Some.last c.in-Err.stop c.in-Some.ensures.last c.in-Err.ensures
