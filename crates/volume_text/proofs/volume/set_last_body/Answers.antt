use Rattle.volume_text.specs.Open.{with_bytes}
use Rattle.volume_text.proofs.LastFile.{last_changed, last_stops}
use Rattle.volume_text.proofs.volume.set_last_body.Goals as goal

pub returns-in_ok-push-in-Ok : goal.returns-in_ok-push-in-Ok
returns-in_ok-push-in-Ok c =
    last_changed c.args.volume.now (with_bytes c.args.bytes) c.pop.new.self c.in-Some.last c.fill.new.file c.push.new.self c.in-Some.ensures.last c.in-Ok.ensures c.in_ok-push-in-Ok.ensures.ok

pub returns-in-Err : goal.returns-in-Err
returns-in-Err c = last_stops c.args.volume.now (with_bytes c.args.bytes) c.pop.new.self c.in-Some.last c.in-Err.stop c.in-Some.ensures.last c.in-Err.ensures
