use Rattle.std.proofs.Common.{◌≢◌, rules}
use Rattle.gcd_map.specs.{declared.perform.Answer.TheVariants.Refused, declared.word.GcdWord.TheVariants.Memory}
use Rattle.gcd_map.proofs.Runs.{run_more, commands_more}
use Rattle.gcd_map.proofs.map.GcdMap.run.Goals as goal

pub commands-preserved : goal.commands-preserved
commands-preserved c =
    let other : c.perform-answer.result ≢ Refused Memory = search rules in
    record {
      commands = rw c.in_ok-push.ensures.ok (commands_more c.args.commands.now c.commands.command-index _ c.commands.steps c.perform-answer.result c.commands-test.true c.commands.invariant.commands);
      run = λ old shows.
          let before = c.commands.invariant.run old shows in
          let after = c.perform-answer.ensures.row before.0 before.2 in
          rw c.in_ok-push.ensures.ok (after.0, run_more old before.0 after.0 c.commands.steps _ before.1 other after.1, after.2);
    }
