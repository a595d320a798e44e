use Rattle.std.proofs.Common.{◌≢◌, refl, sym, ◌∙◌, true≢false}
use Rattle.gcd_map.specs.declared.fault.GcdCause.TheVariants.{Memory}
use Rattle.tools_core.specs.GcdReport.{MapRun, command_refused, done, hobs_refused}
use Rattle.tools_core.proofs.gcd_tool.map_report.Goals as goal

pub returns-in-Err : goal.returns-in-Err
returns-in-Err c =
    let fault = c.in-Err.fault in
    let real : fault.cause ≢ Memory = λ e. true≢false (sym (rw e at c.if-eq.ensures)) in
    (hobs_refused fault real (c.in-Err.ensures.fault real) refl refl, refl)

pub returns-in-Err-Bad : goal.returns-in-Err-Bad
returns-in-Err-Bad c =
    let space = c.in-Ok.ensures.found in
    (command_refused space.0 space.1 c.in-Err-Bad.line (rw c.in-Err-Bad.field-0-is at c.in-Err-Bad.ensures.fault) refl (rw c.in-Err-Bad.field-0-is refl), refl)

pub returns : goal.returns
returns c =
    let space = c.in-Ok.ensures.found in
    let after = c.in_ok-steps.ensures.run space.0 space.2 in
    let run : MapRun c.args.bytes.now c.args.lines.now = record {
      first = space.0;
      tells = space.1;
      commands = c.in-Ok-read_commands.commands;
      are = c.in-Ok-read_commands.ensures.found;
      steps = c.in_ok-steps.steps;
      in_order = c.in_ok-steps.ensures.commands ∙ c.as_slice.ensures;
      last = after.0;
      run = after.1;
      ranges = c.run.new.self.ranges;
      shows = after.2.ranges;
    } in
    (done run refl refl, refl)
