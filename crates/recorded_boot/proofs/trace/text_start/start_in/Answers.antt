use Rattle.recorded_boot.specs.StartLine.{phase_start}
use Rattle.recorded_boot.proofs.Reading.{line_is}
use Rattle.recorded_boot.proofs.trace.text_start.start_in.Goals as goal

pub returns-in-Some : goal.returns-in-Some
returns-in-Some c volume name licence is =
    c.module_start.ensures volume name licence (line_is c.one_reading.ensures.lines (phase_start c.args.phase volume name licence) c.in-Some.found c.args.line.now is c.in-Some.ensures.read)
