use Rattle.recorded_boot.specs.{Spelled.left, StartLine.phase_start}
use Rattle.recorded_boot.proofs.Reading.{line_of_next, line_there}
use Rattle.recorded_boot.proofs.trace.text_start.next_start.Goals as goal

pub returns-in-Some : goal.returns-in-Some
returns-in-Some c right volume name licence readable begins =
    c.start_in.ensures volume name licence (line_of_next (phase_start c.args.phase volume name licence) (left c.args.text.now) c.in-Some.line.now readable begins (c.in-Some.ensures right))

pub returns-in-None : goal.returns-in-None
returns-in-None c right volume name licence readable begins = absurd (line_there (phase_start c.args.phase volume name licence) (left c.args.text.now) begins (c.in-None.ensures right))
