use Rattle.std.proofs.Common.{◌<◌, rules, length}
use Rattle.trace_reader.proofs.LineBodies.{no_line_there}
use Rattle.trace_reader.proofs.trace.read_trace.Goals as goal

pub returns-in-Ok-None-clause-fault : goal.returns-in-Ok-None-clause-fault
returns-in-Ok-None-clause-fault c =
    let i = c.lines.invariant in
    let some : 0 < length c.lines.rest.now = search rules in
    let none = no_line_there c.lines.rest.now c.in-Some.line.now c.in-Some.after.now c.in-Some.ensures.0 c.in-Some.ensures.1 (rw c.in-Ok-None.field-0-is at c.in-Ok-None.ensures) in
    (c.lines.lines, c.lines.rest.now, i.text, i.readable, i.number, some, none)
