use Rattle.std.proofs.Common.{sym, ◌∙◌}
use Rattle.pi_base.proofs.ListFacts.{each_append}
use Rattle.mp_core.proofs.EventLines.{passed_line, taken_line, unread_line}
use Rattle.mp_core.specs.Calls.{IsEvent}
use Rattle.mp_core.proofs.lines.take_line.Goals as goal

pub returns-then-is_passed_over-clause-line : goal.returns-then-is_passed_over-clause-line
returns-then-is_passed_over-clause-line c =
    passed_line c.args.processors c.args.cells c.args.number c.args.line.now c.args.events.now (sym c.if-is_passed_over.ensures)

pub returns-in-Ok-clause-line : goal.returns-in-Ok-clause-line
returns-in-Ok-clause-line c =
    taken_line c.args.processors c.args.cells c.args.number c.args.line.now c.args.events.now c.push.new.self c.in-Ok-Some.event (sym c.if-is_passed_over.ensures)
    (sym c.in-Ok-Some.ensures.event ∙ c.in-Ok-Some.field-0-is) c.in-Ok.ensures.ok

pub returns-in-Ok-clause-fits : goal.returns-in-Ok-clause-fits
returns-in-Ok-clause-fits c = λ before.
    rw c.in-Ok.ensures.ok (each_append (IsEvent c.args.processors c.args.cells) c.args.events.now _ before (rw c.in-Ok-Some.field-0-is at c.in-Ok-Some.ensures.fits, tt))

pub returns-in-Ok-None-clause-line : goal.returns-in-Ok-None-clause-line
returns-in-Ok-None-clause-line c =
    unread_line c.args.processors c.args.cells c.args.number c.args.line.now (sym c.if-is_passed_over.ensures) (sym c.in-Ok-None.ensures.event ∙ c.in-Ok-None.field-0-is)
