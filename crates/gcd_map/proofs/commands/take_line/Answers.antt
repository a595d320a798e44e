use Rattle.std.proofs.Common.{sym, refl}
use Rattle.gcd_map.proofs.CommandLines.{passed_line, taken_line}
use Rattle.gcd_map.proofs.commands.take_line.Goals as goal

pub returns-then-is_passed_over : goal.returns-then-is_passed_over
returns-then-is_passed_over c = passed_line c.args.commands.now c.args.number c.args.line.now (sym c.if-is_passed_over.ensures)

pub returns-in_default : goal.returns-in_default
returns-in_default c = (refl, (sym c.if-is_passed_over.ensures, sym c.in_default.ensures))

pub returns : goal.returns
returns c = taken_line c.args.commands.now c.push.new.self c.args.number c.args.line.now c.in-Some.command (sym c.if-is_passed_over.ensures) (sym c.in-Some.ensures) c.in_ok-push.ensures.ok
