use Rattle.std.proofs.Common.{rules, arith}
use Rattle.asm_text.proofs.Expressions.{bad_short, bad_first, bad_second, whole_line}
use Rattle.asm_text.proofs.TreeEnds.{empty_is, not_empty}
use Rattle.asm_text.proofs.depex_reading.read_text.Goals as goal

pub returns-in_default-clause-refused : goal.returns-in_default-clause-refused
returns-in_default-clause-refused c = bad_short c.args.text.now c.in_default.ensures

pub returns-in_default-2-clause-refused : goal.returns-in_default-2-clause-refused
returns-in_default-2-clause-refused c =
    bad_first c.args.text.now c.in-Some.line.now c.in-Some.rest.now c.in-Some.ensures.0 c.in-Some.ensures.1 (rw c.in_default-2.is at c.in_ok-depex.ensures)

pub returns-then-not-is_empty-clause-refused : goal.returns-then-not-is_empty-clause-refused
returns-then-not-is_empty-clause-refused c =
    bad_second c.args.text.now c.in-Some.line.now c.in-Some.rest.now c.in-Some-2.depex c.in-Some.ensures.0 c.in-Some.ensures.1 (rw c.in-Some-2.is at c.in_ok-depex.ensures)
    (not_empty c.in-Some.rest.now c.is_empty.result c.is_empty.ensures (search rules))

pub returns-then-opcode_count-gt-MOST_OPCODES-clause-refused : goal.returns-then-opcode_count-gt-MOST_OPCODES-clause-refused
returns-then-opcode_count-gt-MOST_OPCODES-clause-refused c =
    let none = empty_is c.in-Some.rest.now c.is_empty.result c.is_empty.ensures c.if-not-is_empty.false in
    let read = whole_line c.args.text.now c.in-Some.line.now c.in-Some.rest.now c.in-Some-2.depex c.in-Some.ensures.0 (rw c.in-Some-2.is at c.in_ok-depex.ensures) none in
    (c.in-Some-2.depex, read, omega (arith, c.opcode_count.ensures, c.if-opcode_count-gt-MOST_OPCODES.true))

pub returns-clause-read : goal.returns-clause-read
returns-clause-read c =
    let none = empty_is c.in-Some.rest.now c.is_empty.result c.is_empty.ensures c.if-not-is_empty.false in
    whole_line c.args.text.now c.in-Some.line.now c.in-Some.rest.now c.in-Some-2.depex c.in-Some.ensures.0 (rw c.in-Some-2.is at c.in_ok-depex.ensures) none
