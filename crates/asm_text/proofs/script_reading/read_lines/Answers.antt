use Rattle.std.proofs.Common.{◌≡◌, ◌++◌, ◌∷◌, [], None, arith, sym, length-append}
use Rattle.asm_text.specs.Drafts.{with_line}
use Rattle.asm_text.proofs.TreeEnds.{empty_is, not_empty}
use Rattle.asm_text.proofs.BadScripts.{bad_line, bad_end, bad_short, script_there, reached_more, text_more, few_reached}
use Rattle.asm_text.proofs.script_reading.read_lines.Goals as goal

pub returns-in_default-clause-refused : goal.returns-in_default-clause-refused
returns-in_default-clause-refused c =
    let i = c.lines.invariant in
    let some = not_empty c.lines.rest.now c.is_empty.result c.is_empty.ensures c.lines-test.true in
    rw i.2 (bad_end c.args.phase i.0 c.lines.draft c.lines.rest.now c.lines.number i.1 i.3 c.in_default.ensures some)

pub returns-in-Err-Malformed-clause-refused : goal.returns-in-Err-Malformed-clause-refused
returns-in-Err-Malformed-clause-refused c =
    let i = c.lines.invariant in
    let none : with_line c.lines.draft c.in-Some.line.now ≡ None = rw c.in-Err-Malformed.field-0-is at c.in-Err-Malformed.ensures in
    rw i.2 (bad_line c.args.phase i.0 c.lines.draft c.lines.rest.now c.in-Some.line.now c.in-Some.after.now c.lines.number i.1 i.3 c.in-Some.ensures.0 c.in-Some.ensures.1 none)

pub overflow_add-number : goal.overflow_add-number
overflow_add-number c =
    let i = c.lines.invariant in
    omega (arith, few_reached c.args.phase i.0 c.lines.draft i.1, i.3)

pub lines-preserved : goal.lines-preserved
lines-preserved c =
    let i = c.lines.invariant in
    let l = c.in-Some.line.now in (
      i.0 ++ l ∷ [],
      reached_more c.args.phase i.0 c.lines.draft c.add_line.new.draft l i.1 c.in-Some.ensures.1 c.in-Ok.ensures,
      text_more c.args.phase i.0 _ c.lines.rest.now l c.in-Some.after.now i.2 c.in-Some.ensures.0,
      omega (arith, i.3, length-append i.0 (l ∷ [])),
    )

pub returns-then-is_whole-clause-read : goal.returns-then-is_whole-clause-read
returns-then-is_whole-clause-read c =
    let i = c.lines.invariant in
    let none = empty_is c.lines.rest.now c.is_empty.result c.is_empty.ensures c.lines-test.false in
    rw i.2 (script_there c.args.phase i.0 c.lines.draft c.lines.rest.now i.1 none (sym c.if-is_whole.ensures))

pub returns-else-is_whole-clause-refused : goal.returns-else-is_whole-clause-refused
returns-else-is_whole-clause-refused c =
    let i = c.lines.invariant in
    let none = empty_is c.lines.rest.now c.is_empty.result c.is_empty.ensures c.lines-test.false in
    rw i.2 (bad_short c.args.phase i.0 c.lines.draft c.lines.rest.now c.lines.number i.1 i.3 none (sym c.if-is_whole.ensures))
