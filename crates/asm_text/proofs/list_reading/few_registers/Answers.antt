use Rattle.std.proofs.Common.{◌∙◌, [], arith, length, ◌∷◌, ◌<◌, ◌-◌, length-append}
use Rattle.asm_text.proofs.TreeEnds.{empty_is, not_empty}
use Rattle.asm_text.proofs.RegisterLists.{first_step, fails_too, too_many, all_read}
use Rattle.asm_text.proofs.list_reading.few_registers.Goals as goal

pub returns-then-len-ge-MOST_REGISTERS : goal.returns-then-len-ge-MOST_REGISTERS
returns-then-len-ge-MOST_REGISTERS c =
    let some = not_empty c.registers.rest.now c.is_empty.result c.is_empty.ensures c.registers-test.true in
    c.registers.invariant.0 ∙ too_many c.registers.list c.registers.rest.now (omega arith) some

pub returns-in-Err : goal.returns-in-Err
returns-in-Err c =
    let some = not_empty c.registers.rest.now c.is_empty.result c.is_empty.ensures c.registers-test.true in
    rw c.registers.invariant.0 (fails_too c.registers.list c.registers.rest.now c.in-Err.unread (omega arith) some c.in-Err.ensures)

pub registers-preserved : goal.registers-preserved
registers-preserved c =
    let some = not_empty c.registers.rest.now c.is_empty.result c.is_empty.ensures c.registers-test.true in
    let few : length c.registers.list < 8 = omega arith in
    let more = c.in_ok-push-in-Ok.ensures.ok in
    let step = first_step c.registers.list c.registers.rest.now (c.in-Ok.r, c.in-Ok.behind.now) few some c.in-Ok.ensures in
    rw more (c.registers.invariant.0 ∙ step, omega (arith, length-append c.registers.list (c.in-Ok.r ∷ [])))

pub returns : goal.returns
returns c =
    let none = empty_is c.registers.rest.now c.is_empty.result c.is_empty.ensures c.registers-test.false in
    c.registers.invariant.0 ∙ all_read (8 - length c.registers.list) c.registers.list c.registers.rest.now none
