use Rattle.std.proofs.Common.{◌≡◌, ◌∙◌, ◌∷◌, [], ◌-◌, ◌<◌, ap, sym, arith, length, length-append}
use Rattle.source_words.specs.{Operands.registers_within, Words.words}
use Rattle.source_words.proofs.RegisterLists.{in_front, first_step, no_step, too_many, all_read}
use Rattle.source_words.proofs.script.list.few_registers.Goals as goal

pub returns-then-len-ge-MOST_REGISTERS : goal.returns-then-len-ge-MOST_REGISTERS
returns-then-len-ge-MOST_REGISTERS c =
    let list = c.registers.list in
    c.registers.invariant.0 ∙ ap (λ ws. in_front list (registers_within (8 - length list) ws)) c.in-Some.ensures.found
    ∙ too_many list c.in-Some.word.now (words c.in-Some.behind.now) (omega (arith, c.len.ensures, c.if-len-ge-MOST_REGISTERS.true))

pub registers-preserved : goal.registers-preserved
registers-preserved c =
    let list = c.registers.list in
    let r = c.in-Some-register_of.r in
    let few : length list < 8 = omega (arith, c.len.ensures, c.if-len-ge-MOST_REGISTERS.false) in
    let step = first_step list c.in-Some.word.now (words c.in-Some.behind.now) r few (sym c.in-Some-register_of.ensures) in
    rw c.in_ok-push-in-Some-register_of.ensures.ok
    (c.registers.invariant.0 ∙ ap (λ ws. in_front list (registers_within (8 - length list) ws)) c.in-Some.ensures.found ∙ step, omega (arith, length-append list (r ∷ [])))

pub returns-in-None : goal.returns-in-None
returns-in-None c =
    let list = c.registers.list in
    let few : length list < 8 = omega (arith, c.len.ensures, c.if-len-ge-MOST_REGISTERS.false) in
    c.registers.invariant.0 ∙ ap (λ ws. in_front list (registers_within (8 - length list) ws)) c.in-Some.ensures.found
    ∙ no_step list c.in-Some.word.now (words c.in-Some.behind.now) few (sym c.in-None.ensures)

pub returns : goal.returns
returns c =
    let list = c.registers.list in
    let none : words c.registers.rest.now ≡ [] = rw c.in_default.is at c.next_word.ensures.found in
    c.registers.invariant.0 ∙ ap (λ ws. in_front list (registers_within (8 - length list) ws)) none ∙ all_read (8 - length list) list
