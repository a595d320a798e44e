use Rattle.std.proofs.Common.{rules}
use Rattle.line_words.proofs.Numerals.{numeral_read, numeral_utf8}
use Rattle.line_words.proofs.printed.number.value_of.Goals as goal

pub returns-in-Ok : goal.returns-in-Ok
returns-in-Ok c = λ n fits is.
    let read = numeral_read c.args.base n c.args.text.now c.from_str_radix.result c.requires.low c.requires.high fits is (search rules) in
    search rules

pub returns-in-Err : goal.returns-in-Err
returns-in-Err c = λ n fits is. absurd (c.in-Err.ensures.cases.0 (numeral_utf8 c.args.base n c.args.text.now c.requires.low c.requires.high fits is))
