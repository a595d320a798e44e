use Rattle.std.proofs.Common.{◌≡◌, ◌∙◌, arith, rules, ◌<◌, ◌+◌, get_or, take, ap, take_all}
use Rattle.std.specs.Char.{digit_value}
use Rattle.line_words.proofs.Values.{value_more, valid_more, too_great, is_number}
use Rattle.line_words.specs.Number.{value_in}
use Rattle.line_words.proofs.number.number_in.Goals as goal

pub returns-in-None-with_digit : goal.returns-in-None-with_digit
returns-in-None-with_digit c =
    let digits = c.args.digits.now in let i = c.digits.byte-index in
    let is : c.in-Some.digit ≡ digit_value (get_or digits i 0) = search rules in
    let more = value_more c.args.base digits i c.in-Some.digit c.digits-test.true is in
    let over = c.in-None-with_digit.ensures in
    too_great c.args.base (i + 1) digits (omega (arith, c.requires.low)) (λ h. over (rw (c.digits.invariant.value, more) h))

pub digits-preserved : goal.digits-preserved
digits-preserved c =
    let digits = c.args.digits.now in let i = c.digits.byte-index in
    let is : c.in-Some.digit ≡ digit_value (get_or digits i 0) = search rules in
    let here : digit_value (get_or digits i 0) < c.args.base = search rules in
    record {
      value = c.in-Some-with_digit.ensures.1 ∙ rw c.digits.invariant.value (value_more c.args.base digits i c.in-Some.digit c.digits-test.true is);
      fits = omega (arith, c.in-Some-with_digit.ensures.0, c.in-Some-with_digit.ensures.1);
      valid = valid_more c.args.base digits i c.digits-test.true here c.digits.invariant.valid;
    }

pub returns : goal.returns
returns c =
    let digits = c.args.digits.now in
    let all : take c.digits.byte-index digits ≡ digits = take_all c.digits.byte-index digits (omega arith) in
    let value : c.digits.number ≡ value_in c.args.base digits = c.digits.invariant.value ∙ ap (value_in c.args.base) all in
    rw value (is_number c.args.base digits (search rules) (rw all at c.digits.invariant.valid) (rw value at c.digits.invariant.fits))
