use Rattle.std.proofs.Common.{◌≡◌, ◌<◌, ◌^◌, take, true}
use Rattle.std.specs.{List.list_all, Char.is_digit}
use Rattle.line_words.specs.Number.{value_in}
use Rattle.line_words.proofs.number.number_in.Given as goal

abbrev pub invariant-digits : goal.invariant-digits
invariant-digits l = record {
  value : l.number ≡ value_in l.base (take l.byte-index l.digits);
  fits : l.number < 2 ^ 64;
  valid : list_all (λ digit. is_digit digit l.base) (take l.byte-index l.digits) ≡ true;
}
