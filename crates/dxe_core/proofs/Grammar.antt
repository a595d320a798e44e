-- What an action of a script's grammar says of its operands.
use Rattle.std.proofs.Common.{◌≡◌, ℕ, ◌≤◌, true, arith}
use Rattle.std.proofs.lemmas.Bool.Decides.{nat_tests}
use Rattle.act_code.specs.Format.{is_within}

pub at_most : (n : ℕ) → is_within 1 64 n ≡ true → n ≤ 64
at_most n e = grind (arith, nat_tests, e)
