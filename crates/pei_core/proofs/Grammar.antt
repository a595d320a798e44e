-- What an action of a script's grammar says of its operands.
use Rattle.std.proofs.Common.{◌≡◌, ℕ, zero, suc, ◌≤◌, ◌<◌, ◌==◌, ◌&&◌, Bool, true, false, cond, List, [], ◌∷◌, length, arith, refl, sym, subst, nat_lt}
use Rattle.std.specs.List.{list_all}
use Rattle.std.proofs.lemmas.Bool.Decides.{nat_tests}
use Rattle.act_code.specs.Format.{is_within}
use Rattle.boot_model.specs.PeiAction.{kind_number}
use Rattle.store_model.specs.StoreCall.{AreFew}
use Rattle.pei_core.specs.Needs.{IsArgument}

and_left : (a b : Bool) → (a && b) ≡ true → a ≡ true
and_left true b e = refl
and_left false b e = cc

and_right : (a b : Bool) → (a && b) ≡ true → b ≡ true
and_right true b e = e
and_right false b e = cc

below : (n limit : ℕ) → nat_lt n limit ≡ true → n < limit
below n limit e = grind (arith, nat_tests, e)

-- the first register that an action names, and the second
pub first : (r : ℕ) (rest blocks : Bool) → ((nat_lt r 16 && rest) && blocks) ≡ true → r < 16
first r rest blocks e = below r 16 (and_left _ rest (and_left _ blocks e))

pub second : (q r : ℕ) (rest blocks : Bool) → ((nat_lt q 16 && (nat_lt r 16 && rest)) && blocks) ≡ true → r < 16
second q r rest blocks e = below r 16 (and_left _ rest (and_right (nat_lt q 16) _ (and_left _ blocks e)))

block_on : (b : Bool) (kind arg : ℕ) → (kind == 0) ≡ b → list_all (λ n. nat_lt n 64) (cond b [] (arg ∷ [])) ≡ true → IsArgument (kind_number kind) arg
block_on true kind arg e h = let none : kind ≡ 0 = grind (arith, nat_tests, e) in subst (λ k. IsArgument (kind_number k) arg) (sym none) tt
block_on false zero arg e h = cc
block_on false (suc zero) arg e h = below arg 64 (and_left _ true h)
block_on false (suc (suc n)) arg e h = below arg 64 (and_left _ true h)

-- the block of a notification
pub block : (kind arg : ℕ) (registers : Bool) → (registers && list_all (λ n. nat_lt n 64) (cond (kind == 0) [] (arg ∷ []))) ≡ true → IsArgument (kind_number kind) arg
block kind arg registers e = block_on (kind == 0) kind arg refl (and_right registers _ e)

few : (list : List ℕ) → is_within 1 8 (length list) ≡ true → AreFew list
few list e = let low : 1 ≤ length list = grind (arith, nat_tests, e) in let high : length list ≤ 8 = grind (arith, nat_tests, e) in (low, high)

pub few_in : (list shown : List ℕ) → shown ≡ list → is_within 1 8 (length list) ≡ true → AreFew shown
few_in list shown same e = subst (λ xs. AreFew xs) (sym same) (few list e)

pub at_most : (n : ℕ) → is_within 1 64 n ≡ true → n ≤ 64
at_most n e = grind (arith, nat_tests, e)
