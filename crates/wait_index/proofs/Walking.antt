-- A list that is walked from its front on: its first item, and those that are left.
use Rattle.std.proofs.Common.{◌≡◌, ◌≤◌, ◌-◌, arith, List, [], ◌∷◌, length, get_or, take, drop, ap, sym, ◌∙◌}
use Rattle.std.proofs.Math.Seq.{take-length}

pub first_and_left : {A : Type 0} (xs : List A) (d : A) → 1 ≤ length xs → xs ≡ get_or xs 0 d ∷ take (length xs - 1) (drop 1 xs)
first_and_left [] d some = absurd (omega (arith, some))
first_and_left (x ∷ xs) d some =
    let many : length xs ≡ length (x ∷ xs) - 1 = omega arith in
    sym (ap (λ n. x ∷ take n xs) (sym many) ∙ ap (λ ys. x ∷ ys) (take-length xs))
