-- Where not as many frames stand as may, one more has room, behind a sweep that was kept too.
use Rattle.std.proofs.Common.{◌≡◌, ◌<◌, ◌≤◌, ◌==◌, ℕ, false, List, [], ◌∷◌, arith, length, refl, subst, sym, nat_le}
use Rattle.std.proofs.lemmas.Bool.Decides.{nat_tests}
use Rattle.boot_model.specs.declared.frame.Frame.{Frame}
use Rattle.phase_parts.specs.Frames.{swept}

as_many : {W : Type 0} (frames : List (Frame W)) (sweep : W) → length (swept frames sweep) ≡ length frames
as_many [] sweep = refl
as_many (frame ∷ below) sweep = refl

pub room : {W : Type 0} (frames now : List (Frame W)) (sweep : W) → now ≡ swept frames sweep → false ≡ nat_le 64 (length frames) → length now < 64
room frames now sweep e full =
    let same : length (swept frames sweep) ≡ length frames = as_many frames sweep in
    let fits : length frames < 64 = grind (arith, nat_tests, full) in
    subst (λ xs. length xs < 64) (sym e) (subst (λ n. n < 64) (sym same) fits)

-- as many stand as may
pub as_many_stand : (n : ℕ) → n ≤ 64 → (n == 64) ≡ nat_le 64 n
as_many_stand n fits = grind (arith, nat_tests, fits)
