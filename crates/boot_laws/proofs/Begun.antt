-- A frame that has just begun has no sweep, and a machine that goes on has not ended.
use Rattle.std.proofs.Common.{◌≡◌, ℕ, ◌+◌, true, Option, Some, None, is_some, arith, option_and_then}

-- where a pair fires the frame stands at a later position
pub not_begun : {A B : Type 0} (f : A → Option B) (n : ℕ) (o : Option A) → (n ≡ 0 → o ≡ None) → is_some (option_and_then f o) ≡ true → n ≡ 0 → ⊥
not_begun f n None h k z = cc
not_begun f n (Some a) h k z = let e : Some a ≡ None = h z in cc

-- a frame that stands at a later position may have any sweep
pub not_zero : {P : Type 0} (a n : ℕ) → a + 1 + n ≡ 0 → P
not_zero a n h = absurd (omega (arith, h))

pub going_not : {A : Type 0} {P : Type 0} (o : Option A) → o ≡ None → is_some o ≡ true → P
going_not None e h = cc
going_not (Some a) e h = cc
