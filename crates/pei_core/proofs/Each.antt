-- What holds of each item of a list holds of the one at an index.
use Rattle.std.proofs.Common.{ℕ, zero, suc, ◌<◌, List, [], ◌∷◌, length, arith, slice_index_or}
use Rattle.pi_base.specs.Lists.{Each}

pub each_index : {A : Type 0} (P : A → Type 0) (xs : List A) (i : ℕ) (default : A) → i < length xs → Each P xs → P (slice_index_or xs i default)
each_index P [] i default lt each = absurd (omega (arith, lt))
each_index P (x ∷ xs) zero default lt each = each.0
each_index P (x ∷ xs) (suc i) default lt each = each_index P xs i default (omega (arith, lt)) each.1
