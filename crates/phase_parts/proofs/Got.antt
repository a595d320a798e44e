-- What is got of a list at a place.
use Rattle.std.proofs.Common.{◌≡◌, ◌<◌, ◌≤◌, ℕ, List, Option, Some, None, get_or, length, refl, sym, ap, ◌∙◌, option_copied, slice_get, Bor}
use Rattle.std.specs.List.{ItemBy}
use Rattle.std.proofs.lemmas.Option.{slice_get_past, slice_get_read}

pub got : {X : Type 0} (xs : List X) (i : ℕ) (r : Option (Bor X)) → ItemBy (λ (x : Bor X). x.now) xs i i r → option_copied r ≡ slice_get xs i
got xs i None is = sym (slice_get_past xs i is.3)
got xs i (Some x) is = sym (slice_get_read xs (length xs) i x.now refl is.3.0 (is.3.1 x.now))

-- what follows from an item, and from none
pub by_item : {X Y : Type 0} (f : Option X → Y) (xs all : List X) (i : ℕ) (x : X) → xs ≡ all → (i < length xs) × ((d : X) → x ≡ get_or xs i d) → f (Some x) ≡ f (slice_get all i)
by_item f xs all i x is read = ap f (sym (slice_get_read xs (length xs) i x refl read.0 (read.1 x))) ∙ ap (λ list. f (slice_get list i)) is

pub by_none : {X Y : Type 0} (f : Option X → Y) (xs all : List X) (i : ℕ) → xs ≡ all → length xs ≤ i → f None ≡ f (slice_get all i)
by_none f xs all i is past = ap f (sym (slice_get_past xs i past)) ∙ ap (λ list. f (slice_get list i)) is
