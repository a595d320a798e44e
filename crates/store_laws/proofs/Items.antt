-- Items put into a list and left out of it, beside what the list facts of `pi_base` say.
use Rattle.std.proofs.Common.{◌≡◌, ◌≢◌, ℕ, zero, suc, ◌<◌, List, [], ◌∷◌, ◌++◌, length, arith, sym, subst, Some, AllPairs, slice_index_or, slice_get, map}
use Rattle.pi_base.specs.Lists.{Each, Ordered}
use Rattle.pi_base.proofs.ListFacts.{each_more}

pub each_push : {A : Type 0} (P : A → Type 0) (xs : List A) (y : A) → Each P xs → P y → Each P (xs ++ y ∷ [])
each_push P [] y h p = (p, tt)
each_push P (x ∷ xs) y h p = (h.0, each_push P xs y h.1 p)

pub each_left : {A : Type 0} (P : A → Type 0) (xs ys : List A) → Each P (xs ++ ys) → Each P xs
each_left P [] ys h = tt
each_left P (x ∷ xs) ys h = (h.0, each_left P xs ys h.1)

pub each_right : {A : Type 0} (P : A → Type 0) (xs ys : List A) → Each P (xs ++ ys) → Each P ys
each_right P [] ys h = h
each_right P (x ∷ xs) ys h = each_right P xs ys h.1

pub each_to_map : {A B : Type 0} (P : B → Type 0) (f : A → B) (xs : List A) → Each (λ x. P (f x)) xs → Each P (map f xs)
each_to_map P f [] h = tt
each_to_map P f (x ∷ xs) h = (h.0, each_to_map P f xs h.1)

-- the item in a place
pub each_at : {A : Type 0} (P : A → Type 0) (xs : List A) (i : ℕ) (x : A) → Each P xs → slice_get xs i ≡ Some x → P x
each_at P [] i x h e = cc
each_at P (y ∷ ys) zero x h e = let same : y ≡ x = cc in subst P same h.0
each_at P (y ∷ ys) (suc i) x h e = each_at P ys i x h.1 e

-- a fact of all pairs, by their places
pub each_place : {A : Type 0} (P : A → Type 0) (xs : List A) → Each P xs → (i : ℕ) (d : A) → i < length xs → P (slice_index_or xs i d)
each_place P [] h i d le = absurd (omega (arith, le))
each_place P (x ∷ xs) h zero d le = h.0
each_place P (x ∷ xs) h (suc i) d le = each_place P xs h.1 i d (omega (arith, le))

pub pairs_of_ordered : {A : Type 0} (R : A → A → Type 0) (xs : List A) → Ordered R xs → AllPairs R xs
pairs_of_ordered R [] h i j d below le = absurd (omega (arith, le))
pairs_of_ordered R (x ∷ xs) h i zero d below le = absurd (omega (arith, below))
pairs_of_ordered R (x ∷ xs) h zero (suc j) d below le = each_place (R x) xs h.0 j d (omega (arith, le))
pairs_of_ordered R (x ∷ xs) h (suc i) (suc j) d below le = pairs_of_ordered R xs h.1 i j d (omega (arith, below)) (omega (arith, le))

each_put : {A : Type 0} (P : A → Type 0) (xs ys : List A) (n : A) → Each P (xs ++ ys) → P n → Each P (xs ++ n ∷ ys)
each_put P [] ys n h p = (p, h)
each_put P (x ∷ xs) ys n h p = (h.0, each_put P xs ys n h.1 p)

-- another number between numbers that all differ
pub differ_put : (xs ys : List ℕ) (n : ℕ) → Ordered (λ a b. a ≢ b) (xs ++ ys) → Each (λ m. m ≢ n) (xs ++ ys) → Ordered (λ a b. a ≢ b) (xs ++ n ∷ ys)
differ_put [] ys n h k = (each_more (λ m. m ≢ n) (λ m. n ≢ m) ys (λ m f e. f (sym e)) k, h)
differ_put (x ∷ xs) ys n h k = (each_put (λ m. x ≢ m) xs ys n h.0 k.0, differ_put xs ys n h.1 k.1)

-- without one of them
each_drop : {A : Type 0} (P : A → Type 0) (xs ys : List A) (n : A) → Each P (xs ++ n ∷ ys) → Each P (xs ++ ys)
each_drop P [] ys n h = h.1
each_drop P (x ∷ xs) ys n h = (h.0, each_drop P xs ys n h.1)

pub ordered_drop : {A : Type 0} (R : A → A → Type 0) (xs ys : List A) (n : A) → Ordered R (xs ++ n ∷ ys) → Ordered R (xs ++ ys)
ordered_drop R [] ys n h = h.1
ordered_drop R (x ∷ xs) ys n h = (each_drop (R x) xs ys n h.0, ordered_drop R xs ys n h.1)

-- all others differ from it
pub differ_from : (xs ys : List ℕ) (n : ℕ) → Ordered (λ a b. a ≢ b) (xs ++ n ∷ ys) → Each (λ m. m ≢ n) (xs ++ ys)
differ_from [] ys n h = each_more (λ m. n ≢ m) (λ m. m ≢ n) ys (λ m f e. f (sym e)) h.0
differ_from (x ∷ xs) ys n h = ((each_right (λ m. x ≢ m) xs (n ∷ ys) h.0).0, differ_from xs ys n h.1)

-- those that stand on the left, and those on the right
pub ordered_left : {A : Type 0} (R : A → A → Type 0) (xs ys : List A) → Ordered R (xs ++ ys) → Ordered R xs
ordered_left R [] ys h = tt
ordered_left R (x ∷ xs) ys h = (each_left (R x) xs ys h.0, ordered_left R xs ys h.1)

pub ordered_right : {A : Type 0} (R : A → A → Type 0) (xs ys : List A) → Ordered R (xs ++ ys) → Ordered R ys
ordered_right R [] ys h = h
ordered_right R (x ∷ xs) ys h = ordered_right R xs ys h.1
