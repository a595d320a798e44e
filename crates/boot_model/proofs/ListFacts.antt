-- What holds of each item of a list, and where a list of numbers has one.
use Rattle.std.proofs.Common.{◌≡◌, ℕ, zero, suc, ◌<◌, ◌==◌, Bool, true, false, ◌||◌, cond, List, [], ◌∷◌, ◌++◌, Option, Some, refl, subst, length, arith, is_some, slice_get, find, flat_map, option_and_then}
use Rattle.std.proofs.lemmas.Bool.Decides.{nat_tests}
use Rattle.pi_base.specs.Lists.{Each}
use Rattle.mod_catalog.specs.Parts.{has_number}
pub use Rattle.pi_base.proofs.ListFacts.{each_more, each_append, each_both, each_cross, each_filter, ordered_filter, ordered_append}

pub each_push : {A : Type 0} (P : A → Type 0) (xs : List A) (x : A) → Each P xs → P x → Each P (xs ++ x ∷ [])
each_push P xs x e p = each_append P xs (x ∷ []) e (p, tt)

found_one : {A : Type 0} (P : A → Type 0) (y x : A) (later : Option A) (b : Bool) → P y → (later ≡ Some x → P x) → cond b (Some y) later ≡ Some x → P x
found_one P y x later true p down h = let same : y ≡ x = cc in subst P same p
found_one P y x later false p down h = down h

pub has_later : (a b : Bool) → b ≡ true → (a || b) ≡ true
has_later true b h = refl
has_later false b h = h

pub has_here : (a b : Bool) → a ≡ true → (a || b) ≡ true
has_here a b h = cc

pub has_first : (x : ℕ) (xs : List ℕ) → has_number (x ∷ xs) x ≡ true
has_first x xs = let e : (x == x) ≡ true = grind (arith, nat_tests) in has_here (x == x) (has_number xs x) e

pub each_flat : {A : Type 0} (P Q : A → Type 0) (f : A → List A) (xs : List A) → ((x : A) → Q x → Each P (f x)) → Each Q xs → Each P (flat_map f xs)
each_flat P Q f [] h e = tt
each_flat P Q f (x ∷ xs) h e = each_append P (f x) (flat_map f xs) (h x e.0) (each_flat P Q f xs h e.1)

-- what holds of each item holds of the one that is found
pub each_found : {A : Type 0} (P : A → Type 0) (p : A → Bool) (xs : List A) (x : A) → find p xs ≡ Some x → Each P xs → P x
each_found P p [] x h e = cc
each_found P p (y ∷ ys) x h e = found_one P y x (find p ys) (p y) e.0 (λ k. each_found P p ys x k e.1) h

-- each of a list is among it
pub each_has : (xs : List ℕ) → Each (λ x. has_number xs x ≡ true) xs
each_has [] = tt
each_has (x ∷ xs) = (has_first x xs, each_more (λ y. has_number xs y ≡ true) (λ y. has_number (x ∷ xs) y ≡ true) xs (λ y h. has_later (x == y) (has_number xs y) h) (each_has xs))

-- by whether the first is the number
at_first : (P : ℕ → Type 0) (x n : ℕ) (here later : Bool) → (x == n) ≡ here → P x → (later ≡ true → P n) → (here || later) ≡ true → P n
at_first P x n true later e p on h = let same : x ≡ n = grind (arith, nat_tests) in subst P same p
at_first P x n false later e p on h = on h

pub each_at : (P : ℕ → Type 0) (xs : List ℕ) (n : ℕ) → Each P xs → has_number xs n ≡ true → P n
each_at P [] n e h = cc
each_at P (x ∷ xs) n e h = at_first P x n (x == n) (has_number xs n) refl e.0 (each_at P xs n e.1) h

-- where there is something at a place, the list is longer
pub within : {A B : Type 0} (f : A → Option B) (xs : List A) (i : ℕ) → is_some (option_and_then f (slice_get xs i)) ≡ true → i < length xs
within f [] i h = cc
within f (x ∷ xs) zero h = omega arith
within f (x ∷ xs) (suc i) h = let later = within f xs i h in omega arith

-- what is found passes the test
found_on : {A : Type 0} (p : A → Bool) (y x : A) (later : Option A) (b : Bool) → p y ≡ b → (later ≡ Some x → p x ≡ true) → cond b (Some y) later ≡ Some x → p x ≡ true
found_on p y x later true e down h = let same : y ≡ x = cc in subst (λ z. p z ≡ true) same e
found_on p y x later false e down h = down h

pub found_passes : {A : Type 0} (p : A → Bool) (xs : List A) (x : A) → find p xs ≡ Some x → p x ≡ true
found_passes p [] x h = cc
found_passes p (y ∷ ys) x h = found_on p y x (find p ys) (p y) refl (found_passes p ys x) h
