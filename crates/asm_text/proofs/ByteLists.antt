-- Lists of bytes, and tests of lists.
use Rattle.std.proofs.Common.{◌≡◌, ℕ, zero, suc, ◌<◌, Bool, true, List, [], ◌∷◌, ◌++◌, flat_map, refl, sym, ◌∙◌, arith, nat_lt}
use Rattle.std.specs.{List.list_all, List.AllByRecursion, Int.byte_at, Int.bytes_low_first}
use Rattle.std.proofs.{lemmas.Bool.and_parts, lemmas.Bool.and_from, lemmas.Bool.Decides.nat_tests, lemmas.List.Folds.list_all-append}
use Rattle.hex.specs.Hex.{IsBytes}
use Rattle.pi_base.specs.Field.{little_bytes}

pub bytes_cons : (b : ℕ) (xs : List ℕ) → b < 256 → IsBytes xs → IsBytes (b ∷ xs)
bytes_cons b xs here fits zero = here
bytes_cons b xs here fits (suc i) = fits i

pub bytes_tail : (b : ℕ) (xs : List ℕ) → IsBytes (b ∷ xs) → IsBytes xs
bytes_tail b xs fits i = fits (suc i)

pub bytes_none : IsBytes []
bytes_none i = omega arith

pub bytes_both : (xs ys : List ℕ) → IsBytes xs → IsBytes ys → IsBytes (xs ++ ys)
bytes_both [] ys a b = b
bytes_both (x ∷ xs) ys a b = bytes_cons x (xs ++ ys) (a 0) (bytes_both xs ys (bytes_tail x xs a) b)

pub bytes_front : (xs ys : List ℕ) → IsBytes (xs ++ ys) → IsBytes xs
bytes_front [] ys fits = bytes_none
bytes_front (x ∷ xs) ys fits = bytes_cons x xs (fits 0) (bytes_front xs ys (bytes_tail x (xs ++ ys) fits))

pub bytes_back : (xs ys : List ℕ) → IsBytes (xs ++ ys) → IsBytes ys
bytes_back [] ys fits = fits
bytes_back (x ∷ xs) ys fits = bytes_back xs ys (bytes_tail x (xs ++ ys) fits)

byte_small : (i n : ℕ) → byte_at i n < 256
byte_small zero n = omega arith
byte_small (suc i) n = omega arith

low_bytes : (i k n : ℕ) → IsBytes (bytes_low_first i k n)
low_bytes i zero n = bytes_none
low_bytes i (suc k) n = bytes_cons (byte_at i n) (bytes_low_first (suc i) k n) (byte_small i n) (low_bytes (suc i) k n)

pub bytes_little : (width n : ℕ) → IsBytes (little_bytes width n)
bytes_little width n = low_bytes 0 width n

-- what is spelled of each of several things is bytes
pub bytes_each : {A : Type 0} (spell : A → List ℕ) (xs : List A) → AllByRecursion (λ x. IsBytes (spell x)) xs → IsBytes (flat_map spell xs)
bytes_each spell [] all = bytes_none
bytes_each spell (x ∷ xs) all = bytes_both (spell x) (flat_map spell xs) all.0 (bytes_each spell xs all.1)

pub each_bytes : {A : Type 0} (spell : A → List ℕ) (xs : List A) → IsBytes (flat_map spell xs) → AllByRecursion (λ x. IsBytes (spell x)) xs
each_bytes spell [] fits = tt
each_bytes spell (x ∷ xs) fits = (bytes_front (spell x) (flat_map spell xs) fits, each_bytes spell xs (bytes_back (spell x) (flat_map spell xs) fits))

pub below : (n m : ℕ) → n < m → nat_lt n m ≡ true
below n m less = grind (arith, nat_tests)

pub is_below : (n m : ℕ) → nat_lt n m ≡ true → n < m
is_below n m test = grind (arith, nat_tests)

-- numbers below a limit
pub all_below : (limit : ℕ) (xs : List ℕ) → AllByRecursion (λ x. x < limit) xs → list_all (λ x. nat_lt x limit) xs ≡ true
all_below limit [] all = refl
all_below limit (x ∷ xs) all = and_from (nat_lt x limit) (list_all (λ x. nat_lt x limit) xs) (below x limit all.0) (all_below limit xs all.1)

pub are_below : (limit : ℕ) (xs : List ℕ) → list_all (λ x. nat_lt x limit) xs ≡ true → AllByRecursion (λ x. x < limit) xs
are_below limit [] all = tt
are_below limit (x ∷ xs) all =
    let parts = and_parts (nat_lt x limit) (list_all (λ x. nat_lt x limit) xs) all in
    (is_below x limit parts.0, are_below limit xs parts.1)

pub few_bytes : (limit : ℕ) (xs : List ℕ) → limit < 257 → AllByRecursion (λ x. x < limit) xs → IsBytes xs
few_bytes limit [] few all = bytes_none
few_bytes limit (x ∷ xs) few all = bytes_cons x xs (omega (arith, all.0)) (few_bytes limit xs few all.1)

-- a test of two lists, one behind the other
pub both_pass : {A : Type 0} (p : A → Bool) (xs ys : List A) → list_all p xs ≡ true → list_all p ys ≡ true → list_all p (xs ++ ys) ≡ true
both_pass p xs ys a b = list_all-append p xs ys ∙ rw (a, b) refl

pub each_passes : {A : Type 0} (p : A → Bool) (xs ys : List A) → list_all p (xs ++ ys) ≡ true → (list_all p xs ≡ true) × (list_all p ys ≡ true)
each_passes p xs ys both = and_parts (list_all p xs) (list_all p ys) (sym (list_all-append p xs ys) ∙ both)
