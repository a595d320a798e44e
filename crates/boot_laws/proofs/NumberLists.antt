-- Lists of numbers: what holds of each of a list that is read from a place on, what is found in it, and how many are missing from another.
use Rattle.std.proofs.Common.{take-append-drop, ◌≡◌, ℕ, zero, suc, ◌+◌, ◌==◌, Bool, true, false, not, ◌||◌, cond, List, [], ◌∷◌, ◌++◌, Option, Some, None, refl, sym, ap, ◌∙◌, subst, drop, take, find, slice_get}
use Rattle.pi_base.specs.Lists.{Each}
use Rattle.mod_catalog.specs.Parts.{has_number}
use Rattle.boot_model.specs.PeiChoice.{rotated}
use Rattle.boot_model.proofs.ListFacts.{each_append}
use Rattle.boot_laws.proofs.Counting as C
use Rattle.boot_laws.proofs.PartLists.{is_equal}
use Rattle.boot_laws.specs.PeiUnderWay.{one_if, missing}

pub one_if_same : (b : Bool) → one_if b ≡ C.one_if b
one_if_same true = refl
one_if_same false = refl

pub missing_same : (among xs : List ℕ) → missing among xs ≡ C.missing among xs
missing_same among [] = refl
missing_same among (x ∷ xs) = ap (λ n. n + missing among xs) (one_if_same (not (has_number among x))) ∙ ap (λ n. C.one_if (not (has_number among x)) + n) (missing_same among xs)

pub each_split : {A : Type 0} (P : A → Type 0) (xs ys : List A) → Each P (xs ++ ys) → Each P xs × Each P ys
each_split P [] ys e = (tt, e)
each_split P (x ∷ xs) ys e = let later = each_split P xs ys e.1 in ((e.0, later.0), later.1)

-- a list read from a place on has what it has
pub each_rotated : (P : ℕ → Type 0) (cursor : ℕ) (xs : List ℕ) → Each P xs → Each P (rotated cursor xs)
each_rotated P cursor xs e =
    let both = each_split P (take cursor xs) (drop cursor xs) (subst (Each P) (sym (take-append-drop cursor xs)) e) in
    each_append P (drop cursor xs) (take cursor xs) both.1 both.0

pub each_turned : (P : ℕ → Type 0) (cursor : ℕ) (xs : List ℕ) → Each P (rotated cursor xs) → Each P xs
each_turned P cursor xs e =
    let both = each_split P (drop cursor xs) (take cursor xs) e in
    subst (Each P) (take-append-drop cursor xs) (each_append P (take cursor xs) (drop cursor xs) both.1 both.0)

-- where nothing is found none passes the test, and the other way round
none_on : {P : Type 0} (p : ℕ → Bool) (y : ℕ) (later : Option ℕ) (b : Bool) → p y ≡ b → (later ≡ None → P) → cond b (Some y) later ≡ None → (p y ≡ false) × P
none_on p y later true e down h = cc
none_on p y later false e down h = (e, down h)

pub none_found : (p : ℕ → Bool) (xs : List ℕ) → find p xs ≡ None → Each (λ x. p x ≡ false) xs
none_found p [] h = tt
none_found p (x ∷ xs) h = none_on p x (find p xs) (p x) refl (none_found p xs) h

pub finds_none : (p : ℕ → Bool) (xs : List ℕ) → Each (λ x. p x ≡ false) xs → find p xs ≡ None
finds_none p [] e = refl
finds_none p (x ∷ xs) e = ap (λ b. cond b (Some x) (find p xs)) e.0 ∙ finds_none p xs e.1

-- where one passes the test something is found
finds_on : (p : ℕ → Bool) (y : ℕ) (later : Option ℕ) (b : Bool) → (b ≡ false → (x : ℕ) × (later ≡ Some x)) → (x : ℕ) × (cond b (Some y) later ≡ Some x)
finds_on p y later true down = (y, refl)
finds_on p y later false down = down refl

is_or_later : (p : ℕ → Bool) (y n : ℕ) (here later : Bool) → (y == n) ≡ here → p n ≡ true → p y ≡ false → (here || later) ≡ true → later ≡ true
is_or_later p y n true later e passes fails h =
    let same : y ≡ n = is_equal y n e in
    let moved : p n ≡ false = subst (λ x. p x ≡ false) same fails in cc
is_or_later p y n false later e passes fails h = h

pub finds_some : (p : ℕ → Bool) (xs : List ℕ) (n : ℕ) → has_number xs n ≡ true → p n ≡ true → (x : ℕ) × (find p xs ≡ Some x)
finds_some p [] n has passes = cc
finds_some p (y ∷ ys) n has passes =
    finds_on p y (find p ys) (p y) (λ fails. finds_some p ys n (is_or_later p y n (y == n) (has_number ys n) refl passes fails has) passes)

-- the one at a place, where it passes, is the first that is found from there on
pub finds_at : (p : ℕ → Bool) (place : ℕ) (xs ys : List ℕ) (n : ℕ) → slice_get xs place ≡ Some n → p n ≡ true → find p (drop place xs ++ ys) ≡ Some n
finds_at p zero [] ys n h passes = cc
finds_at p zero (x ∷ xs) ys n h passes =
    let same : x ≡ n = cc in
    let first : p x ≡ true = subst (λ y. p y ≡ true) (sym same) passes in
    ap (λ b. cond b (Some x) (find p (xs ++ ys))) first ∙ ap Some same
finds_at p (suc place) [] ys n h passes = cc
finds_at p (suc place) (x ∷ xs) ys n h passes = finds_at p place xs ys n h passes
