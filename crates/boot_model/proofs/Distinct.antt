-- Lists in which no number stands twice.
use Rattle.std.proofs.Common.{◌≡◌, ℕ, zero, suc, ◌+◌, ◌<◌, ◌≤◌, ◌==◌, Bool, true, false, ◌||◌, List, [], ◌∷◌, ◌++◌, length, refl, sym, ap, ◌∙◌, subst, arith, eqb, ◌≢◌, filter, flat_map}
use Rattle.std.specs.List.{list_any, AllByRecursion, IsDistinct}
use Rattle.std.proofs.{lemmas.Bool.Decides.nat_tests, lemmas.Map.Steps.length-le_from_distinct_below}
use Rattle.pi_base.specs.Lists.{Each, Ordered, numbers}
use Rattle.mod_catalog.specs.Parts.{has_number}
use Rattle.boot_model.specs.Licence.{AllDiffer}
use Rattle.boot_model.proofs.ListFacts.{each_more, each_flat, each_both, each_cross, each_at, ordered_filter, ordered_append}

-- the number is none of these, and none of those is one of these
abbrev pub Apart : ℕ → List ℕ → Type 0
Apart x ys = Each (λ y. x ≢ y) ys

abbrev pub AllApart : List ℕ → List ℕ → Type 0
AllApart xs ys = Each (λ x. Apart x ys) xs

abbrev pub Distinct : List ℕ → Type 0
Distinct xs = Ordered (λ a b. a ≢ b) xs

pub neither : (a b : Bool) → (a || b) ≡ false → (a ≡ false) × (b ≡ false)
neither true b h = cc
neither false b h = (refl, h)

other_than : (x n : ℕ) → (x == n) ≡ false → n ≢ x
other_than x n h e = grind (arith, nat_tests)

pub absent : (xs : List ℕ) (n : ℕ) → has_number xs n ≡ false → Apart n xs
absent [] n h = tt
absent (x ∷ xs) n h = let both = neither (x == n) (has_number xs n) h in (other_than x n both.0, absent xs n both.1)

not_that : (x n : ℕ) (here : Bool) (later : Bool) → (x == n) ≡ here → n ≢ x → later ≡ false → (here || later) ≡ false
not_that x n true later e other h = let same : n ≡ x = grind (arith, nat_tests) in absurd (other same)
not_that x n false later e other h = h

pub is_absent : (xs : List ℕ) (n : ℕ) → Apart n xs → has_number xs n ≡ false
is_absent [] n h = refl
is_absent (x ∷ xs) n h = not_that x n (x == n) (has_number xs n) refl h.0 (is_absent xs n h.1)

pub all_differ : (xs : List ℕ) → Distinct xs → AllDiffer xs
all_differ [] h = tt
all_differ (x ∷ xs) h = (is_absent xs x h.0, all_differ xs h.1)

pub all_distinct : (xs : List ℕ) → AllDiffer xs → Distinct xs
all_distinct [] h = tt
all_distinct (x ∷ xs) h = (absent xs x h.0, all_distinct xs h.1)

pub distinct_append : (xs ys : List ℕ) → Distinct xs → Distinct ys → AllApart xs ys → Distinct (xs ++ ys)
distinct_append xs ys d e f = ordered_append (λ a b. a ≢ b) xs ys d e f

pub distinct_filter : (test : ℕ → Bool) (xs : List ℕ) → Distinct xs → Distinct (filter test xs)
distinct_filter test xs d = ordered_filter (λ a b. a ≢ b) test xs d

-- in each list of f the items belong to its number, and to no other
abbrev pub TellsApart : (ℕ → ℕ → Type 0) → Type 0
TellsApart Belongs = (x other y : ℕ) → Belongs x y → Belongs other y → x ≡ other

abbrev OfOther : (ℕ → ℕ → Type 0) → ℕ → ℕ → Type 0
OfOther Belongs x y = (other : ℕ) × (x ≢ other) × Belongs other y

others : (Belongs : ℕ → ℕ → Type 0) (f : ℕ → List ℕ) (x : ℕ) (xs : List ℕ) → Apart x xs → Each (λ a. Each (Belongs a) (f a)) xs → Each (OfOther Belongs x) (flat_map f xs)
others Belongs f x xs apart belongs =
    each_flat (OfOther Belongs x) (λ a. (x ≢ a) × Each (Belongs a) (f a)) f xs (λ a h. each_more (Belongs a) (OfOther Belongs x) (f a) (λ y b. (a, h.0, b)) h.1)
    (each_both (λ a. x ≢ a) (λ a. Each (Belongs a) (f a)) xs apart belongs)

differ_by : (Belongs : ℕ → ℕ → Type 0) → TellsApart Belongs → (x y z : ℕ) → Belongs x y → OfOther Belongs x z → y ≢ z
differ_by Belongs tells x y z b other e = other.1 (tells x other.0 z (subst (Belongs x) e b) other.2)

pub distinct_flat : (Belongs : ℕ → ℕ → Type 0) (f : ℕ → List ℕ) → TellsApart Belongs → (xs : List ℕ) → Distinct xs → Each (λ x. Distinct (f x)) xs → Each (λ x. Each (Belongs x) (f x)) xs
    → Distinct (flat_map f xs)
distinct_flat Belongs f tells [] d e b = tt
distinct_flat Belongs f tells (x ∷ xs) d e b =
    distinct_append (f x) (flat_map f xs) e.0 (distinct_flat Belongs f tells xs d.1 e.1 b.1)
    (each_cross (Belongs x) (OfOther Belongs x) (λ y z. y ≢ z) (f x) (flat_map f xs) (differ_by Belongs tells x) b.0 (others Belongs f x xs d.0 b.1))

from_on : (from count : ℕ) → Each (λ n. from ≤ n) (numbers from count)
from_on from zero = tt
from_on from (suc count) = (omega arith, each_more (λ n. from + 1 ≤ n) (λ n. from ≤ n) (numbers (from + 1) count) (λ n h. omega (arith, h)) (from_on (from + 1) count))

pub distinct_numbers : (from count : ℕ) → Distinct (numbers from count)
distinct_numbers from zero = tt
distinct_numbers from (suc count) =
    (each_more (λ n. from + 1 ≤ n) (λ n. from ≢ n) (numbers (from + 1) count) (λ n h e. omega (arith, h, e)) (from_on (from + 1) count), distinct_numbers (from + 1) count)

-- a number that is new at the end
pub differ_pushed : (xs : List ℕ) (n : ℕ) → has_number xs n ≡ false → AllDiffer xs → AllDiffer (xs ++ n ∷ [])
differ_pushed xs n new d =
    all_differ (xs ++ n ∷ []) (distinct_append xs (n ∷ []) (all_distinct xs d) (tt, tt) (each_more (λ x. n ≢ x) (λ x. Apart x (n ∷ [])) xs (λ x h. ((λ e. h (sym e)), tt)) (absent xs n new)))

-- the same as std says it
pub turned : (x y : ℕ) → (x == y) ≡ (y == x)
turned x y = grind (arith, nat_tests)

any_turned : (xs : List ℕ) (n : ℕ) → list_any (eqb n) xs ≡ has_number xs n
any_turned [] n = refl
any_turned (x ∷ xs) n = ap (λ b. b || list_any (eqb n) xs) (turned n x) ∙ ap (λ b. (x == n) || b) (any_turned xs n)

apart : (xs : List ℕ) (n : ℕ) → has_number xs n ≡ false → AllByRecursion (λ x. eqb n x ≡ false) xs
apart [] n h = tt
apart (x ∷ xs) n h = let both = neither (x == n) (has_number xs n) h in (turned n x ∙ both.0, apart xs n both.1)

distinct : (xs : List ℕ) → AllDiffer xs → IsDistinct eqb xs
unfolding IsDistinct
distinct [] d = tt
distinct (x ∷ xs) d = (apart xs x d.0, distinct xs d.1)

-- numbers that differ and lie below a bound are no more than the bound
pub few_below : (xs : List ℕ) (bound : ℕ) → AllDiffer xs → Each (λ x. x < bound) xs → length xs ≤ bound
few_below xs bound d below = length-le_from_distinct_below xs bound (distinct xs d) (λ n has. each_at (λ x. x < bound) xs n below (sym (any_turned xs n) ∙ has))
