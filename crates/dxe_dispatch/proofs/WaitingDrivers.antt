-- The index of the waiting drivers, where drivers are scheduled and requested.
use Rattle.std.proofs.Common.{◌≡◌, ℕ, zero, suc, ◌<◌, ◌==◌, Bool, true, false, ◌&&◌, ◌||◌, not, cond, List, [], ◌∷◌, ◌++◌, Option, Some, None, length, refl, sym, ap, ◌∙◌, arith, slice_get}
use Rattle.std.proofs.{lemmas.Bool.Decides.nat_tests, lemmas.List.Folds.list_any-append}
use Rattle.mod_catalog.specs.Parts.{has_number}
use Rattle.boot_model.specs.declared.driver.Scheduled.{Scheduled}
use Rattle.boot_laws.proofs.PartLists.{is_equal}
use Rattle.wait_index.specs.{declared.index.WaitIndex.WaitIndex, declared.places.Places.Places, declared.standing.Standing.Standing}
use Rattle.wait_index.specs.{Change.IsChanged, Change.started, Places.order_of, Places.standing_of}
use Rattle.wait_index.specs.Index.{is_open_in, order_in, waits_in}
use Rattle.dxe_dispatch.specs.Index.{IsRequested, WaitsNoMore, WaitNoMore, is_scheduled_in}

place_by : (x : ℕ) (xs : List ℕ) (n : ℕ) (b : Bool) → (x == n) ≡ b → (b || has_number xs n) ≡ true → (has_number xs n ≡ true → (place : ℕ) × (slice_get xs place ≡ Some n))
    → (place : ℕ) × (slice_get (x ∷ xs) place ≡ Some n)
place_by x xs n true e k on = (0, ap Some (is_equal x n e))
place_by x xs n false e k on = let later = on k in (suc later.0, later.1)

-- a number of a list has a place
pub has_place : (xs : List ℕ) (n : ℕ) → has_number xs n ≡ true → (place : ℕ) × (slice_get xs place ≡ Some n)
has_place [] n h = cc
has_place (x ∷ xs) n h = place_by x xs n (x == n) refl h (has_place xs n)

pub place_within : (xs : List ℕ) (place n : ℕ) → slice_get xs place ≡ Some n → place < length xs
place_within [] place n h = cc
place_within (x ∷ xs) zero n h = omega arith
place_within (x ∷ xs) (suc place) n h = let later = place_within xs place n h in omega (arith, later)

-- two numbers that differ are not equal
unequal : (a b : ℕ) → (a == b) ≡ false → a ≡ b → ⊥
unequal a b h e = grind (arith, nat_tests)

one_of : (a b : ℕ) → Some a ≡ Some b → a ≡ b
one_of a b e = cc

-- how a driver stands, where one at a place stands otherwise
stands_by : (change : Standing → Standing) (order : List ℕ) (old new : Places) (place number n : ℕ) (b : Bool) → order ≡ order_of old → slice_get order place ≡ Some number → IsChanged change place old new → (number == n) ≡ b
    → standing_of new n ≡ cond b (change (standing_of old n)) (standing_of old n)
stands_by change order old new place number n true same at is e = is.here n (ap (λ xs. slice_get xs place) (sym same) ∙ at ∙ ap Some (is_equal number n e))
stands_by change order old new place number n false same at is e = is.others n (λ h. unequal number n e (one_of number n (sym at ∙ ap (λ xs. slice_get xs place) same ∙ h)))

waits_by : (b : Bool) (s : Standing) → (cond b (started s) s).waits ≡ (not (b || false) && s.waits)
waits_by true s = refl
waits_by false s = refl

opens_by : (b : Bool) (s : Standing) → (cond b (started s) s).«open» ≡ s.«open»
opens_by true s = refl
opens_by false s = refl

again_by : (b : Bool) (s : Standing) → s.again ≡ false → (cond b (started s) s).again ≡ false
again_by true s h = refl
again_by false s h = h

none_by : (b : Bool) (number n : ℕ) (order : List ℕ) → (number == n) ≡ b → ((place : ℕ) → slice_get order place ≡ Some number → ⊥) → has_number order n ≡ true → b ≡ false
none_by true number n order e none known =
    let there = has_place order n known in absurd (none there.0 (there.1 ∙ ap Some (sym (is_equal number n e))))
none_by false number n order e none known = refl

-- one that has no place waits for nothing
pub leaves_none : (number : ℕ) (old : WaitIndex) → ((place : ℕ) → slice_get (order_in old) place ≡ Some number → ⊥) → WaitsNoMore number old old
leaves_none number old none = record {
  phase = refl;
  installed = refl;
  order = refl;
  waits = λ n known. sym (ap (λ b. not (b || false) && waits_in old n) (none_by (number == n) number n (order_in old) refl none known));
  opens = λ n. refl;
  again = λ n h. h;
  kept = λ catalog is. is;
  owed = omega arith;
}

pub requested_none : (number : ℕ) (old : WaitIndex) → ((place : ℕ) → slice_get (order_in old) place ≡ Some number → ⊥) → IsRequested number old old
requested_none number old none = record {
  phase = refl;
  installed = refl;
  order = refl;
  waits = λ n. refl;
  opens = λ n known. sym (ap (λ b. b || is_open_in old n) (none_by (number == n) number n (order_in old) refl none known));
  again = λ n. refl;
  kept = λ catalog is. is;
  owed = refl;
}

-- a place that is told to be none
pub not_there : (found : Option ℕ) (P : ℕ → Type 0) → found ≡ None → ((place : ℕ) → P place → found ≡ Some place) → (place : ℕ) → P place → ⊥
not_there found P none at place p = let never : Some place ≡ None = sym (at place p) ∙ none in cc

-- nobody is scheduled
pub none_leave : (index : WaitIndex) → WaitNoMore (is_scheduled_in []) index index
none_leave index = record {
  phase = refl;
  installed = refl;
  order = refl;
  waits = λ n known. refl;
  opens = λ n. refl;
  again = λ n h. h;
  kept = λ catalog is. is;
  owed = omega arith;
}

-- neither of two, one after the other
pub neither : (x y w : Bool) → (not y && (not x && w)) ≡ (not (x || y) && w)
neither true true w = refl
neither true false w = refl
neither false y w = refl

-- some, and then others
pub leave_then : (a b : List Scheduled) (old mid new : WaitIndex) → WaitNoMore (is_scheduled_in a) old mid → WaitNoMore (is_scheduled_in b) mid new → WaitNoMore (is_scheduled_in (a ++ b)) old new
leave_then a b old mid new f g = record {
  phase = g.phase ∙ f.phase;
  installed = g.installed ∙ f.installed;
  order = g.order ∙ f.order;
  waits = λ n known.
      g.waits n (ap (λ xs. has_number xs n) f.order ∙ known)
      ∙ ap (λ w. not (is_scheduled_in b n) && w) (f.waits n known)
      ∙ neither (is_scheduled_in a n) (is_scheduled_in b n) (waits_in old n)
      ∙ ap (λ t. not t && waits_in old n) (sym (list_any-append (λ (next : Scheduled). next.module_number == n) a b));
  opens = λ n. g.opens n ∙ f.opens n;
  again = λ n h. g.again n (f.again n h);
  kept = λ catalog is. g.kept catalog (f.kept catalog is);
  owed = let first = f.owed in let second = g.owed in omega (arith, first, second);
}
