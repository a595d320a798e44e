-- The flags of modules, as they are set.
use Rattle.std.proofs.Common.{◌≡◌, ℕ, ◌<◌, ◌==◌, Bool, true, false, cond, ◌||◌, ◌&&◌, List, [], ◌∷◌, ◌++◌, length, replicate, refl, sym, ap, ◌∙◌, arith, nat_lt, slice_set, get_or-set_same, get_or-set_other, length-set}
use Rattle.std.specs.List.{list_any}
use Rattle.std.proofs.{lemmas.Bool.Decides.nat_tests, lemmas.List.get_or-replicate, lemmas.List.length-replicate}
use Rattle.std.proofs.{lemmas.List.Folds.list_any-append, Math.Bool.or-false}
use Rattle.pi_base.specs.declared.phase.Phase.{Phase}
use Rattle.explain_text.specs.{declared.reasons.Begun.Begun, declared.reasons.Held.Held}
use Rattle.explain_text.specs.Flags.{AddsHeld, AreStarted, flag, is_held, is_start_of, is_wait_of, marked, same_phase}

-- the flags are as many as before
pub marked_len : (number : ℕ) (flags : List Bool) → length (marked number flags) ≡ length flags
marked_len number flags = by (nat_lt number (length flags))
  where
    by : (b : Bool) → length (cond b (slice_set flags number true) flags) ≡ length flags
    by true = length-set flags number true
    by false = refl

or_true : (b : Bool) → true ≡ b || true
or_true true = refl
or_true false = refl

or_false : (b : Bool) → b ≡ b || false
or_false true = refl
or_false false = refl

-- the flag of the module is set, and the others are as they were
pub marked_flag : (number other : ℕ) (flags : List Bool) → other < length flags → flag (marked number flags) other ≡ flag flags other || (number == other)
marked_flag number other flags within = by (nat_lt number (length flags)) (number == other) refl refl
  where
    by : (inside same : Bool) → nat_lt number (length flags) ≡ inside → (number == other) ≡ same → flag (cond inside (slice_set flags number true) flags) other ≡ flag flags other || same
    by true true e s =
        let is : number ≡ other = grind (arith, nat_tests) in
        ap (λ n. flag (slice_set flags number true) n) (sym is) ∙ get_or-set_same flags number true false (omega (arith, is, within)) ∙ or_true (flag flags other)
    by true false e s =
        get_or-set_other flags number other true false (λ (level : other ≡ number). let no : (number == other) ≡ true = grind (arith, nat_tests) in absurd cc) ∙ or_false (flag flags other)
    by false true e s = absurd (grind (arith, nat_tests))
    by false false e s = or_false (flag flags other)

-- no start, and one more, of the phase or of the other one
pub none_started : (phase : Phase) (count : ℕ) → AreStarted [] phase count (replicate count false)
none_started phase count = record {
  count_is = length-replicate count false;
  each = λ number within. get_or-replicate count number false false within;
}

started_and : (begun : List Begun) (start : Begun) (phase : Phase) (number : ℕ) (same : Bool) → same_phase start.phase phase ≡ same
    → list_any (is_start_of phase number) (begun ++ start ∷ []) ≡ list_any (is_start_of phase number) begun || (same && (start.number == number))
started_and begun start phase number same e =
    list_any-append (is_start_of phase number) begun (start ∷ [])
    ∙ ap (λ b. list_any (is_start_of phase number) begun || b) (or-false (same_phase start.phase phase && (start.number == number)) ∙ ap (λ b. b && (start.number == number)) e)

pub started_more : (begun : List Begun) (start : Begun) (phase : Phase) (count : ℕ) (flags : List Bool) → same_phase start.phase phase ≡ true → AreStarted begun phase count flags
    → AreStarted (begun ++ start ∷ []) phase count (marked start.number flags)
started_more begun start phase count flags e are = record {
  count_is = marked_len start.number flags ∙ are.count_is;
  each = λ number within.
      marked_flag start.number number flags (omega (arith, within, are.count_is)) ∙ ap (λ b. b || (start.number == number)) (are.each number within)
      ∙ sym (started_and begun start phase number true e);
}

pub started_other : (begun : List Begun) (start : Begun) (phase : Phase) (count : ℕ) (flags : List Bool) → same_phase start.phase phase ≡ false → AreStarted begun phase count flags
    → AreStarted (begun ++ start ∷ []) phase count flags
started_other begun start phase count flags e are = record {
  count_is = are.count_is;
  each = λ number within. are.each number within ∙ or_false (list_any (is_start_of phase number) begun) ∙ sym (started_and begun start phase number false e);
}

-- the same of those that wait
held_and : (held : List Held) (wait : Held) (phase : Phase) (number : ℕ) (same : Bool) → same_phase wait.phase phase ≡ same
    → list_any (is_wait_of phase number) (held ++ wait ∷ []) ≡ list_any (is_wait_of phase number) held || (same && (wait.number == number))
held_and held wait phase number same e =
    list_any-append (is_wait_of phase number) held (wait ∷ [])
    ∙ ap (λ b. list_any (is_wait_of phase number) held || b) (or-false (same_phase wait.phase phase && (wait.number == number)) ∙ ap (λ b. b && (wait.number == number)) e)

pub none_held : (phase : Phase) (flags : List Bool) → AddsHeld [] phase flags flags
none_held phase flags = record { same_count = refl; each = λ number within. or_false (flag flags number) }

or_assoc : (a b c : Bool) → (a || b) || c ≡ a || (b || c)
or_assoc true b c = refl
or_assoc false b c = refl

pub held_more : (held : List Held) (wait : Held) (phase : Phase) (old mid : List Bool) → same_phase wait.phase phase ≡ true → AddsHeld held phase old mid → AddsHeld (held ++ wait ∷ []) phase old (marked wait.number mid)
held_more held wait phase old mid e adds = record {
  same_count = marked_len wait.number mid ∙ adds.same_count;
  each = λ number within.
      marked_flag wait.number number mid (omega (arith, within, adds.same_count)) ∙ ap (λ b. b || (wait.number == number)) (adds.each number within)
      ∙ or_assoc (flag old number) (is_held held phase number) (wait.number == number) ∙ ap (λ b. flag old number || b) (sym (held_and held wait phase number true e));
}

pub held_other : (held : List Held) (wait : Held) (phase : Phase) (old mid : List Bool) → same_phase wait.phase phase ≡ false → AddsHeld held phase old mid → AddsHeld (held ++ wait ∷ []) phase old mid
held_other held wait phase old mid e adds = record {
  same_count = adds.same_count;
  each = λ number within.
      adds.each number within ∙ ap (λ b. flag old number || b) (or_false (is_held held phase number) ∙ sym (held_and held wait phase number false e));
}
