-- Ways that come one by one, of which so many are kept, are the first of all of them.
use Rattle.std.proofs.Common.{◌≡◌, ℕ, zero, suc, ◌-◌, ◌<◌, ◌≤◌, Bool, true, false, cond, nat_lt, List, [], ◌∷◌, ◌++◌, length, take, drop, get_or, fold, insert, refl, sym, ap, ◌∙◌, arith}
use Rattle.std.proofs.Math.Seq.{take-length}
use Rattle.explain_text.specs.{KeptWays.kept, KeptWays.place_of, declared.ways.cheapest.TheConstants.MOST_WAYS}
use Rattle.explain_text.specs.Ways.{Way, cost, crossed, fewest, joined_with, placed}

take_less : (n : ℕ) (ways : List Way) → take n (take (suc n) ways) ≡ take n ways
take_less zero ways = refl
take_less (suc n) [] = refl
take_less (suc n) (way ∷ ways) = ap (λ others. way ∷ others) (take_less n ways)

with_first : (n : ℕ) (way : Way) (ways : List Way) → take n (way ∷ ways) ≡ take n (way ∷ take n ways)
with_first zero way ways = refl
with_first (suc n) way ways = ap (λ others. way ∷ others) (sym (take_less n ways))

-- those that are not kept change nothing
placed_among : (n : ℕ) (way : Way) (ways : List Way) → take n (placed way ways) ≡ take n (placed way (take n ways))
placed_among zero way ways = refl
placed_among (suc n) way [] = refl
placed_among (suc n) way (other ∷ others) = by (nat_lt (cost way) (cost other)) (placed_among n way others)
  where
    by : (b : Bool) → take n (placed way others) ≡ take n (placed way (take n others)) → take (suc n) (cond b (way ∷ other ∷ others) (other ∷ placed way others)) ≡ take (suc n) (cond b (way ∷ other ∷ take n others) (other ∷ placed way (take n others)))
    by true later = ap (λ more. way ∷ more) (with_first n other others)
    by false later = ap (λ more. other ∷ more) later

sorted_kept : (before ways : List Way) → take MOST_WAYS (fold (λ sorted way. placed way sorted) before ways) ≡ kept (take MOST_WAYS before) ways
sorted_kept before [] = refl
sorted_kept before (way ∷ ways) = sorted_kept (placed way before) ways ∙ ap (λ more. kept more ways) (placed_among MOST_WAYS way before)

pub fewest_kept : (ways : List Way) → kept [] ways ≡ fewest ways
fewest_kept ways = sym (sorted_kept [] ways)

pub kept_append : (before first second : List Way) → kept before (first ++ second) ≡ kept (kept before first) second
kept_append before [] second = refl
kept_append before (way ∷ first) second = kept_append (take MOST_WAYS (placed way before)) first second

pub put_in : (way : Way) (ways : List Way) → insert ways (place_of (cost way) ways) way ≡ placed way ways
put_in way [] = refl
put_in way (other ∷ others) = by (nat_lt (cost way) (cost other)) (put_in way others)
  where
    by : (b : Bool) → insert others (place_of (cost way) others) way ≡ placed way others → insert (other ∷ others) (cond b zero (suc (place_of (cost way) others))) way ≡ cond b (way ∷ other ∷ others) (other ∷ placed way others)
    by true later = refl
    by false later = ap (λ more. other ∷ more) later

-- the first, and those that are left
left_after : (ways : List Way) (blank : Way) → 1 ≤ length ways → (get_or ways 0 blank ∷ []) ++ take (length ways - 1) (drop 1 ways) ≡ ways
left_after [] blank some = absurd (omega (arith, some))
left_after (way ∷ ways) blank some =
    let many : length (way ∷ ways) - 1 ≡ length ways = omega arith in
    ap (λ n. way ∷ take n ways) many ∙ ap (λ others. way ∷ others) (take-length ways)

none_left : (ways : List Way) → length ways < 1 → ways ≡ []
none_left [] few = refl
none_left (way ∷ ways) few = absurd (omega (arith, few))

-- one way more was joined with each of the other side
pub next_crossed : (ways seconds : List Way) (blank : Way) (before new all : List Way) → 1 ≤ length ways → new ≡ kept before (joined_with seconds (get_or ways 0 blank)) → kept before (crossed ways seconds) ≡ all
    → kept new (crossed (take (length ways - 1) (drop 1 ways)) seconds) ≡ all
next_crossed ways seconds blank before new all some is whole =
    let rest = take (length ways - 1) (drop 1 ways) in
    ap (λ more. kept more (crossed rest seconds)) is ∙ sym (kept_append before (joined_with seconds (get_or ways 0 blank)) (crossed rest seconds))
    ∙ ap (λ these. kept before (crossed these seconds)) (left_after ways blank some) ∙ whole

pub all_crossed : (ways seconds before all : List Way) → length ways < 1 → kept before (crossed ways seconds) ≡ all → before ≡ all
all_crossed ways seconds before all few whole = ap (λ these. kept before (crossed these seconds)) (sym (none_left ways few)) ∙ whole
