-- The first word of a line.
use Rattle.std.proofs.Common.{◌≡◌, ◌≢◌, ℕ, ◌+◌, ◌<◌, Bool, true, false, eqb, ltb, List, [], ◌∷◌, length, take, drop, refl, ap, ◌∙◌, arith, get_or, inl, inr, length-take, filter, take_all}
use Rattle.std.specs.List.{slice_split, position_or_len}
use Rattle.std.proofs.{lemmas.Bool.cases_lt, lemmas.List.drop_more, lemmas.List.drop_all, lemmas.List.Splits.slice_split_first}
use Rattle.std.proofs.{lemmas.List.Sums.passes_at_first, lemmas.Bool.Decides.nat_tests}
use Rattle.line_words.specs.Words.{words}
use Rattle.line_words.proofs.LineLemmas.{is_byte, no_cut}

abbrev some : List ℕ → Bool
some word = ltb 0 (length word)

kept : (word : List ℕ) (others : List (List ℕ)) → 0 < length word → filter some (word ∷ others) ≡ word ∷ filter some others
kept word others h = let t : ltb 0 (length word) ≡ true = grind (arith, nat_tests) in rw t refl

-- a first place that is not the first element
pub not_first : (line : List ℕ) → 0 < length line → get_or line 0 0 ≢ 32 → 0 < position_or_len (is_byte 32) line
not_first [] some trimmed = absurd (omega arith)
not_first (x ∷ line) some trimmed = let t : eqb x 32 ≡ false = grind (arith, nat_tests) in rw t (omega arith)

pub words_first : (line : List ℕ) (n : ℕ) → n ≡ position_or_len (is_byte 32) line → 0 < length line → get_or line 0 0 ≢ 32
    → words line ≡ take n line ∷ words (drop n line)
words_first line n is long trimmed =
    let some = not_first line long trimmed in
    elim (cases_lt n (length line)) [
      | inl within ↦
          let cut : slice_split (is_byte 32) line ≡ take n line ∷ slice_split (is_byte 32) (drop (n + 1) line) = rw is (slice_split_first (is_byte 32) line 0 (rw (← is) within)) in
          let here : get_or line n 0 ≡ 32 = let t : eqb (get_or line n 0) 32 ≡ true = rw is (passes_at_first (is_byte 32) line 0 (rw (← is) within)) in grind (arith, nat_tests) in
          let rest : drop n line ≡ 32 ∷ drop (n + 1) line = drop_more line n 0 within ∙ ap (λ x. x ∷ drop (n + 1) line) here in
          rw (cut, rest) (kept (take n line) (slice_split (is_byte 32) (drop (n + 1) line)) (omega (arith, length-take n line)))
      | inr past ↦
          let cut : slice_split (is_byte 32) line ≡ line ∷ [] = no_cut (is_byte 32) line (rw (← is) past) in
          rw (cut, drop_all n line past, take_all n line past) (kept line [] long)
    ]
