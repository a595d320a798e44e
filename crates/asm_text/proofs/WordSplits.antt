-- Words behind spaces: a text is cut behind its first word.
use Rattle.std.proofs.Common.{◌≡◌, ℕ, ◌+◌, true, false, eqb, ltb, List, [], ◌∷◌, ◌++◌, length, take, drop, flat_map, Some, refl, sym, ap, ◌∙◌, append_assoc, arith, codes, append-nil, take_at, drop_at, take-append-drop}
use Rattle.std.specs.{Prelude.⊤, List.list_all}
use Rattle.std.proofs.{lemmas.Bool.and_parts, lemmas.Bool.Decides.nat_tests, lemmas.Option.same_Some}
use Rattle.asm_text.specs.{ActionText.spaced, Front.behind, WordReading.space_place, WordReading.word_at}
use Rattle.line_words.specs.PrintedWords.{IsPlain}
use Rattle.asm_text.proofs.{Fronts.behind_is, Stacks.bind_some}

-- where a word may end
abbrev pub Stands : List ℕ → Type 0
Stands [] = ⊤
Stands (b ∷ rest) = b ≡ 32

pub word_end : (word rest : List ℕ) → IsPlain word → Stands rest → space_place (word ++ rest) ≡ length word
word_end [] [] plain stands = refl
word_end [] (b ∷ rest) plain stands = rw stands refl
word_end (byte ∷ word) rest plain stands =
    let parts = and_parts (ltb 32 byte) (list_all (λ b. ltb 32 b) word) plain in
    let high : ltb 32 byte ≡ true = parts.0 in
    let other : eqb byte 32 ≡ false = grind (arith, nat_tests) in
    rw other (ap (λ n. 1 + n) (word_end word rest parts.1 stands) ∙ omega arith)

pub stands_too : (words : List (List ℕ)) (rest : List ℕ) → Stands rest → Stands (flat_map spaced words ++ rest)
stands_too [] rest stands = stands
stands_too (word ∷ words) rest stands = refl

cut : (word rest : List ℕ) → IsPlain word → Stands rest → word_at (32 ∷ (word ++ rest)) ≡ Some (word, rest)
unfolding word_at
cut word rest plain stands =
    rw (word_end word rest plain stands, take_at word rest (length word) refl, drop_at word rest (length word) refl) refl

pub word_then : (word : List ℕ) (words : List (List ℕ)) (rest : List ℕ) → IsPlain word → Stands rest → word_at (flat_map spaced (word ∷ words) ++ rest) ≡ Some (word, flat_map spaced words ++ rest)
word_then word words rest plain stands =
    ap word_at (append_assoc (32 ∷ word) (flat_map spaced words) rest) ∙ cut word (flat_map spaced words ++ rest) plain (stands_too words rest stands)

-- what was cut off stood there
pub word_was : (text : List ℕ) (x : List ℕ × List ℕ) → word_at text ≡ Some x → text ≡ 32 ∷ (x.0 ++ x.1)
unfolding word_at
word_was text x e =
    let after = bind_some (behind (codes " ") text) (λ after. Some (take (space_place after) after, drop (space_place after) after)) x e in
    let parts = same_Some (take (space_place after.0) after.0, drop (space_place after.0) after.0) x after.2 in
    behind_is (codes " ") text after.0 after.1 ∙ ap (λ t. 32 ∷ t) (sym (take-append-drop (space_place after.0) after.0)) ∙ ap (λ (y : List ℕ × List ℕ). 32 ∷ (y.0 ++ y.1)) parts

pub one_word : (word rest : List ℕ) → 32 ∷ (word ++ rest) ≡ flat_map spaced (word ∷ []) ++ rest
one_word word rest = ap (λ t. t ++ rest) (sym (append-nil (32 ∷ word)))

pub word_shown : (text shown : List ℕ) (x : List ℕ × List ℕ) → word_at text ≡ Some x → x.0 ≡ shown → text ≡ flat_map spaced (shown ∷ []) ++ x.1
word_shown text shown x e is = word_was text x e ∙ ap (λ w. 32 ∷ (w ++ x.1)) is ∙ one_word shown x.1

-- words one behind the other
pub spaced_both : (first second : List (List ℕ)) (rest : List ℕ) → flat_map spaced (first ++ second) ++ rest ≡ flat_map spaced first ++ (flat_map spaced second ++ rest)
spaced_both [] second rest = refl
spaced_both (word ∷ first) second rest =
    append_assoc (32 ∷ word) (flat_map spaced (first ++ second)) rest ∙ ap (λ t. (32 ∷ word) ++ t) (spaced_both first second rest) ∙ sym (append_assoc (32 ∷ word) (flat_map spaced first) (flat_map spaced second ++ rest))
