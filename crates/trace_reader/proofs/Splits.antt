-- Where a word ends, and what follows a keyword.
use Rattle.std.proofs.Common.{◌≡◌, ℕ, ◌+◌, Bool, true, false, eqb, ltb, List, [], ◌∷◌, ◌++◌, length, take, drop, refl, sym, ap, ◌∙◌, arith, flat_map, Option, Some, None, take_at, drop_at, Bor, MatchOption}
use Rattle.std.specs.List.{position_or_len, list_all}
use Rattle.std.proofs.{lemmas.Bool.and_parts, lemmas.Bool.Decides.nat_tests}
use Rattle.boot_io.specs.Line.{spaced}
use Rattle.line_words.specs.PrintedWords.{Finds, IsPlain}

abbrev pub is_byte : ℕ → ℕ → Bool
is_byte sought byte = eqb byte sought

-- the first space behind a word stands at its end
pub word_place : (word : List ℕ) (words : List (List ℕ)) → IsPlain word → position_or_len (is_byte 32) (word ++ flat_map spaced words) ≡ length word
word_place [] [] plain = refl
word_place [] (next ∷ words) plain = refl
word_place (byte ∷ word) words plain =
    let parts = and_parts (ltb 32 byte) (list_all (λ b. ltb 32 b) word) plain in
    let high : ltb 32 byte ≡ true = parts.0 in
    let other : eqb byte 32 ≡ false = grind (arith, nat_tests) in
    rw other (ap (λ n. 1 + n) (word_place word words parts.1) ∙ omega arith)

-- a text that begins with a word is cut behind it
pub cut_front : (text word : List ℕ) (words : List (List ℕ)) (n : ℕ) → IsPlain word → text ≡ word ++ flat_map spaced words → n ≡ position_or_len (is_byte 32) text → take n text ≡ word
cut_front text word words n plain is place = rw (place, is, word_place word words plain) (take_at word (flat_map spaced words) (length word) refl)

pub cut_back : (text word : List ℕ) (words : List (List ℕ)) (n : ℕ) → IsPlain word → text ≡ word ++ flat_map spaced words → n ≡ position_or_len (is_byte 32) text → drop n text ≡ flat_map spaced words
cut_back text word words n plain is place = rw (place, is, word_place word words plain) (drop_at word (flat_map spaced words) (length word) refl)

-- what follows a front is one
pub behind_is : (bytes front rest others : List ℕ) → bytes ≡ front ++ rest → bytes ≡ front ++ others → rest ≡ others
behind_is bytes front rest others is there = sym (drop_at front rest (length front) refl) ∙ ap (drop (length front)) (sym is ∙ there) ∙ drop_at front others (length front) refl

-- what is found behind a front is found in the whole
pub found_after : {A : Type 0} (fits : A → Type 0) (shows : A → List ℕ) (bytes front rest : List ℕ) (found : Option A)
    → bytes ≡ front ++ rest → Finds (λ value. fits value × (rest ≡ shows value)) found → Finds (λ value. fits value × (bytes ≡ front ++ shows value)) found
found_after fits shows bytes front rest (Some value) is found = (found.0, is ∙ ap (λ behind. front ++ behind) found.1)
found_after fits shows bytes front rest None is none = λ value here. none value (here.0, behind_is bytes front rest (shows value) is here.1)

-- two texts that begin with words are of the same words
pub same_front : (word other : List ℕ) (words others : List (List ℕ)) → IsPlain word → IsPlain other → word ++ flat_map spaced words ≡ other ++ flat_map spaced others → word ≡ other
same_front word other words others plain too is =
    let text = word ++ flat_map spaced words in
    let n = position_or_len (is_byte 32) text in
    sym (cut_front text word words n plain refl refl) ∙ cut_front text other others n too is refl

pub same_back : (word other : List ℕ) (words others : List (List ℕ)) → IsPlain word → IsPlain other → word ++ flat_map spaced words ≡ other ++ flat_map spaced others
    → flat_map spaced words ≡ flat_map spaced others
same_back word other words others plain too is =
    let text = word ++ flat_map spaced words in
    let n = position_or_len (is_byte 32) text in
    sym (cut_back text word words n plain refl refl) ∙ cut_back text other others n too is refl

pub tail_of : (first : ℕ) (rest others : List ℕ) → first ∷ rest ≡ first ∷ others → rest ≡ others
tail_of first rest others is = ap (drop 1) is

-- what follows a front and a space
pub after_space : (line front rest : List ℕ) (r : Option (Bor (List ℕ))) → line ≡ front ++ rest
    → MatchOption r ((others : List ℕ) → rest ≡ 32 ∷ others → ⊥) (λ others. rest ≡ 32 ∷ others.now)
    → MatchOption r ((others : List ℕ) → line ≡ front ++ 32 ∷ others → ⊥) (λ others. line ≡ front ++ 32 ∷ others.now)
after_space line front rest (Some others) is found = is ∙ ap (λ t. front ++ t) found
after_space line front rest None is none = λ others there. none others (behind_is line front rest (32 ∷ others) is there)
