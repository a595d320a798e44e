-- The words of a line that is put together of words.
use Rattle.std.proofs.Common.{◌≡◌, ℕ, ◌<◌, ◌||◌, ◌&&◌, Bool, true, false, cond, not, List, [], ◌∷◌, ◌++◌, length, flat_map, refl, ap, ◌∙◌, arith, append_assoc, nat_lt}
use Rattle.std.proofs.{lemmas.Bool.and_parts, lemmas.Bool.and_from, lemmas.Bool.Decides.nat_tests}
use Rattle.std.specs.{Prelude.⊤, List.list_all, List.AllByRecursion}
use Rattle.asm_text.specs.ActionText.{spaced}
use Rattle.source_words.specs.Words.{is_blank, is_bracket, is_comment, is_inner, joined, words}

-- each byte belongs to a word of several
abbrev pub IsInner : List ℕ → Type 0
IsInner word = list_all is_inner word ≡ true

-- a byte of a word that is above the space
abbrev pub is_clean : ℕ → Bool
is_clean byte = nat_lt 32 byte && is_inner byte

abbrev pub IsClean : List ℕ → Type 0
IsClean word = list_all is_clean word ≡ true

-- some bytes, and each of them such
abbrev pub IsWord : List ℕ → Type 0
IsWord word = (0 < length word) × IsClean word

-- each byte of a line is the space or above it
abbrev pub IsClear : List ℕ → Type 0
IsClear text = list_all (λ byte. nat_lt 31 byte) text ≡ true

inner_of : (word : List ℕ) → IsClean word → IsInner word
inner_of [] clean = refl
inner_of (byte ∷ word) clean =
    let parts = and_parts (is_clean byte) (list_all is_clean word) clean in
    and_from (is_inner byte) (list_all is_inner word) (and_parts (nat_lt 32 byte) (is_inner byte) parts.0).1 (inner_of word parts.1)

above : (byte : ℕ) → nat_lt 32 byte ≡ true → nat_lt 31 byte ≡ true
above byte high = grind (arith, nat_tests)

pub clear_of : (word : List ℕ) → IsClean word → IsClear word
clear_of [] clean = refl
clear_of (byte ∷ word) clean =
    let parts = and_parts (is_clean byte) (list_all is_clean word) clean in
    and_from (nat_lt 31 byte) (list_all (λ b. nat_lt 31 b) word) (above byte (and_parts (nat_lt 32 byte) (is_inner byte) parts.0).0) (clear_of word parts.1)

pub both_clear : (front back : List ℕ) → IsClear front → IsClear back → IsClear (front ++ back)
both_clear [] back a b = b
both_clear (byte ∷ front) back a b =
    let parts = and_parts (nat_lt 31 byte) (list_all (λ b. nat_lt 31 b) front) a in
    and_from (nat_lt 31 byte) (list_all (λ b. nat_lt 31 b) (front ++ back)) parts.0 (both_clear front back parts.1 b)

pub spaced_clear : (list : List (List ℕ)) → AllByRecursion IsWord list → IsClear (flat_map spaced list)
spaced_clear [] all = refl
spaced_clear (word ∷ list) all = both_clear (32 ∷ word) (flat_map spaced list) (clear_of word all.0.1) (spaced_clear list all.1)

-- what may follow a word
abbrev pub Stands : List ℕ → Type 0
Stands [] = ⊤
Stands (byte ∷ rest) = is_inner byte ≡ false

fourth : (a c b : Bool) (x w y z : List (List ℕ)) → not (a || (c || b)) ≡ true → cond a x (cond c w (cond b y z)) ≡ z
fourth true c b x w y z h = absurd cc
fourth false true b x w y z h = absurd cc
fourth false false true x w y z h = absurd cc
fourth false false false x w y z h = refl

inner_head : (x : ℕ) (rest : List ℕ) → is_inner x ≡ true → words (x ∷ rest) ≡ joined x rest (words rest)
inner_head x rest h = fourth (is_blank x) (is_comment x) (is_bracket x) (words rest) [] ((x ∷ []) ∷ words rest) (joined x rest (words rest)) h

ends : (x : ℕ) (rest : List ℕ) (others : List (List ℕ)) → Stands rest → (rest ≡ [] → others ≡ []) → joined x rest others ≡ (x ∷ []) ∷ others
ends x [] others stands none = rw (none refl) refl
ends x (next ∷ rest) [] stands none = refl
ends x (next ∷ rest) (word ∷ others) stands none = rw stands refl

no_words : (rest : List ℕ) → rest ≡ [] → words rest ≡ []
no_words rest is = ap words is

goes_on : (x next : ℕ) (rest word : List ℕ) (others : List (List ℕ)) → is_inner next ≡ true → joined x (next ∷ rest) (word ∷ others) ≡ (x ∷ word) ∷ others
goes_on x next rest word others inner = rw inner refl

word_first : (x : ℕ) (word rest : List ℕ) → IsInner (x ∷ word) → Stands rest → words ((x ∷ word) ++ rest) ≡ (x ∷ word) ∷ words rest
word_first x [] rest inner stands = inner_head x rest (and_parts (is_inner x) true inner).0 ∙ ends x rest (words rest) stands (no_words rest)
word_first x (y ∷ word) rest inner stands =
    let parts = and_parts (is_inner x) (list_all is_inner (y ∷ word)) inner in
    inner_head x ((y ∷ word) ++ rest) parts.0 ∙ ap (joined x ((y ∷ word) ++ rest)) (word_first y word rest parts.1 stands)
    ∙ goes_on x y (word ++ rest) (y ∷ word) (words rest) (and_parts (is_inner y) (list_all is_inner word) parts.1).0

-- a word and what follows it
pub word_then : (word rest : List ℕ) → IsWord word → Stands rest → words (word ++ rest) ≡ word ∷ words rest
word_then [] rest is stands = absurd (omega (arith, is.0))
word_then (x ∷ word) rest is stands = word_first x word rest (inner_of (x ∷ word) is.1) stands

-- words behind spaces
pub stands_spaced : (list : List (List ℕ)) (rest : List ℕ) → Stands rest → Stands (flat_map spaced list ++ rest)
stands_spaced [] rest stands = stands
stands_spaced (word ∷ list) rest stands = refl

pub words_spaced : (list : List (List ℕ)) (rest : List ℕ) → AllByRecursion IsWord list → Stands rest → words (flat_map spaced list ++ rest) ≡ list ++ words rest
words_spaced [] rest all stands = refl
words_spaced (word ∷ list) rest all stands =
    ap words (append_assoc (32 ∷ word) (flat_map spaced list) rest)
    ∙ word_then word (flat_map spaced list ++ rest) all.0 (stands_spaced list rest stands)
    ∙ ap (λ others. word ∷ others) (words_spaced list rest all.1 stands)
