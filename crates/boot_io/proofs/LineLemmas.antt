-- Words that are gathered in a line.
use Rattle.std.proofs.Common.{◌≡◌, ◌<◌, ◌≤◌, ℕ, ◌+◌, List, [], ◌∷◌, ◌++◌, length, refl, sym, ap, ◌∙◌, take, drop, get_or, append_assoc, flat_map, append-nil, take-append-drop, take_all, Bor}
use Rattle.std.proofs.lemmas.List.{take_more}
use Rattle.boot_io.specs.Line.{spaced, words_now}

-- the text of words
abbrev pub words_text : List (Bor (List ℕ)) → List ℕ
words_text words = flat_map spaced (words_now words)

words_text-append : (xs ys : List (Bor (List ℕ))) → words_text (xs ++ ys) ≡ words_text xs ++ words_text ys
words_text-append [] ys = refl
words_text-append (x ∷ xs) ys = ap (λ t. spaced x.now ++ t) (words_text-append xs ys) ∙ sym (append_assoc (spaced x.now) (words_text xs) (words_text ys))

-- one word more
pub words_more : (words : List (Bor (List ℕ))) (i : ℕ) (d : Bor (List ℕ)) → i < length words
    → words_text (take (i + 1) words) ≡ words_text (take i words) ++ spaced (get_or words i d).now
words_more words i d within =
    ap words_text (take_more words i d within) ∙ words_text-append (take i words) (get_or words i d ∷ []) ∙ ap (λ t. words_text (take i words) ++ t) (append-nil (spaced (get_or words i d).now))

-- the words before a place, and those from it on
pub words_split : (words : List (Bor (List ℕ))) (i : ℕ) → words_text (take i words) ++ words_text (drop i words) ≡ words_text words
words_split words i = sym (words_text-append (take i words) (drop i words)) ∙ ap words_text (take-append-drop i words)

pub words_all : (words : List (Bor (List ℕ))) (i : ℕ) → length words ≤ i → words_text (take i words) ≡ words_text words
words_all words i all = ap words_text (take_all i words all)
