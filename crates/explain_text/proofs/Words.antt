-- Words that are put one by one.
use Rattle.std.proofs.Common.{◌≡◌, ◌<◌, ℕ, ◌+◌, List, [], ◌∷◌, ◌++◌, length, refl, sym, ap, ◌∙◌, take, get_or, append_assoc, flat_map, append-nil, Bor}
use Rattle.std.proofs.lemmas.List.{take_more, flat_map_more}
use Rattle.boot_io.specs.Line.{spaced, words_now}

-- the text of words
abbrev pub words_text : List (Bor (List ℕ)) → List ℕ
words_text words = flat_map spaced (words_now words)

words_text-append : (xs ys : List (Bor (List ℕ))) → words_text (xs ++ ys) ≡ words_text xs ++ words_text ys
words_text-append [] ys = refl
words_text-append (x ∷ xs) ys = ap (λ t. spaced x.now ++ t) (words_text-append xs ys) ∙ sym (append_assoc (spaced x.now) (words_text xs) (words_text ys))

-- one word more
words_more : (words : List (Bor (List ℕ))) (i : ℕ) (d : Bor (List ℕ)) → i < length words
    → words_text (take (i + 1) words) ≡ words_text (take i words) ++ spaced (get_or words i d).now
words_more words i d within =
    ap words_text (take_more words i d within) ∙ words_text-append (take i words) (get_or words i d ∷ []) ∙ ap (λ t. words_text (take i words) ++ t) (append-nil (spaced (get_or words i d).now))

-- a word more was put
pub word_put : (words : List (Bor (List ℕ))) (i : ℕ) (d : Bor (List ℕ)) (out old new : List ℕ) → i < length words → new ≡ old ++ spaced (get_or words i d).now → old ≡ out ++ words_text (take i words)
    → new ≡ out ++ words_text (take (i + 1) words)
word_put words i d out old new within put before =
    put ∙ ap (λ t. t ++ spaced (get_or words i d).now) before ∙ append_assoc out (words_text (take i words)) (spaced (get_or words i d).now)
    ∙ ap (λ t. out ++ t) (sym (words_more words i d within))

-- a text more was put
pub text_put : {X : Type 0} (f : X → List ℕ) (xs : List X) (i : ℕ) (d : X) (out old new : List ℕ) → i < length xs → new ≡ old ++ f (get_or xs i d) → old ≡ out ++ flat_map f (take i xs)
    → new ≡ out ++ flat_map f (take (i + 1) xs)
text_put f xs i d out old new within put before =
    put ∙ ap (λ t. t ++ f (get_or xs i d)) before ∙ flat_map_more f out (take i xs) (get_or xs i d) ∙ ap (λ l. out ++ flat_map f l) (sym (take_more xs i d within))
