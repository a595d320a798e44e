-- A number put behind others.
use Rattle.std.proofs.Common.{◌≡◌, ℕ, zero, suc, ◌+◌, ◌*◌, ◌≤◌, ◌<◌, List, [], ◌∷◌, ◌++◌, length, take, drop, get_or, arith, ap, refl, sym, ◌∙◌, append_assoc}
use Rattle.std.proofs.lemmas.Grind.{common_steps}
use Rattle.pi_base.specs.Field.{Replaces, little_bytes}
use Rattle.store_plain.specs.Words.{words_bytes}

pub eight : (n : ℕ) → length (little_bytes 8 n) ≡ 8
eight n = refl

-- the words before a place, and one in it
words_more : (words : List ℕ) (i d : ℕ) → i < length words → words_bytes (take (i + 1) words) ≡ words_bytes (take i words) ++ little_bytes 8 (get_or words i d)
words_more [] i d le = absurd (omega (arith, le))
words_more (w ∷ words) zero d le = refl
words_more (w ∷ words) (suc i) d le =
    let next : suc i + 1 ≡ suc (i + 1) = omega arith in
    rw next (ap (λ xs. little_bytes 8 w ++ xs) (words_more words i d (omega (arith, le))) ∙ sym (append_assoc (little_bytes 8 w) (words_bytes (take i words)) (little_bytes 8 (get_or words i d))))

front : (old text rest new : List ℕ) (at : ℕ) → at ≤ length old → new ≡ take at old ++ text ++ rest → take (at + length text) new ≡ take at old ++ text
front old text rest new at le e = grind (arith, common_steps, e, le)

pub word_put : (old new words : List ℕ) (i d : ℕ) → i < length words → 8 * i + 8 ≤ length old → Replaces old (8 * i) (little_bytes 8 (get_or words i d)) new
    → take (8 * i) old ≡ words_bytes (take i words) → take (8 * (i + 1)) new ≡ words_bytes (take (i + 1) words)
word_put old new words i d le room put before =
    let text = little_bytes 8 (get_or words i d) in
    let here : take (8 * i + length text) new ≡ take (8 * i) old ++ text = front old text (drop (8 * i + length text) old) new (8 * i) (omega (arith, room)) put in
    let place : 8 * (i + 1) ≡ 8 * i + length text = omega arith in
    ap (λ n. take n new) place ∙ here ∙ ap (λ xs. xs ++ text) before ∙ sym (words_more words i d le)
