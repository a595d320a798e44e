-- The first two words of a service's line.
use Rattle.std.proofs.Common.{◌≡◌, ◌++◌, ℕ, List, ◌∷◌, flat_map, codes}
use Rattle.pi_base.specs.{declared.word.Word.Word, WordText.word_text}
use Rattle.boot_io.specs.Line.{spaced}
use Rattle.boot_model.specs.{declared.line.CallName.CallName, Text.call_text}
use Rattle.trace_reader.proofs.Splits.{same_front, same_back, behind_is, tail_of}
use Rattle.boot_trace.proofs.FixedWords.{call_text_plain, word_text_plain, call_text_one, word_text_one}

pub call_is : (line : List ℕ) (a b : CallName) (s t : Word) (xs ys : List (List ℕ)) → line ≡ codes "call" ++ flat_map spaced (call_text a ∷ word_text s ∷ xs)
    → line ≡ codes "call" ++ flat_map spaced (call_text b ∷ word_text t ∷ ys) → (a ≡ b) × (s ≡ t)
call_is line a b s t xs ys is other =
    let words = tail_of 32 _ _ (behind_is line (codes "call") (flat_map spaced (call_text a ∷ word_text s ∷ xs)) (flat_map spaced (call_text b ∷ word_text t ∷ ys)) is other) in
    let name = same_front (call_text a) (call_text b) (word_text s ∷ xs) (word_text t ∷ ys) (call_text_plain a) (call_text_plain b) words in
    let rest = tail_of 32 _ _ (same_back (call_text a) (call_text b) (word_text s ∷ xs) (word_text t ∷ ys) (call_text_plain a) (call_text_plain b) words) in
    (call_text_one a b name, word_text_one s t (same_front (word_text s) (word_text t) xs ys (word_text_plain s) (word_text_plain t) rest))
