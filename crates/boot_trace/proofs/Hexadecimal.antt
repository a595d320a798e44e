-- Bytes in hexadecimal, piece by piece.
use Rattle.std.proofs.Common.{◌≡◌, ℕ, ◌/◌, ◌%◌, List, [], ◌∷◌, ◌++◌, slice_index, refl, ap, sym, ◌∙◌, append_assoc, append-nil}
use Rattle.boot_io.specs.Line.{line_of}
use Rattle.boot_model.specs.Text.{bytes_text}
use Rattle.hex.specs.Hex.{encode_lower, encode_with, lower_digits}

with-append : (t a b : List ℕ) → encode_with t (a ++ b) ≡ encode_with t a ++ encode_with t b
unfolding encode_with
with-append t [] b = refl
with-append t (x ∷ a) b = ap (λ rest. slice_index t (x / 16) ∷ (slice_index t (x % 16) ∷ rest)) (with-append t a b)

-- one piece behind another
pub encode_lower-append : (a b : List ℕ) → encode_lower (a ++ b) ≡ encode_lower a ++ encode_lower b
encode_lower-append a b = with-append lower_digits a b

-- no bytes
pub encode_lower-none : encode_lower [] ≡ []
unfolding encode_with
encode_lower-none = refl

-- the line of a HOB, by its front and its back
line_parts : (k d h : List ℕ) → line_of k (d ∷ (h ∷ [])) ≡ ((k ++ 32 ∷ []) ++ (d ++ 32 ∷ [])) ++ (h ++ 10 ∷ [])
line_parts k d h =
    let end : (h ++ []) ++ 10 ∷ [] ≡ h ++ 10 ∷ [] = ap (λ t. t ++ 10 ∷ []) (append-nil h) in
    let left : (k ++ (32 ∷ (d ++ (32 ∷ (h ++ []))))) ++ 10 ∷ [] ≡ k ++ (32 ∷ (d ++ (32 ∷ (h ++ 10 ∷ [])))) =
    append_assoc k (32 ∷ (d ++ (32 ∷ (h ++ [])))) (10 ∷ []) ∙ ap (λ t. k ++ (32 ∷ t)) (append_assoc d (32 ∷ (h ++ [])) (10 ∷ []) ∙ ap (λ t. d ++ (32 ∷ t)) end) in
    let right : ((k ++ 32 ∷ []) ++ (d ++ 32 ∷ [])) ++ (h ++ 10 ∷ []) ≡ k ++ (32 ∷ (d ++ (32 ∷ (h ++ 10 ∷ [])))) =
    append_assoc (k ++ 32 ∷ []) (d ++ 32 ∷ []) (h ++ 10 ∷ []) ∙ ap (λ t. (k ++ 32 ∷ []) ++ t) (append_assoc d (32 ∷ []) (h ++ 10 ∷ []))
    ∙ append_assoc k (32 ∷ []) (d ++ (32 ∷ (h ++ 10 ∷ []))) in
    left ∙ sym right

pub hob_parts : (k d body : List ℕ) → (body ≡ [] → ⊥) → ((k ++ 32 ∷ []) ++ (d ++ 32 ∷ [])) ++ (encode_lower body ++ 10 ∷ []) ≡ line_of k (d ∷ (bytes_text body ∷ []))
hob_parts k d [] some = absurd (some refl)
hob_parts k d (x ∷ body) some = sym (line_parts k d (encode_lower (x ∷ body)))
