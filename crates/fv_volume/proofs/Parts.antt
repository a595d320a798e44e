-- Parts of bytes that stand at a place.
use Rattle.std.proofs.Common.{◌≡◌, ℕ, ◌+◌, ◌-◌, List, ◌++◌, length, take, drop, sym, ap, ◌∙◌, length-drop, drop-drop}
use Rattle.std.proofs.Math.Seq.{drop-append_seam, take-append_seam}

-- what stands behind a place
pub drop_behind : (n at : ℕ) (bytes here : List ℕ) → drop at bytes ≡ here → drop (at + n) bytes ≡ drop n here
drop_behind n at bytes here e = sym (drop-drop n at bytes) ∙ ap (drop n) e

-- how much room there is at a place where some bytes stand
pub room_at : (at : ℕ) (bytes here : List ℕ) → drop at bytes ≡ here → length bytes - at ≡ length here
room_at at bytes here e = sym (length-drop at bytes) ∙ ap length e

-- what stands behind a text
pub drop_text : (n : ℕ) (text rest : List ℕ) → n ≡ length text → drop n (text ++ rest) ≡ rest
drop_text n text rest e = ap (λ k. drop k (text ++ rest)) e ∙ drop-append_seam text rest

pub take_text : (n : ℕ) (text rest : List ℕ) → n ≡ length text → take n (text ++ rest) ≡ text
take_text n text rest e = ap (λ k. take k (text ++ rest)) e ∙ take-append_seam text rest
