-- Parts of bytes are bytes.
use Rattle.std.proofs.Common.{ℕ, zero, suc, ◌+◌, ◌<◌, ◌≤◌, List, [], ◌∷◌, ◌++◌, length, take, drop, flat_map, take-append-drop, arith, length-take-le, length-drop}
use Rattle.std.specs.List.{AllByRecursion}
use Rattle.hex.specs.Hex.{IsBytes}
use Rattle.pi_base.specs.Guids.{guid_at}
use Rattle.line_words.specs.PrintedWords.{IsGuid}

pub bytes_tail : (b : ℕ) (xs : List ℕ) → IsBytes (b ∷ xs) → IsBytes xs
bytes_tail b xs fits i = fits (suc i)

bytes_none : IsBytes []
bytes_none i = omega arith

bytes_cons : (b : ℕ) (xs : List ℕ) → b < 256 → IsBytes xs → IsBytes (b ∷ xs)
bytes_cons b xs here fits zero = here
bytes_cons b xs here fits (suc i) = fits i

pub bytes_front : (xs ys : List ℕ) → IsBytes (xs ++ ys) → IsBytes xs
bytes_front [] ys fits = bytes_none
bytes_front (x ∷ xs) ys fits = bytes_cons x xs (fits 0) (bytes_front xs ys (bytes_tail x (xs ++ ys) fits))

pub bytes_back : (xs ys : List ℕ) → IsBytes (xs ++ ys) → IsBytes ys
bytes_back [] ys fits = fits
bytes_back (x ∷ xs) ys fits = bytes_back xs ys (bytes_tail x (xs ++ ys) fits)

pub each_bytes : {A : Type 0} (spell : A → List ℕ) (xs : List A) → IsBytes (flat_map spell xs) → AllByRecursion (λ x. IsBytes (spell x)) xs
each_bytes spell [] fits = tt
each_bytes spell (x ∷ xs) fits = (bytes_front (spell x) (flat_map spell xs) fits, each_bytes spell xs (bytes_back (spell x) (flat_map spell xs) fits))

-- parts of bytes
pub taken_bytes : (n : ℕ) (image : List ℕ) → IsBytes image → IsBytes (take n image)
taken_bytes n image bytes = bytes_front (take n image) (drop n image) (rw (take-append-drop n image) bytes)

pub left_bytes : (n : ℕ) (image : List ℕ) → IsBytes image → IsBytes (drop n image)
left_bytes n image bytes = bytes_back (take n image) (drop n image) (rw (take-append-drop n image) bytes)

pub guid_there : (image : List ℕ) (at : ℕ) → IsBytes image → at + 16 ≤ length image → IsGuid (guid_at image at)
guid_there image at bytes room =
    (length-take-le 16 (drop at image) (omega (arith, room, length-drop at image)), taken_bytes 16 (drop at image) (left_bytes at image bytes))
