-- Places in bytes.
use Rattle.std.proofs.Common.{◌≡◌, ◌<◌, ℕ, zero, suc, ◌+◌, List, [], ◌∷◌, ◌++◌, Some, length, take, drop, get_or, refl, sym, ap, ◌∙◌, arith, slice_get, take-append-drop, take_all}
use Rattle.std.proofs.lemmas.List.{drop_more}
use Rattle.boot_io.specs.Faults.{IsPrefix}

pub get_there : (xs : List ℕ) (n : ℕ) → n < length xs → slice_get xs n ≡ Some (get_or xs n 0)
get_there [] n within = absurd (omega (arith, within))
get_there (x ∷ xs) zero within = refl
get_there (x ∷ xs) (suc n) within = get_there xs n (omega (arith, within))

pub place_within : (xs : List ℕ) (n b : ℕ) → slice_get xs n ≡ Some b → n < length xs
place_within [] n b e = absurd (cc)
place_within (x ∷ xs) zero b e = omega arith
place_within (x ∷ xs) (suc n) b e = let rest = place_within xs n b e in omega (arith, rest)

-- one more byte is the same
same_more : (xs ys : List ℕ) (n b : ℕ) → slice_get xs n ≡ Some b → slice_get ys n ≡ Some b → take n xs ≡ take n ys → take (suc n) xs ≡ take (suc n) ys
same_more [] ys n b e f same = absurd (cc)
same_more (x ∷ xs) [] n b e f same = absurd (cc)
same_more (x ∷ xs) (y ∷ ys) zero b e f same = let is : x ≡ y = cc in ap (λ z. z ∷ []) is
same_more (x ∷ xs) (y ∷ ys) (suc n) b e f same =
    let is : x ≡ y = cc in
    let tail : take n xs ≡ take n ys = cc in
    let rest = same_more xs ys n b e f tail in
    ap (λ z. z ∷ take (suc n) xs) is ∙ ap (λ zs. y ∷ zs) rest

pub same_on : (xs ys : List ℕ) (n b : ℕ) → slice_get xs n ≡ Some b → slice_get ys n ≡ Some b → take n xs ≡ take n ys → take (n + 1) xs ≡ take (n + 1) ys
same_on xs ys n b e f same = let next : n + 1 ≡ suc n = omega arith in rw next (same_more xs ys n b e f same)

-- all of a piece is the same
pub all_same : (bytes piece : List ℕ) (n : ℕ) → length piece ≡ n → take n bytes ≡ take n piece → IsPrefix piece bytes
all_same bytes piece n all same =
    let whole : take n piece ≡ piece = take_all n piece (omega (arith, all)) in
    (drop n bytes, sym (take-append-drop n bytes) ∙ ap (λ t. t ++ drop n bytes) (same ∙ whole))

-- the bytes at a line feed
pub cut_at : (bytes : List ℕ) (n byte : ℕ) → n < length bytes → get_or bytes n 0 ≡ byte → bytes ≡ take n bytes ++ byte ∷ drop (n + 1) bytes
cut_at bytes n byte within is =
    sym (take-append-drop n bytes) ∙ ap (λ t. take n bytes ++ t) (drop_more bytes n 0 within) ∙ ap (λ b. take n bytes ++ b ∷ drop (n + 1) bytes) is
