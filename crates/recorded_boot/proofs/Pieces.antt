-- A piece that is held against the text at a place.
use Rattle.std.proofs.Common.{◌≡◌, ◌≤◌, ℕ, ◌+◌, true, false, List, [], ◌∷◌, ◌++◌, Option, Some, None, length, take, drop, get_or, refl, sym, ap, ◌∙◌, append_assoc, arith, is_some, option_to_list, append-nil, length-take-le, take-append-drop}
use Rattle.std.proofs.Math.Seq.{take-append_seam, take-append-add}
use Rattle.boot_io.specs.Faults.{IsPrefix}
use Rattle.recorded_boot.specs.{Agreement.IsOtherAt, Spelled.marked}
use Rattle.recorded_boot.proofs.Places.{cut_at}

-- what was met with a piece behind it
met_more : (text piece : List ℕ) (at n : ℕ) → at ≤ length text → n ≡ length piece → IsPrefix piece (drop at text) → take (at + n) text ≡ take at text ++ piece
met_more text piece at n within long begins =
    let front : length (take at text) ≡ at = length-take-le at text within in
    let whole : text ≡ take at text ++ (piece ++ begins.0) = sym (take-append-drop at text) ∙ ap (λ t. take at text ++ t) begins.1 in
    let place : at + n ≡ length (take at text) + length piece = omega (arith, front, long) in
    ap (λ k. take k text) place ∙ ap (take (length (take at text) + length piece)) whole ∙ take-append-add (take at text) (piece ++ begins.0) (length piece) ∙ ap (λ t. take at text ++ t) (take-append_seam piece begins.0)

none_of : (wrong : Option ℕ) → is_some wrong ≡ false → wrong ≡ None
none_of None e = refl
none_of (Some byte) e = let none : true ≡ false = e in absurd (cc)

abbrev spoken_at : List ℕ → ℕ → Option ℕ → List ℕ
spoken_at text at wrong = marked text ++ (take at text ++ option_to_list wrong)

right_at : (text : List ℕ) (at : ℕ) (wrong : Option ℕ) → is_some wrong ≡ false → spoken_at text at wrong ≡ marked text ++ take at text
right_at text at wrong none = ap (λ w. marked text ++ (take at text ++ option_to_list w)) (none_of wrong none) ∙ ap (λ t. marked text ++ t) (append-nil (take at text))

-- all of it stands there
pub all_told : (text piece : List ℕ) (at : ℕ) (wrong : Option ℕ) → at ≤ length text → is_some wrong ≡ false → IsPrefix piece (drop at text) → spoken_at text (at + length piece) wrong ≡ spoken_at text at wrong ++ piece
all_told text piece at wrong within none begins =
    right_at text (at + length piece) wrong none ∙ ap (λ t. marked text ++ t) (met_more text piece at (length piece) within refl begins) ∙ sym (append_assoc (marked text) (take at text) piece) ∙ ap (λ t. t ++ piece) (sym (right_at text at wrong none))

-- a part of it does, and the byte behind it
pub part_told : (text piece : List ℕ) (at n byte : ℕ) (wrong : Option ℕ) → at ≤ length text → is_some wrong ≡ false → IsOtherAt (drop at text) piece n → get_or piece n 0 ≡ byte
    → (part : List ℕ) × IsPrefix part piece × (spoken_at text (at + n) (Some byte) ≡ spoken_at text at wrong ++ part)
part_told text piece at n byte wrong within none other is =
    let here = other.within in
    let long : length (take n piece) ≡ n = length-take-le n piece (omega (arith, here)) in
    let begins : IsPrefix (take n piece) (drop at text) = (drop n (drop at text), sym (take-append-drop n (drop at text)) ∙ ap (λ t. t ++ drop n (drop at text)) other.same) in
    let more = met_more text (take n piece) at n within (sym long) begins in
    let part = take n piece ++ byte ∷ [] in
    let rest : piece ≡ part ++ drop (n + 1) piece = cut_at piece n byte here is ∙ sym (append_assoc (take n piece) (byte ∷ []) (drop (n + 1) piece)) in
    let told : spoken_at text (at + n) (Some byte) ≡ spoken_at text at wrong ++ part =
    ap (λ t. marked text ++ (t ++ byte ∷ [])) more ∙ ap (λ t. marked text ++ t) (append_assoc (take at text) (take n piece) (byte ∷ [])) ∙ sym (append_assoc (marked text) (take at text) part)
    ∙ ap (λ t. t ++ part) (sym (right_at text at wrong none)) in
    (part, (drop (n + 1) piece, rest), told)
