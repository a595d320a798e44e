-- Sixteen bytes are the same where both their numbers of eight bytes are.
use Rattle.std.proofs.Common.{◌≡◌, ◌==◌, ◌∙◌, ◌+◌, ◌≤◌, ℕ, List, ◌++◌, length, take, drop, ap, ap₂, sym, arith, length-drop, Decides, bytes_eq, take-append-drop, take_all}
use Rattle.std.proofs.{lemmas.Bool.Decides.Decides-eqb, lemmas.Bool.Decides.same_from_decides, lemmas.Slice.Eq.bytes_eq-Decides}
use Rattle.pi_base.specs.Field.{AreBytes, SpellsWhatItReads, little_bytes, little_number}
use Rattle.pi_base.proofs.FieldLaws.{AreBytes-drop}

-- the eight bytes from a place on
half_is : (xs ys : List ℕ) (at : ℕ) → SpellsWhatItReads → AreBytes xs → AreBytes ys → at + 8 ≤ length xs → at + 8 ≤ length ys → little_number 8 (drop at xs) ≡ little_number 8 (drop at ys)
    → take 8 (drop at xs) ≡ take 8 (drop at ys)
half_is xs ys at law bx by lx ly e =
    let dx = length-drop at xs in
    let dy = length-drop at ys in
    sym (law 8 (drop at xs) (AreBytes-drop at xs bx) (omega (arith, dx, lx))) ∙ ap (little_bytes 8) e ∙ law 8 (drop at ys) (AreBytes-drop at ys by) (omega (arith, dy, ly))

whole_is : (xs : List ℕ) → length xs ≡ 16 → take 8 xs ++ take 8 (drop 8 xs) ≡ xs
whole_is xs long =
    let rest = length-drop 8 xs in
    ap (λ l. take 8 xs ++ l) (take_all 8 (drop 8 xs) (omega (arith, rest, long))) ∙ take-append-drop 8 xs

both_are : (xs ys : List ℕ) → SpellsWhatItReads → AreBytes xs → AreBytes ys → length xs ≡ 16 → length ys ≡ 16
    → little_number 8 (drop 0 xs) ≡ little_number 8 (drop 0 ys) → little_number 8 (drop 8 xs) ≡ little_number 8 (drop 8 ys) → xs ≡ ys
both_are xs ys law bx by lx ly low high =
    let front : take 8 xs ≡ take 8 ys = half_is xs ys 0 law bx by (omega (arith, lx)) (omega (arith, ly)) low in
    let back = half_is xs ys 8 law bx by (omega (arith, lx)) (omega (arith, ly)) high in
    sym (whole_is xs lx) ∙ ap₂ ◌++◌ front back ∙ whole_is ys ly

-- where the first numbers are the same, the second ones decide
pub second_decides : (xs ys : List ℕ) (a b c d : ℕ) → SpellsWhatItReads → AreBytes xs → AreBytes ys → length xs ≡ 16 → length ys ≡ 16
    → a ≡ little_number 8 (drop 0 xs) → b ≡ little_number 8 (drop 0 ys) → c ≡ little_number 8 (drop 8 xs) → d ≡ little_number 8 (drop 8 ys) → a ≡ b → (c == d) ≡ bytes_eq xs ys
second_decides xs ys a b c d law bx by lx ly ea eb ec ed same =
    let test : Decides (c == d) (c ≡ d) = Decides-eqb c d in
    let whole : Decides (c == d) (xs ≡ ys) = (
      λ t. both_are xs ys law bx by lx ly (sym ea ∙ same ∙ eb) (sym ec ∙ test.0 t ∙ ed),
      λ e. test.1 (ec ∙ ap (λ l. little_number 8 (drop 8 l)) e ∙ sym ed),
    ) in
    same_from_decides (c == d) (bytes_eq xs ys) whole (bytes_eq-Decides xs ys)
