-- Pieces of the heap, one behind another.
use lib.Seq.{take-nil}
use Rattle.std.proofs.Common.{◌≡◌, ℕ, zero, suc, ◌+◌, ◌-◌, ◌≤◌, List, [], ◌∷◌, ◌++◌, length, take, drop, arith, sym, ap, ◌∙◌, drop-drop, length-take, length-drop}
use Rattle.hex.specs.Hex.{encode_lower}
use Rattle.store_model.specs.{StoreState.StoreState, StateFacts.IsStoreState, HeapImage.hob_list}
use Rattle.boot_trace.specs.HeapParts.{IsHeapPart, heap_part}
use Rattle.boot_trace.proofs.{Hexadecimal.encode_lower-append, HeapReads.list_length}

take_both : (a b : ℕ) (xs : List ℕ) → take (a + b) xs ≡ take a xs ++ take b (drop a xs)
take_both zero b xs = let e : zero + b ≡ b = omega arith in ap (λ n. take n xs) e
take_both (suc a) b [] = let e : suc a + b ≡ suc (a + b) = omega arith in ap (λ n. take n []) e ∙ sym (take-nil b)
take_both (suc a) b (x ∷ xs) = let e : suc a + b ≡ suc (a + b) = omega arith in ap (λ n. take n (x ∷ xs)) e ∙ ap (λ l. x ∷ l) (take_both a b xs)

-- the text of one piece more
pub piece_more : (s : StoreState) (at next n len : ℕ) → s.base ≤ at → at ≤ next → next + n ≡ at + len
    → encode_lower (heap_part s at (next - at)) ++ encode_lower (heap_part s next n) ≡ encode_lower (heap_part s at len)
piece_more s at next n len low le e =
    let whole : len ≡ (next - at) + n = omega (arith, e, le) in
    let place : at - s.base + (next - at) ≡ next - s.base = omega (arith, low, le) in
    sym (ap (λ k. encode_lower (heap_part s at k)) whole ∙ ap encode_lower (take_both (next - at) n (drop (at - s.base) (hob_list s))
    ∙ ap (λ xs. heap_part s at (next - at) ++ take n xs) (drop-drop (next - at) (at - s.base) (hob_list s) ∙ ap (λ k. drop k (hob_list s)) place)) ∙ encode_lower-append (heap_part s at (next - at)) (heap_part s next n))

-- no byte
pub no_piece : (s : StoreState) (at : ℕ) → heap_part s at (at - at) ≡ []
no_piece s at = let none : at - at ≡ 0 = omega arith in ap (λ n. heap_part s at n) none

-- a part of the HOBs has all its bytes
pub part_some : (s : StoreState) (at n : ℕ) → IsStoreState s → 1 ≤ n → IsHeapPart at n s → heap_part s at n ≡ [] → ⊥
part_some s at n h some part none =
    let taken = length-take n (drop (at - s.base) (hob_list s)) in
    let left = length-drop (at - s.base) (hob_list s) in
    let empty : length (heap_part s at n) ≡ 0 = ap length none in
    omega (arith, taken, left, empty, some, part.0, part.1, list_length s h)
