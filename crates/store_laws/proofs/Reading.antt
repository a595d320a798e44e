-- A body read from the image, and from the image with a text behind it.
use Rattle.std.proofs.Common.{◌≡◌, ℕ, ◌+◌, ◌-◌, ◌≤◌, List, ◌++◌, length, take, drop, arith, ap, refl, sym, ◌∙◌, Some, append_assoc, length-take, length-drop, replicate, drop-drop, drop_at, take-append-drop}
use Rattle.std.proofs.lemmas.List.{take-append-le, drop-append-le}
use Rattle.phys_mem.specs.Region.{replaced}
use Rattle.hob_codec.specs.declared.kind.TheConstants.{END}
use Rattle.store_model.specs.declared.state.Body.{Body}
use Rattle.store_model.specs.StoreState.{StoreState, body_at, body_len}
use Rattle.store_model.specs.HeapImage.{header_bytes, hobs_bytes, hob_list, body_bytes, heap_image}
use Rattle.store_laws.specs.{Spelling.AreSpelled, Growing.front_bytes}
use Rattle.store_laws.proofs.HeapBodies.{is_spelled, bodies_are_read, body_behind}

front_is_56 : (s : StoreState) → length (front_bytes s) ≡ 56
front_is_56 s = refl

-- a body is read from the image
pub image_at : (s : StoreState) (p : ℕ) (body : Body) → AreSpelled (body_bytes s) s.hobs → body_at s p ≡ Some body → take (body_len body) (drop p (heap_image s)) ≡ body_bytes s p body
image_at s p body h found =
    let front = front_bytes s in
    let end = header_bytes END 8 in
    let zeros : List ℕ = replicate (s.len - length (hob_list s)) 0 in
    let bodies = hobs_bytes s 56 s.hobs in
    let le : 56 + 8 ≤ p = body_behind s.hobs 56 p body found in
    let sum : p ≡ length front + (p - 56) = omega (arith, le, front_is_56 s) in
    let whole : heap_image s ≡ front ++ (bodies ++ (end ++ zeros)) = append_assoc (front ++ bodies) end zeros ∙ append_assoc front bodies (end ++ zeros) in
    let here : drop p (heap_image s) ≡ drop (p - 56) (bodies ++ (end ++ zeros)) =
    ap (drop p) whole ∙ ap (λ n. drop n (front ++ (bodies ++ (end ++ zeros)))) sum ∙ sym (drop-drop (p - 56) (length front) (front ++ (bodies ++ (end ++ zeros))))
    ∙ ap (drop (p - 56)) (drop_at front (bodies ++ (end ++ zeros)) (length front) refl) in
    ap (take (body_len body)) here ∙ ap (λ xs. take (body_len body) (drop (p - 56) (xs ++ (end ++ zeros)))) (is_spelled s 56 s.hobs) ∙ bodies_are_read (body_bytes s) s.hobs 56 p body (end ++ zeros) h found

-- so many bytes before a place
pub front_read : (xs tail : List ℕ) (k n : ℕ) → k + n ≤ length xs → take n (drop k (xs ++ tail)) ≡ take n (drop k xs)
front_read xs tail k n le = ap (take n) (drop-append-le k xs tail (omega (arith, le))) ∙ take-append-le n (drop k xs) tail (omega (arith, le, length-drop k xs))

take_len : (xs : List ℕ) (p : ℕ) → p ≤ length xs → length (take p xs) ≡ p
take_len xs p le = grind (arith, length-take, le)

-- a text written behind them leaves them
pub read_before : (xs text : List ℕ) (p k n : ℕ) → k + n ≤ p → p ≤ length xs → take n (drop k (replaced xs p text)) ≡ take n (drop k xs)
read_before xs text p k n le inside =
    let rest = drop (p + length text) xs in
    let size : length (take p xs) ≡ p = take_len xs p inside in
    ap (λ x. take n (drop k x)) (append_assoc (take p xs) text rest) ∙ front_read (take p xs) (text ++ rest) k n (omega (arith, le, size))
    ∙ sym (front_read (take p xs) (drop p xs) k n (omega (arith, le, size))) ∙ ap (λ x. take n (drop k x)) (take-append-drop p xs)
