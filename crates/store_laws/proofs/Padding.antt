-- A HOB whose body ends in zeros.
use Rattle.std.proofs.Common.{◌≡◌, ℕ, zero, suc, ◌+◌, ◌-◌, ◌≤◌, List, ◌∷◌, ◌++◌, length, take, drop, arith, ap, refl, sym, ◌∙◌, length-append, replicate, drop-drop, drop_at}
use Rattle.std.proofs.lemmas.List.{length-replicate, drop-replicate}
use Rattle.phys_mem.specs.Region.{replaced}
use Rattle.hob_codec.specs.declared.kind.TheConstants.{END}
use Rattle.store_model.specs.StoreState.{end_place, next_body, hob_len, body_len}
use Rattle.store_model.specs.HeapImage.{header_bytes, hobs_bytes, hob_list, body_bytes, heap_image}
use Rattle.store_laws.specs.Growing.{front_bytes, free_fields, grown, HobsAreAdded}
use Rattle.store_laws.specs.Padding.{TailsAreZero}
use Rattle.store_laws.proofs.{Parts.take_len, Parts.replaced_len, Front.added_by, Skipping.zeros_are_skipped}
use Rattle.store_laws.proofs.Facts.{bodies_are_spelled, bodies_len, images_fill}

-- behind the HOB list
-- zeros
abbrev nought : ℕ
nought = 0

take_zeros : (n k : ℕ) → n ≤ k → take n (replicate k nought) ≡ replicate n nought
take_zeros zero k le = refl
take_zeros (suc n) zero le = absurd (omega (arith, le))
take_zeros (suc n) (suc k) le = ap (λ xs. 0 ∷ xs) (take_zeros n k (omega (arith, le)))

tail_of : (list : List ℕ) (len end place n : ℕ) → length list ≡ end → end ≤ place → place + n ≤ len → take n (drop place (list ++ replicate (len - length list) 0)) ≡ replicate n 0
tail_of list len end place n e le fits =
    let zeros : List ℕ = replicate (len - length list) 0 in
    let sum : length list + (place - end) ≡ place = omega (arith, e, le) in
    let behind : drop place (list ++ zeros) ≡ replicate (len - length list - (place - end)) 0 =
    ap (λ k. drop k (list ++ zeros)) (sym sum) ∙ sym (drop-drop (place - end) (length list) (list ++ zeros)) ∙ ap (drop (place - end)) (drop_at list zeros (length list) refl) ∙ drop-replicate (place - end) (len - length list) 0 in
    ap (take n) behind ∙ take_zeros n (len - length list - (place - end)) (omega (arith, e, le, fits))

list_len : (front bodies end : List ℕ) (n : ℕ) → length front ≡ 56 → length end ≡ 8 → 56 + length bodies ≡ n → length (front ++ bodies ++ end) ≡ n + 8
list_len front bodies end n f e b = length-append (front ++ bodies) end ∙ ap (λ k. k + length end) (length-append front bodies) ∙ omega (arith, f, e, b)

pub tails_are_zero : TailsAreZero
tails_are_zero s place n h le fits =
    let size : length (hob_list s) ≡ end_place s + 8 = list_len (front_bytes s) (hobs_bytes s 56 s.hobs) (header_bytes END 8) (end_place s) refl refl (bodies_len s (bodies_are_spelled s h)) in
    tail_of (hob_list s) s.len (end_place s + 8) place n size le fits

-- a text written before them leaves them
pub read_after : (xs text : List ℕ) (p k n : ℕ) → p + length text ≤ k → k ≤ length xs → take n (drop k (replaced xs p text)) ≡ take n (drop k xs)
read_after xs text p k n le inside =
    let rest = drop (p + length text) xs in
    let f : length (take p xs) ≡ p = take_len xs p (omega (arith, le, inside)) in
    let front : length (take p xs ++ text) ≡ p + length text = length-append (take p xs) text ∙ ap (λ m. m + length text) f in
    let sum : length (take p xs ++ text) + (k - (p + length text)) ≡ k = omega (arith, front, le) in
    let behind : drop k (replaced xs p text) ≡ drop (k - (p + length text)) rest =
    ap (λ m. drop m (take p xs ++ text ++ rest)) (sym sum) ∙ sym (drop-drop (k - (p + length text)) (length (take p xs ++ text)) (take p xs ++ text ++ rest))
    ∙ ap (drop (k - (p + length text))) (drop_at (take p xs ++ text) rest (length (take p xs ++ text)) refl) in
    let place : p + length text + (k - (p + length text)) ≡ k = omega (arith, le) in
    ap (take n) (behind ∙ drop-drop (k - (p + length text)) (p + length text) xs ∙ ap (λ m. drop m xs) place)

-- a HOB that ends in zeros
padded_on : (image fields text end whole : List ℕ) (place k : ℕ) → length fields ≡ 24 → length end ≡ 8 → 56 ≤ place → place + length text + k + 8 ≤ length image
    → take k (drop (place + length text) image) ≡ replicate k 0 → whole ≡ text ++ replicate k 0
    → replaced (replaced image 32 fields) place (whole ++ end) ≡ replaced (replaced (replaced image 32 fields) place text) (place + length text + k) end
padded_on image fields text end whole place k fl el le fits there is =
    let under = replaced image 32 fields in
    let size : length under ≡ length image = replaced_len image fields 32 (omega (arith, fl, le, fits)) in
    let zeros : take k (drop (place + length text) under) ≡ replicate k 0 =
    read_after image fields 32 (place + length text) k (omega (arith, fl, le)) (omega (arith, fits)) ∙ there in
    ap (λ x. replaced under place (x ++ end)) is ∙ sym (zeros_are_skipped under text end place k zeros (omega (arith, fits, size, el)))

pub hobs_are_added : HobsAreAdded
hobs_are_added s hob taken text k h room is =
    let image = heap_image s in
    let fields = free_fields (grown s hob taken) in
    let header = header_bytes hob.kind (hob_len hob) in
    let body = body_bytes s (next_body s) hob.body in
    let zeros : List ℕ = replicate k 0 in
    let place = end_place s in
    let full = images_fill s h in
    let z : length zeros ≡ k = length-replicate k 0 in
    let h8 : length header ≡ 8 = refl in
    let both : length (header ++ body) ≡ length header + length body = length-append header body in
    let same : length (header ++ body) ≡ length text + length zeros = ap length is.bytes ∙ length-append text zeros in
    let all = is.len in
    let head = is.header in
    let hob_is : hob_len hob ≡ 8 + body_len hob.body = refl in
    let sizes : length body ≡ body_len hob.body = omega (arith, h8, both, same, z, all, hob_is) in
    let fits : place + length text + k + 8 ≤ length image = omega (arith, all, room, full) in
    let there : take k (drop (place + length text) image) ≡ replicate k 0 = tails_are_zero s (place + length text) k h (omega (arith, head)) (omega (arith, fits, full)) in
    let last : place + length text + k ≡ place + hob_len hob = omega (arith, all) in
    added_by s hob taken h sizes room
    ∙ padded_on image fields text (header_bytes END 8) (header ++ body) place k refl refl (omega arith) fits there is.bytes
    ∙ ap (λ n. replaced (replaced (replaced image 32 fields) place text) n (header_bytes END 8)) last
