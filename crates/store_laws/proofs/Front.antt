-- The hand-off HOB: what is read there, the fields that a HOB more changes, and the first image.
use Rattle.std.proofs.Common.{◌≡◌, ℕ, ◌+◌, ◌-◌, ◌≤◌, ◌<◌, ◌^◌, List, [], ◌∷◌, ◌++◌, length, take, drop, arith, ap, refl, sym, ◌∙◌, append_assoc, length-append, replicate}
use Rattle.std.proofs.lemmas.List.{drop-replicate}
use Rattle.pi_base.specs.Field.{little_bytes, little_number, ReadsWhatItSpells}
use Rattle.phys_mem.specs.Region.{replaced}
use Rattle.hob_codec.specs.declared.kind.TheConstants.{END}
use Rattle.store_model.specs.{declared.state.HobEntry.HobEntry, StateFacts.IsStoreState}
use Rattle.store_model.specs.StoreState.{StoreState, empty_store, end_place, next_body, body_len, page_bytes}
use Rattle.store_model.specs.HeapImage.{header_bytes, hobs_bytes, hob_list, body_bytes, heap_image}
use Rattle.store_laws.specs.Growing.{front_bytes, free_fields, grown, HasHobRoom}
use Rattle.store_laws.specs.Word.{word_in}
use Rattle.store_laws.specs.Front.{BootModesAreRead, FreeTopsAreRead, FreeBottomsAreRead, EndsAreRead, FreeIsRead, FirstImages}
use Rattle.store_laws.proofs.{Growing.heaps_grow, Growing.hob_and_end, Parts.part_replaced, Reading.front_read}
use Rattle.store_laws.proofs.Facts.{bodies_are_spelled, images_fill, has_room, heaps_are_low}

pub append_nil : (xs : List ℕ) → xs ++ [] ≡ xs
append_nil [] = refl
append_nil (x ∷ xs) = ap (λ rest. x ∷ rest) (append_nil xs)

-- a number that is spelled is read
pub number_is : (n x : ℕ) (bytes : List ℕ) → ReadsWhatItSpells → x < 256 ^ n → bytes ≡ little_bytes n x → little_number n bytes ≡ x
number_is n x bytes law fits e = ap (little_number n) (e ∙ sym (append_nil (little_bytes n x))) ∙ law n x [] fits

-- the image begins with the hand-off HOB
behind_front : (front hobs end zeros : List ℕ) → front ++ hobs ++ end ++ zeros ≡ front ++ (hobs ++ (end ++ zeros))
behind_front front hobs end zeros = append_assoc (front ++ hobs) end zeros ∙ append_assoc front hobs (end ++ zeros)

pub front_piece : (s : StoreState) (k n : ℕ) → k + n ≤ 56 → take n (drop k (heap_image s)) ≡ take n (drop k (front_bytes s))
front_piece s k n le =
    let zeros : List ℕ = replicate (s.len - length (hob_list s)) 0 in
    ap (λ x. take n (drop k x)) (behind_front (front_bytes s) (hobs_bytes s 56 s.hobs) (header_bytes END 8) zeros)
    ∙ front_read (front_bytes s) (hobs_bytes s 56 s.hobs ++ (header_bytes END 8 ++ zeros)) k n le

boot_mode_at : (s : StoreState) → take 4 (drop 12 (front_bytes s)) ≡ little_bytes 4 s.boot_mode
boot_mode_at s = refl

free_top_at : (s : StoreState) → take 8 (drop 32 (front_bytes s)) ≡ little_bytes 8 (s.base + s.len - page_bytes s.moved s.taken)
free_top_at s = refl

free_bottom_at : (s : StoreState) → take 8 (drop 40 (front_bytes s)) ≡ little_bytes 8 (s.base + end_place s + 8)
free_bottom_at s = refl

end_at : (s : StoreState) → take 8 (drop 48 (front_bytes s)) ≡ little_bytes 8 (s.base + end_place s)
end_at s = refl

pub low_word : (s : StoreState) (n : ℕ) → IsStoreState s → n ≤ s.base + s.len → n < 256 ^ 8
low_word s n h le = let low : s.base + s.len ≤ 0x10000000000 = heaps_are_low s h in omega (arith, low, le)

pub boot_modes_are_read : ReadsWhatItSpells → BootModesAreRead
boot_modes_are_read law s h = number_is 4 s.boot_mode (take 4 (drop 12 (heap_image s))) law (let fits = h.boot_mode in omega (arith, fits)) (front_piece s 12 4 (omega arith) ∙ boot_mode_at s)

pub free_tops_are_read : ReadsWhatItSpells → FreeTopsAreRead
free_tops_are_read law s h =
    number_is 8 (s.base + s.len - page_bytes s.moved s.taken) (take 8 (drop 32 (heap_image s))) law (low_word s (s.base + s.len - page_bytes s.moved s.taken) h (omega arith)) (front_piece s 32 8 (omega arith) ∙ free_top_at s)

pub free_bottoms_are_read : ReadsWhatItSpells → FreeBottomsAreRead
free_bottoms_are_read law s h =
    let room = has_room s h in
    number_is 8 (s.base + end_place s + 8) (take 8 (drop 40 (heap_image s))) law (low_word s (s.base + end_place s + 8) h (omega (arith, room))) (front_piece s 40 8 (omega arith) ∙ free_bottom_at s)

pub ends_are_read : ReadsWhatItSpells → EndsAreRead
ends_are_read law s h =
    let room = has_room s h in
    number_is 8 (s.base + end_place s) (take 8 (drop 48 (heap_image s))) law (low_word s (s.base + end_place s) h (omega (arith, room))) (front_piece s 48 8 (omega arith) ∙ end_at s)

pub free_is_read : ReadsWhatItSpells → FreeIsRead
free_is_read law s h =
    let top = free_tops_are_read law s h in
    let bottom = free_bottoms_are_read law s h in
    let room : end_place s + 8 + page_bytes s.moved s.taken ≤ s.len = h.room in
    ap (λ n. n - word_in (heap_image s) 40) top ∙ ap (λ n. s.base + s.len - page_bytes s.moved s.taken - n) bottom ∙ omega (arith, room)

-- the first image
over_zeros : (front end : List ℕ) (len : ℕ) → length front ≡ 56 → length end ≡ 8 → front ++ [] ++ end ++ replicate (len - length (front ++ [] ++ end)) 0 ≡ replaced (replicate len 0) 0 (front ++ end)
over_zeros front end len f e =
    let size : length (front ++ end) ≡ 64 = length-append front end ∙ omega (arith, f, e) in
    let text = front ++ end in
    let none : front ++ [] ++ end ≡ text = ap (λ x. x ++ end) (append_nil front) in
    let behind : 0 + length text ≡ length text = omega arith in
    ap (λ x. x ++ replicate (len - length x) 0) none ∙ ap (λ x. text ++ x) (sym (ap (λ n. drop n (replicate len 0)) behind ∙ drop-replicate (length text) len 0))

pub first_images : FirstImages
first_images board room = over_zeros (front_bytes (empty_store board)) (header_bytes END 8) (board.temp.len - board.pages) refl refl

-- the fields that a HOB more changes
front_changed : (s : StoreState) (hob : HobEntry) (taken : ℕ) → front_bytes (grown s hob taken) ≡ replaced (front_bytes s) 32 (free_fields (grown s hob taken))
front_changed s hob taken = refl

front_there : (s : StoreState) → take 56 (drop 0 (heap_image s)) ≡ front_bytes s
front_there s = front_piece s 0 56 (omega arith) ∙ (let whole : take 56 (front_bytes s) ≡ front_bytes s = refl in whole)

pub added_by : (s : StoreState) (hob : HobEntry) (taken : ℕ) → IsStoreState s → length (body_bytes s (next_body s) hob.body) ≡ body_len hob.body → HasHobRoom s hob
    → heap_image (grown s hob taken) ≡ replaced (replaced (heap_image s) 32 (free_fields (grown s hob taken))) (end_place s) (hob_and_end s hob)
added_by s hob taken h len room =
    let image = heap_image s in
    let t = grown s hob taken in
    let full = images_fill s h in
    let end = has_room s h in
    heaps_grow s hob taken (bodies_are_spelled s h) len room
    ∙ ap (λ x. replaced x (end_place s) (hob_and_end s hob))
    (ap (replaced image 0) (front_changed s hob taken) ∙ part_replaced image (front_bytes s) (free_fields t) 0 32 (front_there s) (omega (arith, full, end)) (omega arith))
