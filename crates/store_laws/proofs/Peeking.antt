-- What memory reads where its heap is the image of a state.
use Rattle.std.proofs.Common.{◌≡◌, ◌⊎◌, ℕ, zero, suc, ◌+◌, ◌-◌, ◌≤◌, ◌<◌, Bool, true, false, cond, List, [], ◌∷◌, ◌++◌, length, take, drop, get_or, arith, ap, refl, sym, ◌∙◌, Option, Some, None, length-append, replicate, map, slice_get, unwrap_or, nat_lt}
use Rattle.std.specs.{Prelude.⊤, Option.option_or}
use Rattle.std.proofs.lemmas.Bool.Decides.{nat_tests}
use Rattle.std.proofs.lemmas.List.{length-replicate, get_or_append_left, get_or-append_right}
use Rattle.phys_mem.specs.{Region.is_inside, Region.part_of, Regions.rom_region, Regions.regions, declared.rom.Rom.Rom}
use Rattle.phys_mem.specs.Regions as R
use Rattle.pi_base.specs.Lists.{numbers}
use Rattle.store_model.specs.{StoreState.StoreState, HeapImage.hob_list, HeapImage.heap_image, StateFacts.AreApart, StateFacts.IsHeap}
use Rattle.store_model.specs.MemoryReading.{rom_bytes, heap_byte, region_bytes}
use Rattle.store_laws.specs.Mapped.{layout_of, regions_by, IsPlacedBy}
use Rattle.store_laws.specs.Peeking.{MemoryIsRead}

pub roms_same : (roms : List Rom) (at n : ℕ) → R.bytes_at (map rom_region roms) at n ≡ rom_bytes roms at n
roms_same [] at n = refl
roms_same (rom ∷ roms) at n =
    ap (option_or (part_of rom.base rom.bytes at n)) (roms_same roms at n)

-- bytes that are a function of their addresses
drop_get : (bytes : List ℕ) (k : ℕ) → k < length bytes → drop k bytes ≡ get_or bytes k 0 ∷ drop (k + 1) bytes
drop_get [] k le = absurd (omega (arith, le))
drop_get (x ∷ bytes) zero le = refl
drop_get (x ∷ bytes) (suc k) le = let next : suc k + 1 ≡ suc (k + 1) = omega arith in rw next (drop_get bytes k (omega (arith, le)))

bytes_by : (f : ℕ → ℕ) (bytes : List ℕ) (base at n : ℕ) → base ≤ at → at + n ≤ base + length bytes → ((i : ℕ) → i < length bytes → get_or bytes i 0 ≡ f (base + i))
    → take n (drop (at - base) bytes) ≡ map f (numbers at n)
bytes_by f bytes base at zero le fits is = refl
bytes_by f bytes base at (suc n) le fits is =
    let k = at - base in
    let in_bytes : k < length bytes = omega (arith, le, fits) in
    let here : get_or bytes k 0 ≡ f at = is k in_bytes ∙ ap f (let e : base + k ≡ at = omega (arith, le) in e) in
    let next : k + 1 ≡ at + 1 - base = omega (arith, le) in
    ap (take (suc n)) (drop_get bytes k in_bytes) ∙ ap (λ x. x ∷ take n (drop (k + 1) bytes)) here
    ∙ ap (λ m. f at ∷ take n (drop m bytes)) next ∙ ap (λ xs. f at ∷ xs) (bytes_by f bytes base (at + 1) n (omega (arith, le)) (omega (arith, fits)) is)

part_on : (f : ℕ → ℕ) (bytes : List ℕ) (base at n : ℕ) (b : Bool) → is_inside base (length bytes) at n ≡ b → ((i : ℕ) → i < length bytes → get_or bytes i 0 ≡ f (base + i))
    → cond b (Some (take n (drop (at - base) bytes))) None ≡ cond b (Some (map f (numbers at n))) None
part_on f bytes base at n true e is =
    let le : base ≤ at = grind (arith, nat_tests, e) in
    let fits : at + n ≤ base + length bytes = grind (arith, nat_tests, e) in
    ap Some (bytes_by f bytes base at n le fits is)
part_on f bytes base at n false e is = refl

part_by : (f : ℕ → ℕ) (bytes : List ℕ) (base len at n : ℕ) → length bytes ≡ len → ((i : ℕ) → i < length bytes → get_or bytes i 0 ≡ f (base + i))
    → part_of base bytes at n ≡ cond (is_inside base len at n) (Some (map f (numbers at n))) None
part_by f bytes base len at n size is =
    part_on f bytes base at n (is_inside base (length bytes) at n) refl is ∙ ap (λ m. cond (is_inside base m at n) (Some (map f (numbers at n))) None) size

-- the heap's byte, by its place and where it is
inside_one : (base len i : ℕ) → i < len → is_inside base len (base + i) 1 ≡ true
inside_one base len i le = grind (arith, nat_tests, le)

outside_one : (base len a : ℕ) → (a < base) ⊎ (base + len ≤ a) → is_inside base len a 1 ≡ false
outside_one base len a h = grind (arith, nat_tests, h)

abbrev nought : ℕ
nought = 0

zero_byte : (k i : ℕ) → get_or (replicate k nought) i nought ≡ nought
zero_byte zero zero = refl
zero_byte zero (suc i) = refl
zero_byte (suc k) zero = refl
zero_byte (suc k) (suc i) = zero_byte k i

by_place : (list : List ℕ) (k i : ℕ) → get_or (list ++ replicate k 0) i 0 ≡ unwrap_or (slice_get list i) 0
by_place [] k zero = zero_byte k zero
by_place [] k (suc i) = zero_byte k (suc i)
by_place (x ∷ list) k zero = refl
by_place (x ∷ list) k (suc i) = by_place list k i

byte_in : (s : StoreState) (i : ℕ) → i < s.len → get_or (heap_image s) i 0 ≡ heap_byte s (s.base + i)
byte_in s i le =
    let t : is_inside s.base s.len (s.base + i) 1 ≡ true = inside_one s.base s.len i le in
    let k : s.base + i - s.base ≡ i = omega arith in
    by_place (hob_list s) (s.len - length (hob_list s)) i ∙ ap (λ m. unwrap_or (slice_get (hob_list s) m) 0) (sym k) ∙ sym (ap (λ b. cond b (unwrap_or (slice_get (hob_list s) (s.base + i - s.base)) 0) 0) t)

byte_out : (s : StoreState) (a : ℕ) → (a < s.base) ⊎ (s.base + s.len ≤ a) → heap_byte s a ≡ 0
byte_out s a h = ap (λ b. cond b (unwrap_or (slice_get (hob_list s) (a - s.base)) 0) 0) (outside_one s.base s.len a h)

-- what is asked of the bytes of a heap
abbrev AreHeapBytes : StoreState → List ℕ → Type 0
AreHeapBytes s image = (i : ℕ) → i < s.len → get_or image i 0 ≡ heap_byte s (s.base + i)

-- temporary RAM: the heap, and zeros behind it
temp_on : (s : StoreState) (image : List ℕ) (k i : ℕ) (b : Bool) → nat_lt i s.len ≡ b → length image ≡ s.len → AreHeapBytes s image → get_or (image ++ replicate k 0) i 0 ≡ heap_byte s (s.base + i)
temp_on s image k i true e len are =
    let le : i < s.len = grind (arith, nat_tests, e) in
    get_or_append_left image (replicate k 0) 0 i (omega (arith, le, len)) ∙ are i le
temp_on s image k i false e len are =
    let le : s.len ≤ i = grind (arith, nat_tests, e) in
    get_or-append_right image (replicate k 0) s.len i 0 len le ∙ zero_byte k (i - s.len) ∙ sym (byte_out s (s.base + i) (◌⊎◌.inr (omega (arith, le))))

-- RAM before the move: zeros, and no address of the heap
ram_on : (s : StoreState) (base len i : ℕ) → i < len → (s.base + s.len ≤ base) ⊎ (base + len ≤ s.base) → get_or (replicate len 0) i 0 ≡ heap_byte s (base + i)
ram_on s base len i le (◌⊎◌.inl h) = zero_byte len i ∙ sym (byte_out s (base + i) (◌⊎◌.inr (omega (arith, h))))
ram_on s base len i le (◌⊎◌.inr h) = zero_byte len i ∙ sym (byte_out s (base + i) (◌⊎◌.inl (omega (arith, h, le))))

-- RAM after the move: zeros, the heap, and zeros
moved_on : (s : StoreState) (image : List ℕ) (base m k i : ℕ) (b c : Bool) → nat_lt i m ≡ b → nat_lt i (m + s.len) ≡ c → length image ≡ s.len → AreHeapBytes s image → base + m ≡ s.base
    → get_or (replicate m 0 ++ image ++ replicate k 0) i 0 ≡ heap_byte s (base + i)
moved_on s image base m k i true c e f len are at =
    let le : i < m = grind (arith, nat_tests, e) in
    let size : length (replicate m nought) ≡ m = length-replicate m 0 in
    let all : length (replicate m 0 ++ image) ≡ m + s.len = length-append (replicate m 0) image ∙ omega (arith, size, len) in
    get_or_append_left (replicate m 0 ++ image) (replicate k 0) 0 i (omega (arith, le, all)) ∙ get_or_append_left (replicate m 0) image 0 i (omega (arith, le, size)) ∙ zero_byte m i
    ∙ sym (byte_out s (base + i) (◌⊎◌.inl (omega (arith, le, at))))
moved_on s image base m k i false true e f len are at =
    let le : m ≤ i = grind (arith, nat_tests, e) in
    let less : i < m + s.len = grind (arith, nat_tests, f) in
    let size : length (replicate m nought) ≡ m = length-replicate m 0 in
    let all : length (replicate m 0 ++ image) ≡ m + s.len = length-append (replicate m 0) image ∙ omega (arith, size, len) in
    let place : s.base + (i - m) ≡ base + i = omega (arith, le, at) in
    get_or_append_left (replicate m 0 ++ image) (replicate k 0) 0 i (omega (arith, less, all)) ∙ get_or-append_right (replicate m 0) image m i 0 size le ∙ are (i - m) (omega (arith, le, less)) ∙ ap (heap_byte s) place
moved_on s image base m k i false false e f len are at =
    let le : m + s.len ≤ i = grind (arith, nat_tests, f) in
    let size : length (replicate m nought) ≡ m = length-replicate m 0 in
    let all : length (replicate m 0 ++ image) ≡ m + s.len = length-append (replicate m 0) image ∙ omega (arith, size, len) in
    get_or-append_right (replicate m 0 ++ image) (replicate k 0) (m + s.len) i 0 all le ∙ zero_byte k (i - (m + s.len)) ∙ sym (byte_out s (base + i) (◌⊎◌.inr (omega (arith, le, at))))

both_else : (a b : Option (List ℕ)) (c d : Option (List ℕ)) → a ≡ b → c ≡ d → option_or a c ≡ option_or b d
both_else a b c d e f = ap (λ x. option_or x c) e ∙ ap (option_or b) f

apart_from : (s : StoreState) → AreApart s.board.temp s.board.ram → s.base ≡ s.board.temp.base → s.len + s.board.pages ≡ s.board.temp.len → (s.base + s.len ≤ s.board.ram.base) ⊎ (s.board.ram.base + s.board.ram.len ≤ s.base)
apart_from s (◌⊎◌.inl h) base len = ◌⊎◌.inl (omega (arith, h, base, len))
apart_from s (◌⊎◌.inr h) base len = ◌⊎◌.inr (omega (arith, h, base))

abbrev IsWholeTemp : StoreState → Bool → Type 0
IsWholeTemp s false = s.len + s.board.pages ≡ s.board.temp.len
IsWholeTemp s true = ⊤

whole_temp : (s : StoreState) (moved : Bool) → IsHeap s moved → IsWholeTemp s moved
whole_temp s false heap = heap.1
whole_temp s true heap = tt

read_by : (s : StoreState) (image : List ℕ) (moved : Bool) (at n : ℕ) → IsPlacedBy (layout_of s) moved → length image ≡ s.len → AreHeapBytes s image → AreApart s.board.temp s.board.ram → IsWholeTemp s moved
    → R.bytes_at (regions_by (layout_of s) moved image) at n ≡ option_or (cond moved None (region_bytes s s.board.temp at n)) (option_or (region_bytes s s.board.ram at n) (rom_bytes s.board.roms at n))
read_by s image false at n placed len are apart whole =
    let k = s.board.temp.len - s.len in
    let zeros = replicate k 0 in
    let base : s.base ≡ s.board.temp.base = placed.0 in
    let size : length (image ++ zeros) ≡ s.board.temp.len = length-append image zeros ∙ (let z : length zeros ≡ k = length-replicate k 0 in omega (arith, z, len, placed.1)) in
    let first : part_of s.board.temp.base (image ++ zeros) at n ≡ region_bytes s s.board.temp at n =
    part_by (heap_byte s) (image ++ zeros) s.board.temp.base s.board.temp.len at n size (λ i le. temp_on s image k i (nat_lt i s.len) refl len are ∙ ap (λ b. heap_byte s (b + i)) base) in
    let ram_size : length (replicate s.board.ram.len nought) ≡ s.board.ram.len = length-replicate s.board.ram.len 0 in
    let second : part_of s.board.ram.base (replicate s.board.ram.len 0) at n ≡ region_bytes s s.board.ram at n =
    part_by (heap_byte s) (replicate s.board.ram.len 0) s.board.ram.base s.board.ram.len at n ram_size (λ i le. ram_on s s.board.ram.base s.board.ram.len i (omega (arith, le, ram_size)) (apart_from s apart base whole)) in
    both_else _ _ _ _ first (both_else _ _ _ _ second (roms_same s.board.roms at n))
read_by s image true at n placed len are apart whole =
    let m = s.base - s.board.ram.base in
    let k = s.board.ram.base + s.board.ram.len - (s.base + s.len) in
    let pre = replicate m 0 in
    let post = replicate k 0 in
    let a : length pre ≡ m = length-replicate m 0 in
    let b : length post ≡ k = length-replicate k 0 in
    let sum : length (pre ++ image ++ post) ≡ length pre + length image + length post = length-append (pre ++ image) post ∙ ap (λ x. x + length post) (length-append pre image) in
    let size : length (pre ++ image ++ post) ≡ s.board.ram.len = omega (arith, sum, a, b, len, placed.0, placed.1) in
    let base : s.board.ram.base + m ≡ s.base = omega (arith, placed.0) in
    let first : part_of s.board.ram.base (pre ++ image ++ post) at n ≡ region_bytes s s.board.ram at n =
    part_by (heap_byte s) (pre ++ image ++ post) s.board.ram.base s.board.ram.len at n size (λ i le. moved_on s image s.board.ram.base m k i (nat_lt i m) (nat_lt i (m + s.len)) refl refl len are base) in
    both_else _ _ _ _ first (roms_same s.board.roms at n)

pub memory_is_read : MemoryIsRead
memory_is_read s memory at n h is =
    let has = is.image in
    ap (λ r. R.bytes_at r at n) has.regions ∙ read_by s (heap_image s) s.moved at n has.placed has.len (byte_in s) h.board.memory (whole_temp s s.moved h.heap)
