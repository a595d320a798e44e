-- What is read of the heap: the bytes of the HOB list, and of one HOB in it.
use lib.Seq.{take-append-add, drop-append-add}
use Rattle.std.proofs.Common.{◌≡◌, ℕ, zero, suc, ◌+◌, ◌-◌, ◌≤◌, ◌<◌, Bool, true, false, nat_le, if◌then◌else◌, List, [], ◌∷◌, ◌++◌, length, take, drop, get_or, map, arith, sym, refl, ap, subst, ◌∙◌, append_assoc, Option, Some, None, IfSome, slice_get, sum_by, append-nil, length-append, take_all}
use Rattle.std.proofs.{lemmas.List.drop_more, lemmas.List.Sums.sum_by-cons, lemmas.Option.same_Some, lemmas.Option.unwrap_or-slice_get}
use Rattle.std.proofs.lemmas.Bool.Decides.{nat_tests}
use Rattle.std.specs.Option.{option_or}
use Rattle.phys_mem.specs.Region.{is_inside}
use Rattle.hob_codec.specs.declared.kind.TheConstants.{END}
use Rattle.store_model.specs.{declared.state.DescriptorBody.DescriptorBody, declared.state.Body.Body, declared.state.HobEntry.HobEntry}
use Rattle.store_model.specs.declared.state.Body.TheVariants.{Bytes, Descriptor, Node, Allocation}
use Rattle.pi_base.specs.Lists.{Each, numbers}
use Rattle.store_model.specs.StoreState.{StoreState, Range, hob_len, body_len, descriptor_len, end_place}
use Rattle.store_model.specs.StateFacts.{IsStoreState, IsGuidOf, IsBodyOf, IsHobEntry, IsHeap, IsPlanned}
use Rattle.store_model.specs.HeapImage.{Links, links_bytes, guid_behind, header_bytes, body_bytes, hobs_bytes, hob_list}
use Rattle.store_model.specs.StoreCall.{Peeks}
use Rattle.store_model.specs.MemoryReading.{rom_bytes, heap_byte, region_bytes, bytes_at}
use Rattle.boot_trace.specs.{HobLines.handoff_hob, HobLines.all_hobs, HeapParts.IsHeapPart, HeapParts.heap_part}
use Rattle.boot_trace.proofs.HobPlaces.{place_of, place_more}

-- a GUID that stands behind its descriptor has sixteen bytes
guid_len : (s : StoreState) (d : DescriptorBody) (stands : Option ℕ) → IsGuidOf s.board d stands → length (guid_behind d stands) + 24 ≡ descriptor_len stands
guid_len s d None h = omega (arith, h)
guid_len s d (Some address) h = refl

-- the lengths of bodies
node_len : (links : Option Links) → length (links_bytes links) ≡ 32
node_len None = refl
node_len (Some links) = refl

sized : (s : StoreState) (kind place : ℕ) (body : Body) → IsBodyOf s.board s.taken kind body → length (body_bytes s place body) ≡ body_len body
sized s kind place (Bytes bytes) h = refl
sized s kind place (Descriptor d) h = let e = guid_len s d d.stands h.1 in omega (arith, e)
sized s kind place Node h = node_len _
sized s kind place (Allocation a) h = refl

abbrev IsFormed : StoreState → HobEntry → Type 0
IsFormed s hob = (place : ℕ) → length (body_bytes s place hob.body) ≡ body_len hob.body

formed : (s : StoreState) (hobs : List HobEntry) → Each (IsHobEntry s.board s.taken) hobs → Each (IsFormed s) hobs
formed s [] h = tt
formed s (hob ∷ hobs) h = (λ place. sized s hob.kind place hob.body h.0.body, formed s hobs h.1)

all_formed : (s : StoreState) → IsStoreState s → Each (IsFormed s) (all_hobs s)
all_formed s h = (λ place. refl, formed s s.hobs h.hobs)

hobs_length : (s : StoreState) (at : ℕ) (hobs : List HobEntry) → Each (IsFormed s) hobs → length (hobs_bytes s at hobs) ≡ sum_by hob_len hobs
hobs_length s at [] h = refl
hobs_length s at (hob ∷ hobs) h =
    let header = header_bytes hob.kind (hob_len hob) in
    let body = body_bytes s (at + 8) hob.body in
    let later = hobs_bytes s (at + hob_len hob) hobs in
    let front = length-append header body in
    let both = length-append (header ++ body) later in
    let rest = hobs_length s (at + hob_len hob) hobs h.1 in
    let cons = sum_by-cons hob_len hob hobs in
    let len : length (header ++ body) ≡ hob_len hob = omega (arith, front, h.0 (at + 8)) in
    both ∙ omega (arith, len, rest, cons)

-- a part between two others
middle : (front part back : List ℕ) (h n : ℕ) → h ≡ length front → n ≡ length part → take n (drop h (front ++ (part ++ back))) ≡ part
middle front part back h n e f =
    let at : h ≡ length front + 0 = omega (arith, e) in
    let len : n ≡ length part + 0 = omega (arith, f) in
    ap (λ k. take n (drop k (front ++ (part ++ back)))) at ∙ ap (take n) (drop-append-add front (part ++ back) 0) ∙ ap (λ k. take k (part ++ back)) len ∙ take-append-add part back 0 ∙ append-nil part

-- the body of the HOB with a number
body_there : (s : StoreState) (hobs : List HobEntry) (at n len : ℕ) (hob : HobEntry) (tail : List ℕ) → Each (IsFormed s) hobs → slice_get hobs n ≡ Some hob → len ≡ body_len hob.body
    → take len (drop (place_of hobs n + 8) (hobs_bytes s at hobs ++ tail)) ≡ body_bytes s (at + place_of hobs n + 8) hob.body
body_there s [] at n len hob tail h is e = cc
body_there s (first ∷ hobs) at zero len hob tail h is e =
    let same : first ≡ hob = same_Some first hob is in
    let header = header_bytes first.kind (hob_len first) in
    let body = body_bytes s (at + 8) first.body in
    let rest = hobs_bytes s (at + hob_len first) hobs in
    let long : len ≡ length body = e ∙ sym (ap (λ (hob : HobEntry). body_len hob.body) same) ∙ sym (h.0 (at + 8)) in
    let at_first : at + 8 ≡ at + 0 + 8 = omega arith in
    ap (λ bytes. take len (drop 8 bytes)) (append_assoc (header ++ body) rest tail ∙ append_assoc header body (rest ++ tail)) ∙ middle header body (rest ++ tail) 8 len refl long
    ∙ ap (λ (hob : HobEntry). body_bytes s (at + 8) hob.body) same ∙ ap (λ k. body_bytes s k hob.body) at_first
body_there s (first ∷ hobs) at (suc n) len hob tail h is e =
    let front = header_bytes first.kind (hob_len first) ++ body_bytes s (at + 8) first.body in
    let rest = hobs_bytes s (at + hob_len first) hobs in
    let body = h.0 (at + 8) in
    let more = place_more first hobs n in
    let place : place_of (first ∷ hobs) (suc n) + 8 ≡ length front + (place_of hobs n + 8) = omega (arith, more, body) in
    let later : at + hob_len first + place_of hobs n + 8 ≡ at + place_of (first ∷ hobs) (suc n) + 8 = omega (arith, more) in
    ap (λ bytes. take len (drop (place_of (first ∷ hobs) (suc n) + 8) bytes)) (append_assoc front rest tail) ∙ ap (λ k. take len (drop k (front ++ (rest ++ tail)))) place
    ∙ ap (take len) (drop-append-add front (rest ++ tail) (place_of hobs n + 8)) ∙ body_there s hobs (at + hob_len first) n len hob tail h.1 is e ∙ ap (λ k. body_bytes s k hob.body) later

-- bytes that are read one by one
read_is : (f : ℕ → ℕ) (xs : List ℕ) (n at k : ℕ) → k + n ≤ length xs → ((i : ℕ) → i < n → f (at + i) ≡ get_or xs (k + i) 0) → map f (numbers at n) ≡ take n (drop k xs)
read_is f xs zero at k le same = refl
read_is f xs (suc n) at k le same =
    let first : at ≡ at + 0 = omega arith in
    let place : k + 0 ≡ k = omega arith in
    let here : f at ≡ get_or xs k 0 = ap f first ∙ same 0 (omega arith) ∙ ap (λ i. get_or xs i 0) place in
    let rest = read_is f xs n (at + 1) (k + 1) (omega (arith, le)) (λ i lt.
    let next : at + 1 + i ≡ at + suc i = omega arith in
    let after : k + suc i ≡ k + 1 + i = omega arith in
    ap f next ∙ same (suc i) (omega (arith, lt)) ∙ ap (λ j. get_or xs j 0) after) in
    ap (λ x. x ∷ map f (numbers (at + 1) n)) here ∙ ap (λ ys. get_or xs k 0 ∷ ys) rest ∙ sym (ap (take (suc n)) (drop_more xs k 0 (omega (arith, le))))

inside : (base len at n : ℕ) → base ≤ at → at + n ≤ base + len → is_inside base len at n ≡ true
inside base len at n low high =
    let t : nat_le base at ≡ true = grind (arith, nat_tests) in
    let u : nat_le (at + n) (base + len) ≡ true = grind (arith, nat_tests) in
    rw (t, u) refl

heap_byte_is : (s : StoreState) (a k : ℕ) → s.base + k ≡ a → k < s.len → heap_byte s a ≡ get_or (hob_list s) k 0
heap_byte_is s a k e lt =
    let t : is_inside s.base s.len a 1 ≡ true = inside s.base s.len a 1 (omega (arith, e)) (omega (arith, e, lt)) in
    let place : a - s.base ≡ k = omega (arith, e) in
    rw t (unwrap_or-slice_get (hob_list s) (a - s.base) 0 ∙ ap (λ i. get_or (hob_list s) i 0) place)

region_is : (s : StoreState) (region : Range) (at n : ℕ) → region.base ≤ at → at + n ≤ region.base + region.len → region_bytes s region at n ≡ Some (map (heap_byte s) (numbers at n))
region_is s region at n low high = let t = inside region.base region.len at n low high in rw t refl

-- the heap lies in temporary RAM, and after the move in RAM
mapped : (s : StoreState) (moved : Bool) (at n : ℕ) (other : Option (List ℕ)) → IsHeap s moved → IfSome s.planned (IsPlanned s.board) → s.base ≤ at → at + n ≤ s.base + s.len
    → option_or (if moved then None else region_bytes s s.board.temp at n) (option_or (region_bytes s s.board.ram at n) other) ≡ Some (map (heap_byte s) (numbers at n))
mapped s false at n other h p low high = ap (λ (o : Option (List ℕ)). option_or o (option_or (region_bytes s s.board.ram at n) other)) (region_is s s.board.temp at n (omega (arith, h.0, low)) (omega (arith, h.0, h.1, high)))
mapped s true at n other h p low high =
    let P : Option Range → Type 0 = λ planned. IfSome planned (IsPlanned s.board) in
    let q : IsPlanned s.board (record { base = s.base; len = s.len }) = subst P h.0 p in
    ap (λ (o : Option (List ℕ)). option_or o other) (region_is s s.board.ram at n (omega (arith, q.0, low)) (omega (arith, q.1, high)))

pub list_length : (s : StoreState) → IsStoreState s → length (hob_list s) ≡ end_place s + 8
list_length s h =
    let all = hobs_length s 0 (all_hobs s) (all_formed s h) in
    let cons = sum_by-cons hob_len (handoff_hob s) s.hobs in
    let both = length-append (hobs_bytes s 0 (all_hobs s)) (header_bytes END 8) in
    omega (arith, all, cons, both)

pub heap_read : (s : StoreState) (at n : ℕ) → IsStoreState s → IsHeapPart at n s → bytes_at s at n ≡ Some (heap_part s at n)
heap_read s at n h part =
    let end = list_length s h in
    let high : at + n ≤ s.base + s.len = omega (arith, part.1, h.room) in
    let read : map (heap_byte s) (numbers at n) ≡ heap_part s at n = read_is (heap_byte s) (hob_list s) n at (at - s.base) (omega (arith, part.0, part.1, end))
    (λ i lt. heap_byte_is s (at + i) (at - s.base + i) (omega (arith, part.0)) (omega (arith, part.0, lt, high))) in
    mapped s s.moved at n (rom_bytes s.board.roms at n) h.heap h.planned part.0 high ∙ ap Some read

-- the whole list
pub list_read : (s : StoreState) (n : ℕ) → IsStoreState s → n ≡ end_place s + 8 → bytes_at s s.base n ≡ Some (hob_list s)
list_read s n h e =
    let end = list_length s h in
    let high : s.base + n ≤ s.base + s.len = omega (arith, e, h.room) in
    let read : map (heap_byte s) (numbers s.base n) ≡ take n (hob_list s) = read_is (heap_byte s) (hob_list s) n s.base 0 (omega (arith, e, end))
    (λ i lt. heap_byte_is s (s.base + i) (0 + i) (omega arith) (omega (arith, lt, high))) in
    mapped s s.moved s.base n (rom_bytes s.board.roms s.base n) h.heap h.planned (omega arith) high ∙ ap Some (read ∙ take_all n (hob_list s) (omega (arith, e, end)))

-- the part of the heap that is a HOB's body
pub body_part : (s : StoreState) (n offset : ℕ) (hob : HobEntry) → IsStoreState s → offset ≡ place_of (all_hobs s) n → slice_get (all_hobs s) n ≡ Some hob
    → heap_part s (s.base + offset + 8) (hob_len hob - 8) ≡ body_bytes s (offset + 8) hob.body
body_part s n offset hob h e is =
    let place : s.base + offset + 8 - s.base ≡ place_of (all_hobs s) n + 8 = omega (arith, e) in
    let len : hob_len hob - 8 ≡ body_len hob.body = omega arith in
    let there : 0 + place_of (all_hobs s) n + 8 ≡ offset + 8 = omega (arith, e) in
    ap (λ k. take (hob_len hob - 8) (drop k (hob_list s))) place ∙ body_there s (all_hobs s) 0 n (hob_len hob - 8) hob (header_bytes END 8) (all_formed s h) is len ∙ ap (λ k. body_bytes s k hob.body) there

-- what a call reads, where it can read
pub peeked : (o : Option (List ℕ)) (answer : Bool) (old new bytes : List ℕ) → Peeks o answer old new → o ≡ Some bytes → new ≡ bytes
peeked o true old new bytes p e = same_Some new bytes (sym p ∙ e)
peeked o false old new bytes p e = let no : None ≡ Some bytes = sym p.0 ∙ e in cc
