-- What is read from a descriptor in the image.
use Rattle.std.proofs.Common.{◌≡◌, ◌⊎◌, ℕ, ◌+◌, ◌-◌, ◌≤◌, ◌<◌, ◌^◌, Bool, true, false, cond, List, [], ◌∷◌, length, take, drop, arith, ap, refl, sym, ◌∙◌, Option, Some, None, unwrap_or, IfSome, take_at}
use Rattle.std.specs.Option.{option_or}
use Rattle.std.proofs.lemmas.Bool.Decides.{nat_tests}
use Rattle.pi_base.specs.{declared.guid.Guid.Guid, Field.little_bytes, Field.ReadsWhatItSpells, Lists.Each}
use Rattle.phys_mem.specs.{Region.is_inside, declared.rom.Rom.Rom}
use Rattle.store_model.specs.{declared.state.Body.TheVariants.Descriptor, declared.state.DescriptorBody.DescriptorBody}
use Rattle.store_model.specs.{declared.store_handle.DescKind.DescKind, StateFacts.IsStoreState, StateFacts.IsGuidOf}
use Rattle.store_model.specs.declared.store_handle.DescKind.TheVariants.{Ppi, Callback, Dispatch}
use Rattle.store_model.specs.StoreState.{StoreState, body_at, body_len, descriptor_len, end_place}
use Rattle.store_model.specs.HeapImage.{heap_image, kind_flags, guid_address, guid_behind, descriptor_bytes}
use Rattle.store_model.specs.MemoryReading.{rom_bytes}
use Rattle.store_laws.specs.{Fitting.IsFittingDescriptor, Word.word_in}
use Rattle.store_laws.proofs.{Fits.all_fit, Fits.body_is_of, Outside.roms_are_apart, Reading.image_at}
use Rattle.store_laws.specs.Descriptors.{AreRomsApart, guid_read, FlagsAreRead, AddressesAreRead, GuidsAreRead, NumbersAreRead}
use Rattle.store_laws.proofs.Facts.{bodies_are_spelled, places_are_inside, images_fill, has_room}
use Rattle.store_laws.proofs.Front.{number_is, low_word, append_nil}
use Rattle.store_laws.proofs.Nodes.{piece_of, descriptor_long}

guid_fact : (s : StoreState) (place : ℕ) (d : DescriptorBody) → IsStoreState s → body_at s place ≡ Some (Descriptor d) → IsGuidOf s.board d d.stands
guid_fact s place d h found = (body_is_of s place (Descriptor d) h found).1.1

fits_fact : (s : StoreState) (place : ℕ) (d : DescriptorBody) → IsStoreState s → body_at s place ≡ Some (Descriptor d) → IsFittingDescriptor d
fits_fact s place d h found = all_fit.descriptors s place d h found

-- each of its words
there : (s : StoreState) (place : ℕ) (d : DescriptorBody) → IsStoreState s → body_at s place ≡ Some (Descriptor d) → take (descriptor_len d.stands) (drop place (heap_image s)) ≡ descriptor_bytes s.base place d
there s place d h found = image_at s place (Descriptor d) (bodies_are_spelled s h) found

word_is : (s : StoreState) (place k n : ℕ) (d : DescriptorBody) → ReadsWhatItSpells → IsStoreState s → body_at s place ≡ Some (Descriptor d) → k + 8 ≤ 24 → take 8 (drop k (descriptor_bytes s.base place d)) ≡ little_bytes 8 n → n < 256 ^ 8
    → word_in (heap_image s) (place + k) ≡ n
word_is s place k n d law h found le field fits =
    let long = descriptor_long d.stands in
    number_is 8 n (take 8 (drop (place + k) (heap_image s))) law fits (piece_of (heap_image s) (descriptor_bytes s.base place d) place (descriptor_len d.stands) k 8 (there s place d h found) (omega (arith, le, long)) ∙ field)

flags_fit : (kind : DescKind) → kind_flags kind < 256 ^ 8
flags_fit Ppi = omega arith
flags_fit Callback = omega arith
flags_fit Dispatch = omega arith

pub flags_are_read : ReadsWhatItSpells → FlagsAreRead
flags_are_read law s place d h found =
    let same : place + 0 ≡ place = omega arith in
    ap (word_in (heap_image s)) (sym same) ∙ word_is s place 0 (kind_flags d.kind) d law h found (omega arith) refl (flags_fit d.kind)

pub numbers_are_read : ReadsWhatItSpells → NumbersAreRead
numbers_are_read law s place d h found =
    let fits = fits_fact s place d h found in
    word_is s place 16 d.number d law h found (omega arith) refl (let less = fits.number in omega (arith, less))

address_fits : (s : StoreState) (place : ℕ) (stands : Option ℕ) → IsStoreState s → place + 24 ≤ end_place s → IfSome stands (λ address. address < 2 ^ 64) → guid_address s.base place stands < 256 ^ 8
address_fits s place None h le fits = let room = has_room s h in low_word s (s.base + place + 24) h (omega (arith, le, room))
address_fits s place (Some address) h le fits = omega (arith, fits)

pub address_is : ReadsWhatItSpells → AddressesAreRead
address_is law s place d h found =
    let fits = fits_fact s place d h found in
    let inside = places_are_inside s place (Descriptor d) found in
    let long = descriptor_long d.stands in
    word_is s place 8 (guid_address s.base place d.stands) d law h found (omega arith) refl (address_fits s place d.stands h (omega (arith, inside.1, long)) fits.address)

outside_by : (base len start size address : ℕ) → start ≤ address → address + 16 ≤ start + size → (start + size ≤ base) ⊎ (base + len ≤ start) → is_inside base len address 16 ≡ false
outside_by base len start size address le fits (◌⊎◌.inl h) = let less : address < base = omega (arith, fits, h) in grind (arith, nat_tests, less)
outside_by base len start size address le fits (◌⊎◌.inr h) = let more : base + len < address + 16 = omega (arith, le, h) in grind (arith, nat_tests, more)

-- bytes of a volume are none of the heap
outside_on : (base len : ℕ) (rom : Rom) (address : ℕ) (b : Bool) (rest : Option (List ℕ)) (bytes : List ℕ) → is_inside rom.base (length rom.bytes) address 16 ≡ b
    → (rom.base + length rom.bytes ≤ base) ⊎ (base + len ≤ rom.base) → option_or (cond b (Some (take 16 (drop (address - rom.base) rom.bytes))) None) rest ≡ Some bytes
    → (rest ≡ Some bytes → is_inside base len address 16 ≡ false) → is_inside base len address 16 ≡ false
outside_on base len rom address true rest bytes e apart h f =
    let le : rom.base ≤ address = grind (arith, nat_tests, e) in
    let fits : address + 16 ≤ rom.base + length rom.bytes = grind (arith, nat_tests, e) in
    outside_by base len rom.base (length rom.bytes) address le fits apart
outside_on base len rom address false rest bytes e apart h f = f h

outside : (base len : ℕ) (roms : List Rom) (address : ℕ) (bytes : List ℕ) → Each (λ (rom : Rom). (rom.base + length rom.bytes ≤ base) ⊎ (base + len ≤ rom.base)) roms → rom_bytes roms address 16 ≡ Some bytes → is_inside base len address 16 ≡ false
outside base len [] address bytes h e = cc
outside base len (rom ∷ roms) address bytes h e =
    outside_on base len rom address (is_inside rom.base (length rom.bytes) address 16) (rom_bytes roms address 16) bytes refl h.0 e (λ later. outside base len roms address bytes h.1 later)

abbrev guid_of : List ℕ → Guid
guid_of bytes = record { 0 = bytes }

guid_eq : (a : List ℕ) (b : Guid) → a ≡ b.0 → guid_of a ≡ b
guid_eq a b e = ap guid_of e

inside_by : (base len at : ℕ) → base ≤ at → at + 16 ≤ base + len → is_inside base len at 16 ≡ true
inside_by base len at le fits = grind (arith, nat_tests)

-- the GUID, by where it stands
guid_by : (s : StoreState) (place : ℕ) (d : DescriptorBody) (stands : Option ℕ) → d.stands ≡ stands → IsStoreState s → AreRomsApart s → body_at s place ≡ Some (Descriptor d) → IsGuidOf s.board d stands
    → guid_read s.board.roms (heap_image s) s.base (guid_address s.base place stands) ≡ d.guid
guid_by s place d None is h apart found fact =
    let image = heap_image s in
    let at = s.base + place + 24 in
    let full = images_fill s h in
    let room = has_room s h in
    let len : body_len (Descriptor d) ≡ 40 = ap descriptor_len is in
    let inside = places_are_inside s place (Descriptor d) found in
    let t : is_inside s.base (length image) at 16 ≡ true = inside_by s.base (length image) at (omega arith) (omega (arith, inside.1, len, full, room)) in
    let sum : at - s.base ≡ place + 24 = omega arith in
    let whole : take 40 (drop place image) ≡ descriptor_bytes s.base place d = sym (ap (λ n. take n (drop place image)) len) ∙ there s place d h found in
    let piece : take 16 (drop (place + 24) image) ≡ take 16 (drop 24 (descriptor_bytes s.base place d)) = piece_of image (descriptor_bytes s.base place d) place 40 24 16 whole (omega arith) in
    let behind : take 16 (drop 24 (descriptor_bytes s.base place d)) ≡ d.guid.0 =
    ap (λ (x : Option ℕ). take 16 (guid_behind d x)) is ∙ ap (take 16) (sym (append_nil d.guid.0)) ∙ take_at d.guid.0 [] 16 fact in
    let bytes : take 16 (drop (at - s.base) image) ≡ d.guid.0 = ap (λ n. take 16 (drop n image)) sum ∙ piece ∙ behind in
    guid_eq _ d.guid (ap (λ b. cond b (take 16 (drop (at - s.base) image)) (unwrap_or (rom_bytes s.board.roms at 16) [])) t ∙ bytes)
guid_by s place d (Some address) is h apart found fact =
    let image = heap_image s in
    let full = images_fill s h in
    let t : is_inside s.base (length image) address 16 ≡ false = ap (λ n. is_inside s.base n address 16) full ∙ outside s.base s.len s.board.roms address d.guid.0 apart fact in
    guid_eq _ d.guid (ap (λ b. cond b (take 16 (drop (address - s.base) image)) (unwrap_or (rom_bytes s.board.roms address 16) [])) t ∙ ap (λ x. unwrap_or x []) fact)

pub guids_are_read : ReadsWhatItSpells → GuidsAreRead
guids_are_read law s place d h found =
    ap (guid_read s.board.roms (heap_image s) s.base) (address_is law s place d h found) ∙ guid_by s place d d.stands refl h (roms_are_apart s h) found (guid_fact s place d h found)
