-- A descriptor's GUID is there, and what is read is what the state says.
use Rattle.std.proofs.Common.{◌≡◌, ◌⊎◌, ◌≤◌, ◌<◌, ◌+◌, ◌-◌, ◌^◌, ℕ, Bool, true, false, cond, List, [], ◌∷◌, length, take, drop, Option, Some, None, ap, sym, refl, ◌∙◌, arith, subst, is_some, option_map, unwrap_or}
use Rattle.std.proofs.lemmas.Bool.Decides.{nat_tests}
use Rattle.pi_base.specs.Guids as G
use Rattle.phys_mem.specs.Region.{is_inside}
use Rattle.store_model.specs.{declared.state.Body.Body, declared.state.Body.TheVariants.Descriptor}
use Rattle.store_model.specs.{declared.state.DescriptorBody.DescriptorBody, declared.store_handle.DescKind.TheVariants.Dispatch}
use Rattle.store_model.specs.StoreState.{StoreState, body_at, descriptor_len}
use Rattle.store_model.specs.{StateFacts.IsGuidOf, StateFacts.IsStoreState, HeapImage.guid_address, HeapImage.heap_image}
use Rattle.store_model.specs.MemoryReading.{rom_bytes}
use Rattle.store_model.specs.Service.Descriptor.{descriptor_in, guid_at, kind_at, no_guid, number_at}
use Rattle.store_laws.proofs.{Fits.body_is_of, Facts.has_room, Facts.heaps_are_low}
use Rattle.store_laws.specs.{Bodies.BodiesAreInside, Descriptors.guid_read}
use Rattle.pei_heap.specs.DescRead.{HasGuidAt}

has_by : (s : StoreState) (place : ℕ) (d : DescriptorBody) (stands : Option ℕ) → d.stands ≡ stands → place + descriptor_len stands ≤ s.len → IsGuidOf s.board d stands → HasGuidAt s (guid_address s.base place stands)
has_by s place d None e fits is = ◌⊎◌.inl (omega arith, omega (arith, fits))
has_by s place d (Some address) e fits is = ◌⊎◌.inr (ap is_some is)

-- the lengths of both kinds
pub long_enough : (stands : Option ℕ) → 24 ≤ descriptor_len stands
long_enough None = omega arith
long_enough (Some address) = omega arith

pub place_inside : (s : StoreState) (place : ℕ) (d : DescriptorBody) → BodiesAreInside → IsStoreState s → body_at s place ≡ Some (Descriptor d) → (place + 24 ≤ s.len) × (place + 24 < 2 ^ 64)
place_inside s place d law h found =
    let inside = (law s place (Descriptor d) h found).before in
    let room = has_room s h in
    let long = long_enough d.stands in
    let low : s.base + s.len ≤ 0x10000000000 = heaps_are_low s h in
    (omega (arith, inside, room, long), omega (arith, inside, room, long, low))

pub has_guid : (s : StoreState) (place address : ℕ) (d : DescriptorBody) → BodiesAreInside → IsStoreState s → body_at s place ≡ Some (Descriptor d) → address ≡ guid_address s.base place d.stands → HasGuidAt s address
has_guid s place address d law h found e =
    let inside = (law s place (Descriptor d) h found).before in
    let room = has_room s h in
    let there = has_by s place d d.stands refl (omega (arith, inside, room)) (body_is_of s place (Descriptor d) h found).1.1 in
    subst (HasGuidAt s) (sym e) there

-- in the heap
pub guid_inside : (s : StoreState) (bytes : List ℕ) (offset address : ℕ) → length (heap_image s) ≡ s.len → bytes ≡ heap_image s → s.base ≤ address → address + 16 ≤ s.base + s.len → offset ≡ address - s.base
    → G.guid_at bytes offset ≡ guid_read s.board.roms (heap_image s) s.base address
guid_inside s bytes offset address full e le fits place =
    let image = heap_image s in
    let t : is_inside s.base (length image) address 16 ≡ true = grind (arith, nat_tests, le, fits, full) in
    let text : take 16 (drop offset bytes) ≡ take 16 (drop (address - s.base) image) = ap (λ x. take 16 (drop offset x)) e ∙ ap (λ n. take 16 (drop n image)) place in
    let other : List ℕ = unwrap_or (rom_bytes s.board.roms address 16) [] in
    ap (λ (x : List ℕ). record { 0 = x }) (text ∙ sym (ap (λ b. cond b (take 16 (drop (address - s.base) image)) other) t))

not_inside : (base size len address : ℕ) (b : Bool) → size ≡ len → is_inside base size address 16 ≡ b → ((base ≤ address) × (address + 16 ≤ base + len) → ⊥) → b ≡ false
not_inside base size len address false same e out = refl
not_inside base size len address true same e out =
    let le : base ≤ address = grind (arith, nat_tests, e) in
    let fits : address + 16 ≤ base + size = grind (arith, nat_tests, e) in
    absurd (out (le, omega (arith, fits, same)))

pub take_length : (xs : List ℕ) → take (length xs) xs ≡ xs
take_length [] = refl
take_length (x ∷ xs) = ap (λ rest. x ∷ rest) (take_length xs)

-- and in a volume
pub guid_outside : (s : StoreState) (text : List ℕ) (address : ℕ) → length (heap_image s) ≡ s.len → ((s.base ≤ address) × (address + 16 ≤ s.base + s.len) → ⊥) → rom_bytes s.board.roms address 16 ≡ Some text → length text ≡ 16
    → G.guid_at text 0 ≡ guid_read s.board.roms (heap_image s) s.base address
guid_outside s text address full out found long =
    let image = heap_image s in
    let f : is_inside s.base (length image) address 16 ≡ false = not_inside s.base (length image) s.len address (is_inside s.base (length image) address 16) full refl out in
    let whole : take 16 text ≡ text = ap (λ n. take n text) (sym long) ∙ take_length text in
    ap (λ (x : List ℕ). record { 0 = x }) (whole ∙ sym (ap (λ x. unwrap_or x []) found) ∙ sym (ap (λ b. cond b (take 16 (drop (address - s.base) image)) (unwrap_or (rom_bytes s.board.roms address 16) [])) f))

-- what the state says
pub kind_of_state : (s : StoreState) (place : ℕ) (d : DescriptorBody) → body_at s place ≡ Some (Descriptor d) → d.kind ≡ kind_at s place
kind_of_state s place d found = sym (ap (λ (x : Option Body). unwrap_or (option_map (λ (y : DescriptorBody). y.kind) (descriptor_in x)) Dispatch) found)

pub guid_of_state : (s : StoreState) (place : ℕ) (d : DescriptorBody) → body_at s place ≡ Some (Descriptor d) → d.guid ≡ guid_at s place
guid_of_state s place d found = sym (ap (λ (x : Option Body). unwrap_or (option_map (λ (y : DescriptorBody). y.guid) (descriptor_in x)) no_guid) found)

pub number_of_state : (s : StoreState) (place : ℕ) (d : DescriptorBody) → body_at s place ≡ Some (Descriptor d) → d.number ≡ number_at s place
number_of_state s place d found = sym (ap (λ (x : Option Body). unwrap_or (option_map (λ (y : DescriptorBody). y.number) (descriptor_in x)) 0) found)

-- what is not in the heap is in a volume
pub in_volume : (s : StoreState) (address : ℕ) → HasGuidAt s address → ((s.base ≤ address) × (address + 16 ≤ s.base + s.len) → ⊥) → is_some (rom_bytes s.board.roms address 16) ≡ true
in_volume s address (◌⊎◌.inl inside) out = absurd (out inside)
in_volume s address (◌⊎◌.inr some) out = some
