-- What the move makes of an address.
use Rattle.std.proofs.Common.{◌≡◌, ◌⊎◌, ℕ, ◌+◌, ◌≤◌, ◌<◌, ◌^◌, arith, ap, refl, ◌∙◌, Option, Some, None, IfSome}
use Rattle.std.proofs.lemmas.Bool.Decides.{nat_tests}
use Rattle.store_model.specs.{declared.store_handle.DescKind.DescKind, HeapImage.guid_address, HeapImage.kind_flags}
use Rattle.store_model.specs.declared.store_handle.DescKind.TheVariants.{Ppi, Callback, Dispatch}
use Rattle.store_model.specs.StoreState.{Range, StoreState, descriptor_len}
use Rattle.store_model.specs.Migration.{moved_number, moved_value}
use Rattle.store_laws.proofs.Shifts.{moved, once, outside, is_in_heap as in_heap}
use Rattle.heap_store.specs.{declared.course.Course.Course, Course.IsCourse, Ready.IsElsewhere, Linked.address}

below : (base len page_end pages to_base to_len n most : ℕ) → base + len + pages ≡ page_end → page_end ≤ most → to_base + to_len ≤ most → len + pages ≤ to_len → n < most → moved base len page_end pages to_base to_len n < most
below base len page_end pages to_base to_len n most e low high fits h = grind (arith, nat_tests, e, low, high, fits, h)

pub elsewhere_stays : (s : StoreState) (to : Range) (course : Course) (n : ℕ) → IsCourse s to course → IsElsewhere s n → moved_number s to n ≡ n
elsewhere_stays s to course n c h = outside s.base s.len s.page_end s.board.pages to.base to.len n c.end h

pub place_moves : (s : StoreState) (to : Range) (course : Course) (place : ℕ) → IsCourse s to course → place < s.len → moved_number s to (s.base + place) ≡ to.base + place
place_moves s to course place c le =
    let less : s.base + place < s.base + s.len = omega (arith, le) in
    in_heap s.base s.len s.page_end s.board.pages to.base to.len (s.base + place) (omega arith) less ∙ omega arith

new_on : (s : StoreState) (to : Range) (course : Course) (place : ℕ) → IsCourse s to course → place < s.len → (to.base + to.len ≤ s.base) ⊎ (s.page_end ≤ to.base) → IsElsewhere s (to.base + place)
new_on s to course place c le (◌⊎◌.inl h) = ◌⊎◌.inl (omega (arith, h, le, c.fits))
new_on s to course place c le (◌⊎◌.inr h) = ◌⊎◌.inr (omega (arith, h))

pub new_stays : (s : StoreState) (to : Range) (course : Course) (place : ℕ) → IsCourse s to course → place < s.len → moved_number s to (to.base + place) ≡ to.base + place
new_stays s to course place c le = elsewhere_stays s to course (to.base + place) c (new_on s to course place c le c.apart)

pub moves_once : (s : StoreState) (to : Range) (course : Course) (n : ℕ) → IsCourse s to course → moved_number s to (moved_number s to n) ≡ moved_number s to n
moves_once s to course n c = once s.base s.len s.page_end s.board.pages to.base to.len n c.end c.fits c.apart

pub stays_low : (s : StoreState) (to : Range) (course : Course) (n : ℕ) → IsCourse s to course → n < 256 ^ 8 → moved_number s to n < 256 ^ 8
stays_low s to course n c h = below s.base s.len s.page_end s.board.pages to.base to.len n (256 ^ 8) c.end (omega (arith, c.low)) (omega (arith, c.high)) c.fits h

-- a link is shifted, and 0 and what was shifted stays
pub address_moves : (s : StoreState) (to : Range) (course : Course) (place : Option ℕ) → IsCourse s to course → IfSome place (λ p. p < s.len) → moved_number s to (address s.base place) ≡ address to.base place
address_moves s to course None c h = elsewhere_stays s to course 0 c (◌⊎◌.inl c.above)
address_moves s to course (Some p) c h = place_moves s to course p c h

pub address_stays : (s : StoreState) (to : Range) (course : Course) (place : Option ℕ) → IsCourse s to course → IfSome place (λ p. p < s.len) → moved_number s to (address to.base place) ≡ address to.base place
address_stays s to course None c h = elsewhere_stays s to course 0 c (◌⊎◌.inl c.above)
address_stays s to course (Some p) c h = new_stays s to course p c h

-- so is a descriptor's own address of its GUID, and one in a volume stays
pub guid_moves : (s : StoreState) (to : Range) (course : Course) (place : ℕ) (stands : Option ℕ) → IsCourse s to course → IfSome stands (IsElsewhere s) → place + descriptor_len stands ≤ s.len
    → moved_number s to (guid_address s.base place stands) ≡ guid_address to.base place stands
guid_moves s to course place None c h le =
    ap (moved_number s to) (let e : s.base + place + 24 ≡ s.base + (place + 24) = omega arith in e) ∙ place_moves s to course (place + 24) c (omega (arith, le)) ∙ omega arith
guid_moves s to course place (Some at) c h le = elsewhere_stays s to course at c h

pub guid_stays : (s : StoreState) (to : Range) (course : Course) (place : ℕ) (stands : Option ℕ) → IsCourse s to course → IfSome stands (IsElsewhere s) → place + descriptor_len stands ≤ s.len
    → moved_number s to (guid_address to.base place stands) ≡ guid_address to.base place stands
guid_stays s to course place None c h le =
    ap (moved_number s to) (let e : to.base + place + 24 ≡ to.base + (place + 24) = omega arith in e) ∙ new_stays s to course (place + 24) c (omega (arith, le)) ∙ omega arith
guid_stays s to course place (Some at) c h le = elsewhere_stays s to course at c h

pub value_once : (s : StoreState) (to : Range) (course : Course) (kind : DescKind) (n : ℕ) → IsCourse s to course → moved_value s to kind (moved_value s to kind n) ≡ moved_value s to kind n
value_once s to course Ppi n c = moves_once s to course n c
value_once s to course Callback n c = refl
value_once s to course Dispatch n c = refl

pub value_low : (s : StoreState) (to : Range) (course : Course) (kind : DescKind) (n : ℕ) → IsCourse s to course → n < 256 ^ 8 → moved_value s to kind n < 256 ^ 8
value_low s to course Ppi n c h = stays_low s to course n c h
value_low s to course Callback n c h = h
value_low s to course Dispatch n c h = h

pub flags_low : (kind : DescKind) → kind_flags kind < 256 ^ 8
flags_low Ppi = omega arith
flags_low Callback = omega arith
flags_low Dispatch = omega arith

pub guid_low : (s : StoreState) (to : Range) (course : Course) (base place : ℕ) (stands : Option ℕ) → base + s.len ≤ 0x10000000000 → IfSome stands (λ at. at < 256 ^ 8) → place + descriptor_len stands ≤ s.len → guid_address base place stands < 256 ^ 8
guid_low s to course base place None fits h le = omega (arith, fits, le)
guid_low s to course base place (Some at) fits h le = h

pub address_low : (s : StoreState) (base : ℕ) (place : Option ℕ) → base + s.len ≤ 0x10000000000 → IfSome place (λ p. p < s.len) → address base place < 256 ^ 8
address_low s base None fits h = omega arith
address_low s base (Some p) fits h = omega (arith, fits, h)
