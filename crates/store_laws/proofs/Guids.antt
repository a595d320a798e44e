-- Each GUID has sixteen bytes: one behind its descriptor by what holds of every state, and one in a volume since sixteen were read there; and its address is low.
use Rattle.std.proofs.Common.{◌≡◌, ℕ, ◌+◌, ◌-◌, ◌≤◌, ◌<◌, ◌^◌, true, List, [], ◌∷◌, length, take, drop, Option, Some, None, sym, ap, refl, ◌∙◌, arith, length-take, length-drop, IfSome}
use Rattle.std.specs.Option.{option_or}
use Rattle.std.proofs.{lemmas.Option.cond_some, lemmas.Bool.Decides.nat_tests}
use Rattle.boot_plan.specs.declared.limits.TheConstants.{MOST_END}
use Rattle.phys_mem.specs.{declared.rom.Rom.Rom, Region.is_inside, Region.part_of}
use Rattle.pi_base.specs.Lists.{Each}
use Rattle.store_model.specs.{declared.store_handle.DescKind.DescKind, declared.state.DescriptorBody.DescriptorBody}
use Rattle.store_model.specs.declared.store_handle.DescKind.TheVariants.{Ppi, Callback, Dispatch}
use Rattle.store_model.specs.{declared.state.Body.TheVariants.Descriptor, HeapImage.descriptor_bytes, HeapImage.guid_behind}
use Rattle.store_model.specs.{MemoryReading.rom_bytes, StoreState.Board, StoreState.descriptor_len}
use Rattle.store_model.specs.StateFacts.{IsBoard, IsBodyOf, IsGuidOf, IsMapped, IsNumberOf}
use Rattle.store_laws.specs.Fitting.{IsFittingDescriptor}

inside_is : (base len at n : ℕ) → is_inside base len at n ≡ true → (base ≤ at) × (at + n ≤ base + len)
inside_is base len at n h = (grind (arith, nat_tests), grind (arith, nat_tests))

-- what is read of a volume is as long as was asked for, and lies in it
record IsRead (rom : Rom) (at n : ℕ) (text : List ℕ) : Type 0 where
  long : length text ≡ n
  low : at + n ≤ rom.base + length rom.bytes

part_read : (rom : Rom) (at n : ℕ) (text : List ℕ) → part_of rom.base rom.bytes at n ≡ Some text → IsRead rom at n text
part_read rom at n text h =
    let c = cond_some (is_inside rom.base (length rom.bytes) at n) (take n (drop (at - rom.base) rom.bytes)) text h in
    let i = inside_is rom.base (length rom.bytes) at n c.0 in
    record { long = sym (ap length c.1) ∙ omega (arith, i.0, i.1, length-take n (drop (at - rom.base) rom.bytes), length-drop (at - rom.base) rom.bytes); low = i.1 }

first_has : (P : List ℕ → Type 0) (o rest : Option (List ℕ)) (text : List ℕ) → option_or o rest ≡ Some text → ((t : List ℕ) → o ≡ Some t → P t) → ((t : List ℕ) → rest ≡ Some t → P t) → P text
first_has P None rest text h p q = q text h
first_has P (Some t) rest text h p q = p text h

-- and so is what is read of some volume
abbrev IsLow : ℕ → ℕ → List ℕ → Type 0
IsLow at n text = (length text ≡ n) × (at + n ≤ MOST_END)

rom_low : (board : Board) (roms : List Rom) (at n : ℕ) (text : List ℕ) → Each (IsMapped board) roms → rom_bytes roms at n ≡ Some text → IsLow at n text
rom_low board [] at n text each h = absurd cc
rom_low board (rom ∷ roms) at n text each h =
    first_has (IsLow at n) (part_of rom.base rom.bytes at n) (rom_bytes roms at n) text h
    (λ t e. let is = part_read rom at n t e in let end = each.0.end in let low = is.low in (is.long, omega (arith, low, end)))
    (λ t e. rom_low board roms at n t each.1 e)

abbrev Fits : Option ℕ → Type 0
Fits stands = IfSome stands (λ address. address < 2 ^ 64)

guid_fits : (board : Board) (d : DescriptorBody) (stands : Option ℕ) → IsBoard board → IsGuidOf board d stands → (length d.guid.0 ≡ 16) × Fits stands
guid_fits board d None is h = (h, tt)
guid_fits board d (Some address) is h = let low = rom_low board board.roms address 16 d.guid.0 is.roms h in let end = low.1 in (low.0, omega (arith, end))

number_fits : (kind : DescKind) (n : ℕ) → IsNumberOf kind n → n < 2 ^ 64
number_fits Ppi n h = h
number_fits Callback n h = omega (arith, h)
number_fits Dispatch n h = omega (arith, h)

behind_len : (d : DescriptorBody) (stands : Option ℕ) → length d.guid.0 ≡ 16 → length (guid_behind d stands) + 24 ≡ descriptor_len stands
behind_len d None e = omega (arith, e)
behind_len d (Some address) e = refl

spelled_len : (d : DescriptorBody) → length d.guid.0 ≡ 16 → (base place : ℕ) → length (descriptor_bytes base place d) ≡ descriptor_len d.stands
spelled_len d e base place = let len = behind_len d d.stands e in omega (arith, len)

pub descriptor_fits : (board : Board) (taken kind : ℕ) (d : DescriptorBody) → IsBoard board → IsBodyOf board taken kind (Descriptor d) → IsFittingDescriptor d
descriptor_fits board taken kind d is h =
    let guid = guid_fits board d d.stands is h.1 in
    record { guid = guid.0; address = guid.1; number = number_fits d.kind d.number h.2; spelled = spelled_len d guid.0 }
