-- What is read from a descriptor in the image.
-- Own.
use Rattle.std.specs.Prelude.{◌≡◌, ◌⊎◌, ℕ, ◌+◌, ◌-◌, ◌≤◌, List, [], length, take, drop, if◌then◌else◌, unwrap_or, Some}
use Rattle.pi_base.specs.{declared.guid.Guid.Guid, Lists.Each}
use Rattle.phys_mem.specs.{Region.is_inside, declared.rom.Rom.Rom}
use Rattle.store_model.specs.{declared.state.Body.TheVariants.Descriptor, declared.state.DescriptorBody.DescriptorBody}
use Rattle.store_model.specs.{StoreState.StoreState, StoreState.body_at, StateFacts.IsStoreState, MemoryReading.rom_bytes}
use Rattle.store_model.specs.HeapImage.{guid_address, heap_image, kind_flags}
use Rattle.store_laws.specs.Word.{word_in}

-- no volume has an address of the heap
abbrev pub AreRomsApart : StoreState → Type 0
AreRomsApart s = Each (λ (rom : Rom). (rom.base + length rom.bytes ≤ s.base) ⊎ (s.base + s.len ≤ rom.base)) s.board.roms

-- the GUID at an address: in the heap, or else in a volume
abbrev pub guid_read : List Rom → List ℕ → ℕ → ℕ → Guid
guid_read roms heap base address = record { 0 = if is_inside base (length heap) address 16 then take 16 (drop (address - base) heap) else unwrap_or (rom_bytes roms address 16) [] }

-- the GUID and the number of the descriptor at a place
abbrev pub guid_told : List Rom → List ℕ → ℕ → ℕ → Guid
guid_told roms heap base place = guid_read roms heap base (word_in heap (place + 8))

abbrev pub number_told : List ℕ → ℕ → ℕ
number_told heap place = word_in heap (place + 16)

abbrev pub VolumesAreApart : Type 0
VolumesAreApart = (s : StoreState) → IsStoreState s → AreRomsApart s

abbrev pub FlagsAreRead : Type 0
FlagsAreRead = (s : StoreState) (place : ℕ) (d : DescriptorBody) → IsStoreState s → body_at s place ≡ Some (Descriptor d)
    → word_in (heap_image s) place ≡ kind_flags d.kind

-- the address of its GUID
abbrev pub AddressesAreRead : Type 0
AddressesAreRead = (s : StoreState) (place : ℕ) (d : DescriptorBody) → IsStoreState s → body_at s place ≡ Some (Descriptor d)
    → word_in (heap_image s) (place + 8) ≡ guid_address s.base place d.stands

abbrev pub GuidsAreRead : Type 0
GuidsAreRead = (s : StoreState) (place : ℕ) (d : DescriptorBody) → IsStoreState s → body_at s place ≡ Some (Descriptor d)
    → guid_told s.board.roms (heap_image s) s.base place ≡ d.guid

abbrev pub NumbersAreRead : Type 0
NumbersAreRead = (s : StoreState) (place : ℕ) (d : DescriptorBody) → IsStoreState s → body_at s place ≡ Some (Descriptor d)
    → number_told (heap_image s) place ≡ d.number
