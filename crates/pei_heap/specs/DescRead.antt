-- What a descriptor in the heap says.
-- PI 1.8, volume 1, `EFI_PEI_PPI_DESCRIPTOR` and `EFI_PEI_NOTIFY_DESCRIPTOR`.
use Rattle.std.specs.Prelude.{◌≡◌, ◌⊎◌, ℕ, ◌+◌, ◌≤◌, true, is_some}
use Rattle.store_model.specs.{StoreState.StoreState, MemoryReading.rom_bytes}
use Rattle.store_model.specs.Service.Descriptor.{guid_at, kind_at, number_at}
use Rattle.pei_heap.specs.declared.links.descriptor.DescRead.{DescRead}

-- sixteen bytes are at an address, in the heap or in a volume
abbrev pub HasGuidAt : StoreState → ℕ → Type 0
HasGuidAt s address = ((s.base ≤ address) × (address + 16 ≤ s.base + s.len)) ⊎ (is_some (rom_bytes s.board.roms address 16) ≡ true)

-- the kind, the GUID and the number are those of the descriptor at a place
pub record IsReadAt (s : StoreState) (place : ℕ) (found : DescRead) : Type 0 where
  pub kind_is : found.kind ≡ kind_at s place
  pub guid_is : found.guid ≡ guid_at s place
  pub number_is : found.number ≡ number_at s place
