-- What the bytes of a heap say about its lists: a function of the bytes, the heap's base, the volumes and the first node's address. Own.
use Rattle.std.specs.Prelude.{ℕ, ◌+◌, ◌-◌, List, map, length}
use Rattle.pi_base.specs.declared.guid.Guid.{Guid}
use Rattle.phys_mem.specs.declared.rom.Rom.{Rom}
use Rattle.store_model.specs.{declared.state.Entry.Entry, StoreState.StoreState, HeapImage.heap_image}
use Rattle.store_model.specs.{Service.Descriptor.guid_at, Service.Descriptor.number_at, declared.store_handle.EntryList.EntryList}
use Rattle.store_laws.specs.{Descriptors.guid_told, Descriptors.number_told, Items.items, Items.first_address, Walk.chain_from}
use Rattle.store_laws.specs.Word.{word_in}

-- an entry's descriptor, with its GUID and number, and the number of a module
pub record Told : Type 0 where
  pub place : ℕ
  pub guid : Guid
  pub number : ℕ
  pub by : ℕ

abbrev pub told_by : List Rom → List ℕ → ℕ → ℕ → ℕ → Told
told_by roms heap base place by = record { place = place; guid = guid_told roms heap base place; number = number_told heap place; by = by }

-- by the node at an address
abbrev pub node_told : List Rom → List ℕ → ℕ → ℕ → Told
node_told roms heap base at = told_by roms heap base (word_in heap (at - base + 8) - base) (word_in heap (at - base + 24))

-- of all nodes from one on
abbrev pub list_told : List Rom → List ℕ → ℕ → ℕ → List Told
list_told roms heap base head = map (node_told roms heap base) (chain_from (length heap) heap base head)

-- of a queued pair: the PPI's GUID, and the number of the notification
abbrev pub pair_told : List Rom → List ℕ → ℕ → ℕ → Guid × ℕ
pair_told roms heap base at = (guid_told roms heap base (word_in heap (at - base + 16) - base), number_told heap (word_in heap (at - base + 8) - base))

abbrev pub queue_told : List Rom → List ℕ → ℕ → ℕ → List (Guid × ℕ)
queue_told roms heap base head = map (pair_told roms heap base) (chain_from (length heap) heap base head)

-- of a list of a state, by its image
abbrev pub image_told : StoreState → EntryList → List Told
image_told s list = list_told s.board.roms (heap_image s) s.base (first_address s.base (items s list))

-- what the state says itself
abbrev pub entry_said : StoreState → Entry → Told
entry_said s entry = record { place = entry.descriptor; guid = guid_at s entry.descriptor; number = number_at s entry.descriptor; by = entry.by }
