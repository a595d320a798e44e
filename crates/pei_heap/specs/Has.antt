-- Whether a PPI of a GUID is installed, by the bytes of the heap alone.
-- Own.
use Rattle.std.specs.Prelude.{◌≡◌, ℕ, Bool, List, [], unwrap_or}
use Rattle.std.specs.List.{list_any}
use Rattle.pi_base.specs.{declared.guid.Guid.Guid, Guids.same_guid}
use Rattle.phys_mem.specs.{Regions.bytes_at, Regions.regions, declared.memory.PhysMem.PhysMem}
use Rattle.store_model.specs.{StoreState.StoreState, Service.Install.has_ppi}
use Rattle.store_laws.specs.Told.{list_told}
use Rattle.pei_heap.specs.{declared.heap.Heap.Heap, declared.links.heads.Heads.Heads, Linked.IsLinked}

-- the bytes of the heap in memory
abbrev pub heap_bytes : Heap → PhysMem → List ℕ
heap_bytes heap memory = unwrap_or (bytes_at (regions memory) heap.span.base heap.span.len) []

-- one of the nodes from the first PPI's on names a descriptor of the GUID
abbrev pub links_have : Heap → PhysMem → Heads → Guid → Bool
links_have heap memory heads guid =
    list_any (λ told. same_guid told.guid guid) (list_told memory.roms (heap_bytes heap memory) heap.span.base heads.ppi)

-- for each state it is the state's answer
abbrev pub LinksHave : Type 0
LinksHave = (heap : Heap) (memory : PhysMem) (heads : Heads) (s : StoreState) (guid : Guid) → IsLinked heap memory heads s
    → links_have heap memory heads guid ≡ has_ppi s guid
