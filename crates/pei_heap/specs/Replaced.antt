-- A PPI that names another descriptor.
-- PI 1.8, volume 1, `ReInstallPpi()`.
use Rattle.std.specs.Prelude.{◌≡◌, ℕ, List, ◌∷◌, ◌<◌, length, drop, true, false, Option, Some, None}
use Rattle.phys_mem.specs.declared.memory.PhysMem.{PhysMem}
use Rattle.store_model.specs.{declared.state.Entry.Entry, declared.store_handle.Desc.Desc, StoreState.StoreState}
use Rattle.store_model.specs.Service.Install.{is_installed, place_of, renamed}
use Rattle.pei_heap.specs.{declared.heap.Heap.Heap, declared.links.heads.Heads.Heads, declared.links.renaming.PpiFound.PpiFound}
use Rattle.pei_heap.specs.Linked.{IsLinked}

-- the first PPI that names a descriptor: its place and its node
pub record IsFirstNamed (s : StoreState) (old : Desc) (found : PpiFound) : Type 0 where
  pub entry : Entry
  pub rest : List Entry
  pub there : drop found.place s.ppis ≡ entry ∷ rest
  pub place_is : found.place ≡ place_of s.ppis old.offset
  pub node_is : found.node ≡ entry.node
  pub inside : found.place < length s.ppis
  pub installed : is_installed s old ≡ true

abbrev pub IsFound : StoreState → Desc → Option PpiFound → Type 0
IsFound s old (Some found) = IsFirstNamed s old found
IsFound s old None = is_installed s old ≡ false

-- the state once that PPI names another descriptor
abbrev pub with_renamed : StoreState → Desc → Desc → StoreState
with_renamed s old new = record s { ppis = renamed s.ppis old.offset new.offset }

-- memory has its image, and the PPI's place is returned
pub record IsReplacedAt (heap : Heap) (heads : Heads) (s : StoreState) (old new : Desc) (place : ℕ) (memory : PhysMem) : Type 0 where
  pub place_is : place ≡ place_of s.ppis old.offset
  pub inside : place < length s.ppis
  pub installed : is_installed s old ≡ true
  pub linked : IsLinked heap memory heads (with_renamed s old new)

-- a descriptor that is to be in the place of another, and memory before and after
pub record Replacement : Type 0 where
  pub old : Desc
  pub new : Desc
  pub before : PhysMem
  pub after : PhysMem

-- this holds if a PPI names the old descriptor; else memory is as it was
abbrev pub IsReplaced : Heap → Heads → StoreState → Replacement → Option ℕ → Type 0
IsReplaced heap heads s r (Some place) = IsReplacedAt heap heads s r.old r.new place r.after
IsReplaced heap heads s r None = (is_installed s r.old ≡ false) × (r.after ≡ r.before)
