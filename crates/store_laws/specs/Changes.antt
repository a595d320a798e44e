-- What the other services change of the heap: one text at a place.
-- Own.
use Rattle.std.specs.Prelude.{◌≡◌, ℕ, ◌+◌, ◌≤◌, List, ◌∷◌, length, drop, replicate, Some}
use Rattle.pi_base.specs.Field.{little_bytes}
use Rattle.phys_mem.specs.Region.{replaced}
use Rattle.store_model.specs.{declared.state.Entry.Entry, declared.state.Pending.Pending, declared.state.Body.TheVariants.Bytes}
use Rattle.store_model.specs.StoreState.{StoreState, body_at, handoff_len, with_body}
use Rattle.store_model.specs.{StateFacts.IsStoreState, HeapImage.heap_image, Service.Install.renamed, Service.Install.place_of}
use Rattle.store_model.specs.{Service.Memory.with_boot_mode, Service.Pool.written, Service.Queue.zeroed}

-- the first pair leaves the queue, and its node becomes zeros
abbrev pub without_first : StoreState → Pending → List Pending → StoreState
without_first s first rest = record s { hobs = with_body zeroed handoff_len s.hobs first.node; pendings = rest }

abbrev pub PairsArePopped : Type 0
PairsArePopped = (s : StoreState) (first : Pending) (rest : List Pending) → IsStoreState s → s.pendings ≡ first ∷ rest
    → heap_image (without_first s first rest) ≡ replaced (heap_image s) first.node (replicate 32 0)

-- the first PPI that names a descriptor names another: the second word of its node
abbrev pub PpisAreRenamed : Type 0
PpisAreRenamed = (s : StoreState) (old new : ℕ) (entry : Entry) (rest : List Entry) → IsStoreState s
    → drop (place_of s.ppis old) s.ppis ≡ entry ∷ rest
    → heap_image (record s { ppis = renamed s.ppis old new }) ≡ replaced (heap_image s) (entry.node + 8) (little_bytes 8 (s.base + new))

-- bytes are written into a pool
abbrev pub PoolsAreWritten : Type 0
PoolsAreWritten = (s : StoreState) (place at : ℕ) (old bytes : List ℕ) → IsStoreState s → body_at s place ≡ Some (Bytes old)
    → at + length bytes ≤ length old
    → heap_image (record s { hobs = with_body (written at bytes) handoff_len s.hobs place }) ≡ replaced (heap_image s) (place + at) bytes

-- the hand-off HOB's boot mode
abbrev pub BootModesAreWritten : Type 0
BootModesAreWritten = (s : StoreState) (mode : ℕ) → heap_image (with_boot_mode s mode) ≡ replaced (heap_image s) 12 (little_bytes 4 mode)
