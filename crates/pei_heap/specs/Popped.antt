-- The first queued pair that leaves the queue.
-- PI 1.8, volume 1, `EFI_PEI_PPI_DESCRIPTOR_NOTIFY_DISPATCH`.
use Rattle.std.specs.Prelude.{◌≡◌, ℕ, ◌==◌, if◌then◌else◌, Option, Some, None}
use Rattle.phys_mem.specs.declared.memory.PhysMem.{PhysMem}
use Rattle.store_model.specs.{declared.store_handle.Firing.Firing, StoreState.StoreState, Service.Queue.queue_pop}
use Rattle.pei_heap.specs.{declared.heap.Heap.Heap, declared.links.heads.Heads.Heads, Linked.IsLinked}

-- the heads once a next node, or 0, is the first of the queue
abbrev pub with_next_pair : ℕ → Heads → Heads
with_next_pair next heads = record heads { queue = next; queue_tail = if next == 0 then 0 else heads.queue_tail }

-- memory with its heads, before and after a call
pub record Change : Type 0 where
  pub old_memory : PhysMem
  pub old_heads : Heads
  pub new_memory : PhysMem
  pub new_heads : Heads

-- what it fires, and then memory has the image of the state without it; or the queue is empty and all is as it was
abbrev pub IsPopped : Heap → StoreState → Option Firing → Change → Type 0
IsPopped heap s (Some firing) c = (t : StoreState) × (queue_pop s ≡ Some (firing, t)) × IsLinked heap c.new_memory c.new_heads t
IsPopped heap s None c = (queue_pop s ≡ None) × (c.new_memory ≡ c.old_memory) × (c.new_heads ≡ c.old_heads)
