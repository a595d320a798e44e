-- The queue of dispatch notifications, first in, first out: the first pair leaves, and its node becomes zeros.
-- PI 1.8, volume 1, `EFI_PEI_PPI_DESCRIPTOR_NOTIFY_DISPATCH`.
use Rattle.std.specs.Prelude.{List, [], ◌∷◌, replicate, Option, Some, None}
use Rattle.store_model.specs.{declared.store_handle.Firing.Firing, Service.Sweep.firing_of}
use Rattle.store_model.specs.StoreState.{StoreState, Pending, Body, Bytes, with_body, handoff_len, node_len}

-- what a node becomes whose pair has left the queue
abbrev pub zeroed : Body → Body
zeroed body = Bytes (replicate node_len 0)

-- the first of these pairs, and the state without it; nothing if there is no pair
abbrev pub popped : StoreState → List Pending → Option (Firing × StoreState)
popped s [] = None
popped s (first ∷ rest) =
    Some (
      firing_of s first.ppi first.descriptor,
      record s { hobs = with_body zeroed handoff_len s.hobs first.node; pendings = rest },
    )

-- the first of all queued pairs
abbrev pub queue_pop : StoreState → Option (Firing × StoreState)
queue_pop s = popped s s.pendings
