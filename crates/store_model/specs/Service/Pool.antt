-- Pools: a pool of zeros is made, and bytes are written into one.
-- A pool's HOB has at most 65,528 bytes. PI 1.8, volume 1, `AllocatePool()`; volume 3, `EFI_HOB_MEMORY_POOL`.
use Rattle.std.specs.Prelude.{ℕ, ◌+◌, if◌then◌else◌, nat_lt, List, ◌++◌, length, replicate, take, drop, Option, Some, None, Ok, Err}
use Rattle.store_model.specs.{declared.store_handle.Pool.Pool, declared.store_handle.StoreFault.TheVariants.Full}
use Rattle.store_model.specs.StoreState.{Body, Bytes, Descriptor, Node, Allocation, StoreState, next_body, header_len, handoff_len, with_body, appended, pool_of, rounded}
use Rattle.store_model.specs.Service.{Service, in_room}

-- the most bytes that a pool may have
abbrev pub most_pool : ℕ
most_pool = 65520

-- `AllocatePool()`: zeros of the size, rounded up to a multiple of 8
abbrev pub pool : StoreState → ℕ → Service Pool
pool s size =
    if nat_lt most_pool size then Err Full
    else in_room s (rounded size + header_len)
    (Ok (record { offset = next_body s; size = size }, appended s (pool_of (Bytes (replicate (rounded size) 0)))))

-- the bytes replace those at an offset of a body
abbrev pub written : ℕ → List ℕ → Body → Body
written at bytes (Bytes old) = Bytes (take at old ++ bytes ++ drop (at + length bytes) old)
written at bytes (Descriptor d) = Descriptor d
written at bytes Node = Node
written at bytes (Allocation a) = Allocation a

-- the state with the bytes written at an offset of a pool; nothing if they pass its size
abbrev pub store : StoreState → Pool → ℕ → List ℕ → Option StoreState
store s to at bytes =
    if nat_lt to.size (at + length bytes) then None
    else Some (record s { hobs = with_body (written at bytes) handoff_len s.hobs to.offset })
