-- The move of the heap, by what stands before a step and behind it.
-- PI 1.8, volume 1, "Installing PEI Memory"; what is told of it is own.
use Rattle.std.specs.Prelude.{ℕ, ◌+◌, if◌then◌else◌, Option, Some, None}
use Rattle.store_model.specs.StoreState.{StoreState, end_place, header_len}
use Rattle.boot_reasons.specs.declared.reasons.Moved.{Moved}

-- how many bytes of the heap the HOB list takes, its end HOB included: `EfiFreeMemoryBottom` as an offset
abbrev pub heap_used : StoreState → ℕ
heap_used s = end_place s + header_len

-- the base of a heap that has not moved
abbrev pub unmoved_base : StoreState → Option ℕ
unmoved_base s = if s.moved then None else Some s.base

-- the move from a base, where the heap has moved
abbrev pub moved_from : Option ℕ → StoreState → Option Moved
moved_from None later = None
moved_from (Some base) later = if later.moved then Some (record { from = base; to = later.base; used = heap_used later }) else None

-- the move from one store to the next, if it is one
abbrev pub moved_between : StoreState → StoreState → Option Moved
moved_between s later = moved_from (unmoved_base s) later
