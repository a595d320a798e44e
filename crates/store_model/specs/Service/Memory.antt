-- Permanent memory and pages. Memory is planned once; before the move pages come from the page region's end downwards, after it from the heap's end.
-- Each call that takes pages makes an allocation HOB.
-- PI 1.8, volume 1, `InstallPeiMemory()`, `AllocatePages()`, `GetBootMode()` and `SetBootMode()`; that memory is planned once is own.
use Rattle.std.specs.Prelude.{ℕ, ◌+◌, ◌-◌, ◌*◌, ◌%◌, Bool, ◌==◌, ◌&&◌, not, if◌then◌else◌, nat_le, nat_lt, Some, Ok, Err, is_none}
use Rattle.hob_codec.specs.declared.kind.TheConstants.{ALLOCATION}
use Rattle.phys_mem.specs.Region.{is_inside}
use Rattle.store_model.specs.declared.store_handle.StoreFault.TheVariants.{Full, NotYet}
use Rattle.store_model.specs.StoreState.{HobEntry, Allocation, StoreState, appended}
use Rattle.store_model.specs.Service.{Service, in_room, unless_bad}

-- the bytes of a page
abbrev pub page_len : ℕ
page_len = 4096

-- the bytes of an allocation HOB
abbrev pub allocation_len : ℕ
allocation_len = 48

-- whether the span may be permanent memory
abbrev pub is_memory : StoreState → ℕ → ℕ → Bool
is_memory s begin len =
    begin % page_len == 0 && len % page_len == 0 && is_inside s.board.ram.base s.board.ram.len begin len
    && nat_le s.board.temp.len len && is_none s.planned

-- `InstallPeiMemory()`: the span is planned, and the heap moves there once no script runs
abbrev pub set_memory : StoreState → ℕ → ℕ → Service (Unit {0})
set_memory s begin len =
    unless_bad (not (is_memory s begin len)) (Ok (tt, record s { planned = Some (record { base = begin; len = len }) }))

-- the HOB of pages: as many bytes, the first so far below the end
abbrev pub allocation_hob : ℕ → ℕ → ℕ → HobEntry
allocation_hob memory_type len below =
    record { kind = ALLOCATION; body = Allocation (record { memory_type = memory_type; len = len; below = below }) }

-- so many bytes of pages are taken, and a HOB for them follows the others
abbrev pub with_pages : StoreState → ℕ → ℕ → StoreState
with_pages s memory_type len = record (appended s (allocation_hob memory_type len (s.taken + len))) { taken = s.taken + len }

-- so many bytes of pages were taken; the answer is the address of the lowest
abbrev pub pages_taken : StoreState → ℕ → ℕ → Service ℕ
pages_taken s memory_type len = Ok (s.page_end - (s.taken + len), with_pages s memory_type len)

-- from the page region, before the move
abbrev pub early_pages : StoreState → ℕ → ℕ → Service ℕ
early_pages s memory_type len =
    if s.board.pages == 0 then Err NotYet
    else if nat_lt (s.board.pages - s.taken) len then Err Full
    else in_room s allocation_len (pages_taken s memory_type len)

-- `AllocatePages()`: so many pages, of the heap's end after the move and of the page region before it
abbrev pub pages : StoreState → ℕ → ℕ → Service ℕ
pages s memory_type count =
    if s.moved then in_room s (allocation_len + page_len * count) (pages_taken s memory_type (page_len * count))
    else early_pages s memory_type (page_len * count)

-- the hand-off HOB has the mode
abbrev pub with_boot_mode : StoreState → ℕ → StoreState
with_boot_mode s mode = record s { boot_mode = mode }
