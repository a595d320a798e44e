-- The move to permanent memory: the heap is at another base, and the early pages at the new heap's end. What names a place of the old heap or the page region names the same place of the new.
-- A descriptor that nothing names is forgotten: its pool keeps the bytes that it had. No list, order, GUID or entry changes.
-- PI 1.8, volume 1, "Installing PEI Memory" and `EFI_PEI_TEMPORARY_RAM_SUPPORT_PPI`; which numbers are shifted is own.
use Rattle.std.specs.Prelude.{ℕ, ◌+◌, ◌-◌, true, if◌then◌else◌, nat_le, nat_lt, ◌&&◌, List, [], ◌∷◌, Option, None, option_map}
use Rattle.store_model.specs.{declared.store_handle.DescKind.DescKind, HeapImage.descriptor_bytes, Service.Descriptor.is_named}
use Rattle.store_model.specs.declared.store_handle.DescKind.TheVariants.{Ppi, Callback, Dispatch}
use Rattle.store_model.specs.StoreState.{Range, DescriptorBody, Body, Bytes, Descriptor, Node, Allocation, HobEntry, StoreState, hob_len, header_len, handoff_len}

-- a number in the old heap moves with the heap, and one in the page region with the pages; every other number stays
abbrev pub moved_number : StoreState → Range → ℕ → ℕ
moved_number s to number =
    if nat_le s.base number && nat_lt number (s.base + s.len) then number - s.base + to.base
    else if nat_le (s.page_end - s.board.pages) number && nat_lt number s.page_end then to.base + to.len - (s.page_end - number)
    else number

-- a PPI's value is such a number; a notification's entry is not
abbrev pub moved_value : StoreState → Range → DescKind → ℕ → ℕ
moved_value s to Ppi number = moved_number s to number
moved_value s to Callback number = number
moved_value s to Dispatch number = number

-- a descriptor keeps its kind and its GUID, and its number moves as a value or stays as an entry
abbrev pub moved_descriptor : StoreState → Range → DescriptorBody → DescriptorBody
moved_descriptor s to d = record d { number = moved_value s to d.kind d.number }

-- the body at a place; pages are counted from the end, so their HOB says the same
abbrev pub moved_body : StoreState → Range → ℕ → Body → Body
moved_body s to place (Descriptor d) =
    if is_named s place then Descriptor (moved_descriptor s to d) else Bytes (descriptor_bytes s.base place d)
moved_body s to place (Bytes bytes) = Bytes bytes
moved_body s to place Node = Node
moved_body s to place (Allocation a) = Allocation a

-- the HOBs, of which the first is at `at`: each keeps its type and its length
abbrev pub moved_hobs : StoreState → Range → ℕ → List HobEntry → List HobEntry
moved_hobs s to at [] = []
moved_hobs s to at (hob ∷ hobs) =
    record hob { body = moved_body s to (at + header_len) hob.body } ∷ moved_hobs s to (at + hob_len hob) hobs

-- the state in this permanent memory: the pages' end is the heap's end
abbrev pub migrated_to : StoreState → Range → StoreState
migrated_to s to =
    record s { base = to.base; len = to.len; page_end = to.base + to.len; moved = true; hobs = moved_hobs s to handoff_len s.hobs }

-- the state after the move, if one is due
abbrev pub migration : StoreState → Option StoreState
migration s = if s.moved then None else option_map (migrated_to s) s.planned
