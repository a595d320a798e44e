-- What memory reads: temporary RAM before the move, which is the heap and then zeros in the page region; RAM, which is the heap after the move and zeros
-- elsewhere; a volume's bytes. Bytes are read only when all of them lie in one of these.
-- Own; the modelled memory is no part of PI.
use Rattle.std.specs.Prelude.{ℕ, ◌-◌, if◌then◌else◌, List, [], ◌∷◌, map, Option, Some, None, unwrap_or, slice_get}
use Rattle.std.specs.Option.{option_or}
use Rattle.phys_mem.specs.Region.{is_inside, part_of}
use Rattle.pi_base.specs.Lists.{numbers}
use Rattle.store_model.specs.StoreState.{Range, Rom, StoreState}
use Rattle.store_model.specs.HeapImage.{hob_list}

-- the n bytes at an address, if one of these volumes has all of them
abbrev pub rom_bytes : List Rom → ℕ → ℕ → Option (List ℕ)
rom_bytes [] at n = None
rom_bytes (rom ∷ roms) at n = option_or (part_of rom.base rom.bytes at n) (rom_bytes roms at n)

-- the byte at an address: the heap's, and 0 after the HOB list and outside the heap
abbrev pub heap_byte : StoreState → ℕ → ℕ
heap_byte s address = if is_inside s.base s.len address 1 then unwrap_or (slice_get (hob_list s) (address - s.base)) 0 else 0

-- the n bytes at an address, if this region has all of them
abbrev pub region_bytes : StoreState → Range → ℕ → ℕ → Option (List ℕ)
region_bytes s region at n = if is_inside region.base region.len at n then Some (map (heap_byte s) (numbers at n)) else None

-- the n bytes at an address, if one mapped region has all of them
abbrev pub bytes_at : StoreState → ℕ → ℕ → Option (List ℕ)
bytes_at s at n =
    option_or (if s.moved then None else region_bytes s s.board.temp at n)
    (option_or (region_bytes s s.board.ram at n) (rom_bytes s.board.roms at n))
