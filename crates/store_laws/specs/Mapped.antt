-- The regions of memory whose heap has these bytes: temporary RAM with the page region after the heap, or RAM with zeros round it. Own.
use Rattle.std.specs.Prelude.{◌≡◌, ℕ, ◌+◌, ◌-◌, ◌≤◌, Bool, true, false, List, ◌∷◌, ◌++◌, length, map, replicate, take, drop, Some}
use Rattle.phys_mem.specs.{Region.Region, declared.memory.PhysMem.PhysMem}
use Rattle.phys_mem.specs.Regions.{rom_region, regions, bytes_at}
use Rattle.store_model.specs.StoreState.{Board, StoreState, empty_store}
use Rattle.store_model.specs.HeapImage.{heap_image}

-- the place of the heap on a board
pub record Layout : Type 0 where
  pub board : Board
  pub moved : Bool
  pub base : ℕ
  pub len : ℕ

abbrev pub layout_of : StoreState → Layout
layout_of s = record { board = s.board; moved = s.moved; base = s.base; len = s.len }

abbrev pub regions_by : Layout → Bool → List ℕ → List Region
regions_by l false heap =
    record { base = l.board.temp.base; bytes = heap ++ replicate (l.board.temp.len - l.len) 0; writable = true }
    ∷ record { base = l.board.ram.base; bytes = replicate l.board.ram.len 0; writable = true } ∷ map rom_region l.board.roms
regions_by l true heap =
    record {
      base = l.board.ram.base;
      bytes = replicate (l.base - l.board.ram.base) 0 ++ heap ++ replicate (l.board.ram.base + l.board.ram.len - (l.base + l.len)) 0;
      writable = true;
    } ∷ map rom_region l.board.roms

abbrev pub regions_with : Layout → List ℕ → List Region
regions_with l heap = regions_by l l.moved heap

-- the heap is where it may be
abbrev pub IsPlacedBy : Layout → Bool → Type 0
IsPlacedBy l false = (l.base ≡ l.board.temp.base) × (l.len ≤ l.board.temp.len)
IsPlacedBy l true = (l.board.ram.base ≤ l.base) × (l.base + l.len ≤ l.board.ram.base + l.board.ram.len)

-- memory has a heap of these bytes
pub record HasHeap (l : Layout) (heap : List ℕ) (memory : PhysMem) : Type 0 where
  pub placed : IsPlacedBy l l.moved
  pub len : length heap ≡ l.len
  pub regions : regions memory ≡ regions_with l heap

-- memory is that of a state
pub record IsMemoryOf (s : StoreState) (memory : PhysMem) : Type 0 where
  pub image : HasHeap (layout_of s) (heap_image s) memory

-- memory of a board as it is made, before anything is written
abbrev pub FirstMemories : Type 0
FirstMemories = (board : Board) (memory : PhysMem) → board.pages ≤ board.temp.len
    → regions memory
    ≡ record { base = board.temp.base; bytes = replicate board.temp.len 0; writable = true } ∷ record { base = board.ram.base; bytes = replicate board.ram.len 0; writable = true } ∷ map rom_region board.roms
    → HasHeap (layout_of (empty_store board)) (replicate (board.temp.len - board.pages) 0) memory

-- bytes read inside the heap are those of the heap
abbrev pub HeapsAreRead : Type 0
HeapsAreRead = (l : Layout) (heap : List ℕ) (memory : PhysMem) (at n : ℕ) → HasHeap l heap memory → l.base ≤ at → at + n ≤ l.base + l.len
    → bytes_at (regions memory) at n ≡ Some (take n (drop (at - l.base) heap))
