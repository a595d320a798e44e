-- What is read from the hand-off HOB, and the first image.
-- Own.
use Rattle.std.specs.Prelude.{◌≡◌, ◌+◌, ◌-◌, ◌≤◌, ◌++◌, replicate}
use Rattle.phys_mem.specs.Region.{replaced}
use Rattle.hob_codec.specs.declared.kind.TheConstants.{END}
use Rattle.store_model.specs.StoreState.{Board, StoreState, empty_store, end_place, free, page_bytes}
use Rattle.store_model.specs.{StateFacts.IsStoreState, HeapImage.header_bytes, HeapImage.heap_image}
use Rattle.store_laws.specs.{Growing.front_bytes, Word.word_in, Word.half_word_in}

abbrev pub BootModesAreRead : Type 0
BootModesAreRead = (s : StoreState) → IsStoreState s → half_word_in (heap_image s) 12 ≡ s.boot_mode

abbrev pub FreeTopsAreRead : Type 0
FreeTopsAreRead = (s : StoreState) → IsStoreState s → word_in (heap_image s) 32 ≡ s.base + s.len - page_bytes s.moved s.taken

abbrev pub FreeBottomsAreRead : Type 0
FreeBottomsAreRead = (s : StoreState) → IsStoreState s → word_in (heap_image s) 40 ≡ s.base + end_place s + 8

abbrev pub EndsAreRead : Type 0
EndsAreRead = (s : StoreState) → IsStoreState s → word_in (heap_image s) 48 ≡ s.base + end_place s

-- what is free is between the two
abbrev pub FreeIsRead : Type 0
FreeIsRead = (s : StoreState) → IsStoreState s → word_in (heap_image s) 32 - word_in (heap_image s) 40 ≡ free s

-- a hand-off HOB and an end HOB over zeros
abbrev pub FirstImages : Type 0
FirstImages = (board : Board) → board.pages + 64 ≤ board.temp.len
    → heap_image (empty_store board)
    ≡ replaced (replicate (board.temp.len - board.pages) 0) 0 (front_bytes (empty_store board) ++ header_bytes END 8)
