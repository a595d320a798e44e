use Rattle.std.proofs.Common.{refl, arith}
use Rattle.store_model.specs.StoreState.{Board, range_of}
use Rattle.pei_heap.specs.HeapMemory.{IsFresh}
use Rattle.heap_store.proofs.store.HeapStore.new.Goals as goal

pub returns : goal.returns
returns c =
    let board : Board = record { temp = range_of c.args.temp; pages = c.args.pages; ram = range_of c.args.ram; roms = c.args.roms } in
    let pages = c.requires.pages in
    let fresh : IsFresh board c.in_ok-memory.memory _ = record { board_is = c.requires; all_zero = c.in_ok-memory.ensures; base = refl; len = omega (arith, pages) } in
    record {
      linked = record {
        heap_is = c.begin-heap.ensures board fresh;
        heads_are = record {
          ppi_ends = record { first = refl; last = refl };
          note_ends = record { first = refl; last = refl };
          later_ends = record { first = refl; last = refl };
          queue_ends = record { first = refl; last = refl };
          ppis_are = refl;
          notes_are = refl;
        };
      };
      board = record { temp = refl; ram = refl; pages = refl; pages_end = omega (arith, pages) };
      planned = refl;
      moved = refl;
      early = λ before. refl;
    }
