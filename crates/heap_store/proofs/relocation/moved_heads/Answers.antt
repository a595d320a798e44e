use Rattle.store_model.specs.declared.store_handle.EntryList.TheVariants.{Ppis, Callbacks, Dispatches, Pendings}
use Rattle.heap_store.proofs.HeadMoves.{ends_move}
use Rattle.heap_store.proofs.relocation.moved_heads.Goals as goal

pub returns : goal.returns
returns c s to ready heads =
    let course = c.args.course.now in
    let old = c.args.heads.now in
    record {
      ppi_ends = ends_move s to course Ppis old.ppi old.ppi_tail c.number.result c.number-2.result ready heads.ppi_ends (c.number.ensures s to ready.way) (c.number-2.ensures s to ready.way);
      note_ends = ends_move s to course Callbacks old.note old.note_tail c.number-3.result c.number-4.result ready heads.note_ends (c.number-3.ensures s to ready.way) (c.number-4.ensures s to ready.way);
      later_ends = ends_move s to course Dispatches old.later old.later_tail c.number-5.result c.number-6.result ready heads.later_ends (c.number-5.ensures s to ready.way) (c.number-6.ensures s to ready.way);
      queue_ends = ends_move s to course Pendings old.queue old.queue_tail c.number-7.result c.number-8.result ready heads.queue_ends (c.number-7.ensures s to ready.way) (c.number-8.ensures s to ready.way);
      ppis_are = heads.ppis_are;
      notes_are = heads.notes_are;
    }
