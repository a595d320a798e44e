use Rattle.std.proofs.Common.{arith}
use Rattle.pei_heap.proofs.Ends.{few_entries}
use Rattle.heap_store.proofs.store.HeapStore.sweep_over.Goals as goal

pub overflow_add-result : goal.overflow_add-result
overflow_add-result c =
    let s = c.requires.state.0 in
    let h = c.requires.state.1 in
    let few = few_entries s c.entries_are_told.ensures h.linked.heap_is.state in
    let notes = h.linked.heads_are.notes_are in
    let count = c.callbacks_in.ensures.few in
    let a = few.1 in
    omega (arith, a, count, notes)
