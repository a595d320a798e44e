use Rattle.std.proofs.Common.{arith}
use Rattle.pei_heap.proofs.Ends.{few_entries}
use Rattle.heap_store.proofs.store.HeapStore.sweep_behind.Goals as goal

pub overflow_add-result : goal.overflow_add-result
overflow_add-result c =
    let s = c.requires.state.0 in
    let h = c.requires.state.1 in
    let few = few_entries s c.entries_are_told.ensures h.linked.heap_is.state in
    let ppis = h.linked.heads_are.ppis_are in
    let list = c.requires.few in
    let a = few.0 in
    let b = list.1 in
    omega (arith, a, b, ppis)
