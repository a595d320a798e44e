use Rattle.std.proofs.Common.{Some, None, arith}
use Rattle.store_model.specs.declared.store_handle.EntryList.TheVariants.{Pendings}
use Rattle.pei_heap.proofs.Tellings.{pending_is, pending_small}
use Rattle.pei_heap.proofs.links.reading.pending_at.Goals as goal

pub tell_pair-requires : goal.tell_pair-requires
tell_pair-requires c =
    let s = c.requires.0 in
    let h = c.requires.1 in
    (s, c.args.place, h.heap_is, c.address_at.ensures s Pendings h.heap_is h.heads_are.queue_ends.first)

pub overflow_cast-result : goal.overflow_cast-result
overflow_cast-result c =
    let s = c.requires.0 in
    let h = c.requires.1 in
    let here = c.address_at.ensures s Pendings h.heap_is h.heads_are.queue_ends.first in
    let small = pending_small s c.args.place c.in-Some.told c.named_are_there.ensures h.heap_is.state (c.in-Some.ensures s c.args.place h.heap_is here) in
    grind (arith, small)

pub returns-in-Some : goal.returns-in-Some
returns-in-Some c s h =
    let here = c.address_at.ensures s Pendings h.heap_is h.heads_are.queue_ends.first in
    pending_is s c.args.place (Some c.in-Some.told) (c.in-Some.ensures s c.args.place h.heap_is here)

pub returns-in-None : goal.returns-in-None
returns-in-None c s h =
    let here = c.address_at.ensures s Pendings h.heap_is h.heads_are.queue_ends.first in
    pending_is s c.args.place None (c.in-None.ensures s c.args.place h.heap_is here)
