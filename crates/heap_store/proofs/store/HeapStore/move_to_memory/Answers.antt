use Rattle.heap_store.proofs.Moves.{due_is, none_due, stands_moved}
use Rattle.heap_store.proofs.store.HeapStore.move_to_memory.Goals as goal

pub unreachable-requires : goal.unreachable-requires
unreachable-requires c = none_due c.args.self.now c.requires.0 c.requires.1 c.requires.2 c.in-None.is

pub migrate-requires : goal.migrate-requires
migrate-requires c =
    let s = c.requires.0 in
    let h = c.requires.1 in
    (s, h.linked, due_is c.args.self.now s c.in-Some.to h c.requires.2 c.in-Some.is)

pub returns : goal.returns
returns c s h =
    stands_moved c.args.self.now s c.in-Some.to c.migrate.new.memory c.migrate.new.heap c.migrate.new.heads c.args.self.now.heap.span.base h.0 h.1 c.in-Some.is h.0.linked.heap_is.image.base
    (c.migrate.ensures.linked s h.0.linked (due_is c.args.self.now s c.in-Some.to h.0 h.1 c.in-Some.is))
