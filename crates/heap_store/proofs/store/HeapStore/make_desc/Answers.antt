use Rattle.heap_store.proofs.Rows.{desc_some}
use Rattle.heap_store.proofs.store.HeapStore.make_desc.Goals as goal

pub returns-in-Some-descriptor : goal.returns-in-Some-descriptor
returns-in-Some-descriptor c s h =
    let is = c.in-Some.ensures s h tt in
    desc_some c.args.self.now s c.descriptor.new.memory c.args.kind c.args.guid c.args.number c.in-Some.d c.in-Some-descriptor.made h is (c.in-Some-descriptor.ensures s h.linked.heap_is is.new)
