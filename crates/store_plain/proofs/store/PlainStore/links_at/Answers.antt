use Rattle.store_model.specs.declared.store_handle.DescKind.TheVariants.{Ppi, Callback, Dispatch}
use Rattle.store_plain.specs.PlainState.{state_of}
use Rattle.store_plain.proofs.Heap.{entries_near, pendings_near}
use Rattle.store_plain.proofs.store.PlainStore.links_at.Goals as goal

pub links_in-requires : goal.links_in-requires
links_in-requires c = let s = state_of c.args.self.now in rw c.as_slice.ensures.value (entries_near s Ppi s.ppis c.requires c.requires.ppis)

pub links_in-requires-2 : goal.links_in-requires-2
links_in-requires-2 c = let s = state_of c.args.self.now in rw c.as_slice-2.ensures.value (entries_near s Callback s.callbacks c.requires c.requires.callbacks)

pub links_in-requires-3 : goal.links_in-requires-3
links_in-requires-3 c = let s = state_of c.args.self.now in rw c.as_slice-3.ensures.value (entries_near s Dispatch s.dispatches c.requires c.requires.dispatches)

pub pending_links_in-requires : goal.pending_links_in-requires
pending_links_in-requires c = let s = state_of c.args.self.now in rw c.as_slice-4.ensures.value (pendings_near s s.pendings c.requires c.requires.pendings)
