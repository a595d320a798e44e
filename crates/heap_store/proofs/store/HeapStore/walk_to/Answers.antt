use Rattle.heap_store.proofs.store.HeapStore.walk_to.Goals as goal

pub find_ppi-requires : goal.find_ppi-requires
find_ppi-requires c = (c.requires.0, c.requires.1.linked)

pub returns : goal.returns
returns c s h any = c.find_ppi.ensures s h.linked
