use Rattle.heap_store.proofs.store.HeapStore.install_ppis.Goals as goal

pub install_counted-requires-clause-state : goal.install_counted-requires-clause-state
install_counted-requires-clause-state c =
    let s = c.requires.state.0 in
    let h = c.requires.state.1 in
    let descs = c.requires.state.2 in
    (s, h, (descs, c.count_pairs-pairs.ensures s h.linked descs))

pub returns : goal.returns
returns c s both = c.install_counted.ensures s (both.0, (both.1, c.count_pairs-pairs.ensures s both.0.linked both.1))
