use Rattle.heap_store.proofs.store.HeapStore.register.Goals as goal

pub register_counted-requires-clause-state : goal.register_counted-requires-clause-state
register_counted-requires-clause-state c =
    let s = c.requires.state.0 in
    let h = c.requires.state.1 in
    let descs = c.requires.state.2 in
    (s, h, (descs, c.count_new_pairs-pairs.ensures s h.linked descs))

pub returns : goal.returns
returns c s both = c.register_counted.ensures s (both.0, (both.1, c.count_new_pairs-pairs.ensures s both.0.linked both.1))
