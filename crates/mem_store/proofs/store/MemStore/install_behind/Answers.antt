use Rattle.std.proofs.Common.{ap, length, refl, sym}
use Rattle.mem_store.proofs.store.MemStore.install_behind.Goals as goal

pub install_counted-requires-clause-state : goal.install_counted-requires-clause-state
install_counted-requires-clause-state c =
    let s = c.requires.state.0 in
    let h = c.requires.state.1 in
    let descs = c.requires.state.2 in
    (s, h.memory, (descs, sym (ap length (c.if-are_alone.ensures s h.memory descs h.index refl))))

pub returns-then-are_alone-clause-row : goal.returns-then-are_alone-clause-row
returns-then-are_alone-clause-row c s both = c.install_counted.ensures s (both.0.memory, (both.1, sym (ap length (c.if-are_alone.ensures s both.0.memory both.1 both.0.index refl))))

pub returns-clause-row : goal.returns-clause-row
returns-clause-row c s both = c.install_ppis.ensures s (both.0.memory, both.1)
