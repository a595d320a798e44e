use Rattle.std.proofs.Common.{ap, length, refl, sym}
use Rattle.mem_store.proofs.store.MemStore.register_behind.Goals as goal

pub register_counted-requires-clause-state : goal.register_counted-requires-clause-state
register_counted-requires-clause-state c =
    let s = c.requires.state.0 in
    let h = c.requires.state.1 in
    let descs = c.requires.state.2 in
    (s, h.memory, (descs, sym (ap length (c.if-are_callbacks.ensures s h.memory descs refl))))

pub returns-then-are_callbacks-clause-row : goal.returns-then-are_callbacks-clause-row
returns-then-are_callbacks-clause-row c s both = c.register_counted.ensures s (both.0.memory, (both.1, sym (ap length (c.if-are_callbacks.ensures s both.0.memory both.1 refl))))

pub returns-clause-row : goal.returns-clause-row
returns-clause-row c s both = c.register.ensures s (both.0.memory, both.1)
