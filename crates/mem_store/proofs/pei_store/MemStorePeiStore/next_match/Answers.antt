use Rattle.std.proofs.Common.{◌∙◌}
use Rattle.mem_store.proofs.pei_store.MemStorePeiStore.next_match.Goals as goal

pub firing_at-requires : goal.firing_at-requires
firing_at-requires c =
    let s = c.requires.state.0 in
    let h = c.requires.state.1 in
    let pair = c.in-Some.ensures s (h.index.rows c.if-not-self.false) in
    (s, h, (c.if-not-self.false, pair.1))

pub returns-in-Some : goal.returns-in-Some
returns-in-Some c = record {
  row = λ s h among.
      let pair = c.in-Some.ensures s (h.index.rows c.if-not-self.false) in
      pair.0 ∙ c.firing_at.ensures s h (c.if-not-self.false, pair.1) c.args.sweep.now;
}

pub returns-in-None : goal.returns-in-None
returns-in-None c = record { row = λ s h among. c.in-None.ensures s (h.index.rows c.if-not-self.false) }
