use Rattle.std.proofs.Common.{ap}
use Rattle.mem_store.proofs.index.Index.learn.Goals as goal

pub learn-requires : goal.learn-requires
learn-requires c =
    let s = c.requires.0 in
    let h = c.requires.1 in
    let says = c.requires.2 in
    (s, h, (ap (λ r. r.ppis) (says.rows c.if-not-self.false), says.named c.if-not-self-2.false))

pub returns : goal.returns
returns c = λ s h says. record {
  rows = says.rows;
  named = λ right. c.learn.ensures.known s h (ap (λ r. r.ppis) (says.rows c.if-not-self.false), says.named c.if-not-self-2.false);
}
