use Rattle.std.proofs.Common.{refl}
use Rattle.mem_store.proofs.Saying.{facts_of}
use Rattle.mem_store.proofs.store.MemStore.first_named.Goals as goal

pub learn-requires : goal.learn-requires
learn-requires c = (c.requires.0, c.requires.1.memory, c.requires.1.index)

pub first-requires : goal.first-requires
first-requires c =
    let s = c.requires.0 in
    let h = c.requires.1 in
    let says = c.learn.ensures s h.memory h.index in
    (s, c.knows_ppis.ensures c.if-knows_ppis.true s (facts_of c.args.self.now.behind s h.memory) says)

pub returns-then-knows_ppis : goal.returns-then-knows_ppis
returns-then-knows_ppis c = record {
  stands = λ s h. record { memory = h.memory; index = c.learn.ensures s h.memory h.index };
  found = λ s h. c.first.ensures s (c.knows_ppis.ensures c.if-knows_ppis.true s (facts_of c.args.self.now.behind s h.memory) (c.learn.ensures s h.memory h.index));
  same = refl;
}

pub walk_to-requires : goal.walk_to-requires
walk_to-requires c = (c.requires.0, c.requires.1.memory, tt)

pub returns : goal.returns
returns c = record {
  stands = λ s h. record { memory = h.memory; index = c.learn.ensures s h.memory h.index };
  found = λ s h. c.walk_to.ensures s h.memory tt;
  same = refl;
}
