use Rattle.store_model.specs.Service.Sweep.{next_match}
use Rattle.store_plain.specs.PlainState.{state_of}
use Rattle.store_laws.proofs.Sweeps.{found_here, none_here}
use Rattle.store_plain.proofs.store.PlainStore.next_pair.Goals as goal

pub returns-in-Some-clause-found : goal.returns-in-Some-clause-found
returns-in-Some-clause-found c =
    let s = state_of c.args.self.now in
    let sweep = c.args.sweep.now in
    found_here s sweep c.ppis.ppi c.ppis.from (next_match s sweep) (c.ppis.ppi, c.in-Some.note) c.ppis-test.true c.ppis.invariant c.in-Some.ensures.found c.in-Some.ensures.fires

pub ppis-preserved : goal.ppis-preserved
ppis-preserved c =
    let s = state_of c.args.self.now in
    let sweep = c.args.sweep.now in
    none_here s sweep c.ppis.ppi c.ppis.from (next_match s sweep) c.ppis-test.true c.ppis.invariant c.in-None.ensures.none
