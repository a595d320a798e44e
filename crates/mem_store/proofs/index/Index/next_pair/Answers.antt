use Rattle.std.proofs.Common.{◌+◌, ◌-◌, arith, refl, sym, ◌∙◌}
use Rattle.store_model.specs.Service.Sweep.{next_match}
use Rattle.store_laws.proofs.Sweeps.{found_here, none_here}
use Rattle.mem_store.specs.Indexed.{held}
use Rattle.mem_store.proofs.Firings.{some_fires}
use Rattle.mem_store.proofs.Meetings.{passed, row_first, row_none}
use Rattle.mem_store.proofs.index.Index.next_pair.Goals as goal

pub ppis-init : goal.ppis-init
ppis-init c = λ s says. refl

pub returns-in-Some : goal.returns-in-Some
returns-in-Some c s says =
    let rows = held c.args.self.now in
    let sweep = c.args.sweep.now in
    let met = c.in-Some.ensures in (
      found_here s sweep c.ppis.ppi c.ppis.from (next_match s sweep) (c.ppis.ppi, c.in-Some.note) c.ppis-test.true (c.ppis.invariant s says)
          (row_first s rows sweep c.ppis.ppi c.ppis.from c.in-Some.note says met) (some_fires s rows sweep c.ppis.ppi c.in-Some.note says met.2),
      met.2,
      met.1,
    )

pub ppis-preserved : goal.ppis-preserved
ppis-preserved c = λ s says.
    let rows = held c.args.self.now in
    let sweep = c.args.sweep.now in
    let none = row_none s rows sweep c.ppis.ppi c.ppis.from says c.in-None.ensures in
    let here = none_here s sweep c.ppis.ppi c.ppis.from (next_match s sweep) c.ppis-test.true (c.ppis.invariant s says) none in
    let on = c.ppi_from-ppi.ensures.on in
    passed s rows sweep (next_match s sweep) (c.ppi_from-ppi.result - (c.ppis.ppi + 1)) (c.ppis.ppi + 1) c.ppi_from-ppi.result says (omega (arith, on)) c.ppi_from-ppi.ensures.to
    c.ppi_from-ppi.ensures.none here

pub returns : goal.returns
returns c s says = sym (c.ppis.invariant s says) ∙ c.sweeps_go_on.ensures.none_left s c.args.sweep.now c.ppis.ppi c.ppis.from (let past = c.ppis-test.false in omega (arith, past))
