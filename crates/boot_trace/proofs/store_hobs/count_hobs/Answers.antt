use Rattle.std.proofs.Common.{arith}
use Rattle.boot_trace.proofs.HobBounds.{few_hobs}
use Rattle.boot_trace.proofs.HobPlaces.{told, none_left, hob_place, at_end}
use Rattle.boot_trace.proofs.store_hobs.count_hobs.Goals as goal

pub hob_at-requires : goal.hob_at-requires
hob_at-requires g c =
    let s = c.requires.state in
    let i = c.hobs.invariant s.0 s.1 in
    record { state = (s.0, s.1, hob_place s.0 c.hobs.count c.hobs.next i.0 i.1) }

pub overflow_add-count : goal.overflow_add-count
overflow_add-count g c =
    let s = c.requires.state in
    let i = c.hobs.invariant s.0 s.1 in
    let t = told s.0 c.hobs.count c.hobs.next c.in-Some.span i.1 (c.in-Some.ensures.row s.0 s.1 (hob_place s.0 c.hobs.count c.hobs.next i.0 i.1)) in
    omega (arith, t.within, few_hobs s.0 (g.met.M.PeiStore.facts c.args.store.now s.0 s.1))

pub hobs-preserved : goal.hobs-preserved
hobs-preserved g c s stands =
    let i = c.hobs.invariant s stands in
    let t = told s c.hobs.count c.hobs.next c.in-Some.span i.1 (c.in-Some.ensures.row s stands (hob_place s c.hobs.count c.hobs.next i.0 i.1)) in
    (omega (arith, t.within), t.next)

pub returns : goal.returns
returns g c = record {
  row = λ s stands needs.
      let i = c.hobs.invariant s stands in
      let h = c.in_default.ensures.row s stands (hob_place s c.hobs.count c.hobs.next i.0 i.1) in
      let high = none_left s c.hobs.count c.hobs.next i.1 h in
      record { hobs_are = omega (arith, i.0, high); end_is = at_end s c.hobs.next (hob_place s c.hobs.count c.hobs.next i.0 i.1) h };
}
