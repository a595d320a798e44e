use Rattle.std.proofs.Common.{◌≡◌, ◌^◌, Some, None, refl, ap, ◌∙◌, arith, rules}
use Rattle.gcd_map.specs.AddressSpace.{state_at, free_of, with_change, allocate_change}
use Rattle.gcd_map.specs.SpaceMap.{MapState}
use Rattle.gcd_map.proofs.{Highest.IsTop, Tops.tops, Stretches.covers_fit}
use Rattle.gcd_map.proofs.map.GcdMap.top.Goals as goal

pub highest-requires-clause-fit : goal.highest-requires-clause-fit
highest-requires-clause-fit c =
    let space = c.self.invariant.0 in let shows = c.self.invariant.1 in
    rw c.as_slice.ensures.value (covers_fit (state_at space) 0 space.limit c.self.inside.ranges.items shows.ranges.covered (omega (arith, shows.most)))

pub returns-in_default : goal.returns-in_default
returns-in_default c = record {
  row = λ old shows.
      let same : c.as_slice.result.now ≡ c.args.self.now.ranges = c.as_slice.ensures.value ∙ ap (λ (m : MapState). m.ranges) c.self.view_is in
      let top : IsTop (state_at old) 0 old.limit (free_of c.args.kind) (2 ^ c.args.align) c.args.len None =
      tops c.args.self.now old c.args.kind c.args.align c.args.len c.unit_of.result c.as_slice.result.now None shows same c.unit_of.ensures.power (omega arith) c.in_default.ensures in
      (old, (search rules, omega arith, (λ base room. top base (omega arith) room), refl), shows);
}

pub change-requires-clause-within : goal.change-requires-clause-within
change-requires-clause-within c =
    let space = c.self.invariant.0 in let shows = c.self.invariant.1 in
    let map : MapState = record { limit = c.self.inside.limit; ranges = c.self.inside.ranges.items } in
    let top : IsTop (state_at space) 0 space.limit (free_of c.args.kind) (2 ^ c.args.align) c.args.len (Some c.in-Some.base) =
    tops map space c.args.kind c.args.align c.args.len c.unit_of.result c.as_slice.result.now (Some c.in-Some.base) shows c.as_slice.ensures.value c.unit_of.ensures.power (omega arith) c.in-Some.ensures in
    omega (arith, top.1.1, shows.limit, ap (λ (m : MapState). m.limit) c.self.view_is)

pub returns : goal.returns
returns c = record {
  row = λ old shows.
      let same : c.as_slice.result.now ≡ c.args.self.now.ranges = c.as_slice.ensures.value ∙ ap (λ (m : MapState). m.ranges) c.self.view_is in
      let top : IsTop (state_at old) 0 old.limit (free_of c.args.kind) (2 ^ c.args.align) c.args.len (Some c.in-Some.base) =
      tops c.args.self.now old c.args.kind c.args.align c.args.len c.unit_of.result c.as_slice.result.now (Some c.in-Some.base) shows same c.unit_of.ensures.power (omega arith) c.in-Some.ensures in (
        with_change old (allocate_change c.args.kind c.in-Some.base c.args.len),
        (search rules, omega arith, top.1, (λ other room. top.2 other (omega arith) room), refl),
        c.in_ok-change.ensures old shows,
      );
}
