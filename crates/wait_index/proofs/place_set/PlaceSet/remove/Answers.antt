use Rattle.std.proofs.Common.{◌<◌, false, ap, arith, slice_set, length, ◌∙◌}
use Rattle.wait_index.specs.PlaceFlags.{count, flag}
use Rattle.wait_index.proofs.Flags.{count_cleared, count_less, flag_here, flag_other}
use Rattle.wait_index.proofs.place_set.PlaceSet.remove.Goals as goal

pub returns-clause-here : goal.returns-clause-here
returns-clause-here c =
    let less : c.args.place < length c.self.inside.flags = omega (arith, c.self.invariant.0) in
    ap (λ xs. flag xs c.args.place) c.set.ensures ∙ flag_here c.self.inside.flags c.args.place false less

pub returns-clause-others : goal.returns-clause-others
returns-clause-others c other apart =
    let e = c.set.ensures ∙ ap (λ xs. slice_set xs c.args.place false) c.self.view_is in
    ap (λ xs. flag xs other) e ∙ flag_other c.args.self.now c.args.place false other apart

pub returns-clause-counted : goal.returns-clause-counted
returns-clause-counted c =
    let e = c.set.ensures ∙ ap (λ xs. slice_set xs c.args.place false) c.self.view_is in
    omega (arith, ap count e, count_cleared c.args.self.now c.args.place)

pub returns-clause-one_less : goal.returns-clause-one_less
returns-clause-one_less c set =
    let e = c.set.ensures ∙ ap (λ xs. slice_set xs c.args.place false) c.self.view_is in
    omega (arith, ap count e, count_less c.args.self.now c.args.place set)
