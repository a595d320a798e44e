use Rattle.std.proofs.Common.{ap, sym, ◌∙◌, map}
use Rattle.store_model.specs.Service.Reading.{entry_told, told_behind}
use Rattle.store_plain.proofs.Left.{found}
use Rattle.store_plain.proofs.behind.place_behind.Goals as goal

pub returns-then-entries-place : goal.returns-then-entries-place
returns-then-entries-place c s =
    found (entry_told s) c.args.entries.now c.entries.place _ c.in-Some.node c.entries-test.true c.if-entries-place.true
    ∙ c.entries.invariant s
    ∙ ap (λ n. told_behind n (map (entry_told s) c.args.entries.now)) (sym c.in-Some.is)
