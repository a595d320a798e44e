use Rattle.std.proofs.Common.{◌≡◌, Some, ap, sym, ◌∙◌}
use Rattle.recorded_boot.specs.{Starts.start_of, declared.order.line.Start.Start}
use Rattle.recorded_boot.proofs.Reading.{start_told}
use Rattle.recorded_boot.proofs.trace.text_start.module_start.Goals as goal

pub returns-in-Some : goal.returns-in-Some
returns-in-Some c volume name licence is =
    let this : Start = record { phase = c.args.phase; volume = volume; name = name } in
    let told : Some c.in-Some.start ≡ Some this = sym c.in-Some.is ∙ c.start_of.ensures ∙ ap start_of is ∙ start_told c.args.phase volume name licence in
    let same : c.in-Some.start ≡ this = cc in
    ap (λ start. Some (start.volume, start.name)) same
