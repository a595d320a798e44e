use Rattle.std.proofs.Common.{◌≡◌, sym, ◌∙◌, ap}
use Rattle.recorded_boot.specs.Named.{number_in}
use Rattle.recorded_boot.proofs.order.names.Names.number_of.Goals as goal

pub returns : goal.returns
returns c catalog names number =
    let same : c.kept.result ≡ number_in c.args.self.now.volumes.items c.args.volume c.args.name.now = c.kept.ensures ∙ ap (λ maps. number_in maps c.args.volume c.args.name.now) c.as_slice.ensures.value in
    ((λ h. (names.found c.args.volume c.args.name.now number (sym same ∙ h)).0), (λ is. same ∙ names.kept c.args.volume c.args.name.now number is.is_module is))
