use Rattle.std.proofs.Common.{◌∙◌, ap}
use Rattle.pi_base.specs.GuidMap.{value_of, entries_of}
use Rattle.pi_base.proofs.Numbered.{found}
use Rattle.pi_base.proofs.guid_map.GuidMap.get.Goals as goal

pub returns : goal.returns
returns g c =
    let entries = c.self.inside.values.entries in
    c.copied.ensures ∙ c.get.ensures.value ∙ found entries c.number_of-number.result c.number_of-number.ensures.fits c.self.invariant
    ∙ ap (value_of (entries_of entries)) c.number_of-number.ensures.spelled ∙ ap (λ m. value_of m c.args.guid.now) c.self.view_is
