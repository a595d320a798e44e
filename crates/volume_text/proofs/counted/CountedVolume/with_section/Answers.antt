use Rattle.std.proofs.Common.{◌≡◌, sym, subst}
use Rattle.volume_text.specs.{declared.volume.OpenVolume.OpenVolume, Reading.Gives, Open.section_added, Open.with_section}
use Rattle.volume_text.proofs.Counting.{section_counted, then_fitting}
use Rattle.volume_text.proofs.counted.CountedVolume.with_section.Goals as goal

pub fitting-requires : goal.fitting-requires
fitting-requires c = record {
  here = section_counted c.self.inside.volume c.add_section.new.volume c.args.section c.self.inside.held c.len-more.result c.self.invariant c.len-more.ensures c.in_ok-add_section.ensures;
}

pub returns : goal.returns
returns c =
    let same : c.args.self ≡ c.self.inside.volume = cc in
    subst (λ (v : OpenVolume). Gives (λ x. x) c.fitting.result (with_section v c.args.section)) (sym same)
    (then_fitting (section_added c.self.inside.volume c.args.section) c.add_section.new.volume c.fitting.result c.in_ok-add_section.ensures c.fitting.ensures)
