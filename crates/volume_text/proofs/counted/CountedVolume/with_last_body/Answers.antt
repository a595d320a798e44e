use Rattle.std.proofs.Common.{◌≡◌, sym, subst}
use Rattle.volume_text.specs.{declared.volume.OpenVolume.OpenVolume, Reading.Gives, Open.last_body_set, Open.with_last_body}
use Rattle.volume_text.proofs.Counting.{body_counted, then_fitting}
use Rattle.volume_text.proofs.counted.CountedVolume.with_last_body.Goals as goal

pub fitting-requires : goal.fitting-requires
fitting-requires c = record {
  here = body_counted c.self.inside.volume c.set_last_body.new.volume c.args.bytes c.self.inside.held c.len-more.result c.self.invariant c.len-more.ensures c.in_ok-set_last_body.ensures;
}

pub returns : goal.returns
returns c =
    let same : c.args.self ≡ c.self.inside.volume = cc in
    subst (λ (v : OpenVolume). Gives (λ x. x) c.fitting.result (with_last_body v c.args.bytes)) (sym same)
    (then_fitting (last_body_set c.self.inside.volume c.args.bytes) c.set_last_body.new.volume c.fitting.result c.in_ok-set_last_body.ensures c.fitting.ensures)
