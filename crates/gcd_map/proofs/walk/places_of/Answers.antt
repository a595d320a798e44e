use Rattle.std.proofs.Common.{arith, rules, ap, ◌∙◌}
use Rattle.hob_codec.specs.declared.list.HobPlace.{HobPlace}
use Rattle.gcd_map.specs.Places.{IsNear}
use Rattle.hob_codec.proofs.ListLemmas.{leads_more}
use Rattle.gcd_map.proofs.Walking.{each_more}
use Rattle.gcd_map.proofs.walk.places_of.Goals as goal

pub walk-preserved : goal.walk-preserved
walk-preserved c =
    let bytes = c.args.bytes.now in let at = c.walk.at in
    let place = c.in_ok-place.ensures in
    record {
      leads = rw (c.in_ok-push.ensures.ok, place.1) (leads_more bytes 0 c.walk.places at c.walk.invariant.leads place.0 (λ e. c.if-place.false (ap (λ (p : HobPlace). p.kind) place.1 ∙ e)));
      within = omega (arith, place.3);
      near = rw (c.in_ok-push.ensures.ok) (each_more IsNear c.walk.places c.in_ok-place.place c.walk.invariant.near (search rules));
    }
