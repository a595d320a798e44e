use Rattle.std.proofs.Common.{arith, ap, sym, ◌∙◌}
use Rattle.hob_codec.specs.declared.list.HobPlace.{HobPlace}
use Rattle.hob_codec.proofs.ListLemmas.{leads_more}
use Rattle.hob_codec.proofs.list.walk.Goals as goal

pub walk-preserved : goal.walk-preserved
walk-preserved c =
    let bytes = c.args.bytes.now in let at = c.walk.at in
    let place = c.in_ok-place.ensures in
    record {
      leads = rw (c.in_ok-push.ensures.ok, place.1) (leads_more bytes 0 c.walk.places at c.walk.invariant.leads place.0 (λ e. c.if-place.false (ap (λ (p : HobPlace). p.kind) place.1 ∙ e)));
      within = omega (arith, place.3);
    }

pub returns-then-place-clause-found : goal.returns-then-place-clause-found
returns-then-place-clause-found c =
    let place = c.in_ok-place.ensures in
    (c.walk.at, c.walk.invariant.leads, place.0, sym (ap (λ (p : HobPlace). p.kind) place.1) ∙ c.if-place.true)

pub walk-smaller : goal.walk-smaller
walk-smaller c = let place = c.in_ok-place.ensures in omega (arith, place.2, place.3)
