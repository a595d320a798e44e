use Rattle.boot_model.specs.PeiStep.{reason_of}
use Rattle.boot_reasons.specs.{Noting.giver_in, PeiReasons.pei_held_for}
use Rattle.boot_reasons.proofs.WalkedLists.{flat_on}
use Rattle.boot_reasons.proofs.pei_held.held_parts.Goals as goal

pub parts-preserved : goal.parts-preserved
parts-preserved g c m stands =
    flat_on (λ number. pei_held_for c.args.catalog.now m.store (giver_in c.args.givers.now.map) number (reason_of c.args.catalog.now m number)) c.parts.rest.now 0 c.parts.held _ c.push_held.new.held _ c.in-len1-up.len_at_least
    c.in_ok-push_held.ensures (c.in_ok-part.ensures m stands) (c.parts.invariant m stands)
