use Rattle.std.proofs.Common.{◌∙◌}
use Rattle.boot_reasons.proofs.PeiEnds.{explained_so}
use Rattle.boot_reasons.proofs.pei.explain_end.Goals as goal

pub returns : goal.returns
returns g c =
    explained_so g.M.PeiStore.stands_for c.args.catalog.now c.args.pei.now c.args.queue.now c.args.told c.args.end c.in-Ok.held c.in-Ok-copied.reported c.heap_used.result
    (λ m stand parts. c.in-Ok.ensures m stand (c.as_slice.ensures ∙ parts)) (λ m stand. c.in-Ok-copied.ensures ∙ c.reported.ensures m stand)
    (λ m stand. c.heap_used.ensures m.store (c.store.ensures m stand) tt)
