use Rattle.std.proofs.Common.{◌∙◌}
use Rattle.dxe_dispatch.proofs.Openings.{opened}
use Rattle.dxe_dispatch.proofs.boot.dxe_at_opening.Goals as goal

pub returns-clause-row : goal.returns-clause-row
returns-clause-row g c =
    opened g.M.PeiStore.stands_for c.args.store.now c.args.catalog.now c.args.taken c.as_slice.result.now (λ s here. c.as_slice.ensures ∙ c.in_ok-bases.ensures.row s here tt) c.begin.result c.begin.ensures.opening
