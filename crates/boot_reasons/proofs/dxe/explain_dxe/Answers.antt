use Rattle.boot_reasons.specs.DxeTelling.{Explains, ExplainsBehind}
use Rattle.boot_reasons.proofs.Phases.{if_ok}
use Rattle.boot_reasons.proofs.dxe.explain_dxe.Goals as goal

pub dxe_at_opening-requires-clause-state : goal.dxe_at_opening-requires-clause-state
dxe_at_opening-requires-clause-state g c = c.requires.state

pub returns : goal.returns
returns g c s stands any =
    let rules = g.C.Choice.rules c.args.choice.now in
    if_ok c.explain_with_ledger-reached.result (Explains rules c.args.in_pei g.M.PeiStore.stands_for c.args.store.now c.args.catalog.now c.in-Ok.dxe) (λ reached. ExplainsBehind rules c.args.in_pei c.args.catalog.now c.args.fuel c.args.taken reached s)
    (λ reached told. told s c.args.taken c.args.fuel c.in-Ok.ensures.made (c.in-Ok.ensures.row s stands)) c.explain_with_ledger-reached.ensures.row
