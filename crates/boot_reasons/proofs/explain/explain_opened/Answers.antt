use Rattle.std.proofs.Common.{None}
use Rattle.boot_reasons.specs.Explained.{ExplainsBehind, ExplainsTo, left_in_pei}
use Rattle.boot_reasons.specs.Unseen.{choices_of}
use Rattle.boot_reasons.proofs.Phases.{if_ok}
use Rattle.boot_reasons.proofs.explain.explain_opened.Goals as goal

pub explain_behind-requires-clause-state : goal.explain_behind-requires-clause-state
explain_behind-requires-clause-state g c =
    let o = c.requires.opening in
    let run = rw c.in-End.is at (c.in_ok-explained.ensures.row o.0 c.args.fuel c.requires.made o.1) in
    (record run.«end» { ended = None; core_sweep = run.sweep }, run.machine)

pub returns-in-End : goal.returns-in-End
returns-in-End g c board is =
    let run = rw c.in-End.is at (c.in_ok-explained.ensures.row board c.args.fuel c.requires.made is) in
    let by = choices_of (g.C.Choice.rules c.args.choice.now) c.args.catalog.now c.args.fuel in
    if_ok c.explain_behind.result (ExplainsBehind by g.M.PeiStore.stands_for c.args.catalog.now c.args.fuel c.explain_pei.new.pei c.in-End.explained) (ExplainsTo by board c.args.catalog.now c.args.fuel) (λ reached told. told board run) c.explain_behind.ensures

pub returns-in-Barred : goal.returns-in-Barred
returns-in-Barred g c board is =
    let row = rw c.in-Barred.is at (c.in_ok-explained.ensures.row board c.args.fuel c.requires.made is) in
    left_in_pei row.0 row.1 row.2
