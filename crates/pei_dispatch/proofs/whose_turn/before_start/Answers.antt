use Rattle.std.proofs.Common.{true, false, None, sym, refl, ◌∙◌}
use Rattle.pei_dispatch.proofs.Chosen.{told_by}
use Rattle.pei_dispatch.proofs.whose_turn.before_start.Goals as goal

pub returns-then-wants_turn-clause-told : goal.returns-then-wants_turn-clause-told
returns-then-wants_turn-clause-told g c m now =
    told_by (g.C.Choice.rules c.args.choice.now) c.args.catalog.now m c.from-starts.result c.in_turn-turn.result true (sym c.if-wants_turn.true ∙ c.wants_turn.ensures) (c.from-starts.ensures ∙ c.starts.ensures m now.machine)
    (c.in_turn-turn.ensures.turn m now)

pub returns-clause-told : goal.returns-clause-told
returns-clause-told g c m now =
    told_by (g.C.Choice.rules c.args.choice.now) c.args.catalog.now m c.from-starts.result None false (sym c.if-wants_turn.false ∙ c.wants_turn.ensures) (c.from-starts.ensures ∙ c.starts.ensures m now.machine) refl
