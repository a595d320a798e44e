use Rattle.std.proofs.Common.{◌∙◌, ◌-◌, length, sym, arith}
use Rattle.source_words.proofs.Faults.{not_full, next_action, here_action}
use Rattle.source_words.proofs.script.script.action_fault.Goals as goal

pub returns-in-Some-clause-first : goal.returns-in-Some-clause-first
returns-in-Some-clause-first c =
    let xs = c.args.actions.now in
    let x = c.index-actions-index in
    sym (c.actions.invariant.0 ∙ here_action c.args.count c.actions.index c.in-Some.cause xs x.result c.actions-test.true x.is (sym c.action_cause.ensures ∙ c.in-Some.is))

pub actions-preserved : goal.actions-preserved
actions-preserved c =
    let xs = c.args.actions.now in
    let x = c.index-actions-index in
    let none = sym c.action_cause.ensures ∙ c.in_default.is in (
      c.actions.invariant.0 ∙ next_action c.args.count c.actions.index xs x.result c.actions-test.true x.is none,
      omega (arith, not_full c.args.count c.actions.index (length xs - c.actions.index) x.result none),
    )
