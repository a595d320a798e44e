use Rattle.std.proofs.Common.{sym, ◌∙◌}
use Rattle.explain_text.proofs.Named.{met_again, met_first}
use Rattle.explain_text.proofs.catalog.gives.meet.Goals as goal

pub returns-then-contains_key : goal.returns-then-contains_key
returns-then-contains_key c = met_again c.args.guid c.args.met.now (sym c.contains_key.ensures ∙ c.if-contains_key.true)

pub returns : goal.returns
returns c = met_first c.args.guid c.args.met.now _ (sym c.contains_key.ensures ∙ c.if-contains_key.false) c.in_ok-insert.ensures.ok c.in_ok-push.ensures.ok
