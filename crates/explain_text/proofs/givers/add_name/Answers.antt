use Rattle.std.proofs.Common.{sym, ◌∙◌, ap}
use Rattle.explain_text.specs.Givers.{is_first}
use Rattle.explain_text.proofs.Chains.{name_again, name_put}
use Rattle.explain_text.proofs.givers.add_name.Goals as goal

pub returns-then-is_first : goal.returns-then-is_first
returns-then-is_first c =
    name_again c.args.number c.args.guid c.args.givers.now
    (sym (ap (λ links. is_first links c.get-next.result c.args.number) c.as_slice.ensures ∙ ap (λ place. is_first c.args.givers.now.links place c.args.number) c.get-next.ensures)
    ∙ sym c.is_first.ensures ∙ c.if-is_first.true)

pub returns : goal.returns
returns c =
    name_put c.args.number c.args.guid c.args.givers.now _ c.as_slice.result.now c.get-next.result c.len.result c.as_slice.ensures c.get-next.ensures c.len.ensures
    (sym c.is_first.ensures ∙ c.if-is_first.false) c.in_ok-insert.ensures.ok c.in_ok-push.ensures.ok
