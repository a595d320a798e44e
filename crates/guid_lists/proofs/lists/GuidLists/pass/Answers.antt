use Rattle.std.proofs.Common.{sym, ◌∙◌}
use Rattle.guid_lists.proofs.Passing.{goes}
use Rattle.guid_lists.proofs.lists.GuidLists.pass.Goals as goal

pub returns-clause-ok : goal.returns-clause-ok
returns-clause-ok c =
    goes c.args.self.now c.add.new.self c.remove.new.self c.args.number c.args.from.now c.args.to (sym c.eq.ensures ∙ c.if-eq.false) c.in_ok-add.ensures.ok c.remove.ensures
