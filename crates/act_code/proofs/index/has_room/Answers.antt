use Rattle.std.proofs.Common.{ap, sym, ◌∙◌, ◌+◌, nat_le}
use Rattle.act_code.specs.Index.{has_room}
use Rattle.act_code.proofs.index.has_room.Goals as goal

pub returns-in-SkipIf : goal.returns-in-SkipIf
returns-in-SkipIf c = ap (λ n. nat_le (n + 2) c.args.left) c.from.ensures ∙ ap (has_room c.args.left) (sym c.in-SkipIf.is)
