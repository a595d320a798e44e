use Rattle.std.proofs.Common.{◌∙◌, ap, insert}
use Rattle.guid_lists.proofs.Rising.{put_in}
use Rattle.guid_lists.proofs.lists.put.Goals as goal

pub returns-in-Ok-clause-ok : goal.returns-in-Ok-clause-ok
returns-in-Ok-clause-ok c =
    c.in-Ok.ensures.items ∙ ap (λ k. insert c.args.numbers.now.items k c.args.number) (rw c.deref.ensures.value at c.place_of-at.ensures.place) ∙ put_in c.args.number c.args.numbers.now.items
