use Rattle.std.proofs.Common.{◌∙◌, ap, slice_set, sym}
use Rattle.pi_base.specs.declared.guid.Guid.{Guid}
use Rattle.mem_store.proofs.Learning.{got_inside, other_none, other_set}
use Rattle.mem_store.proofs.named.Named.name_other.Goals as goal

pub returns-in-None : goal.returns-in-None
returns-in-None c = λ right. (c.if-not-self.false, other_none c.args.self.now.nodes c.args.place c.args.at (sym c.in-None.ensures))

pub replace-self-requires : goal.replace-self-requires
replace-self-requires c = got_inside c.args.self.now.nodes c.args.place c.in-Some.row (sym c.in-Some.ensures)

pub returns : goal.returns
returns c = λ right.
    let nodes = c.args.self.now.nodes in
    let row = c.in-Some.row in (
      c.if-not-self.false,
      c.replace-self.ensures.replaced right ∙ ap (λ (k : Guid). slice_set nodes c.args.place (record { guid = k; at = row.at })) c.key.ensures.key
          ∙ other_set nodes c.args.place c.args.at row (sym c.in-Some.ensures),
    )
