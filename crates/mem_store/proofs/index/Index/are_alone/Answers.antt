use Rattle.std.proofs.Common.{refl, sym, ◌∙◌}
use Rattle.store_model.specs.StateFacts.{IsDesc}
use Rattle.mem_store.proofs.{Alone.alone_end, Alone.alone_more, Listed.each_at}
use Rattle.mem_store.proofs.index.Index.are_alone.Goals as goal

pub row_of-row-requires : goal.row_of-row-requires
row_of-row-requires c =
    let s = c.requires.0 in
    (s, c.requires.1, each_at (IsDesc s) c.args.list.now c.descs.d-index _ c.descs-test.true c.requires.2)

pub descs-init : goal.descs-init
descs-init c = λ s h descs says. refl

pub descs-preserved : goal.descs-preserved
descs-preserved c = λ s h descs says.
    let row = c.row_of-row.ensures s h (each_at (IsDesc s) c.args.list.now c.descs.d-index _ c.descs-test.true descs) in
    alone_more c.rows_answer.ensures c.args.self.now s c.args.list.now c.descs.d-index _ c.row_of-row.result c.descs-test.true says row (sym c.contains.ensures ∙ c.if-contains.false)
    ∙ c.descs.invariant s h descs says

pub returns : goal.returns
returns c s h descs says true_is = alone_end s c.args.list.now c.descs.d-index c.descs-test.false (c.descs.invariant s h descs (says.rows c.if-not-self.false))
