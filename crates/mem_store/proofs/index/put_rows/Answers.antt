use Rattle.std.proofs.Common.{ap, refl, ◌∙◌, ◌++◌}
use Rattle.store_model.specs.StateFacts.{IsDesc}
use Rattle.mem_store.specs.{Rows.row_at, Picked.is_picked}
use Rattle.mem_store.proofs.Listed.{each_at, picked_are, put_all, put_more, test_of}
use Rattle.mem_store.proofs.index.put_rows.Goals as goal

pub row_of-row-requires : goal.row_of-row-requires
row_of-row-requires c =
    let s = c.requires.0 in
    (s, c.requires.1, each_at (IsDesc s) c.args.list.now c.descs.d-index _ c.descs-test.true c.requires.2)

pub is_callback-requires : goal.is_callback-requires
is_callback-requires c =
    let s = c.requires.0 in
    (s, c.requires.1, each_at (IsDesc s) c.args.list.now c.descs.d-index _ c.descs-test.true c.requires.2)

pub descs-init : goal.descs-init
descs-init c = λ s h descs. refl

pub descs-preserved : goal.descs-preserved
descs-preserved c = λ s h descs.
    let desc = each_at (IsDesc s) c.args.list.now c.descs.d-index _ c.descs-test.true descs in
    put_more (row_at s) (test_of c.args.which s) c.args.list.now c.descs.d-index _ c.descs.rows c.put_if.new.rows c.is_one-due.result c.row_of-row.result c.descs-test.true
    (c.put_if.ensures c.if-not-put_if.false) (c.is_one-due.ensures ∙ ap (is_picked c.args.which) (c.is_callback.ensures s h desc)) (c.row_of-row.ensures s h desc)
    ∙ c.descs.invariant s h descs

pub returns : goal.returns
returns c s h descs true_is =
    put_all (row_at s) (test_of c.args.which s) c.args.list.now c.descs.d-index c.descs.rows c.args.rows.now c.descs-test.false (c.descs.invariant s h descs)
    ∙ ap (λ l. c.args.rows.now ++ l) (picked_are c.args.which s (row_at s) c.args.list.now)
