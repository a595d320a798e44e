use Rattle.std.proofs.Common.{refl, sym, ◌∙◌}
use Rattle.store_model.specs.StateFacts.{IsDesc}
use Rattle.mem_store.proofs.{Alone.news_end, Alone.news_more, Listed.each_at}
use Rattle.mem_store.proofs.pairs.are_callbacks.Goals as goal

pub is_callback-requires : goal.is_callback-requires
is_callback-requires c =
    let s = c.requires.0 in
    (s, c.requires.1, each_at (IsDesc s) c.args.list.now c.descs.d-index _ c.descs-test.true c.requires.2)

pub descs-init : goal.descs-init
descs-init c = λ s h descs. refl

pub descs-preserved : goal.descs-preserved
descs-preserved c = λ s h descs.
    let is = c.is_callback.ensures s h (each_at (IsDesc s) c.args.list.now c.descs.d-index _ c.descs-test.true descs) in
    news_more s c.args.list.now c.descs.d-index _ c.descs-test.true (sym is ∙ c.if-not-is_callback.false) ∙ c.descs.invariant s h descs

pub returns : goal.returns
returns c s h descs true_is = news_end s c.args.list.now c.descs.d-index c.descs-test.false (c.descs.invariant s h descs)
