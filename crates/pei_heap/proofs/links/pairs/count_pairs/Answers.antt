use Rattle.std.proofs.Common.{◌+◌, length, drop, slice_index_or, ap}
use Rattle.store_model.specs.{declared.store_handle.Desc.Desc, StateFacts.IsDesc}
use Rattle.store_model.specs.Service.Descriptor.{descriptors, offsets}
use Rattle.store_model.specs.Service.Install.{install_pairs, pairs_of, row_of}
use Rattle.store_laws.proofs.Lists.{each_behind}
use Rattle.pei_heap.proofs.Finding.{drop_all, drop_get}
use Rattle.pei_heap.proofs.Rows.{count_past, count_rows, few_more, rows_more}
use Rattle.pei_heap.proofs.links.pairs.count_pairs.Goals as goal

pub count_row-count-requires : goal.count_row-count-requires
count_row-count-requires c =
    let s = c.requires.state.0 in
    let none : Desc = record { offset = 0 } in
    let rest = drop_get c.args.list.now c.descs.d-index none c.descs-test.true in
    let d = each_behind (IsDesc s) c.args.list.now _ c.descs.d-index (slice_index_or c.args.list.now c.descs.d-index none) c.requires.state.2 rest in
    (s, c.requires.state.1, d)

pub descs-preserved : goal.descs-preserved
descs-preserved c = record {
  left = λ s h each.
      let none : Desc = record { offset = 0 } in
      let d = slice_index_or c.args.list.now c.descs.d-index none in
      let rest = drop_get c.args.list.now c.descs.d-index none c.descs-test.true in
      let there = each_behind (IsDesc s) c.args.list.now _ c.descs.d-index d each rest in
      let notes = descriptors s.dispatches in
      count_rows c.descs.count c.count_row-count.result (length (install_pairs s c.args.list.now)) (pairs_of s (offsets (drop c.descs.d-index c.args.list.now)) notes) (row_of s d.offset notes)
      (pairs_of s (offsets (drop (c.descs.d-index + 1) c.args.list.now)) notes) (rows_more s notes _ _ d rest) (c.count_row-count.ensures.count s h there) (c.descs.invariant.left s h each);
  few = few_more c.descs.count c.count_row-count.result c.descs.d-index c.args.heap.now.span.len c.descs.invariant.few c.count_row-count.ensures.few;
}

pub returns : goal.returns
returns c s h each =
    count_past c.descs.count _ _ (ap (λ xs. pairs_of s (offsets xs) (descriptors s.dispatches)) (drop_all c.args.list.now c.descs.d-index c.descs-test.false)) (c.descs.invariant.left s h each)
