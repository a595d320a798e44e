use Rattle.std.proofs.Common.{length, slice_index_or, ap, arith}
use Rattle.store_model.specs.{declared.store_handle.Desc.Desc, StateFacts.IsDesc, Service.Notify.new_dispatches, Service.Install.row_of}
use Rattle.store_laws.proofs.Lists.{each_behind}
use Rattle.pei_heap.proofs.{Finding.drop_all, Finding.drop_get, Queueing.not_queued}
use Rattle.pei_heap.proofs.Rows.{count_more, count_past, new_split, one_small}
use Rattle.pei_heap.proofs.links.pairs.count_new_row.Goals as goal

pub is_due-requires : goal.is_due-requires
is_due-requires c =
    let s = c.requires.state.0 in
    let none : Desc = record { offset = 0 } in
    let rest = drop_get c.args.list.now c.descs.d-index none c.descs-test.true in
    (s, c.requires.state.1, each_behind (IsDesc s) c.args.list.now _ c.descs.d-index (slice_index_or c.args.list.now c.descs.d-index none) c.requires.state.3 rest)

pub descs-preserved : goal.descs-preserved
descs-preserved c = record {
  left = λ s h p each.
      let none : Desc = record { offset = 0 } in
      let d = slice_index_or c.args.list.now c.descs.d-index none in
      let rest = drop_get c.args.list.now c.descs.d-index none c.descs-test.true in
      let there = each_behind (IsDesc s) c.args.list.now _ c.descs.d-index d each rest in
      let guid = c.guid_of-guid.ensures s h p in
      let split = new_split s s 0 c.args.ppi.offset c.descs.d-index c.guid_of-guid.result c.args.list.now d c.is_due.result (not_queued s) guid each rest (c.is_due.ensures s h there) in
      count_more c.descs.count c.one_if-count.result (length (row_of s c.args.ppi.offset (new_dispatches s c.args.list.now))) c.args.ppi.offset d.offset c.is_due.result _ _
      split.0 c.one_if-count.ensures (c.descs.invariant.left s h p each);
  few =
      let few = c.descs.invariant.few in
      let one = one_small c.is_due.result c.one_if-count.result c.one_if-count.ensures in
      omega (arith, few, one);
}

pub returns-clause-count : goal.returns-clause-count
returns-clause-count c s h p each =
    count_past c.descs.count _ _ (ap (λ xs. row_of s c.args.ppi.offset (new_dispatches s xs)) (drop_all c.args.list.now c.descs.d-index c.descs-test.false)) (c.descs.invariant.left s h p each)
