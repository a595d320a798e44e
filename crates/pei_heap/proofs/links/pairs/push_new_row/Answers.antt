use Rattle.std.proofs.Common.{slice_index_or, ap}
use Rattle.store_model.specs.{declared.store_handle.Desc.Desc, StateFacts.IsDesc, Service.Notify.new_dispatches, Service.Install.row_of}
use Rattle.store_laws.proofs.Lists.{each_behind}
use Rattle.pei_heap.proofs.Finding.{drop_all, drop_get}
use Rattle.pei_heap.proofs.Queueing.{desc_stays, less_left, none_left, pair_if}
use Rattle.pei_heap.proofs.Rows.{new_is, new_split, ready}
use Rattle.pei_heap.proofs.links.pairs.push_new_row.Goals as goal

pub is_due-due-requires : goal.is_due-due-requires
is_due-due-requires c =
    let s = c.requires.0 in
    let h = c.requires.1 in
    let can = c.requires.2 in
    let none : Desc = record { offset = 0 } in
    let d = slice_index_or c.args.list.now c.descs.d-index none in
    let rest = drop_get c.args.list.now c.descs.d-index none c.descs-test.true in
    let there = each_behind (IsDesc s) c.args.list.now _ c.descs.d-index d can.descs rest in
    let l = c.descs.invariant.left s h can in
    (l.now, l.linked.heap_is, desc_stays s l.now d.offset l.from.bodies there)

pub push_if-requires : goal.push_if-requires
push_if-requires c =
    let s = c.requires.0 in
    let h = c.requires.1 in
    let can = c.requires.2 in
    let p = can.row.ppi_is in
    let none : Desc = record { offset = 0 } in
    let d = slice_index_or c.args.list.now c.descs.d-index none in
    let rest = drop_get c.args.list.now c.descs.d-index none c.descs-test.true in
    let there = each_behind (IsDesc s) c.args.list.now _ c.descs.d-index d can.descs rest in
    let l = c.descs.invariant.left s h can in
    let guid = c.guid_of-guid.ensures s h.heap_is (p.0, p.1) in
    let due = c.is_due-due.ensures l.now l.linked.heap_is (desc_stays s l.now d.offset l.from.bodies there) in
    let split = new_split s l.now l.count c.args.ppi.offset c.descs.d-index c.guid_of-guid.result c.args.list.now d c.is_due-due.result l.from guid can.descs rest due in (
      l.now,
      l.linked,
      ready c.args.heap.now c.descs.memory c.descs.heads s c.args.by c.args.ppi.offset d.offset _ _ _ c.is_due-due.result l p
          (new_is s c.args.ppi.offset c.descs.d-index c.args.list.now d c.is_due-due.result can.descs can.notes rest split.1) split.0,
    )

pub descs-preserved : goal.descs-preserved
descs-preserved c = record {
  left = λ s h can.
      let p = can.row.ppi_is in
      let none : Desc = record { offset = 0 } in
      let d = slice_index_or c.args.list.now c.descs.d-index none in
      let rest = drop_get c.args.list.now c.descs.d-index none c.descs-test.true in
      let there = each_behind (IsDesc s) c.args.list.now _ c.descs.d-index d can.descs rest in
      let l = c.descs.invariant.left s h can in
      let guid = c.guid_of-guid.ensures s h.heap_is (p.0, p.1) in
      let due = c.is_due-due.ensures l.now l.linked.heap_is (desc_stays s l.now d.offset l.from.bodies there) in
      let split = new_split s l.now l.count c.args.ppi.offset c.descs.d-index c.guid_of-guid.result c.args.list.now d c.is_due-due.result l.from guid can.descs rest due in
      let fits = ready c.args.heap.now c.descs.memory c.descs.heads s c.args.by c.args.ppi.offset d.offset _ _ _ c.is_due-due.result l p
      (new_is s c.args.ppi.offset c.descs.d-index c.args.list.now d c.is_due-due.result can.descs can.notes rest split.1) split.0 in
      less_left c.args.heap.now c.descs.memory c.push_if.new.memory c.descs.heads c.push_if.new.heads s c.args.by _ _ (pair_if c.is_due-due.result c.args.ppi.offset d.offset) _ l split.0
      (c.push_if.ensures l.now l.linked fits);
}

pub returns : goal.returns
returns c s h can =
    none_left c.args.heap.now c.descs.memory c.descs.heads s c.args.by _ _
    (ap (λ xs. row_of s c.args.ppi.offset (new_dispatches s xs)) (drop_all c.args.list.now c.descs.d-index c.descs-test.false)) (c.descs.invariant.left s h can)
