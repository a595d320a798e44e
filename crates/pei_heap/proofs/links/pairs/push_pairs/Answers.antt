use Rattle.std.proofs.Common.{◌≡◌, ◌≤◌, [], length, slice_index_or, ap, sym, subst, arith}
use Rattle.std.proofs.lemmas.List.{nil_from_length}
use Rattle.store_model.specs.{declared.store_handle.Desc.Desc, declared.store_handle.DescKind.TheVariants.Ppi, StoreState.free}
use Rattle.store_model.specs.{StateFacts.IsDescOf, Service.Descriptor.descriptors, Service.Descriptor.offsets}
use Rattle.store_model.specs.Service.Install.{install_pairs, node_need, pairs_of, row_of}
use Rattle.store_laws.proofs.Lists.{each_behind}
use Rattle.pei_heap.specs.{Linked.IsLinked, Pairs.queued}
use Rattle.pei_heap.proofs.Finding.{drop_all, drop_get}
use Rattle.pei_heap.proofs.Queueing.{at_stays, less_left, none_left}
use Rattle.pei_heap.proofs.Rows.{row_now, row_room, rows_more}
use Rattle.pei_heap.proofs.links.pairs.push_pairs.Goals as goal

pub returns-then-count-eq0 : goal.returns-then-count-eq0
returns-then-count-eq0 c s h can =
    let count = can.count_is in
    let zero = c.if-count-eq0.true in
    let none : install_pairs s c.args.list.now ≡ [] = nil_from_length (install_pairs s c.args.list.now) (omega (arith, count, zero)) in
    subst (λ xs. IsLinked c.args.heap.now c.args.memory.now c.args.heads.now (queued c.args.by s xs)) (sym none) h

pub push_row-requires : goal.push_row-requires
push_row-requires c =
    let s = c.requires.0 in
    let h = c.requires.1 in
    let can = c.requires.2 in
    let none : Desc = record { offset = 0 } in
    let d = slice_index_or c.args.list.now c.descs.d-index none in
    let rest = drop_get c.args.list.now c.descs.d-index none c.descs-test.true in
    let there = each_behind (IsDescOf s Ppi) c.args.list.now _ c.descs.d-index d can.ppis rest in
    let l = c.descs.invariant.left s h can in
    let row = row_now s l.now l.count d.offset h.heap_is.state l.from (there.0, there.1) in
    let room = row_room (free l.now) _ (row_of s d.offset (descriptors s.dispatches)) _ (rows_more s (descriptors s.dispatches) _ _ d rest) l.room in
    (l.now, l.linked, record { ppi_is = at_stays s l.now Ppi d.offset l.from.bodies there; room = subst (λ xs. node_need (length xs) ≤ free l.now) (sym row) room })

pub descs-preserved : goal.descs-preserved
descs-preserved c = record {
  left = λ s h can.
      let none : Desc = record { offset = 0 } in
      let d = slice_index_or c.args.list.now c.descs.d-index none in
      let rest = drop_get c.args.list.now c.descs.d-index none c.descs-test.true in
      let there = each_behind (IsDescOf s Ppi) c.args.list.now _ c.descs.d-index d can.ppis rest in
      let l = c.descs.invariant.left s h can in
      let split = rows_more s (descriptors s.dispatches) _ _ d rest in
      let row = row_now s l.now l.count d.offset h.heap_is.state l.from (there.0, there.1) in
      let room = row_room (free l.now) _ (row_of s d.offset (descriptors s.dispatches)) _ split l.room in
      let pushed = c.push_row.ensures l.now l.linked (record { ppi_is = at_stays s l.now Ppi d.offset l.from.bodies there; room = subst (λ xs. node_need (length xs) ≤ free l.now) (sym row) room }) in
      less_left c.args.heap.now c.descs.memory c.push_row.new.memory c.descs.heads c.push_row.new.heads s c.args.by _ _ (row_of s d.offset (descriptors s.dispatches)) _ l split
      (subst (λ xs. IsLinked c.args.heap.now c.push_row.new.memory c.push_row.new.heads (queued c.args.by l.now xs)) row pushed);
}

pub returns : goal.returns
returns c s h can =
    none_left c.args.heap.now c.descs.memory c.descs.heads s c.args.by _ _
    (ap (λ xs. pairs_of s (offsets xs) (descriptors s.dispatches)) (drop_all c.args.list.now c.descs.d-index c.descs-test.false)) (c.descs.invariant.left s h can)
