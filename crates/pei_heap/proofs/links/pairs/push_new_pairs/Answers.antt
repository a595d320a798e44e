use Rattle.std.proofs.Common.{◌≡◌, ◌≤◌, [], length, drop, ap, sym, subst, arith, ◌∙◌}
use Rattle.std.proofs.lemmas.List.{nil_from_length}
use Rattle.store_model.specs.{declared.store_handle.DescKind.TheVariants.Ppi, declared.store_handle.EntryList.TheVariants.Ppis}
use Rattle.store_model.specs.{StoreState.free, Service.Descriptor.descriptors, Service.Notify.new_dispatches, Service.Notify.notify_pairs}
use Rattle.store_model.specs.Service.Install.{node_need, pairs_of, row_of}
use Rattle.pei_heap.specs.{Linked.IsLinked, Pairs.queued}
use Rattle.pei_heap.proofs.Finding.{drop_all}
use Rattle.pei_heap.proofs.Queueing.{at_stays, less_left, none_left, stands_on}
use Rattle.pei_heap.proofs.Rows.{descs_now, entry_rows, new_row_now, notes_now, ppi_met, ppis_not, row_room}
use Rattle.pei_heap.proofs.links.pairs.push_new_pairs.Goals as goal

pub returns-then-count-eq0 : goal.returns-then-count-eq0
returns-then-count-eq0 c s h can =
    let count = can.count_is in
    let zero = c.if-count-eq0.true in
    let none : notify_pairs s c.args.list.now ≡ [] = nil_from_length (notify_pairs s c.args.list.now) (omega (arith, count, zero)) in
    subst (λ xs. IsLinked c.args.heap.now c.args.memory.now c.args.heads.now (queued c.args.by s xs)) (sym none) h

pub entry_from-requires : goal.entry_from-requires
entry_from-requires c =
    let s = c.requires.0 in
    let h = c.requires.1 in
    let can = c.requires.2 in
    let l = c.ppis.invariant.left s h can in
    (l.now, Ppis, c.ppis._place, l.linked.heap_is, stands_on s l.now Ppis l.count c.ppis._place c.ppis.at l.from ppis_not (c.ppis.invariant.at s h can))

pub returns-in-None : goal.returns-in-None
returns-in-None c s h can =
    let l = c.ppis.invariant.left s h can in
    let stands = stands_on s l.now Ppis l.count c.ppis._place c.ppis.at l.from ppis_not (c.ppis.invariant.at s h can) in
    let none = ap (drop c.ppis._place) (sym l.from.ppis) ∙ c.in-None.ensures l.now Ppis c.ppis._place l.linked.heap_is stands in
    none_left c.args.heap.now c.ppis.memory c.ppis.heads s c.args.by _ _ (ap (λ xs. pairs_of s (descriptors xs) (new_dispatches s c.args.list.now)) none) l

pub push_new_row-requires : goal.push_new_row-requires
push_new_row-requires c =
    let s = c.requires.0 in
    let h = c.requires.1 in
    let can = c.requires.2 in
    let l = c.ppis.invariant.left s h can in
    let stands = stands_on s l.now Ppis l.count c.ppis._place c.ppis.at l.from ppis_not (c.ppis.invariant.at s h can) in
    let ppi = ppi_met s l.now l.count c.ppis._place c.in-Some.met h.heap_is.state l.from (c.in-Some.ensures l.now Ppis c.ppis._place l.linked.heap_is stands) in
    let p = ppi.ppi_is in
    let notes = new_dispatches s c.args.list.now in
    let row = new_row_now s l.now l.count c.in-Some.met.entry.descriptor c.args.list.now l.from (p.0, p.1) can.descs in
    let room = row_room (free l.now) _ (row_of s c.in-Some.met.entry.descriptor notes) _ (entry_rows s notes _ _ c.in-Some.met.entry ppi.rest) l.room in (
      l.now,
      l.linked,
      record {
        row = record { ppi_is = at_stays s l.now Ppi c.in-Some.met.entry.descriptor l.from.bodies p; room = subst (λ xs. node_need (length xs) ≤ free l.now) (sym row) room };
        descs = descs_now s l.now c.args.list.now l.from.bodies can.descs;
        notes = notes_now s l.now c.args.list.now l.from.bodies can.descs can.notes;
      },
    )

pub ppis-preserved : goal.ppis-preserved
ppis-preserved c = record {
  at = λ s h can.
      let l = c.ppis.invariant.left s h can in
      let stands = stands_on s l.now Ppis l.count c.ppis._place c.ppis.at l.from ppis_not (c.ppis.invariant.at s h can) in
      (ppi_met s l.now l.count c.ppis._place c.in-Some.met h.heap_is.state l.from (c.in-Some.ensures l.now Ppis c.ppis._place l.linked.heap_is stands)).next;
  left = λ s h can.
      let l = c.ppis.invariant.left s h can in
      let stands = stands_on s l.now Ppis l.count c.ppis._place c.ppis.at l.from ppis_not (c.ppis.invariant.at s h can) in
      let ppi = ppi_met s l.now l.count c.ppis._place c.in-Some.met h.heap_is.state l.from (c.in-Some.ensures l.now Ppis c.ppis._place l.linked.heap_is stands) in
      let p = ppi.ppi_is in
      let notes = new_dispatches s c.args.list.now in
      let split = entry_rows s notes _ _ c.in-Some.met.entry ppi.rest in
      let row = new_row_now s l.now l.count c.in-Some.met.entry.descriptor c.args.list.now l.from (p.0, p.1) can.descs in
      let room = row_room (free l.now) _ (row_of s c.in-Some.met.entry.descriptor notes) _ split l.room in
      let pushed = c.push_new_row.ensures l.now l.linked (record {
        row = record { ppi_is = at_stays s l.now Ppi c.in-Some.met.entry.descriptor l.from.bodies p; room = subst (λ xs. node_need (length xs) ≤ free l.now) (sym row) room };
        descs = descs_now s l.now c.args.list.now l.from.bodies can.descs;
        notes = notes_now s l.now c.args.list.now l.from.bodies can.descs can.notes;
      }) in
      less_left c.args.heap.now c.ppis.memory c.push_new_row.new.memory c.ppis.heads c.push_new_row.new.heads s c.args.by _ _ (row_of s c.in-Some.met.entry.descriptor notes) _ l split
      (subst (λ xs. IsLinked c.args.heap.now c.push_new_row.new.memory c.push_new_row.new.heads (queued c.args.by l.now xs)) row pushed);
}

pub returns : goal.returns
returns c s h can =
    let count = h.heads_are.ppis_are in
    let past = c.ppis-test.false in
    none_left c.args.heap.now c.ppis.memory c.ppis.heads s c.args.by _ _
    (ap (λ xs. pairs_of s (descriptors xs) (new_dispatches s c.args.list.now)) (drop_all s.ppis c.ppis._place (omega (arith, count, past)))) (c.ppis.invariant.left s h can)
