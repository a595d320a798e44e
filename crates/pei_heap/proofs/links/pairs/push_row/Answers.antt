use Rattle.std.proofs.Common.{◌≡◌, length, drop, ap, sym, arith, ◌∙◌}
use Rattle.store_model.specs.{declared.store_handle.DescKind.TheVariants.Dispatch, declared.store_handle.EntryList.TheVariants.Dispatches}
use Rattle.store_model.specs.{Service.Descriptor.descriptors, Service.Install.row_of}
use Rattle.store_laws.specs.Items.{item_of, items}
use Rattle.pei_heap.proofs.{Ends.map_len, Finding.drop_all, Walking.desc_of}
use Rattle.pei_heap.proofs.Queueing.{less_left, none_left, pair_if, stands_on}
use Rattle.pei_heap.proofs.Rows.{dispatches_not, ready, row_at}
use Rattle.pei_heap.proofs.links.pairs.push_row.Goals as goal

pub entry_from-requires : goal.entry_from-requires
entry_from-requires c =
    let s = c.requires.0 in
    let h = c.requires.1 in
    let can = c.requires.2 in
    let l = c.notes.invariant.left s h can in
    (l.now, Dispatches, c.notes._place, l.linked.heap_is, stands_on s l.now Dispatches l.count c.notes._place c.notes.at l.from dispatches_not (c.notes.invariant.at s h can))

pub returns-in-None : goal.returns-in-None
returns-in-None c s h can =
    let l = c.notes.invariant.left s h can in
    let stands = stands_on s l.now Dispatches l.count c.notes._place c.notes.at l.from dispatches_not (c.notes.invariant.at s h can) in
    let none = ap (drop c.notes._place) (sym l.from.dispatches) ∙ c.in-None.ensures l.now Dispatches c.notes._place l.linked.heap_is stands in
    none_left c.args.heap.now c.notes.memory c.notes.heads s c.args.by _ _ (ap (λ xs. row_of s c.args.ppi.offset (descriptors xs)) none) l

pub is_of-due-requires : goal.is_of-due-requires
is_of-due-requires c =
    let s = c.requires.0 in
    let h = c.requires.1 in
    let can = c.requires.2 in
    let l = c.notes.invariant.left s h can in
    let stands = stands_on s l.now Dispatches l.count c.notes._place c.notes.at l.from dispatches_not (c.notes.invariant.at s h can) in
    let met = c.in-Some.ensures l.now Dispatches c.notes._place l.linked.heap_is stands in
    (l.now, l.linked.heap_is, desc_of l.now Dispatch c.in-Some.met.entry.descriptor met.named)

pub push_if-requires : goal.push_if-requires
push_if-requires c =
    let s = c.requires.0 in
    let h = c.requires.1 in
    let can = c.requires.2 in
    let p = can.ppi_is in
    let l = c.notes.invariant.left s h can in
    let stands = stands_on s l.now Dispatches l.count c.notes._place c.notes.at l.from dispatches_not (c.notes.invariant.at s h can) in
    let met = c.in-Some.ensures l.now Dispatches c.notes._place l.linked.heap_is stands in
    let guid = c.guid_of-guid.ensures s h.heap_is (p.0, p.1) in
    let row = row_at s l.now l.count c.args.ppi.offset c.notes._place c.guid_of-guid.result c.in-Some.met c.is_of-due.result h.heap_is.state l.from (p.0, p.1) guid met
    (c.is_of-due.ensures l.now l.linked.heap_is (desc_of l.now Dispatch c.in-Some.met.entry.descriptor met.named)) in
    (l.now, l.linked, ready c.args.heap.now c.notes.memory c.notes.heads s c.args.by c.args.ppi.offset c.in-Some.met.entry.descriptor _ _ _ c.is_of-due.result l p (λ t. row.note_is) row.split)

pub notes-preserved : goal.notes-preserved
notes-preserved c = record {
  at = λ s h can.
      let p = can.ppi_is in
      let l = c.notes.invariant.left s h can in
      let stands = stands_on s l.now Dispatches l.count c.notes._place c.notes.at l.from dispatches_not (c.notes.invariant.at s h can) in
      let met = c.in-Some.ensures l.now Dispatches c.notes._place l.linked.heap_is stands in
      let guid = c.guid_of-guid.ensures s h.heap_is (p.0, p.1) in
      (row_at s l.now l.count c.args.ppi.offset c.notes._place c.guid_of-guid.result c.in-Some.met c.is_of-due.result h.heap_is.state l.from (p.0, p.1) guid met
      (c.is_of-due.ensures l.now l.linked.heap_is (desc_of l.now Dispatch c.in-Some.met.entry.descriptor met.named))).next;
  left = λ s h can.
      let p = can.ppi_is in
      let l = c.notes.invariant.left s h can in
      let stands = stands_on s l.now Dispatches l.count c.notes._place c.notes.at l.from dispatches_not (c.notes.invariant.at s h can) in
      let met = c.in-Some.ensures l.now Dispatches c.notes._place l.linked.heap_is stands in
      let guid = c.guid_of-guid.ensures s h.heap_is (p.0, p.1) in
      let row = row_at s l.now l.count c.args.ppi.offset c.notes._place c.guid_of-guid.result c.in-Some.met c.is_of-due.result h.heap_is.state l.from (p.0, p.1) guid met
      (c.is_of-due.ensures l.now l.linked.heap_is (desc_of l.now Dispatch c.in-Some.met.entry.descriptor met.named)) in
      let fits = ready c.args.heap.now c.notes.memory c.notes.heads s c.args.by c.args.ppi.offset c.in-Some.met.entry.descriptor _ _ _ c.is_of-due.result l p (λ t. row.note_is) row.split in
      less_left c.args.heap.now c.notes.memory c.push_if.new.memory c.notes.heads c.push_if.new.heads s c.args.by _ _ (pair_if c.is_of-due.result c.args.ppi.offset c.in-Some.met.entry.descriptor) _ l row.split
      (c.push_if.ensures l.now l.linked fits);
}

pub returns : goal.returns
returns c s h can =
    let l = c.notes.invariant.left s h can in
    let past = c.notes-test.false in
    let len = h.heap_is.image.len in
    let short = c.nodes_read.ensures.short s Dispatches h.heap_is.state in
    let long : length (items s Dispatches) ≡ length s.dispatches = map_len (item_of s.base) s.dispatches in
    let none = drop_all s.dispatches c.notes._place (omega (arith, past, len, short, long)) in
    none_left c.args.heap.now c.notes.memory c.notes.heads s c.args.by _ _ (ap (λ xs. row_of s c.args.ppi.offset (descriptors xs)) none) l
