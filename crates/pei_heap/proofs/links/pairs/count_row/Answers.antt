use Rattle.std.proofs.Common.{◌≡◌, ◌+◌, length, drop, ap, arith}
use Rattle.store_model.specs.{declared.store_handle.DescKind.TheVariants.Dispatch, declared.store_handle.EntryList.TheVariants.Dispatches}
use Rattle.store_model.specs.{Service.Descriptor.descriptors, Service.Install.row_of}
use Rattle.store_laws.specs.Items.{item_of, items}
use Rattle.pei_heap.proofs.{Ends.map_len, Finding.drop_all, Queueing.not_queued, Walking.desc_of}
use Rattle.pei_heap.proofs.Rows.{count_more, count_past, one_small, row_at}
use Rattle.pei_heap.proofs.links.pairs.count_row.Goals as goal

pub notes-init : goal.notes-init
notes-init c = record {
  at = λ s h. record { entries = tt; here = h.heads_are.later_ends.first };
  left = λ s h d. omega arith;
  few = omega arith;
}

pub returns-in-None-clause-count : goal.returns-in-None-clause-count
returns-in-None-clause-count c s h d =
    count_past c.notes.count _ _ (ap (λ xs. row_of s c.args.ppi.offset (descriptors xs)) (c.in-None.ensures s Dispatches c.notes._place h.heap_is (c.notes.invariant.at s h))) (c.notes.invariant.left s h d)

pub returns-in-None-clause-few : goal.returns-in-None-clause-few
returns-in-None-clause-few c = let few = c.notes.invariant.few in let below = c.notes-test.true in omega (arith, few, below)

pub is_of-requires : goal.is_of-requires
is_of-requires c =
    let s = c.requires.0 in
    let h = c.requires.1 in
    let met = c.in-Some.ensures s Dispatches c.notes._place h.heap_is (c.notes.invariant.at s h) in
    (s, h.heap_is, desc_of s Dispatch c.in-Some.met.entry.descriptor met.named)

pub overflow_add-count : goal.overflow_add-count
overflow_add-count c =
    let few = c.notes.invariant.few in
    let below = c.notes-test.true in
    let one = one_small c.is_of.result c.one_if-count.result c.one_if-count.ensures in
    let end = c.args.heap.now.span.in_range in
    grind (arith, few, below, one, end)

pub notes-preserved : goal.notes-preserved
notes-preserved c = record {
  at = λ s h. (c.in-Some.ensures s Dispatches c.notes._place h.heap_is (c.notes.invariant.at s h)).next;
  left = λ s h d.
      let met = c.in-Some.ensures s Dispatches c.notes._place h.heap_is (c.notes.invariant.at s h) in
      let guid = c.guid_of-guid.ensures s h.heap_is d in
      let row = row_at s s 0 c.args.ppi.offset c.notes._place c.guid_of-guid.result c.in-Some.met c.is_of.result h.heap_is.state (not_queued s) d guid met
      (c.is_of.ensures s h.heap_is (desc_of s Dispatch c.in-Some.met.entry.descriptor met.named)) in
      count_more c.notes.count c.one_if-count.result (length (row_of s c.args.ppi.offset (descriptors s.dispatches))) c.args.ppi.offset c.in-Some.met.entry.descriptor c.is_of.result
      (row_of s c.args.ppi.offset (descriptors (drop c.notes._place s.dispatches))) (row_of s c.args.ppi.offset (descriptors (drop (c.notes._place + 1) s.dispatches)))
      row.split c.one_if-count.ensures (c.notes.invariant.left s h d);
  few =
      let few = c.notes.invariant.few in
      let one = one_small c.is_of.result c.one_if-count.result c.one_if-count.ensures in
      omega (arith, few, one);
}

pub returns-clause-count : goal.returns-clause-count
returns-clause-count c s h d =
    let past = c.notes-test.false in
    let len = h.heap_is.image.len in
    let short = c.nodes_read.ensures.short s Dispatches h.heap_is.state in
    let long : length (items s Dispatches) ≡ length s.dispatches = map_len (item_of s.base) s.dispatches in
    let none = drop_all s.dispatches c.notes._place (omega (arith, past, len, short, long)) in
    count_past c.notes.count _ _ (ap (λ xs. row_of s c.args.ppi.offset (descriptors xs)) none) (c.notes.invariant.left s h d)

pub returns-clause-few : goal.returns-clause-few
returns-clause-few c = let few = c.notes.invariant.few in let end = c.notes.auto._place-end in omega (arith, few, end)
