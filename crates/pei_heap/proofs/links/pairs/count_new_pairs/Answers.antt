use Rattle.std.proofs.Common.{◌+◌, length, drop, ap, arith}
use Rattle.store_model.specs.{declared.store_handle.DescKind.TheVariants.Ppi, declared.store_handle.EntryList.TheVariants.Ppis}
use Rattle.store_model.specs.{Service.Descriptor.descriptors, Service.Install.pairs_of, Service.Install.row_of}
use Rattle.store_model.specs.Service.Notify.{new_dispatches, notify_pairs}
use Rattle.pei_heap.proofs.{Finding.drop_all, Walking.desc_of}
use Rattle.pei_heap.proofs.Rows.{count_past, count_rows, entry_rows, few_more}
use Rattle.pei_heap.proofs.links.pairs.count_new_pairs.Goals as goal

pub returns-in-None : goal.returns-in-None
returns-in-None c s h each =
    count_past c.ppis.count _ _ (ap (λ xs. pairs_of s (descriptors xs) (new_dispatches s c.args.list.now)) (c.in-None.ensures s Ppis c.ppis._place h.heap_is (c.ppis.invariant.at s h))) (c.ppis.invariant.left s h each)

pub count_new_row-count-requires : goal.count_new_row-count-requires
count_new_row-count-requires c =
    let s = c.requires.state.0 in
    let h = c.requires.state.1 in
    let met = c.in-Some.ensures s Ppis c.ppis._place h.heap_is (c.ppis.invariant.at s h) in
    record { state = (s, h.heap_is, desc_of s Ppi c.in-Some.met.entry.descriptor met.named, c.requires.state.2) }

pub ppis-preserved : goal.ppis-preserved
ppis-preserved c = record {
  at = λ s h. (c.in-Some.ensures s Ppis c.ppis._place h.heap_is (c.ppis.invariant.at s h)).next;
  left = λ s h each.
      let met = c.in-Some.ensures s Ppis c.ppis._place h.heap_is (c.ppis.invariant.at s h) in
      let notes = new_dispatches s c.args.list.now in
      count_rows c.ppis.count c.count_new_row-count.result (length (notify_pairs s c.args.list.now)) (pairs_of s (descriptors (drop c.ppis._place s.ppis)) notes) (row_of s c.in-Some.met.entry.descriptor notes)
      (pairs_of s (descriptors (drop (c.ppis._place + 1) s.ppis)) notes) (entry_rows s notes _ _ c.in-Some.met.entry met.rest)
      (c.count_new_row-count.ensures.count s h.heap_is (desc_of s Ppi c.in-Some.met.entry.descriptor met.named) each) (c.ppis.invariant.left s h each);
  few = few_more c.ppis.count c.count_new_row-count.result c.ppis._place (length c.args.list.now) c.ppis.invariant.few c.count_new_row-count.ensures.few;
}

pub returns : goal.returns
returns c s h each =
    let count = h.heads_are.ppis_are in
    let past = c.ppis-test.false in
    count_past c.ppis.count _ _ (ap (λ xs. pairs_of s (descriptors xs) (new_dispatches s c.args.list.now)) (drop_all s.ppis c.ppis._place (omega (arith, count, past)))) (c.ppis.invariant.left s h each)
