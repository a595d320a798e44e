use Rattle.std.proofs.Common.{◌+◌, drop, refl, arith, ap, ◌∙◌, filter, slice_get}
use Rattle.pi_base.specs.Guids.{same_guid}
use Rattle.store_model.specs.{declared.state.Entry.Entry, declared.store_handle.DescKind.TheVariants.Ppi}
use Rattle.store_model.specs.{declared.store_handle.EntryList.TheVariants.Ppis, Service.Descriptor.guid_at, Service.Reading.ppis_of}
use Rattle.pei_heap.proofs.Finding.{drop_all, nth_end, nth_here, nth_on, nth_past}
use Rattle.pei_heap.proofs.{Tellings.nth_none, Tellings.nth_some, Walking.desc_of}
use Rattle.pei_heap.proofs.links.reading.nth_ppi.Goals as goal
use Rattle.pei_heap.proofs.links.reading.nth_ppi.Goals.{then-has_guid+else-left-eq0, else-has_guid}

pub ppis-init : goal.ppis-init
ppis-init c = record { at = λ s h. record { entries = tt; here = h.heads_are.ppi_ends.first }; left = λ s h. refl }

pub entry_from-requires : goal.entry_from-requires
entry_from-requires c =
    let s = c.requires.0 in
    let h = c.requires.1 in
    (s, Ppis, c.ppis._place, h.heap_is, c.ppis.invariant.at s h)

pub returns-in-None : goal.returns-in-None
returns-in-None c s h =
    nth_none s c.args.guid.now c.args.n
    (nth_end (λ (x : Entry). same_guid (guid_at s x.descriptor) c.args.guid.now) (drop c.ppis._place s.ppis) c.ppis.left (slice_get (ppis_of s c.args.guid.now) c.args.n)
    (c.in-None.ensures s Ppis c.ppis._place h.heap_is (c.ppis.invariant.at s h)) (c.ppis.invariant.left s h))

pub has_guid-requires : goal.has_guid-requires
has_guid-requires c =
    let s = c.requires.0 in
    let h = c.requires.1 in
    let met = c.in-Some.ensures s Ppis c.ppis._place h.heap_is (c.ppis.invariant.at s h) in
    (s, h.heap_is, desc_of s Ppi c.in-Some.met.entry.descriptor met.named)

pub number_of-requires : goal.number_of-requires
number_of-requires c =
    let s = c.requires.0 in
    let h = c.requires.1 in
    let met = c.in-Some.ensures s Ppis c.ppis._place h.heap_is (c.ppis.invariant.at s h) in
    (s, h.heap_is, desc_of s Ppi c.in-Some.met.entry.descriptor met.named)

pub returns-then-left-eq0 : goal.returns-then-left-eq0
returns-then-left-eq0 c s h =
    let met = c.in-Some.ensures s Ppis c.ppis._place h.heap_is (c.ppis.invariant.at s h) in
    let desc = desc_of s Ppi c.in-Some.met.entry.descriptor met.named in
    nth_some s c.args.guid.now c.args.n c.in-Some.met.entry c.number_of.result (c.number_of.ensures s h.heap_is desc)
    (nth_here (λ (x : Entry). same_guid (guid_at s x.descriptor) c.args.guid.now) (drop c.ppis._place s.ppis) (drop (c.ppis._place + 1) s.ppis) c.in-Some.met.entry c.ppis.left (slice_get (ppis_of s c.args.guid.now) c.args.n)
    met.rest (c.ppis.invariant.left s h) (c.if-has_guid.ensures s h.heap_is desc) c.if-left-eq0.true)

pub ppis-preserved : goal.ppis-preserved
ppis-preserved c = record {
  at = λ s h. (c.in-Some.ensures s Ppis c.ppis._place h.heap_is (c.ppis.invariant.at s h)).next;
  left = λ s h.
      let met = c.in-Some.ensures s Ppis c.ppis._place h.heap_is (c.ppis.invariant.at s h) in
      let desc = desc_of s Ppi c.in-Some.met.entry.descriptor met.named in
      let p : Entry → _ = λ x. same_guid (guid_at s x.descriptor) c.args.guid.now in
      let whole = slice_get (ppis_of s c.args.guid.now) c.args.n in
      let rest = drop (c.ppis._place + 1) s.ppis in
      elim c.if-has_guid.branch [
        | then-has_guid+else-left-eq0 w ↦
            ap (λ n. slice_get (filter p rest) n) w.left-is ∙ nth_on p (drop c.ppis._place s.ppis) rest c.in-Some.met.entry c.ppis.left whole met.rest (c.ppis.invariant.left s h)
            (w.if-has_guid.ensures s h.heap_is desc) w.if-left-eq0.false
        | else-has_guid w ↦
            ap (λ n. slice_get (filter p rest) n) w.left-is ∙ nth_past p (drop c.ppis._place s.ppis) rest c.in-Some.met.entry c.ppis.left whole met.rest (c.ppis.invariant.left s h)
            (w.if-has_guid.ensures s h.heap_is desc)
      ];
}

pub returns : goal.returns
returns c s h =
    let all = h.heads_are.ppis_are in
    let past = c.ppis-test.false in
    nth_none s c.args.guid.now c.args.n
    (nth_end (λ (x : Entry). same_guid (guid_at s x.descriptor) c.args.guid.now) (drop c.ppis._place s.ppis) c.ppis.left (slice_get (ppis_of s c.args.guid.now) c.args.n)
    (drop_all s.ppis c.ppis._place (omega (arith, all, past))) (c.ppis.invariant.left s h))
