use Rattle.std.proofs.Common.{◌+◌, drop, refl, arith}
use Rattle.pi_base.specs.Guids.{same_guid}
use Rattle.store_model.specs.{declared.state.Entry.Entry, declared.store_handle.DescKind.TheVariants.Ppi}
use Rattle.store_model.specs.{declared.store_handle.EntryList.TheVariants.Ppis, Service.Descriptor.guid_at, Service.Install.has_ppi}
use Rattle.pei_heap.proofs.Finding.{any_end, any_no, any_yes, drop_all}
use Rattle.pei_heap.proofs.Walking.{desc_of}
use Rattle.pei_heap.proofs.links.reading.has_ppi.Goals as goal

pub ppis-init : goal.ppis-init
ppis-init c = record { at = λ s h. record { entries = tt; here = h.heads_are.ppi_ends.first }; left = λ s h. refl }

pub entry_from-requires : goal.entry_from-requires
entry_from-requires c =
    let s = c.requires.0 in
    let h = c.requires.1 in
    (s, Ppis, c.ppis._place, h.heap_is, c.ppis.invariant.at s h)

pub returns-in-None : goal.returns-in-None
returns-in-None c s h =
    any_end (λ (x : Entry). same_guid (guid_at s x.descriptor) c.args.guid.now) (drop c.ppis._place s.ppis) (has_ppi s c.args.guid.now)
    (c.in-None.ensures s Ppis c.ppis._place h.heap_is (c.ppis.invariant.at s h)) (c.ppis.invariant.left s h)

pub has_guid-requires : goal.has_guid-requires
has_guid-requires c =
    let s = c.requires.0 in
    let h = c.requires.1 in
    let met = c.in-Some.ensures s Ppis c.ppis._place h.heap_is (c.ppis.invariant.at s h) in
    (s, h.heap_is, desc_of s Ppi c.in-Some.met.entry.descriptor met.named)

pub returns-then-has_guid : goal.returns-then-has_guid
returns-then-has_guid c s h =
    let met = c.in-Some.ensures s Ppis c.ppis._place h.heap_is (c.ppis.invariant.at s h) in
    any_yes (λ (x : Entry). same_guid (guid_at s x.descriptor) c.args.guid.now) (drop c.ppis._place s.ppis) (drop (c.ppis._place + 1) s.ppis) c.in-Some.met.entry (has_ppi s c.args.guid.now)
    met.rest (c.ppis.invariant.left s h) (c.if-has_guid.ensures s h.heap_is (desc_of s Ppi c.in-Some.met.entry.descriptor met.named))

pub ppis-preserved : goal.ppis-preserved
ppis-preserved c = record {
  at = λ s h. (c.in-Some.ensures s Ppis c.ppis._place h.heap_is (c.ppis.invariant.at s h)).next;
  left = λ s h.
      let met = c.in-Some.ensures s Ppis c.ppis._place h.heap_is (c.ppis.invariant.at s h) in
      any_no (λ (x : Entry). same_guid (guid_at s x.descriptor) c.args.guid.now) (drop c.ppis._place s.ppis) (drop (c.ppis._place + 1) s.ppis) c.in-Some.met.entry (has_ppi s c.args.guid.now)
      met.rest (c.ppis.invariant.left s h) (c.if-has_guid.ensures s h.heap_is (desc_of s Ppi c.in-Some.met.entry.descriptor met.named));
}

pub returns : goal.returns
returns c s h =
    let all = h.heads_are.ppis_are in
    let past = c.ppis-test.false in
    any_end (λ (x : Entry). same_guid (guid_at s x.descriptor) c.args.guid.now) (drop c.ppis._place s.ppis) (has_ppi s c.args.guid.now)
    (drop_all s.ppis c.ppis._place (omega (arith, all, past))) (c.ppis.invariant.left s h)
