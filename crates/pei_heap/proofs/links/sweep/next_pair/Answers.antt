use Rattle.std.proofs.Common.{refl, arith}
use Rattle.store_model.specs.declared.store_handle.DescKind.TheVariants.{Ppi}
use Rattle.store_model.specs.declared.store_handle.EntryList.TheVariants.{Callbacks, Ppis}
use Rattle.store_model.specs.Service.Sweep.{next_match}
use Rattle.store_laws.proofs.Sweeps.{none_here}
use Rattle.pei_heap.proofs.{Matches.pair_fires, Matches.still_there, Nth.get_next, Walking.desc_of}
use Rattle.pei_heap.proofs.links.sweep.next_pair.Goals as goal

pub ppis-init : goal.ppis-init
ppis-init c = record {
  at = λ s h is. record { entries = tt; here = c.ppi_address-at.ensures s h };
  first = λ s h is. record { stands = record { entries = tt; here = c.address_at-first.ensures s Callbacks h.heap_is h.heads_are.note_ends.first }; there = is.notes };
  notes = λ s h is. record { stands = record { entries = tt; here = c.address_at-note.ensures s Callbacks h.heap_is h.heads_are.note_ends.first }; there = is.notes };
  left = λ s h is. refl;
}

pub returns-in-None : goal.returns-in-None
returns-in-None c s h is =
    let there = is.ppis in
    let below = c.ppis-test.true in
    absurd (still_there s.ppis c.ppis.ppi (omega (arith, there, below)) (c.in-None.ensures s Ppis c.ppis.ppi h.heap_is (c.ppis.invariant.at s h is)))

pub guid_of-guid-requires : goal.guid_of-guid-requires
guid_of-guid-requires c =
    let s = c.requires.0 in
    let h = c.requires.1 in
    let met = c.in-Some.ensures s Ppis c.ppis.ppi h.heap_is (c.ppis.invariant.at s h c.requires.2) in
    (s, h.heap_is, desc_of s Ppi c.in-Some.met.entry.descriptor met.named)

pub number_of-requires : goal.number_of-requires
number_of-requires c =
    let s = c.requires.0 in
    let h = c.requires.1 in
    let met = c.in-Some.ensures s Ppis c.ppis.ppi h.heap_is (c.ppis.invariant.at s h c.requires.2) in
    (s, h.heap_is, desc_of s Ppi c.in-Some.met.entry.descriptor met.named)

pub returns-in-Some-match_from : goal.returns-in-Some-match_from
returns-in-Some-match_from c s h is =
    let met = c.in-Some.ensures s Ppis c.ppis.ppi h.heap_is (c.ppis.invariant.at s h is) in
    let entry = c.in-Some.met.entry in
    let desc = desc_of s Ppi entry.descriptor met.named in
    let guid = c.guid_of-guid.ensures s h.heap_is desc in
    let get = get_next s.ppis c.ppis.ppi entry _ met.rest in
    let found = c.in-Some-match_from.ensures s c.args.sweep.now c.ppis.ppi h.heap_is (c.ppis.invariant.notes s h is) (record { entry = entry; there = get; guid_is = guid; to_is = refl }) in (
      pair_fires s c.args.sweep.now c.ppis.ppi c.ppis.from c.in-Some-match_from.found entry c.guid_of-guid.result c.number_of.result
          c.ppis-test.true get (c.ppis.invariant.left s h is) found guid (c.number_of.ensures s h.heap_is desc),
      found.inside,
    )

pub ppis-preserved : goal.ppis-preserved
ppis-preserved c = record {
  at = λ s h is. (c.in-Some.ensures s Ppis c.ppis.ppi h.heap_is (c.ppis.invariant.at s h is)).next;
  first = c.ppis.invariant.first;
  notes = c.ppis.invariant.first;
  left = λ s h is.
      let met = c.in-Some.ensures s Ppis c.ppis.ppi h.heap_is (c.ppis.invariant.at s h is) in
      let entry = c.in-Some.met.entry in
      let desc = desc_of s Ppi entry.descriptor met.named in
      let guid = c.guid_of-guid.ensures s h.heap_is desc in
      let get = get_next s.ppis c.ppis.ppi entry _ met.rest in
      let none = c.in-None-match_from.ensures s c.args.sweep.now c.ppis.ppi h.heap_is (c.ppis.invariant.notes s h is) (record { entry = entry; there = get; guid_is = guid; to_is = refl }) in
      none_here s c.args.sweep.now c.ppis.ppi c.ppis.from (next_match s c.args.sweep.now) c.ppis-test.true (c.ppis.invariant.left s h is) none;
}
