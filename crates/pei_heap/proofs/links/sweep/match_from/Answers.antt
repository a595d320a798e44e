use Rattle.std.proofs.Common.{◌+◌, drop, refl, arith}
use Rattle.store_model.specs.{declared.store_handle.DescKind.TheVariants.Callback, declared.store_handle.EntryList.TheVariants.Callbacks}
use Rattle.store_model.specs.Service.Descriptor.{guid_at}
use Rattle.pei_heap.proofs.Matches.{match_at, match_none, match_past, still_there}
use Rattle.pei_heap.proofs.{Nth.get_next, Walking.desc_of}
use Rattle.pei_heap.proofs.links.sweep.match_from.Goals as goal

pub returns-in-None : goal.returns-in-None
returns-in-None c s sweep ppi h are row =
    let there = are.there in
    let below = c.notes-test.true in
    absurd (still_there s.callbacks c.notes.place (omega (arith, there, below)) (c.in-None.ensures s Callbacks c.notes.place h (c.notes.invariant.at s h are)))

pub is_of-requires : goal.is_of-requires
is_of-requires c =
    let s = c.requires.0 in
    let h = c.requires.1 in
    let met = c.in-Some.ensures s Callbacks c.notes.place h (c.notes.invariant.at s h c.requires.2) in
    (s, h, desc_of s Callback c.in-Some.met.entry.descriptor met.named)

pub number_of-entry-requires : goal.number_of-entry-requires
number_of-entry-requires c =
    let s = c.requires.0 in
    let h = c.requires.1 in
    let met = c.in-Some.ensures s Callbacks c.notes.place h (c.notes.invariant.at s h c.requires.2) in
    (s, h, desc_of s Callback c.in-Some.met.entry.descriptor met.named)

pub overflow_cast-entry : goal.overflow_cast-entry
overflow_cast-entry c =
    let s = c.requires.0 in
    let h = c.requires.1 in
    let met = c.in-Some.ensures s Callbacks c.notes.place h (c.notes.invariant.at s h c.requires.2) in
    let number = c.number_of-entry.ensures s h (desc_of s Callback c.in-Some.met.entry.descriptor met.named) in
    let small = met.named.number_is in
    grind (arith, number, small)

pub returns-then-is_of : goal.returns-then-is_of
returns-then-is_of c s sweep ppi h are row =
    let met = c.in-Some.ensures s Callbacks c.notes.place h (c.notes.invariant.at s h are) in
    let entry = c.in-Some.met.entry in
    let desc = desc_of s Callback entry.descriptor met.named in
    match_at s sweep ppi c.args.from c.notes.place c.args.to c.number_of-entry.result c.args.guid.now (guid_at s entry.descriptor) entry (drop (c.notes.place + 1) s.callbacks)
    c.sweeps_go_on.ensures row c.notes-test.true met.rest (get_next s.callbacks c.notes.place entry _ met.rest) refl (c.number_of-entry.ensures s h desc) (c.if-is_of.ensures s h desc) (c.notes.invariant.left s sweep ppi h are row)

pub notes-preserved : goal.notes-preserved
notes-preserved c = record {
  at = λ s h are. (c.in-Some.ensures s Callbacks c.notes.place h (c.notes.invariant.at s h are)).next;
  left = λ s sweep ppi h are row.
      let met = c.in-Some.ensures s Callbacks c.notes.place h (c.notes.invariant.at s h are) in
      let entry = c.in-Some.met.entry in
      match_past s sweep ppi c.args.from c.notes.place c.args.to c.args.guid.now (guid_at s entry.descriptor) entry
      c.sweeps_go_on.ensures row c.notes-test.true (get_next s.callbacks c.notes.place entry _ met.rest) refl (c.if-is_of.ensures s h (desc_of s Callback entry.descriptor met.named)) (c.notes.invariant.left s sweep ppi h are row);
}

pub returns : goal.returns
returns c s sweep ppi h are row = match_none s sweep ppi c.args.from c.notes.place c.args.to c.args.guid.now row c.notes-test.false (c.notes.invariant.left s sweep ppi h are row)
