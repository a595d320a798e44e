use Rattle.std.proofs.Common.{◌≡◌, ◌+◌, ◌==◌, drop, refl, sym, true, false, arith}
use Rattle.std.proofs.lemmas.Bool.Decides.{nat_tests}
use Rattle.store_model.specs.{declared.state.Entry.Entry, declared.store_handle.EntryList.TheVariants.Ppis}
use Rattle.store_model.specs.Service.Install.{is_installed, place_of}
use Rattle.pei_heap.proofs.Finding.{any_end, any_no, any_yes, drop_all}
use Rattle.pei_heap.proofs.Named.{installed_is, place_here, place_past}
use Rattle.pei_heap.proofs.links.renaming.find_ppi.Goals as goal

pub ppis-init : goal.ppis-init
ppis-init c = record {
  at = λ s h. record { entries = tt; here = h.heads_are.ppi_ends.first };
  before = λ s h. omega arith;
  left = λ s h. installed_is c.args.d.offset s.ppis;
}

pub returns-in-None : goal.returns-in-None
returns-in-None c s h =
    sym (any_end (λ (x : Entry). x.descriptor == c.args.d.offset) (drop c.ppis.place s.ppis) (is_installed s c.args.d) (c.in-None.ensures s Ppis c.ppis.place h.heap_is (c.ppis.invariant.at s h)) (c.ppis.invariant.left s h))

pub returns-then-met-d : goal.returns-then-met-d
returns-then-met-d c s h =
    let met = c.in-Some.ensures s Ppis c.ppis.place h.heap_is (c.ppis.invariant.at s h) in
    let rest = drop (c.ppis.place + 1) s.ppis in
    let count = h.heads_are.ppis_are in
    let below = c.ppis-test.true in
    let same = c.if-met-d.true in
    let yes : true ≡ (c.in-Some.met.entry.descriptor == c.args.d.offset) = grind (arith, nat_tests, same) in
    record {
      entry = c.in-Some.met.entry;
      rest = rest;
      there = met.rest;
      place_is = place_here (drop c.ppis.place s.ppis) rest c.in-Some.met.entry c.args.d.offset (place_of s.ppis c.args.d.offset) c.ppis.place met.rest (c.ppis.invariant.before s h) yes;
      node_is = refl;
      inside = omega (arith, count, below);
      installed = sym (any_yes (λ (x : Entry). x.descriptor == c.args.d.offset) (drop c.ppis.place s.ppis) rest c.in-Some.met.entry (is_installed s c.args.d) met.rest (c.ppis.invariant.left s h) yes);
    }

pub ppis-preserved : goal.ppis-preserved
ppis-preserved c =
    let other = c.if-met-d.false in
    let no : false ≡ (c.in-Some.met.entry.descriptor == c.args.d.offset) = grind (arith, nat_tests, other) in
    record {
      at = λ s h. (c.in-Some.ensures s Ppis c.ppis.place h.heap_is (c.ppis.invariant.at s h)).next;
      before = λ s h.
          let met = c.in-Some.ensures s Ppis c.ppis.place h.heap_is (c.ppis.invariant.at s h) in
          place_past (drop c.ppis.place s.ppis) (drop (c.ppis.place + 1) s.ppis) c.in-Some.met.entry c.args.d.offset (place_of s.ppis c.args.d.offset) c.ppis.place met.rest (c.ppis.invariant.before s h) no;
      left = λ s h.
          let met = c.in-Some.ensures s Ppis c.ppis.place h.heap_is (c.ppis.invariant.at s h) in
          any_no (λ (x : Entry). x.descriptor == c.args.d.offset) (drop c.ppis.place s.ppis) (drop (c.ppis.place + 1) s.ppis) c.in-Some.met.entry (is_installed s c.args.d) met.rest (c.ppis.invariant.left s h) no;
    }

pub returns : goal.returns
returns c s h =
    let count = h.heads_are.ppis_are in
    let past = c.ppis-test.false in
    let none = drop_all s.ppis c.ppis.place (omega (arith, count, past)) in
    sym (any_end (λ (x : Entry). x.descriptor == c.args.d.offset) (drop c.ppis.place s.ppis) (is_installed s c.args.d) none (c.ppis.invariant.left s h))
