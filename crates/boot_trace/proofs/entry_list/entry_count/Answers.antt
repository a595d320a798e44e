use Rattle.std.proofs.Common.{arith}
use Rattle.boot_trace.proofs.EntryPlaces.{none_behind, told_at}
use Rattle.boot_trace.proofs.entry_list.entry_count.Goals as goal

pub overflow_add-count : goal.overflow_add-count
overflow_add-count g c =
    let s = c.requires.state in
    let facts = g.met.M.PeiStore.facts c.args.store.now s.0 s.1 in
    let law = c.entries_are_told.ensures in
    let told = told_at law s.0 c.args.list c.entries.node c.entries.count c.in-Some.told facts (c.entries.invariant s.0 s.1) (c.in-Some.ensures.row s.0 s.1 (c.entries.invariant s.0 s.1).is_in) in
    omega (arith, told.within, law.few s.0 c.args.list facts)

pub entries-preserved : goal.entries-preserved
entries-preserved g c s stands =
    (told_at c.entries_are_told.ensures s c.args.list c.entries.node c.entries.count c.in-Some.told (g.met.M.PeiStore.facts c.args.store.now s stands) (c.entries.invariant s stands)
    (c.in-Some.ensures.row s stands (c.entries.invariant s stands).is_in)).next

pub returns : goal.returns
returns g c = record {
  row = λ s stands needs.
      let at = c.entries.invariant s stands in
      none_behind c.entries_are_told.ensures s c.args.list c.entries.node c.entries.count at (c.in_default.ensures.row s stands at.is_in);
}
