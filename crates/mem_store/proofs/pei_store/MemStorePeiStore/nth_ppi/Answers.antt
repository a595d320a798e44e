use Rattle.std.proofs.Common.{ap, ◌∙◌, Some, option_map, slice_get}
use Rattle.mem_store.specs.{Entries.entries_of, Rows.told_row}
use Rattle.mem_store.proofs.{Firings.ppi_desc, Saying.facts_of}
use Rattle.mem_store.proofs.pei_store.MemStorePeiStore.nth_ppi.Goals as goal

pub tell_descriptor-requires : goal.tell_descriptor-requires
tell_descriptor-requires c =
    let s = c.requires.state.0 in
    let h = c.requires.state.1 in
    (s, h.memory, ppi_desc c.named_are_there.ensures s c.args.self.now.index c.args.guid.now c.args.n c.in-Some.row (facts_of c.args.self.now.behind s h.memory) (h.index.rows c.if-not-self.false) c.in-Some.ensures)

pub returns-in-Some : goal.returns-in-Some
returns-in-Some c = record {
  row = λ s h needs.
      let says = h.index.rows c.if-not-self.false in
      let desc = ppi_desc c.named_are_there.ensures s c.args.self.now.index c.args.guid.now c.args.n c.in-Some.row (facts_of c.args.self.now.behind s h.memory) says c.in-Some.ensures in
      ap (λ t. Some (record { offset = c.in-Some.row.at }, t.1)) (c.tell_descriptor.ensures s h.memory desc)
      ∙ ap (option_map (told_row s)) (c.in-Some.ensures ∙ ap (λ r. slice_get (entries_of r.ppis c.args.guid.now) c.args.n) says)
      ∙ c.rows_answer.ensures.nth s c.args.guid.now c.args.n;
}
