use Rattle.std.proofs.Common.{subst, sym}
use Rattle.mem_store.specs.Serving.{RowsSame}
use Rattle.mem_store.proofs.Saying.{facts_of, same_says}
use Rattle.mem_store.proofs.pei_store.MemStorePeiStore.set_boot_mode.Goals as goal

pub returns : goal.returns
returns c = record {
  row = λ s h.
      let after = c.change_boot_mode.ensures s h.memory in
      let keeps = c.services_keep_rows.ensures.boot_mode s c.args.mode (facts_of c.args.self.now.behind s h.memory) in
      let same = subst (RowsSame s) (sym after.1) keeps in
      (after.0, after.1, record { memory = after.2; index = same_says c.args.self.now.index s after.0 same h.index });
}
