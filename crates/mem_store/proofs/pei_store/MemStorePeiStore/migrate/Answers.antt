use Rattle.std.proofs.Common.{subst, IfSome}
use Rattle.mem_store.specs.Serving.{RowsSame}
use Rattle.mem_store.proofs.Saying.{facts_of, same_says}
use Rattle.mem_store.proofs.pei_store.MemStorePeiStore.migrate.Goals as goal

pub returns : goal.returns
returns c = record {
  row = λ s h.
      let after = c.move_to_memory.ensures s (h.0.memory, h.1) in
      let keeps = c.services_keep_rows.ensures.move s (facts_of c.args.self.now.behind s h.0.memory) in
      let same = subst (λ r. IfSome r (RowsSame s)) after.1.0 keeps in
      (after.0, after.1, record { memory = after.2; index = same_says c.args.self.now.index s after.0 same h.0.index });
}
