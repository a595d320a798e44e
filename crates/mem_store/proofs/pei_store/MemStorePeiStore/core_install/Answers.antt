use Rattle.std.proofs.Common.{subst}
use Rattle.mem_store.specs.Serving.{After, RowsOfCore}
use Rattle.mem_store.proofs.{Kept.refused, Put.core_says, Saying.facts_of}
use Rattle.mem_store.proofs.pei_store.MemStorePeiStore.core_install.Goals as goal

pub put_core-requires : goal.put_core-requires
put_core-requires c =
    let after = c.in-Ok.ensures c.requires.state.0 c.requires.state.1.memory in
    (after.0, after.2, tt)

pub returns-in-Ok : goal.returns-in-Ok
returns-in-Ok c = record {
  row = λ s h.
      let after = c.in-Ok.ensures s h.memory in
      let keeps = c.services_keep_rows.ensures.core_install s (facts_of c.args.self.now.behind s h.memory) in
      let rows = subst (λ r. After (RowsOfCore s) r) after.1 keeps in
      let become = c.put_core.ensures.rows after.0 after.2 tt in
      (after.0, after.1, record { memory = after.2; index = core_says c.rows_answer.ensures c.args.self.now.index c.put_core.new.self s after.0 rows c.put_core.ensures.named become h.index });
}

pub returns-in-Err : goal.returns-in-Err
returns-in-Err c = record { row = λ s h. refused _ _ s c.in-Err.fault (c.in-Err.ensures s h.memory) h.index }
