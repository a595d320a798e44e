use Rattle.store_model.specs.Service.Pool.{store}
use Rattle.mem_store.proofs.{Kept.stored_on, Saying.facts_of}
use Rattle.mem_store.proofs.pei_store.MemStorePeiStore.store.Goals as goal

pub returns : goal.returns
returns c = record {
  row = λ s h.
      let after = c.write_pool.ensures s (h.0.memory, h.1) in
      let service = store s c.args.pool c.args.at c.args.bytes.now in
      let keeps = c.services_keep_rows.ensures.store s c.args.pool c.args.at c.args.bytes.now (facts_of c.args.self.now.behind s h.0.memory) h.1 in
      (after.0, after.1, record { memory = after.2; index = stored_on c.args.self.now.index s after.0 service c.write_pool.result keeps after.1 h.0.index });
}
