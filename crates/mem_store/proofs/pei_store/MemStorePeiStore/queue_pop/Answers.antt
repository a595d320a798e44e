use Rattle.store_model.specs.Service.Queue.{queue_pop}
use Rattle.mem_store.proofs.{Kept.taken_on, Saying.facts_of}
use Rattle.mem_store.proofs.pei_store.MemStorePeiStore.queue_pop.Goals as goal

pub returns : goal.returns
returns c = record {
  row = λ s h.
      let after = c.pop_pending.ensures s h.memory in
      let keeps = c.services_keep_rows.ensures.queue_pop s (facts_of c.args.self.now.behind s h.memory) in
      (after.0, after.1, record { memory = after.2; index = taken_on c.args.self.now.index s after.0 (queue_pop s) c.pop_pending.result keeps after.1 h.index });
}
