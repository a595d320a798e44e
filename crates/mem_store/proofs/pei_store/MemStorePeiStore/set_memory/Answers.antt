use Rattle.store_model.specs.Service.Memory as M
use Rattle.std.proofs.Common.{refl}
use Rattle.mem_store.proofs.Kept.{kept}
use Rattle.mem_store.proofs.pei_store.MemStorePeiStore.set_memory.Goals as goal

pub returns : goal.returns
returns c = record {
  row = kept (λ s. M.set_memory s c.args.begin c.args.len) c.args.self.now (record c.args.self.now { behind = c.plan_memory.new.self }) c.plan_memory.result refl
      (λ s. c.services_keep_rows.ensures.set_memory s c.args.begin c.args.len) c.plan_memory.ensures;
}
