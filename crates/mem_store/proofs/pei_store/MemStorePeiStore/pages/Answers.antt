use Rattle.store_model.specs.Service.Memory as M
use Rattle.std.proofs.Common.{refl}
use Rattle.mem_store.proofs.Kept.{kept}
use Rattle.mem_store.proofs.pei_store.MemStorePeiStore.pages.Goals as goal

pub returns : goal.returns
returns c = record {
  row = kept (λ s. M.pages s c.args.memory_type c.args.count) c.args.self.now (record c.args.self.now { behind = c.take_pages.new.self }) c.take_pages.result refl
      (λ s. c.services_keep_rows.ensures.pages s c.args.memory_type c.args.count) c.take_pages.ensures;
}
