use Rattle.store_model.specs.Service.Pool as P
use Rattle.std.proofs.Common.{refl}
use Rattle.mem_store.proofs.Kept.{kept}
use Rattle.mem_store.proofs.pei_store.MemStorePeiStore.pool.Goals as goal

pub returns : goal.returns
returns c = record {
  row = kept (λ s. P.pool s c.args.size) c.args.self.now (record c.args.self.now { behind = c.make_pool.new.self }) c.make_pool.result refl
      (λ s. c.services_keep_rows.ensures.pool s c.args.size) c.make_pool.ensures;
}
