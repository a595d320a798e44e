use Rattle.store_model.specs.Service.Pool.{pool}
use Rattle.heap_store.proofs.Rows.{pool_adds, row_some}
use Rattle.heap_store.proofs.store.HeapStore.make_pool.Goals as goal

pub returns-in-Some : goal.returns-in-Some
returns-in-Some c = row_some (λ s. pool s c.args.size) c.args.self.now c.pool.new.memory c.in-Some.pool (λ s. pool_adds s c.args.size) c.in-Some.ensures
