use Rattle.store_model.specs.Service.Pool.{pool}
use Rattle.store_laws.proofs.Services.{all_keep}
use Rattle.store_plain.proofs.Rows.{row_of}
use Rattle.store_plain.proofs.pei_store.PlainStorePeiStore.pool.Goals as goal

pub returns : goal.returns
returns c = record { row = row_of (λ s. pool s c.args.size) c.args.self.now c.make_pool.new.self c.make_pool.result (λ s facts. all_keep.pool s c.args.size facts) c.make_pool.ensures }
