use Rattle.store_plain.proofs.Rows.{store_row}
use Rattle.store_plain.proofs.pei_store.PlainStorePeiStore.store.Goals as goal

pub returns : goal.returns
returns c = record { row = store_row c.args.pool c.args.at c.args.bytes.now c.args.self.now c.write_pool.new.self c.write_pool.result c.write_pool.ensures }
