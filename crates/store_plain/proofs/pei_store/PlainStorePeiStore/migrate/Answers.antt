use Rattle.store_plain.proofs.Rows.{move_row}
use Rattle.store_plain.proofs.pei_store.PlainStorePeiStore.migrate.Goals as goal

pub returns : goal.returns
returns c = record { row = move_row c.args.self.now c.move_to_memory.new.self c.move_to_memory.result c.move_to_memory.ensures }
