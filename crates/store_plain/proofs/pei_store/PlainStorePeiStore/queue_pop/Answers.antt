use Rattle.store_plain.proofs.Rows.{queue_row}
use Rattle.store_plain.proofs.pei_store.PlainStorePeiStore.queue_pop.Goals as goal

pub returns : goal.returns
returns c = record { row = queue_row c.args.self.now c.pop_pending.new.self c.pop_pending.result c.pop_pending.ensures }
