use Rattle.heap_store.proofs.Rows.{pop_row}
use Rattle.heap_store.proofs.store.HeapStore.pop_pending.Goals as goal

pub returns : goal.returns
returns c s h = pop_row c.args.self.now s c.pop.new.memory c.pop.new.heads c.pop.result h (c.pop.ensures s h.linked)
