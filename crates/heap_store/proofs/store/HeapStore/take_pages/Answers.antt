use Rattle.std.proofs.Common.{◌≡◌, ◌∙◌, true, sym}
use Rattle.store_model.specs.Service.Memory.{pages}
use Rattle.heap_store.proofs.Rows.{pages_adds, served_some}
use Rattle.heap_store.proofs.store.HeapStore.take_pages.Goals as goal

pub returns-in-Some : goal.returns-in-Some
returns-in-Some c s h =
    let moved : s.moved ≡ true = sym h.moved ∙ c.if-not-self.false in
    served_some (pages s c.args.memory_type c.args.count) c.args.self.now s c.pages.new.memory c.in-Some.lowest h (pages_adds s c.args.memory_type c.args.count moved)
    (c.in-Some.ensures s (record { heap_is = h.linked.heap_is; moved = moved }))
