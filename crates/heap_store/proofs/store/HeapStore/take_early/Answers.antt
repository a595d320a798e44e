use Rattle.std.proofs.Common.{◌≡◌, ◌∙◌, ◌+◌, ◌*◌, false, sym, refl}
use Rattle.heap_store.proofs.Rows.{early_is, early_none, early_some}
use Rattle.heap_store.proofs.store.HeapStore.take_early.Goals as goal

pub returns-in-Some : goal.returns-in-Some
returns-in-Some c s h =
    let before : s.moved ≡ false = sym h.moved ∙ c.requires.before in
    early_some c.args.self.now s c.early_pages.new.memory c.args.memory_type c.args.count c.in-Some.lowest (c.args.self.now.early + 4096 * c.args.count) h before refl
    (c.in-Some.ensures s (early_is c.args.self.now s h before))

pub returns-in-None : goal.returns-in-None
returns-in-None c s h =
    let before : s.moved ≡ false = sym h.moved ∙ c.requires.before in
    early_none c.args.self.now s c.early_pages.new.memory c.args.memory_type c.args.count h (c.in-None.ensures s (early_is c.args.self.now s h before))
