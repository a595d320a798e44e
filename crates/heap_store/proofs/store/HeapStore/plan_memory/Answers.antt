use Rattle.std.proofs.Common.{◌≡◌, ◌∙◌, true, sym}
use Rattle.store_model.specs.Service.Memory.{is_memory}
use Rattle.heap_store.proofs.Rows.{plan_row}
use Rattle.heap_store.proofs.store.HeapStore.plan_memory.Goals as goal

pub returns : goal.returns
returns c s h =
    let is : is_memory s c.args.begin c.args.len ≡ true = sym (c.is_memory.ensures s h tt) ∙ c.if-not-is_memory.false in
    plan_row c.args.self.now s _ h is (c.services_keep_facts.ensures.set_memory s c.args.begin c.args.len h.linked.heap_is.state)
