use Rattle.std.proofs.Common.{◌≡◌, ◌==◌, drop, ◌||◌}
use Rattle.std.specs.List.{list_any}
use Rattle.store_plain.proofs.store.PlainStore.is_pending.Given as goal

abbrev pub invariant-pendings : goal.invariant-pendings
invariant-pendings l =
    list_any (λ pending. pending.descriptor == l.place || pending.ppi == l.place) (drop l.pending-index l.self.pendings.items)
    ≡ list_any (λ pending. pending.descriptor == l.place || pending.ppi == l.place) l.self.pendings.items
