use Rattle.std.proofs.Common.{Bool, nat_lt, nat_le, rules}
use Rattle.std.proofs.lemmas.List.Sorted.{IsPartitionPoint-from_clause, IsPartitionedBy-ltb, IsPartitionedBy-leb}
use Rattle.store_model.specs.declared.interface.Interface.{Interface}
use Rattle.guid_lists.proofs.Rising.{rising}
use Rattle.dxe_core.proofs.Stretches.{stretch_is, within}
use Rattle.dxe_core.proofs.database.places.stretch_of.Goals as goal

pub returns-clause-stretch : goal.returns-clause-stretch
returns-clause-stretch c =
    let is = c.args.interfaces.now in
    let handle = c.args.handle in
    let a = c.partition_point in
    let b = c.partition_point-2 in
    let rises = rising (λ i. i.handle) is c.requires in
    let lower : Interface → Bool = λ i. nat_lt i.handle handle in
    let upto : Interface → Bool = λ i. nat_le i.handle handle in
    let first = IsPartitionPoint-from_clause lower is a.result a.ensures.partitioned (IsPartitionedBy-ltb (λ i. i.handle) is handle rises) (λ a r q k. search rules) in
    let second = IsPartitionPoint-from_clause upto is b.result b.ensures.partitioned (IsPartitionedBy-leb (λ i. i.handle) is handle rises) (λ a r q k. search rules) in
    stretch_is handle is a.result b.result (record { begin_within = a.ensures.bound; end_within = b.ensures.bound; below = first.0; not_below = first.1; not_above = second.0; above = second.1 })

pub returns-clause-within : goal.returns-clause-within
returns-clause-within c = within c.args.handle c.args.interfaces.now c.partition_point.result c.partition_point-2.result (returns-clause-stretch c)
