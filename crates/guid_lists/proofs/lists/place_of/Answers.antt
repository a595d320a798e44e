use Rattle.std.proofs.Common.{nat_lt, ℕ, Bool, rules}
use Rattle.std.proofs.lemmas.List.Sorted.{IsPartitionPoint-from_clause, IsPartitionedBy-ltb}
use Rattle.guid_lists.proofs.Rising.{rising, weakly, cut}
use Rattle.guid_lists.proofs.lists.place_of.Goals as goal

pub returns-clause-place : goal.returns-clause-place
returns-clause-place c =
    let below : ℕ → Bool = λ other. nat_lt other c.args.number in
    let parted = IsPartitionedBy-ltb (λ x. x) c.args.numbers.now c.args.number (rising (λ x. x) c.args.numbers.now (weakly c.args.numbers.now c.requires)) in
    cut below c.args.numbers.now c.partition_point.result c.partition_point.ensures.bound
    (IsPartitionPoint-from_clause below c.args.numbers.now c.partition_point.result c.partition_point.ensures.partitioned parted (λ a r q k. search rules))
