use Rattle.std.proofs.Common.{arith, rules, ◌∙◌, ap, drop}
use Rattle.pi_base.specs.Field.{little_number}
use Rattle.pei_heap.proofs.Halves.{second_decides}
use Rattle.pei_heap.proofs.links.guid.same_guid.Goals as goal

pub returns-then-u64_at : goal.returns-then-u64_at
returns-then-u64_at c =
    let a = c.args.a.now.0 in
    let b = c.args.b.now.0 in
    second_decides a b c.u64_at.result c.u64_at-2.result c.u64_at-then-u64_at.result c.u64_at-then-u64_at-2.result c.little_endian.ensures.spelled
    (search rules) (search rules) (omega arith) (omega arith) (c.u64_at.ensures ∙ ap (λ l. little_number 8 (drop 0 l)) c.as_slice-ours.ensures) (c.u64_at-2.ensures ∙ ap (λ l. little_number 8 (drop 0 l)) c.as_slice-others.ensures)
    (c.u64_at-then-u64_at.ensures ∙ ap (λ l. little_number 8 (drop 8 l)) c.as_slice-ours.ensures) (c.u64_at-then-u64_at-2.ensures ∙ ap (λ l. little_number 8 (drop 8 l)) c.as_slice-others.ensures)
    c.if-u64_at.true
