use Rattle.std.proofs.Common.{◌+◌, drop, length, subst, ◌∙◌, arith}
use Rattle.store_model.specs.Service.Install.{with_pending}
use Rattle.store_plain.specs.{PlainState.state_of, Nodes.HasNodes}
use Rattle.store_plain.proofs.Folds.{fold_on, one_less}
use Rattle.store_plain.proofs.store.PlainStore.add_pendings.Goals as goal

pub pairs-preserved : goal.pairs-preserved
pairs-preserved c =
    let xs = c.args.pairs.now in
    let i = c.pairs.pair-index in
    let left = one_less i xs c.pairs-test.true in
    record {
      state = fold_on (with_pending c.args.by) (state_of c.pairs.self) (state_of c.push_pending.new.self) xs i _ c.pairs-test.true c.push_pending.ensures.state ∙ c.pairs.invariant.state;
      nodes = c.push_pending.ensures.nodes (length (drop (i + 1) xs)) (subst (HasNodes c.pairs.self) left c.pairs.invariant.nodes);
      memory = omega (arith, left, c.push_pending.ensures.len, c.push_pending.ensures.capacity, c.pairs.invariant.memory);
    }
