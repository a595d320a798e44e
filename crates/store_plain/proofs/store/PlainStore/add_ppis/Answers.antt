use Rattle.std.proofs.Common.{◌≡◌, ◌+◌, drop, length, subst, ◌∙◌, arith}
use Rattle.store_model.specs.Service.Install.{with_ppi}
use Rattle.store_plain.specs.{PlainState.state_of, Nodes.HasNodes}
use Rattle.store_plain.proofs.Folds.{fold_on, one_less, none_less}
use Rattle.store_plain.proofs.store.PlainStore.add_ppis.Goals as goal

pub descs-preserved : goal.descs-preserved
descs-preserved c =
    let xs = c.args.list.now in
    let i = c.descs.d-index in
    let left = one_less i xs c.descs-test.true in
    record {
      state = fold_on (with_ppi c.args.by) (state_of c.descs.self) (state_of c.push_ppi.new.self) xs i _ c.descs-test.true c.push_ppi.ensures.state ∙ c.descs.invariant.state;
      nodes = c.push_ppi.ensures.nodes (length (drop (i + 1) xs)) (subst (HasNodes c.descs.self) left c.descs.invariant.nodes);
      later = λ n h. let more : length (drop i xs) + n ≡ length (drop (i + 1) xs) + n + 1 = omega (arith, left) in
          c.push_ppi.ensures.nodes (length (drop (i + 1) xs) + n) (subst (HasNodes c.descs.self) more (c.descs.invariant.later n h));
      memory = omega (arith, left, c.push_ppi.ensures.len, c.push_ppi.ensures.capacity, c.descs.invariant.memory);
      pendings = c.push_ppi.ensures.pendings ∙ c.descs.invariant.pendings;
    }

pub returns-clause-nodes : goal.returns-clause-nodes
returns-clause-nodes c = λ n h.
    let none : length (drop c.descs.d-index c.args.list.now) + n ≡ n = omega (arith, none_less c.descs.d-index c.args.list.now c.descs-test.false) in
    subst (HasNodes c.descs.self) none (c.descs.invariant.later n h)
