use Rattle.std.proofs.Common.{◌<◌, ◌∙◌, ℕ, ap, subst, arith, length, get_or, List}
use Rattle.mod_catalog.specs.Parts.{part_at}
use Rattle.pi_base.specs.declared.phase.Phase.{Phase}
use Rattle.wait_index.specs.{Discovery.opens, Discovery.HaveCome, Index.order_in, Installed.is_there, Verdict.verdict_of, Places.order_of}
use Rattle.wait_index.proofs.Discoveries.{is_new, each_at, come_more, index_from, take_all}
use Rattle.wait_index.proofs.index.WaitIndex.discover.Goals as goal

pub add-requires-clause-is_new : goal.add-requires-clause-is_new
add-requires-clause-is_new c =
    is_new (order_in c.args.self.now) (order_of c.parts.self.places) c.args.parts.now c.parts.number-index c.parts-test.true c.requires.differ c.parts.invariant.come.order

pub add-requires-clause-within : goal.add-requires-clause-within
add-requires-clause-within c =
    let less = each_at (λ number. number < length c.args.catalog.now.modules) c.args.parts.now c.parts.number-index c.requires.known c.parts-test.true in
    omega (arith, less, c.parts.invariant.come.as_many, c.requires.index.as_many)

pub add-requires-clause-few : goal.add-requires-clause-few
add-requires-clause-few c = omega (arith, c.requires.catalog.few_modules, c.parts.invariant.come.as_many, c.requires.index.as_many)

pub parts-preserved : goal.parts-preserved
parts-preserved c =
    let index = c.args.self.now in
    let item = get_or c.args.parts.now c.parts.number-index 0 in
    record {
      phase = c.parts.invariant.phase;
      installed = c.parts.invariant.installed;
      watchers = c.parts.invariant.watchers;
      judged = c.add.ensures.judged (verdict_of index.phase c.args.catalog.now (is_there index.installed)) c.parts.invariant.judged;
      come = come_more index.phase c.args.catalog.now c.args.parts.now c.parts.number-index index.places c.parts.self.places c.add.new.self c.opens-is_open.result c.parts-test.true
          (c.opens-is_open.ensures ∙ ap (λ (p : Phase). opens p (part_at p c.args.catalog.now item)) c.parts.invariant.phase) c.parts.invariant.come
          c.add.ensures.order c.add.ensures.here c.add.ensures.others c.add.ensures.as_many;
      owed = omega (arith, c.parts.invariant.owed, c.add.ensures.owed);
    }

pub returns : goal.returns
returns c =
    let index = c.args.self.now in
    let come = subst (λ (xs : List ℕ). HaveCome index.phase c.args.catalog.now xs index.places c.parts.self.places) (take_all c.args.parts.now c.parts.number-index c.parts-test.false) c.parts.invariant.come in
    record {
      index = index_from c.args.catalog.now index c.parts.self c.parts.invariant.phase c.parts.invariant.installed c.parts.invariant.watchers c.requires.index
          c.parts.invariant.judged c.parts.invariant.come.as_many;
      come = come;
      phase = c.parts.invariant.phase;
      installed = c.parts.invariant.installed;
      owed = omega (arith, c.parts.invariant.owed, c.parts.auto.number-index-end);
    }
