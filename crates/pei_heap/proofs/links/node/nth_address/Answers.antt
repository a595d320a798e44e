use Rattle.std.proofs.Common.{◌≡◌, ◌-◌, drop, arith, ap, ◌∙◌}
use Rattle.store_laws.specs.Items.{items, first_address}
use Rattle.pei_heap.proofs.Nth.{none_left, found, next}
use Rattle.pei_heap.proofs.links.node.nth_address.Goals as goal

pub returns-then-left-eq0 : goal.returns-then-left-eq0
returns-then-left-eq0 c s list h =
    let here : c.args.place - c.nodes.left ≡ c.args.place = omega (arith, c.if-left-eq0.true) in
    found s list c.args.place c.nodes.at c.nodes-test.true (c.nodes.invariant.at s list h ∙ ap (λ n. first_address s.base (drop n (items s list))) here)

pub returns : goal.returns
returns c s list h = none_left s list c.args.heap.now c.args.base c.args.head (c.args.place - c.nodes.left) c.args.place c.nodes.at h (c.nodes.invariant.at s list h) c.nodes-test.false (omega arith)

pub nodes-preserved : goal.nodes-preserved
nodes-preserved c = record {
  at = λ s list h.
      next s list c.args.heap.now c.args.base c.args.head (c.args.place - c.nodes.left) (c.args.place - (c.nodes.left - 1)) c.nodes.at c.word_in-at.result c.nodes_read.ensures.next h c.nodes-test.true (c.nodes.invariant.at s list h) c.word_in-at.ensures
      (omega (arith, c.if-left-eq0.false, c.nodes.invariant.left));
  left = omega (arith, c.nodes.invariant.left);
}
