use Rattle.std.proofs.Common.{arith}
use Rattle.pei_heap.proofs.NodeFields.{node_inside, node_is, number_small}
use Rattle.pei_heap.proofs.links.node.read_node.Goals as goal

pub overflow_sub-offset : goal.overflow_sub-offset
overflow_sub-offset c =
    let r = c.requires in
    let inside = node_inside r.0 r.1 c.args.heap.now c.args.base r.4 r.2 c.args.at r.3 c.nodes_read.ensures.inside r.5 r.6 r.7 in inside.0

pub word_in-requires : goal.word_in-requires
word_in-requires c =
    let r = c.requires in
    let inside = node_inside r.0 r.1 c.args.heap.now c.args.base r.4 r.2 c.args.at r.3 c.nodes_read.ensures.inside r.5 r.6 r.7 in
    let fits = inside.1 in omega (arith, fits)

pub word_in-requires-2 : goal.word_in-requires-2
word_in-requires-2 c =
    let r = c.requires in
    let inside = node_inside r.0 r.1 c.args.heap.now c.args.base r.4 r.2 c.args.at r.3 c.nodes_read.ensures.inside r.5 r.6 r.7 in
    let fits = inside.1 in omega (arith, fits)

pub word_in-requires-3 : goal.word_in-requires-3
word_in-requires-3 c =
    let r = c.requires in
    let inside = node_inside r.0 r.1 c.args.heap.now c.args.base r.4 r.2 c.args.at r.3 c.nodes_read.ensures.inside r.5 r.6 r.7 in
    let fits = inside.1 in omega (arith, fits)

pub returns : goal.returns
returns c s list place item head h e here =
    let law = c.nodes_read.ensures in
    node_is s list c.args.heap.now c.args.base head place c.args.at c.word_in.result c.word_in-2.result c.word_in-3.result item law.descriptor law.second law.number h e here c.word_in.ensures c.word_in-2.ensures c.word_in-3.ensures

pub overflow_add-offset : goal.overflow_add-offset
overflow_add-offset c =
    let r = c.requires in
    let inside = node_inside r.0 r.1 c.args.heap.now c.args.base r.4 r.2 c.args.at r.3 c.nodes_read.ensures.inside r.5 r.6 r.7 in
    let fits = inside.2 in omega (arith, fits)

pub overflow_add-offset-2 : goal.overflow_add-offset-2
overflow_add-offset-2 c =
    let r = c.requires in
    let inside = node_inside r.0 r.1 c.args.heap.now c.args.base r.4 r.2 c.args.at r.3 c.nodes_read.ensures.inside r.5 r.6 r.7 in
    let fits = inside.2 in omega (arith, fits)

pub overflow_add-offset-3 : goal.overflow_add-offset-3
overflow_add-offset-3 c =
    let r = c.requires in
    let inside = node_inside r.0 r.1 c.args.heap.now c.args.base r.4 r.2 c.args.at r.3 c.nodes_read.ensures.inside r.5 r.6 r.7 in
    let fits = inside.2 in omega (arith, fits)

pub overflow_cast-result : goal.overflow_cast-result
overflow_cast-result c =
    let r = c.requires in
    let small = number_small r.0 r.1 c.args.heap.now c.args.base r.4 r.2 c.args.at c.word_in-3.result r.3 c.nodes_read.ensures.number r.5 r.6 r.7 c.word_in-3.ensures in
    grind (arith, small)
