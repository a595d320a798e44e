use Rattle.std.proofs.Common.{Some, ap, sym, ◌∙◌, option_map, slice_get}
use Rattle.store_laws.specs.Items.{items}
use Rattle.pei_heap.specs.Node.{node_of}
use Rattle.pei_heap.proofs.NodeFields.{found_item, none_item}
use Rattle.pei_heap.proofs.links.node.nth_node.Goals as goal

pub read_node-requires : goal.read_node-requires
read_node-requires c =
    let s = c.requires.0 in
    let list = c.requires.1 in
    let h = c.requires.2 in
    let found = found_item s (items s list) c.in-Some.at (slice_get (items s list) c.args.place) (c.in-Some.ensures s list h) in
    (s, list, c.args.place, found.0, c.args.head, h, found.1, found.2)

pub returns-in-Some : goal.returns-in-Some
returns-in-Some c s list h =
    let found = found_item s (items s list) c.in-Some.at (slice_get (items s list) c.args.place) (c.in-Some.ensures s list h) in
    ap Some (c.read_node.ensures s list c.args.place found.0 c.args.head h found.1 found.2) ∙ sym (ap (option_map (node_of s.base)) found.1)

pub returns-in-None : goal.returns-in-None
returns-in-None c s list h = none_item s (slice_get (items s list) c.args.place) (c.in-None.ensures s list h)
