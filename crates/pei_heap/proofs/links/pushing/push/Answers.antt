use Rattle.std.proofs.Common.{◌≡◌, ◌+◌, Some, length, ap, sym, ◌∙◌, arith, subst}
use Rattle.store_model.specs.{StoreState.next_body, HeapImage.heap_image, HeapImage.links_bytes, Service.Install.with_node}
use Rattle.store_laws.specs.Mapped.{layout_of}
use Rattle.pei_heap.specs.{declared.links.heads.Heads.Heads, Linked.AreHeads, NewEntry.with_entry, NewEntry.with_last_node}
use Rattle.pei_heap.proofs.Ends.{few_entries, still_heads}
use Rattle.pei_heap.proofs.Pushed.{AreLinked, node_room, pushed, tail_inside}
use Rattle.pei_heap.proofs.links.pushing.push.Goals as goal

pub name_next-requires : goal.name_next-requires
name_next-requires c =
    let s = c.requires.0 in
    let is = c.requires.1.heap_is in
    let ready = c.requires.2 in
    let list = c.args.list in
    let node : c.node-node.result ≡ next_body s = c.node-node.ensures.offset s is in
    let made = c.node-node.ensures.made s is ready.room in
    let long : length c.as_slice.result.now ≡ 32 = ap length (c.as_slice.ensures ∙ c.node_text-text.ensures.text) in
    let room = node_room list c.args.entry s is.state ready in
    let first = c.put.ensures (layout_of s) (heap_image (with_node s)) made.image (omega (arith, node, long, room)) in
    (layout_of s, _, first, tail_inside s list c.last-last.result c.heads_moved.ensures.inside is.state (c.last-last.ensures s c.requires.1.heads_are))

pub push-requires-clause-ppis : goal.push-requires-clause-ppis
push-requires-clause-ppis c =
    let few = few_entries c.requires.0 c.entries_are_told.ensures c.requires.1.heap_is.state in
    let count = c.requires.1.heads_are.ppis_are in
    omega (arith, few.0, count)

pub push-requires-clause-notes : goal.push-requires-clause-notes
push-requires-clause-notes c =
    let few = few_entries c.requires.0 c.entries_are_told.ensures c.requires.1.heap_is.state in
    let count = c.requires.1.heads_are.notes_are in
    omega (arith, few.1, count)

pub returns : goal.returns
returns c s h ready =
    let is = h.heap_is in
    let list = c.args.list in
    let entry = c.args.entry in
    let heads = c.args.heads.now in
    let base : c.args.heap.now.span.base ≡ s.base = is.image.base in
    let node : c.node-node.result ≡ next_body s = c.node-node.ensures.offset s is in
    let made = c.node-node.ensures.made s is ready.room in
    let text = c.as_slice.ensures ∙ c.node_text-text.ensures.text
    ∙ ap (λ n. links_bytes (Some (record { next = 0; descriptor = c.args.heap.now.span.base + entry.descriptor; second = n; number = entry.by }))) c.second-second.ensures in
    let long : length c.as_slice.result.now ≡ 32 = ap length (c.as_slice.ensures ∙ c.node_text-text.ensures.text) in
    let room = node_room list entry s is.state ready in
    let last = c.last-last.ensures s h.heads_are in
    let first = c.put.ensures (layout_of s) (heap_image (with_node s)) made.image (omega (arith, node, long, room)) in
    let second = c.name_next.ensures (layout_of s) _ first (tail_inside s list c.last-last.result c.heads_moved.ensures.inside is.state last) in
    let laws : AreLinked = record { ppi = c.nodes_linked.ensures.ppi; callback = c.nodes_linked.ensures.callback; dispatch = c.nodes_linked.ensures.dispatch; pair = c.nodes_linked.ensures.pair } in
    let address : c.args.heap.now.span.base + c.node-node.result ≡ s.base + next_body s = omega (arith, base, node) in
    let moved = c.heads_moved.ensures in
    let ends = still_heads list entry s heads moved.first_pushed moved.last_pushed moved.pushed is.state h.heads_are in
    record {
      heap_is = pushed list entry s c.args.heap.now c.args.memory.now c.name_next.new.memory c.last-last.result c.node-node.result c.as_slice.result.now laws moved.named c.steps_keep_facts.ensures is ready c.node_text-text.ensures.by last node text second;
      heads_are = subst (λ (x : Heads). AreHeads (with_entry list entry s) x) (sym (c.push.ensures ∙ ap (λ n. with_last_node list n heads) address)) ends;
    }
