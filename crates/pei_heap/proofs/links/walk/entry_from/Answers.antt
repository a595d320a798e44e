use Rattle.std.proofs.Common.{refl}
use Rattle.store_model.specs.HeapImage.{heap_image}
use Rattle.store_laws.specs.{Items.first_address, Items.items, Mapped.layout_of}
use Rattle.pei_heap.proofs.Nth.{get_next, within}
use Rattle.pei_heap.proofs.Walking.{behind_base, headed_at, item_at, met, no_more, none_at}
use Rattle.pei_heap.proofs.links.walk.entry_from.Goals as goal

pub returns-then-at-eq0 : goal.returns-then-at-eq0
returns-then-at-eq0 c s list place h stands = no_more s list place stands.entries (none_at s list place c.args.at h.state c.if-at-eq0.true stands.here)

pub read_node-node-requires : goal.read_node-node-requires
read_node-node-requires c =
    let s = c.requires.0 in
    let list = c.requires.1 in
    let place = c.requires.2 in
    let h = c.requires.3 in
    let found = item_at s list place c.args.at c.if-at-eq0.false c.requires.4.here in
    let head = first_address s.base (items s list) in
    let headed = headed_at s list c.args.heap.now c.args.memory.now c.bytes-bytes.result head h (c.bytes-bytes.ensures (layout_of s) (heap_image s) h.image) refl in
    (s, list, place, found.item, head, headed, get_next (items s list) place found.item found.rest found.there, found.at_is)

pub overflow_sub-entry-2 : goal.overflow_sub-entry-2
overflow_sub-entry-2 c =
    let s = c.requires.0 in
    let list = c.requires.1 in
    let place = c.requires.2 in
    let h = c.requires.3 in
    let found = item_at s list place c.args.at c.if-at-eq0.false c.requires.4.here in
    let head = first_address s.base (items s list) in
    let headed = headed_at s list c.args.heap.now c.args.memory.now c.bytes-bytes.result head h (c.bytes-bytes.ensures (layout_of s) (heap_image s) h.image) refl in
    let node = c.read_node-node.ensures s list place found.item head headed (get_next (items s list) place found.item found.rest found.there) found.at_is in
    behind_base s list place c.args.heap.now.span.base c.read_node-node.result found.item found.rest c.nodes_read.ensures.inside h.state h.image.base found.there node

pub word_in-next-requires : goal.word_in-next-requires
word_in-next-requires c =
    let s = c.requires.0 in
    let list = c.requires.1 in
    let place = c.requires.2 in
    let h = c.requires.3 in
    let head = first_address s.base (items s list) in
    let headed = headed_at s list c.args.heap.now c.args.memory.now c.bytes-bytes.result head h (c.bytes-bytes.ensures (layout_of s) (heap_image s) h.image) refl in
    (within s list c.bytes-bytes.result c.args.heap.now.span.base head place c.args.at headed c.if-at-eq0.false c.requires.4.here).1

pub returns : goal.returns
returns c s list place h stands =
    let found = item_at s list place c.args.at c.if-at-eq0.false stands.here in
    let head = first_address s.base (items s list) in
    let headed = headed_at s list c.args.heap.now c.args.memory.now c.bytes-bytes.result head h (c.bytes-bytes.ensures (layout_of s) (heap_image s) h.image) refl in
    let node = c.read_node-node.ensures s list place found.item head headed (get_next (items s list) place found.item found.rest found.there) found.at_is in
    let low = behind_base s list place c.args.heap.now.span.base c.read_node-node.result found.item found.rest c.nodes_read.ensures.inside h.state h.image.base found.there node in
    met s list place c.args.at c.args.heap.now.span.base c.word_in-next.result c.bytes-bytes.result c.read_node-node.result found.item found.rest
    c.named_are_there.ensures c.nodes_read.ensures.next headed c.if-at-eq0.false stands found.there found.at_is node low c.word_in-next.ensures
