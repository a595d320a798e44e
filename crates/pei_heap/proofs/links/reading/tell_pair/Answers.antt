use Rattle.std.proofs.Common.{◌≡◌, ◌+◌, ◌-◌, ap, refl, ◌∙◌, arith}
use Rattle.store_model.specs.HeapImage.{heap_image}
use Rattle.store_model.specs.declared.store_handle.DescKind.TheVariants.{Ppi, Dispatch}
use Rattle.store_model.specs.declared.store_handle.EntryList.TheVariants.{Pendings}
use Rattle.store_model.specs.Service.Descriptor.{guid_at, number_at}
use Rattle.store_laws.specs.{Items.first_address, Items.items, Mapped.layout_of}
use Rattle.pei_heap.proofs.{Nth.get_next, Queue.desc_is}
use Rattle.pei_heap.proofs.Tellings.{no_pending, pair_at, pair_told}
use Rattle.pei_heap.proofs.Walking.{headed_at, item_at, none_at}
use Rattle.pei_heap.proofs.links.reading.tell_pair.Goals as goal

pub returns-then-at-eq0 : goal.returns-then-at-eq0
returns-then-at-eq0 c s place h here = no_pending s place (none_at s Pendings place c.args.at h.state c.if-at-eq0.true here)

pub read_node-node-requires : goal.read_node-node-requires
read_node-node-requires c =
    let s = c.requires.0 in
    let place = c.requires.1 in
    let h = c.requires.2 in
    let found = item_at s Pendings place c.args.at c.if-at-eq0.false c.requires.3 in
    let head = first_address s.base (items s Pendings) in
    let headed = headed_at s Pendings c.args.heap.now c.args.memory.now c.bytes.result head h (c.bytes.ensures (layout_of s) (heap_image s) h.image) refl in
    (s, Pendings, place, found.item, head, headed, get_next (items s Pendings) place found.item found.rest found.there, found.at_is)

pub overflow_sub-ppi : goal.overflow_sub-ppi
overflow_sub-ppi c =
    let s = c.requires.0 in
    let place = c.requires.1 in
    let h = c.requires.2 in
    let found = item_at s Pendings place c.args.at c.if-at-eq0.false c.requires.3 in
    let head = first_address s.base (items s Pendings) in
    let headed = headed_at s Pendings c.args.heap.now c.args.memory.now c.bytes.result head h (c.bytes.ensures (layout_of s) (heap_image s) h.image) refl in
    let node = c.read_node-node.ensures s Pendings place found.item head headed (get_next (items s Pendings) place found.item found.rest found.there) found.at_is in
    let pair = pair_at s place c.args.heap.now.span.base c.read_node-node.result found.item found.rest h.image.base found.there node in
    let there = pair.ppi in
    omega (arith, there)

pub overflow_sub-note : goal.overflow_sub-note
overflow_sub-note c =
    let s = c.requires.0 in
    let place = c.requires.1 in
    let h = c.requires.2 in
    let found = item_at s Pendings place c.args.at c.if-at-eq0.false c.requires.3 in
    let head = first_address s.base (items s Pendings) in
    let headed = headed_at s Pendings c.args.heap.now c.args.memory.now c.bytes.result head h (c.bytes.ensures (layout_of s) (heap_image s) h.image) refl in
    let node = c.read_node-node.ensures s Pendings place found.item head headed (get_next (items s Pendings) place found.item found.rest found.there) found.at_is in
    let pair = pair_at s place c.args.heap.now.span.base c.read_node-node.result found.item found.rest h.image.base found.there node in
    let there = pair.note in
    omega (arith, there)

pub guid_of-guid-requires : goal.guid_of-guid-requires
guid_of-guid-requires c =
    let s = c.requires.0 in
    let place = c.requires.1 in
    let h = c.requires.2 in
    let found = item_at s Pendings place c.args.at c.if-at-eq0.false c.requires.3 in
    let head = first_address s.base (items s Pendings) in
    let headed = headed_at s Pendings c.args.heap.now c.args.memory.now c.bytes.result head h (c.bytes.ensures (layout_of s) (heap_image s) h.image) refl in
    let node = c.read_node-node.ensures s Pendings place found.item head headed (get_next (items s Pendings) place found.item found.rest found.there) found.at_is in
    let pair = pair_at s place c.args.heap.now.span.base c.read_node-node.result found.item found.rest h.image.base found.there node in
    let there = pair.ppi in
    let named = c.named_are_there.ensures.pending s place pair.pair h.state pair.there in
    (s, h, desc_is s Ppi pair.pair.ppi _ (omega (arith, there)) named.ppi.there)

pub number_of-number-requires : goal.number_of-number-requires
number_of-number-requires c =
    let s = c.requires.0 in
    let place = c.requires.1 in
    let h = c.requires.2 in
    let found = item_at s Pendings place c.args.at c.if-at-eq0.false c.requires.3 in
    let head = first_address s.base (items s Pendings) in
    let headed = headed_at s Pendings c.args.heap.now c.args.memory.now c.bytes.result head h (c.bytes.ensures (layout_of s) (heap_image s) h.image) refl in
    let node = c.read_node-node.ensures s Pendings place found.item head headed (get_next (items s Pendings) place found.item found.rest found.there) found.at_is in
    let pair = pair_at s place c.args.heap.now.span.base c.read_node-node.result found.item found.rest h.image.base found.there node in
    let there = pair.note in
    let named = c.named_are_there.ensures.pending s place pair.pair h.state pair.there in
    (s, h, desc_is s Dispatch pair.pair.descriptor _ (omega (arith, there)) named.note.there)

pub returns : goal.returns
returns c s place h here =
    let base = c.args.heap.now.span.base in
    let found = item_at s Pendings place c.args.at c.if-at-eq0.false here in
    let head = first_address s.base (items s Pendings) in
    let headed = headed_at s Pendings c.args.heap.now c.args.memory.now c.bytes.result head h (c.bytes.ensures (layout_of s) (heap_image s) h.image) refl in
    let node = c.read_node-node.ensures s Pendings place found.item head headed (get_next (items s Pendings) place found.item found.rest found.there) found.at_is in
    let pair = pair_at s place base c.read_node-node.result found.item found.rest h.image.base found.there node in
    let named = c.named_are_there.ensures.pending s place pair.pair h.state pair.there in
    let ppi_there = pair.ppi in
    let note_there = pair.note in
    let ppi : c.read_node-node.result.second - base ≡ pair.pair.ppi = omega (arith, ppi_there) in
    let note : c.read_node-node.result.descriptor - base ≡ pair.pair.descriptor = omega (arith, note_there) in
    let told = c.guid_of-guid.ensures s h (desc_is s Ppi pair.pair.ppi _ ppi named.ppi.there) in
    let number = c.number_of-number.ensures s h (desc_is s Dispatch pair.pair.descriptor _ note named.note.there) in
    let at_is = found.at_is in
    let node_is = pair.node_is in
    let node_at : c.read_node-node.result.at ≡ s.base + found.item.node = ap (λ n. n.at) node in
    let where_it : c.args.at - base ≡ pair.pair.node = omega (arith, at_is, node_is, node_at) in
    pair_told s pair.pair place (c.args.at - base) c.number_of-number.result c.read_node-node.result.by c.guid_of-guid.result
    pair.there where_it (told ∙ ap (guid_at s) ppi) (number ∙ ap (number_at s) note) pair.by
