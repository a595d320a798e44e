use Rattle.std.proofs.Common.{◌≡◌, ◌-◌, ap, refl, ◌∙◌, arith}
use Rattle.store_model.specs.declared.store_handle.DescKind.TheVariants.{Ppi, Dispatch}
use Rattle.store_model.specs.{declared.store_handle.EntryList.TheVariants.Pendings, HeapImage.heap_image}
use Rattle.store_model.specs.Service.Descriptor.{guid_at, number_at}
use Rattle.store_laws.specs.{Changes.without_first, Mapped.layout_of}
use Rattle.pei_heap.proofs.Queue.{desc_is, first_is, first_pair, headed, no_pair, note_fits, pop_is, same_firing}
use Rattle.pei_heap.proofs.links.popping.pop.Goals as goal

pub nth_node-requires : goal.nth_node-requires
nth_node-requires c =
    let s = c.requires.0 in
    let h = c.requires.1 in
    let image : c.bytes.result ≡ heap_image s = c.bytes.ensures (layout_of s) (heap_image s) h.heap_is.image in
    (s, Pendings, headed s c.args.heap.now c.args.memory.now c.args.heads.now c.bytes.result h image)

pub returns-in-None : goal.returns-in-None
returns-in-None c s h =
    let image : c.bytes.result ≡ heap_image s = c.bytes.ensures (layout_of s) (heap_image s) h.heap_is.image in
    let at = headed s c.args.heap.now c.args.memory.now c.args.heads.now c.bytes.result h image in
    (no_pair s (c.in-None.ensures s Pendings at), refl, refl)

pub overflow_sub-ppi : goal.overflow_sub-ppi
overflow_sub-ppi c =
    let s = c.requires.0 in
    let h = c.requires.1 in
    let image : c.bytes.result ≡ heap_image s = c.bytes.ensures (layout_of s) (heap_image s) h.heap_is.image in
    let at = headed s c.args.heap.now c.args.memory.now c.args.heads.now c.bytes.result h image in
    let found = first_pair s c.in-Some.pair (c.in-Some.ensures s Pendings at) in
    let base = h.heap_is.image.base in
    let there = found.ppi in
    omega (arith, there, base)

pub overflow_sub-note : goal.overflow_sub-note
overflow_sub-note c =
    let s = c.requires.0 in
    let h = c.requires.1 in
    let image : c.bytes.result ≡ heap_image s = c.bytes.ensures (layout_of s) (heap_image s) h.heap_is.image in
    let at = headed s c.args.heap.now c.args.memory.now c.args.heads.now c.bytes.result h image in
    let found = first_pair s c.in-Some.pair (c.in-Some.ensures s Pendings at) in
    let base = h.heap_is.image.base in
    let there = found.note in
    omega (arith, there, base)

pub number_of-entry-requires : goal.number_of-entry-requires
number_of-entry-requires c =
    let s = c.requires.0 in
    let h = c.requires.1 in
    let image : c.bytes.result ≡ heap_image s = c.bytes.ensures (layout_of s) (heap_image s) h.heap_is.image in
    let at = headed s c.args.heap.now c.args.memory.now c.args.heads.now c.bytes.result h image in
    let found = first_pair s c.in-Some.pair (c.in-Some.ensures s Pendings at) in
    let base = h.heap_is.image.base in
    let there = found.note in
    let pending = first_is s found.first found.rest h.heap_is.state found.pairs in
    (s, h.heap_is, desc_is s Dispatch found.first.descriptor (c.in-Some.pair.descriptor - c.args.heap.now.span.base) (omega (arith, there, base)) pending.1)

pub overflow_cast-entry : goal.overflow_cast-entry
overflow_cast-entry c =
    let s = c.requires.0 in
    let h = c.requires.1 in
    let image : c.bytes.result ≡ heap_image s = c.bytes.ensures (layout_of s) (heap_image s) h.heap_is.image in
    let at = headed s c.args.heap.now c.args.memory.now c.args.heads.now c.bytes.result h image in
    let found = first_pair s c.in-Some.pair (c.in-Some.ensures s Pendings at) in
    let base = h.heap_is.image.base in
    let there = found.note in
    let pending = first_is s found.first found.rest h.heap_is.state found.pairs in
    let place : c.in-Some.pair.descriptor - c.args.heap.now.span.base ≡ found.first.descriptor = omega (arith, there, base) in
    let read = c.number_of-entry.ensures s h.heap_is (desc_is s Dispatch found.first.descriptor (c.in-Some.pair.descriptor - c.args.heap.now.span.base) place pending.1) in
    let number : c.number_of-entry.result ≡ number_at s found.first.descriptor = read ∙ ap (number_at s) place in
    let fits = note_fits s found.first found.rest c.named_are_there.ensures h.heap_is.state found.pairs in
    grind (arith, number, fits)

pub read_descriptor-told-requires : goal.read_descriptor-told-requires
read_descriptor-told-requires c =
    let s = c.requires.0 in
    let h = c.requires.1 in
    let image : c.bytes.result ≡ heap_image s = c.bytes.ensures (layout_of s) (heap_image s) h.heap_is.image in
    let at = headed s c.args.heap.now c.args.memory.now c.args.heads.now c.bytes.result h image in
    let found = first_pair s c.in-Some.pair (c.in-Some.ensures s Pendings at) in
    let base = h.heap_is.image.base in
    let there = found.ppi in
    let pending = first_is s found.first found.rest h.heap_is.state found.pairs in
    (s, h.heap_is, desc_is s Ppi found.first.ppi (c.in-Some.pair.second - c.args.heap.now.span.base) (omega (arith, there, base)) pending.2)

pub unlink_first-requires : goal.unlink_first-requires
unlink_first-requires c =
    let s = c.requires.0 in
    let h = c.requires.1 in
    let image : c.bytes.result ≡ heap_image s = c.bytes.ensures (layout_of s) (heap_image s) h.heap_is.image in
    let at = headed s c.args.heap.now c.args.memory.now c.args.heads.now c.bytes.result h image in
    let found = first_pair s c.in-Some.pair (c.in-Some.ensures s Pendings at) in
    let base = h.heap_is.image.base in
    (s, found.first, found.rest, h, found.pairs)

pub returns : goal.returns
returns c s h =
    let image : c.bytes.result ≡ heap_image s = c.bytes.ensures (layout_of s) (heap_image s) h.heap_is.image in
    let at = headed s c.args.heap.now c.args.memory.now c.args.heads.now c.bytes.result h image in
    let found = first_pair s c.in-Some.pair (c.in-Some.ensures s Pendings at) in
    let base = h.heap_is.image.base in
    let note_there = found.note in
    let ppi_there = found.ppi in
    let pending = first_is s found.first found.rest h.heap_is.state found.pairs in
    let note : c.in-Some.pair.descriptor - c.args.heap.now.span.base ≡ found.first.descriptor = omega (arith, note_there, base) in
    let ppi : c.in-Some.pair.second - c.args.heap.now.span.base ≡ found.first.ppi = omega (arith, ppi_there, base) in
    let entry = c.number_of-entry.ensures s h.heap_is (desc_is s Dispatch found.first.descriptor (c.in-Some.pair.descriptor - c.args.heap.now.span.base) note pending.1) in
    let told = c.read_descriptor-told.ensures s h.heap_is (desc_is s Ppi found.first.ppi (c.in-Some.pair.second - c.args.heap.now.span.base) ppi pending.2) in
    let fired = same_firing s found.first c.number_of-entry.result (c.in-Some.pair.second - c.args.heap.now.span.base) c.read_descriptor-told.result.guid c.read_descriptor-told.result.number
    (entry ∙ ap (number_at s) note) ppi (told.guid_is ∙ ap (guid_at s) ppi) (told.number_is ∙ ap (number_at s) ppi) in
    (without_first s found.first found.rest, pop_is s found.first found.rest _ found.pairs fired, c.unlink_first.ensures s found.first found.rest h found.pairs)
