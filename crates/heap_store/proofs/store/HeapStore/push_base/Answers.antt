use Rattle.std.proofs.Common.{◌≡◌, ◌+◌, ◌∙◌, length, arith, ap}
use Rattle.store_model.specs.HeapImage.{heap_image}
use Rattle.store_laws.specs.{Fitting.IsFittingHeap, Mapped.layout_of, Word.word_in}
use Rattle.heap_store.proofs.{NextHobs.next_placed, Walked.base_added}
use Rattle.heap_store.proofs.store.HeapStore.push_base.Goals as goal

pub overflow_add-offset : goal.overflow_add-offset
overflow_add-offset c =
    let s = c.requires.0 in
    let is = c.requires.1.linked.heap_is in
    let next = next_placed s c.args.offset c.args.span c.requires.2 in
    let far = next.0 in
    let inside = c.hobs_told.ensures.inside s c.args.span.next is.state next.1 in
    let fits : IsFittingHeap s = c.states_fit.ensures.heap s is.state in
    let most = fits.len in
    omega (arith, far, inside, most)

pub word_in-requires : goal.word_in-requires
word_in-requires c =
    let s = c.requires.0 in
    let is = c.requires.1.linked.heap_is in
    let image : c.bytes-heap.result ≡ heap_image s = c.bytes-heap.ensures (layout_of s) (heap_image s) is.image in
    let size : length c.bytes-heap.result ≡ s.len = ap length image ∙ c.image_facts.ensures s is.state in
    let next = next_placed s c.args.offset c.args.span c.requires.2 in
    let far = next.0 in
    let inside = c.hobs_told.ensures.inside s c.args.span.next is.state next.1 in
    omega (arith, size, far, inside)

pub returns : goal.returns
returns c s h =
    let image : c.bytes-heap.result ≡ heap_image s = c.bytes-heap.ensures (layout_of s) (heap_image s) h.linked.heap_is.image in
    let word : c.word_in.result ≡ word_in (heap_image s) (c.args.offset + 8) = c.word_in.ensures ∙ ap (λ x. word_in x (c.args.offset + 8)) image in
    base_added c.push.result c.args.bases.now c.push.new.self (heap_image s) c.args.offset c.args.span.kind c.word_in.result c.if-span-ne-VOLUME.false word c.push.ensures.ok
