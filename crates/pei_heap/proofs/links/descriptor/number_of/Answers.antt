use Rattle.std.proofs.Common.{◌≡◌, ◌+◌, length, ap, ◌∙◌, arith}
use Rattle.store_model.specs.HeapImage.{heap_image}
use Rattle.store_laws.specs.{Mapped.layout_of, Word.word_in}
use Rattle.pei_heap.proofs.Descriptors.{number_of_state, place_inside}
use Rattle.pei_heap.proofs.links.descriptor.number_of.Goals as goal

pub word_in-requires : goal.word_in-requires
word_in-requires c =
    let s = c.requires.0 in
    let is = c.requires.1 in
    let image : c.bytes.result ≡ heap_image s = c.bytes.ensures (layout_of s) (heap_image s) is.image in
    let size : length c.bytes.result ≡ s.len = ap length image ∙ c.image_facts.ensures s is.state in
    let inside = place_inside s c.args.d.offset c.requires.2.0 c.bodies_are_inside.ensures is.state c.requires.2.1 in
    omega (arith, size, inside.0)

pub returns : goal.returns
returns c s is desc =
    let place = c.args.d.offset in
    let image : c.bytes.result ≡ heap_image s = c.bytes.ensures (layout_of s) (heap_image s) is.image in
    c.word_in.ensures ∙ ap (λ x. word_in x (place + 16)) image ∙ c.descriptors_read.ensures.number s place desc.0 is.state desc.1 ∙ number_of_state s place desc.0 desc.1
