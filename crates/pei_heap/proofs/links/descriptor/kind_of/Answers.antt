use Rattle.std.proofs.Common.{◌≡◌, length, ap, ◌∙◌, arith}
use Rattle.store_model.specs.HeapImage.{heap_image, kind_flags}
use Rattle.store_laws.specs.{Mapped.layout_of, Word.word_in}
use Rattle.pei_heap.proofs.Descriptors.{kind_of_state, place_inside}
use Rattle.pei_heap.proofs.links.descriptor.kind_of.Goals as goal

pub word_in-requires : goal.word_in-requires
word_in-requires c =
    let s = c.requires.0 in
    let is = c.requires.1 in
    let image : c.bytes.result ≡ heap_image s = c.bytes.ensures (layout_of s) (heap_image s) is.image in
    let size : length c.bytes.result ≡ s.len = ap length image ∙ c.image_facts.ensures s is.state in
    let inside = place_inside s c.args.d.offset c.requires.2.0 c.bodies_are_inside.ensures is.state c.requires.2.1 in
    omega (arith, size, inside.0)

pub returns : goal.returns
returns c s is desc =
    let place = c.args.d.offset in
    let body = desc.0 in
    let found = desc.1 in
    let image : c.bytes.result ≡ heap_image s = c.bytes.ensures (layout_of s) (heap_image s) is.image in
    let flags : c.word_in.result ≡ kind_flags body.kind = c.word_in.ensures ∙ ap (λ x. word_in x place) image ∙ c.descriptors_read.ensures.flags s place body is.state found in
    c.kind_by.ensures body.kind flags ∙ kind_of_state s place body found
