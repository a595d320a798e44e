use Rattle.std.proofs.Common.{◌≡◌, ◌+◌, length, ap, ◌∙◌, arith}
use Rattle.store_model.specs.HeapImage.{guid_address, heap_image}
use Rattle.store_laws.specs.{Descriptors.guid_read, Mapped.layout_of, Word.word_in}
use Rattle.pei_heap.proofs.Descriptors.{guid_of_state, has_guid, place_inside}
use Rattle.pei_heap.proofs.links.descriptor.guid_of.Goals as goal

pub word_in-address-requires : goal.word_in-address-requires
word_in-address-requires c =
    let s = c.requires.0 in
    let is = c.requires.1 in
    let image : c.bytes.result ≡ heap_image s = c.bytes.ensures (layout_of s) (heap_image s) is.image in
    let size : length c.bytes.result ≡ s.len = ap length image ∙ c.image_facts.ensures s is.state in
    let inside = place_inside s c.args.d.offset c.requires.2.0 c.bodies_are_inside.ensures is.state c.requires.2.1 in
    omega (arith, size, inside.0)

pub read_guid-requires : goal.read_guid-requires
read_guid-requires c =
    let s = c.requires.0 in
    let is = c.requires.1 in
    let place = c.args.d.offset in
    let body = c.requires.2.0 in
    let found = c.requires.2.1 in
    let image : c.bytes.result ≡ heap_image s = c.bytes.ensures (layout_of s) (heap_image s) is.image in
    let address : c.word_in-address.result ≡ guid_address s.base place body.stands = c.word_in-address.ensures ∙ ap (λ x. word_in x (place + 8)) image ∙ c.descriptors_read.ensures.address s place body is.state found in
    (s, is, has_guid s place c.word_in-address.result body c.bodies_are_inside.ensures is.state found address)

pub returns : goal.returns
returns c s is desc =
    let place = c.args.d.offset in
    let body = desc.0 in
    let found = desc.1 in
    let laws = c.descriptors_read.ensures in
    let image : c.bytes.result ≡ heap_image s = c.bytes.ensures (layout_of s) (heap_image s) is.image in
    let word : c.word_in-address.result ≡ word_in (heap_image s) (place + 8) = c.word_in-address.ensures ∙ ap (λ x. word_in x (place + 8)) image in
    let address : c.word_in-address.result ≡ guid_address s.base place body.stands = word ∙ laws.address s place body is.state found in
    let has = has_guid s place c.word_in-address.result body c.bodies_are_inside.ensures is.state found address in
    c.read_guid.ensures s is has ∙ ap (guid_read s.board.roms (heap_image s) s.base) word ∙ laws.guid s place body is.state found ∙ guid_of_state s place body found
