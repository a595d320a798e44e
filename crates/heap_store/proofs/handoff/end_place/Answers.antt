use Rattle.std.proofs.Common.{◌≡◌, ◌≤◌, ◌+◌, ℕ, List, length, arith, ap, ◌∙◌}
use Rattle.store_model.specs.{StoreState.StoreState, StoreState.end_place, StateFacts.IsStoreState, HeapImage.heap_image}
use Rattle.store_laws.specs.{Mapped.layout_of, Word.word_in}
use Rattle.store_laws.proofs.Facts.{images_fill, has_room}
use Rattle.heap_store.proofs.handoff.end_place.Goals as goal

front_inside : (s : StoreState) (bytes : List ℕ) → IsStoreState s → bytes ≡ heap_image s → 48 + 8 ≤ length bytes
front_inside s bytes h is = let len : length bytes ≡ s.len = ap length is ∙ images_fill s h in let room = has_room s h in omega (arith, len, room)

pub word_in-requires : goal.word_in-requires
word_in-requires c =
    let s = c.requires.0 in
    let is = c.requires.1 in
    front_inside s c.bytes.result is.state (c.bytes.ensures (layout_of s) (heap_image s) is.image)

pub overflow_sub-result : goal.overflow_sub-result
overflow_sub-result c =
    let s = c.requires.0 in
    let is = c.requires.1 in
    let image : c.bytes.result ≡ heap_image s = c.bytes.ensures (layout_of s) (heap_image s) is.image in
    let word : c.word_in.result ≡ s.base + end_place s = c.word_in.ensures ∙ ap (λ x. word_in x 48) image ∙ c.handoff_read.ensures.end s is.state in
    let base = is.image.base in
    omega (arith, word, base)

pub returns : goal.returns
returns c s is =
    let image : c.bytes.result ≡ heap_image s = c.bytes.ensures (layout_of s) (heap_image s) is.image in
    let word : c.word_in.result ≡ s.base + end_place s = c.word_in.ensures ∙ ap (λ x. word_in x 48) image ∙ c.handoff_read.ensures.end s is.state in
    let base = is.image.base in
    omega (arith, word, base)
