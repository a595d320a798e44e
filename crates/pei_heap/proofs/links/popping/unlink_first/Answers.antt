use Rattle.std.proofs.Common.{◌≡◌, ◌-◌, length, ap, sym, ◌∙◌, arith, subst}
use Rattle.store_model.specs.HeapImage.{heap_image}
use Rattle.store_laws.specs.{Changes.without_first, Mapped.layout_of, Word.word_in}
use Rattle.pei_heap.specs.{declared.links.heads.Heads.Heads, Linked.IsLinked}
use Rattle.pei_heap.proofs.Queue.{first_at, first_inside, unlinked}
use Rattle.pei_heap.proofs.links.popping.unlink_first.Goals as goal

pub overflow_sub-offset : goal.overflow_sub-offset
overflow_sub-offset c =
    let r = c.requires in
    let base = r.3.heap_is.image.base in
    let queue = r.3.heads_are.queue_ends.first in
    let at = first_at r.0 r.1 r.2 r.4 in
    omega (arith, base, queue, at)

pub word_in-next-requires : goal.word_in-next-requires
word_in-next-requires c =
    let r = c.requires in
    let s = r.0 in
    let is = r.3.heap_is in
    let base = is.image.base in
    let queue = r.3.heads_are.queue_ends.first in
    let at = first_at s r.1 r.2 r.4 in
    let inside = first_inside s r.1 r.2 c.nodes_read.ensures.inside is.state r.4 in
    let image : c.bytes.result ≡ heap_image s = c.bytes.ensures (layout_of s) (heap_image s) is.image in
    let size : length c.bytes.result ≡ s.len = ap length image ∙ c.image_facts.ensures s is.state in
    omega (arith, base, queue, at, inside, size)

pub put-requires : goal.put-requires
put-requires c =
    let r = c.requires in
    let s = r.0 in
    let is = r.3.heap_is in
    let base = is.image.base in
    let queue = r.3.heads_are.queue_ends.first in
    let at = first_at s r.1 r.2 r.4 in
    let inside = first_inside s r.1 r.2 c.nodes_read.ensures.inside is.state r.4 in
    let long : length c.as_slice.result.now ≡ 32 = ap length c.as_slice.ensures in
    record { heap = (layout_of s, heap_image s, is.image, omega (arith, base, queue, at, inside, long)) }

pub returns : goal.returns
returns c s first rest h e =
    let is = h.heap_is in
    let base = is.image.base in
    let queue = h.heads_are.queue_ends.first in
    let at = first_at s first rest e in
    let inside = first_inside s first rest c.nodes_read.ensures.inside is.state e in
    let offset = c.args.heads.now.queue - c.args.heap.now.span.base in
    let there : offset ≡ first.node = omega (arith, base, queue, at) in
    let long : length c.as_slice.result.now ≡ 32 = ap length c.as_slice.ensures in
    let holds = c.put.ensures (layout_of s) (heap_image s) is.image (omega (arith, there, inside, long)) in
    let image : c.bytes.result ≡ heap_image s = c.bytes.ensures (layout_of s) (heap_image s) is.image in
    let word : c.word_in-next.result ≡ word_in (heap_image s) first.node = c.word_in-next.ensures ∙ ap (λ x. word_in x offset) image ∙ ap (word_in (heap_image s)) there in
    let done = unlinked s first rest c.args.heap.now c.args.memory.now c.put.new.memory c.args.heads.now offset c.word_in-next.result c.as_slice.result.now
    c.bodies_changed.ensures.popped c.heads_moved.ensures.first_popped c.heads_moved.ensures.last_popped c.services_keep_facts.ensures h e there word c.as_slice.ensures holds in
    subst (λ (x : Heads). IsLinked c.args.heap.now c.put.new.memory x (without_first s first rest)) (sym c.pop.ensures) done
