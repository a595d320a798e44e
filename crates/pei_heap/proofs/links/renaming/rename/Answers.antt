use Rattle.std.proofs.Common.{◌≡◌, ◌≤◌, ◌+◌, ◌∙◌, length, ap, refl, arith}
use Rattle.pi_base.specs.Field.{little_bytes}
use Rattle.store_model.specs.HeapImage.{heap_image}
use Rattle.store_laws.specs.Mapped.{layout_of}
use Rattle.store_laws.proofs.Facts.{heaps_are_low}
use Rattle.pei_heap.proofs.Named.{found_inside, renamed_linked}
use Rattle.pei_heap.proofs.links.renaming.rename.Goals as goal

pub overflow_add-found : goal.overflow_add-found
overflow_add-found c =
    let s = c.requires.0 in
    let h = c.requires.2 in
    let inside = found_inside s c.requires.1 c.args.found c.nodes_read.ensures.inside h.heap_is.state c.requires.3 in
    let low : s.base + s.len ≤ 0x10000000000 = heaps_are_low s h.heap_is.state in
    grind (arith, inside, low)

pub put-requires : goal.put-requires
put-requires c =
    let s = c.requires.0 in
    let h = c.requires.2 in
    let inside = found_inside s c.requires.1 c.args.found c.nodes_read.ensures.inside h.heap_is.state c.requires.3 in
    let text : c.as_slice.result.now ≡ little_bytes 8 (c.args.heap.now.span.base + c.args.new.offset) = c.as_slice.ensures ∙ c.to_le_bytes.ensures in
    let eight : length c.as_slice.result.now ≡ 8 = ap length text in
    record { heap = (layout_of s, heap_image s, h.heap_is.image, omega (arith, inside, eight)) }

pub returns : goal.returns
returns c s old h is named =
    let inside = found_inside s old c.args.found c.nodes_read.ensures.inside h.heap_is.state is in
    let text : c.as_slice.result.now ≡ little_bytes 8 (c.args.heap.now.span.base + c.args.new.offset) = c.as_slice.ensures ∙ c.to_le_bytes.ensures in
    let eight : length c.as_slice.result.now ≡ 8 = ap length text in
    let put = c.put.ensures (layout_of s) (heap_image s) h.heap_is.image (omega (arith, inside, eight)) in
    renamed_linked s old c.args.new c.args.found c.args.heap.now c.args.memory.now c.put.new.memory c.args.heads.now (c.args.found.node + 8) (c.args.heap.now.span.base + c.args.new.offset) c.as_slice.result.now
    c.bodies_changed.ensures.renamed c.heads_moved.ensures.places c.heads_moved.ensures.ends c.steps_keep_facts.ensures h is named refl refl text put
