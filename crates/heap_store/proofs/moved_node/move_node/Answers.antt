use Rattle.std.proofs.Common.{ap}
use Rattle.store_laws.specs.Moving.{with_descriptor, with_node_done}
use Rattle.heap_store.specs.declared.words.Words.{Words}
use Rattle.heap_store.proofs.moved_node.move_node.Goals as goal

pub move_descriptor-requires : goal.move_descriptor-requires
move_descriptor-requires c =
    let h = c.requires.there in
    let told = c.move_links-words.ensures.told h.0 h.1 h.2 h.3 h.4 h.5 h.6 h.7 h.8 in
    record { there = (h.0, h.1, with_node_done h.2 h.3.node, h.3.descriptor, h.5, h.6.descriptor, c.move_links-words.ensures.moved h.0 h.1 h.2 h.3 h.4 h.5 h.6 h.7 h.8, ap (λ (w : Words). w.second) told) }

pub move_other-requires : goal.move_other-requires
move_other-requires c =
    let h = c.requires.there in
    let told = c.move_links-words.ensures.told h.0 h.1 h.2 h.3 h.4 h.5 h.6 h.7 h.8 in
    let first = c.move_links-words.ensures.moved h.0 h.1 h.2 h.3 h.4 h.5 h.6 h.7 h.8 in
    let second = c.move_descriptor.ensures h.0 h.1 (with_node_done h.2 h.3.node) h.3.descriptor h.5 h.6.descriptor first (ap (λ (w : Words). w.second) told) in
    record { there = (h.0, h.1, with_descriptor (with_node_done h.2 h.3.node) h.3.descriptor, h.3.other, h.5, h.6.other, second, ap (λ (w : Words). w.third) told) }

pub returns-clause-moved : goal.returns-clause-moved
returns-clause-moved c s to done link rest ready l has is =
    let told = c.move_links-words.ensures.told s to done link rest ready l has is in
    let first = c.move_links-words.ensures.moved s to done link rest ready l has is in
    let second = c.move_descriptor.ensures s to (with_node_done done link.node) link.descriptor ready l.descriptor first (ap (λ (w : Words). w.second) told) in
    c.move_other.ensures s to (with_descriptor (with_node_done done link.node) link.descriptor) link.other ready l.other second (ap (λ (w : Words). w.third) told)

pub returns-clause-next : goal.returns-clause-next
returns-clause-next c s to done link rest ready l has is =
    ap (λ (w : Words). w.first) (c.move_links-words.ensures.told s to done link rest ready l has is)
