use Rattle.std.proofs.Common.{◌≡◌, ◌-◌, ◌≤◌, ℕ, List, take, drop, arith, ap, ◌∙◌}
use Rattle.store_model.specs.{declared.state.Body.TheVariants.Node, Migration.migrated_to}
use Rattle.store_laws.specs.{Mapped.layout_of, Moving.with_node_done}
use Rattle.heap_store.specs.{Half.half_image, Linked.fields}
use Rattle.heap_store.specs.WordBytes.{words_bytes, links_words, shifted_node}
use Rattle.heap_store.proofs.MovedBodies.{in_new, written_half}
use Rattle.heap_store.proofs.NodeMoves.{links_now, node_read, node_written, links_shifted, links_low}
use Rattle.heap_store.proofs.moved_node.move_links.Goals as goal

long : 24 ≤ 32
long = omega arith

pub words_at-words-requires : goal.words_at-words-requires
words_at-words-requires c =
    let h = c.requires.there in
    let range = in_new h.0 h.1 c.args.course.now h.3.node c.args.at Node h.5 h.6.node long h.8 in
    record { heap = (layout_of (migrated_to h.0 h.1), half_image h.0 h.1 h.2, h.7, range.0, range.1) }

pub put_words-requires : goal.put_words-requires
put_words-requires c =
    let h = c.requires.there in
    let range = in_new h.0 h.1 c.args.course.now h.3.node c.args.at Node h.5 h.6.node long h.8 in
    record { heap = (layout_of (migrated_to h.0 h.1), half_image h.0 h.1 h.2, h.7, range.0, range.1) }

pub returns-clause-told : goal.returns-clause-told
returns-clause-told c s to done link rest ready l has is =
    let b = done.nodes link.node in
    let course = c.args.course.now in
    let range = in_new s to course link.node c.args.at Node ready l.node long is in
    let place : c.args.at - to.base ≡ link.node = omega (arith, is) in
    let heap : List ℕ = half_image s to done in
    let there : take 24 (drop (c.args.at - to.base) heap) ≡ words_bytes (links_now s to link rest b) = ap (λ n. take 24 (drop n heap)) place ∙ node_read s to course done link rest ready l in
    let low = links_low s to course link rest b ready l in
    let read : c.words_at-words.result ≡ links_now s to link rest b = c.words_at-words.ensures (layout_of (migrated_to s to)) heap (links_now s to link rest b) has range.0 range.1 there low.0 low.1 low.2 in
    c.moved_links-moved.ensures s to ready.way ∙ ap (shifted_node s to) read ∙ links_shifted s to course link rest b ready l

pub returns-clause-moved : goal.returns-clause-moved
returns-clause-moved c s to done link rest ready l has is =
    let course = c.args.course.now in
    let range = in_new s to course link.node c.args.at Node ready l.node long is in
    let place : c.args.at - to.base ≡ link.node = omega (arith, is) in
    let heap : List ℕ = half_image s to done in
    let moved : c.moved_links-moved.result ≡ links_words (fields to.base link rest) = returns-clause-told c s to done link rest ready l has is in
    written_half s to (with_node_done done link.node) heap (words_bytes c.moved_links-moved.result) (words_bytes (links_words (fields to.base link rest))) (c.args.at - to.base) link.node c.put_words.new.memory
    (c.put_words.ensures (layout_of (migrated_to s to)) heap has range.0 range.1) place (ap words_bytes moved) (node_written s to course done link rest ready l)
