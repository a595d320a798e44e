-- A node, moved: the numbers that are read are the old or the new, and what is written are the new.
use Rattle.std.proofs.Common.{◌≡◌, ℕ, ◌+◌, ◌≤◌, ◌<◌, Bool, true, false, cond, List, take, drop, arith, refl, Option, Some, None, ◌-◌, ap, ◌∙◌, IfSome}
use Rattle.pi_base.specs.Field.{little_bytes}
use Rattle.phys_mem.specs.Region.{replaced}
use Rattle.store_model.specs.declared.state.Body.TheVariants.{Descriptor, Node}
use Rattle.store_model.specs.{StoreState.Range, StoreState.StoreState, StateFacts.IsNodeAt, Migration.moved_number}
use Rattle.store_laws.specs.Moving.{Done, half, with_node_done}
use Rattle.store_laws.specs.Spelling.{spelled}
use Rattle.store_laws.proofs.Moving.{nodes_are_moved}
use Rattle.heap_store.specs.{declared.course.Course.Course, declared.words.Words.Words, Half.half_image, Ready.IsReady}
use Rattle.heap_store.specs.WordBytes.{words_bytes, links_words, shifted_node}
use Rattle.heap_store.specs.Linked.{Link, address, first_of, fields, IsLink, HasDescriptor}
use Rattle.heap_store.proofs.Numbers.{place_moves, new_stays, address_moves, address_stays, address_low}
use Rattle.heap_store.proofs.Steps.{step_read, step_written, half_spelt, node_is, node_new}
use Rattle.heap_store.proofs.MovedBodies.{inside, descriptor_long, same_words, AreLow, old_low, new_low}

-- the numbers of a node
abbrev pub links_now : StoreState → Range → Link → List Link → Bool → Words
links_now s to link rest b = cond b (links_words (fields to.base link rest)) (links_words (fields s.base link rest))

pub node_within : (s : StoreState) (to : Range) (course : Course) (p : ℕ) → IsReady s to course → IsNodeAt s p → p < s.len
node_within s to course p h found = let le = inside s to course p Node h found in omega (arith, le)

pub descriptor_within : (s : StoreState) (to : Range) (course : Course) (p : ℕ) → IsReady s to course → HasDescriptor s p → p < s.len
descriptor_within s to course p h found = let le = inside s to course p (Descriptor found.0) h found.1 in let long = descriptor_long found.0 in omega (arith, le, long)

pub next_within : (s : StoreState) (to : Range) (course : Course) (p : Option ℕ) → IsReady s to course → IfSome p (IsNodeAt s) → IfSome p (λ n. n < s.len)
next_within s to course None h found = tt
next_within s to course (Some p) h found = node_within s to course p h found

pub other_within : (s : StoreState) (to : Range) (course : Course) (p : Option ℕ) → IsReady s to course → IfSome p (HasDescriptor s) → IfSome p (λ n. n < s.len)
other_within s to course None h found = tt
other_within s to course (Some p) h found = descriptor_within s to course p h found

pub links_shifted : (s : StoreState) (to : Range) (course : Course) (link : Link) (rest : List Link) (b : Bool) → IsReady s to course → IsLink s to link rest → shifted_node s to (links_now s to link rest b) ≡ links_words (fields to.base link rest)
links_shifted s to course link rest true h l =
    same_words (moved_number s to (address to.base (first_of rest))) (moved_number s to (to.base + link.descriptor)) (moved_number s to (address to.base link.other)) (address to.base (first_of rest)) (to.base + link.descriptor) (address to.base link.other)
    (address_stays s to course (first_of rest) h.way (next_within s to course (first_of rest) h l.next)) (new_stays s to course link.descriptor h.way (descriptor_within s to course link.descriptor h l.descriptor)) (address_stays s to course link.other h.way (other_within s to course link.other h l.other))
links_shifted s to course link rest false h l =
    same_words (moved_number s to (address s.base (first_of rest))) (moved_number s to (s.base + link.descriptor)) (moved_number s to (address s.base link.other)) (address to.base (first_of rest)) (to.base + link.descriptor) (address to.base link.other)
    (address_moves s to course (first_of rest) h.way (next_within s to course (first_of rest) h l.next)) (place_moves s to course link.descriptor h.way (descriptor_within s to course link.descriptor h l.descriptor)) (address_moves s to course link.other h.way (other_within s to course link.other h l.other))

links_low_at : (s : StoreState) (to : Range) (course : Course) (base : ℕ) (link : Link) (rest : List Link) → IsReady s to course → IsLink s to link rest → base + s.len ≤ 0x10000000000 → AreLow (links_words (fields base link rest))
links_low_at s to course base link rest h l low =
    let less = descriptor_within s to course link.descriptor h l.descriptor in
    (address_low s base (first_of rest) low (next_within s to course (first_of rest) h l.next), omega (arith, less, low), address_low s base link.other low (other_within s to course link.other h l.other))

pub links_low : (s : StoreState) (to : Range) (course : Course) (link : Link) (rest : List Link) (b : Bool) → IsReady s to course → IsLink s to link rest → AreLow (links_now s to link rest b)
links_low s to course link rest true h l = links_low_at s to course to.base link rest h l (new_low s to course h)
links_low s to course link rest false h l = links_low_at s to course s.base link rest h l (old_low s to course h)

pub node_read : (s : StoreState) (to : Range) (course : Course) (done : Done) (link : Link) (rest : List Link) → IsReady s to course → IsLink s to link rest
    → take 24 (drop link.node (half_image s to done)) ≡ words_bytes (links_now s to link rest (done.nodes link.node))
node_read s to course done link rest h l =
    step_read s to done link.node Node (links_now s to link rest (done.nodes link.node)) (little_bytes 8 link.number) h.bodies l.node (node_is s to done link rest (done.nodes link.node) l refl) (omega arith)

pub node_written : (s : StoreState) (to : Range) (course : Course) (done : Done) (link : Link) (rest : List Link) → IsReady s to course → IsLink s to link rest
    → half_image s to (with_node_done done link.node) ≡ replaced (half_image s to done) link.node (words_bytes (links_words (fields to.base link rest)))
node_written s to course done link rest h l =
    step_written s to done (with_node_done done link.node) link.node Node (links_now s to link rest (done.nodes link.node)) (links_words (fields to.base link rest)) (little_bytes 8 link.number)
    h.bodies l.node (node_is s to done link rest (done.nodes link.node) l refl) refl
    (nodes_are_moved s to done s.hobs 56 link.node (half_spelt s to done s.hobs h.bodies) l.node ∙ ap (replaced (spelled (half s to done) 56 s.hobs) (link.node - 56)) (node_new s to link rest l))
