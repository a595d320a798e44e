-- The heap while it is moved.
use Rattle.std.proofs.Common.{◌≡◌, ℕ, ◌+◌, ◌-◌, Bool, true, false, cond, [], ◌∷◌, ◌++◌, length, ap, refl, sym, ◌∙◌, ◌==◌, ◌||◌}
use Rattle.phys_mem.specs.Region.{replaced}
use Rattle.store_model.specs.{declared.state.Body.Body, declared.state.DescriptorBody.DescriptorBody, Service.Descriptor.is_named}
use Rattle.store_model.specs.declared.state.Body.TheVariants.{Bytes, Descriptor, Node, Allocation}
use Rattle.store_model.specs.StoreState.{Range, StoreState, body_len, hob_len}
use Rattle.store_model.specs.HeapImage.{header_bytes, body_bytes, descriptor_bytes, hobs_bytes, node_bytes, allocation_bytes, links_at}
use Rattle.store_model.specs.Migration.{migrated_to, moved_descriptor, moved_body, moved_hobs}
use Rattle.store_laws.specs.Spelling.{spelled, AgreeBut}
use Rattle.store_laws.specs.Moving.{Done, half, with_descriptor, with_node_done, with_pages_done, NodesAreMoved, PagesAreMoved, all_done, DescriptorsAreMoved, HeapsAreMoved}
use Rattle.store_laws.proofs.{HeapBodies.bodies_are_written, HeapItems.same_is, HeapItems.other_is, Facts.node_is_32}
use Rattle.store_laws.proofs.Writing.{unchanged, written_once}
use Rattle.store_model.specs.declared.state.AllocationBody.{AllocationBody}

or_false : (b : Bool) → (b || false) ≡ b
or_false true = refl
or_false false = refl

or_true : (b : Bool) → (b || true) ≡ true
or_true true = refl
or_true false = refl

elsewhere_same : (s : StoreState) (to : Range) (done : Done) (p : ℕ) → AgreeBut p (half s to done) (half s to (with_descriptor done p))
elsewhere_same s to done p place (Bytes bytes) n = refl
elsewhere_same s to done p place (Descriptor d) n =
    let t : (done.descriptors place || place == p) ≡ done.descriptors place = ap (λ b. done.descriptors place || b) (other_is place p n) ∙ or_false (done.descriptors place) in
    ap (λ b. cond b (descriptor_bytes to.base place (moved_descriptor s to d)) (descriptor_bytes s.base place d)) t
elsewhere_same s to done p place Node n = refl
elsewhere_same s to done p place (Allocation a) n = refl

here_done : (s : StoreState) (to : Range) (done : Done) (p : ℕ) (d : DescriptorBody) → half s to (with_descriptor done p) p (Descriptor d) ≡ descriptor_bytes to.base p (moved_descriptor s to d)
here_done s to done p d =
    let t : (done.descriptors p || p == p) ≡ true = ap (λ b. done.descriptors p || b) (same_is p) ∙ or_true (done.descriptors p) in
    ap (λ b. cond b (descriptor_bytes to.base p (moved_descriptor s to d)) (descriptor_bytes s.base p d)) t

pub descriptors_are_moved : DescriptorsAreMoved
descriptors_are_moved s to done hobs at p d spelt found len =
    let f = half s to done in
    let g = half s to (with_descriptor done p) in
    let text : g p (Descriptor d) ≡ descriptor_bytes to.base p (moved_descriptor s to d) = here_done s to done p d in
    ap (spelled g at) (sym (unchanged hobs at p)) ∙ bodies_are_written f g (λ body. body) hobs at p (Descriptor d) spelt (elsewhere_same s to done p) found refl (ap length text ∙ len)
    ∙ ap (replaced (spelled f at hobs) (p - at)) text

-- a node more
node_elsewhere : (s : StoreState) (to : Range) (done : Done) (p : ℕ) → AgreeBut p (half s to done) (half s to (with_node_done done p))
node_elsewhere s to done p place (Bytes bytes) n = refl
node_elsewhere s to done p place (Descriptor d) n = refl
node_elsewhere s to done p place Node n =
    let t : (done.nodes place || place == p) ≡ done.nodes place = ap (λ b. done.nodes place || b) (other_is place p n) ∙ or_false (done.nodes place) in
    ap (λ b. cond b (node_bytes (migrated_to s to) place) (node_bytes s place)) t
node_elsewhere s to done p place (Allocation a) n = refl

node_done : (s : StoreState) (to : Range) (done : Done) (p : ℕ) → half s to (with_node_done done p) p Node ≡ node_bytes (migrated_to s to) p
node_done s to done p =
    let t : (done.nodes p || p == p) ≡ true = ap (λ b. done.nodes p || b) (same_is p) ∙ or_true (done.nodes p) in
    ap (λ b. cond b (node_bytes (migrated_to s to) p) (node_bytes s p)) t

pub nodes_are_moved : NodesAreMoved
nodes_are_moved s to done hobs at p spelt found =
    let f = half s to done in
    let g = half s to (with_node_done done p) in
    let text : g p Node ≡ node_bytes (migrated_to s to) p = node_done s to done p in
    written_once f g hobs at p Node spelt (node_elsewhere s to done p) found (ap length text ∙ node_is_32 (links_at (migrated_to s to) p))
    ∙ ap (replaced (spelled f at hobs) (p - at)) text

-- the pages of a HOB more
pages_elsewhere : (s : StoreState) (to : Range) (done : Done) (p : ℕ) → AgreeBut p (half s to done) (half s to (with_pages_done done p))
pages_elsewhere s to done p place (Bytes bytes) n = refl
pages_elsewhere s to done p place (Descriptor d) n = refl
pages_elsewhere s to done p place Node n = refl
pages_elsewhere s to done p place (Allocation a) n =
    let t : (done.pages place || place == p) ≡ done.pages place = ap (λ b. done.pages place || b) (other_is place p n) ∙ or_false (done.pages place) in
    ap (λ b. cond b (allocation_bytes (to.base + to.len) a) (allocation_bytes s.page_end a)) t

pages_done : (s : StoreState) (to : Range) (done : Done) (p : ℕ) (a : AllocationBody) → half s to (with_pages_done done p) p (Allocation a) ≡ allocation_bytes (to.base + to.len) a
pages_done s to done p a =
    let t : (done.pages p || p == p) ≡ true = ap (λ b. done.pages p || b) (same_is p) ∙ or_true (done.pages p) in
    ap (λ b. cond b (allocation_bytes (to.base + to.len) a) (allocation_bytes s.page_end a)) t

pub pages_are_moved : PagesAreMoved
pages_are_moved s to done hobs at p a spelt found =
    let f = half s to done in
    let g = half s to (with_pages_done done p) in
    let text : g p (Allocation a) ≡ allocation_bytes (to.base + to.len) a = pages_done s to done p a in
    written_once f g hobs at p (Allocation a) spelt (pages_elsewhere s to done p) found (ap length text ∙ refl)
    ∙ ap (replaced (spelled f at hobs) (p - at)) text

-- all is done
moved_by : (s : StoreState) (to : Range) (place : ℕ) (d : DescriptorBody) (b : Bool) → is_named s place ≡ b
    → cond b (descriptor_bytes to.base place (moved_descriptor s to d)) (descriptor_bytes s.base place d) ≡ body_bytes (migrated_to s to) place (cond b (Descriptor (moved_descriptor s to d)) (Bytes (descriptor_bytes s.base place d)))
moved_by s to place d true e = refl
moved_by s to place d false e = refl

body_is : (s : StoreState) (to : Range) (place : ℕ) (body : Body) → half s to (all_done s) place body ≡ body_bytes (migrated_to s to) place (moved_body s to place body)
body_is s to place (Bytes bytes) = refl
body_is s to place (Descriptor d) = moved_by s to place d (is_named s place) refl
body_is s to place Node = refl
body_is s to place (Allocation a) = refl

pub heaps_are_moved : HeapsAreMoved
heaps_are_moved s to [] at h = refl
heaps_are_moved s to (hob ∷ hobs) at h =
    let t = migrated_to s to in
    let new = record hob { body = moved_body s to (at + 8) hob.body } in
    let len : hob_len hob ≡ 8 + body_len (moved_body s to (at + 8) hob.body) = ap (λ n. 8 + n) (sym (h.0 (at + 8))) in
    ap (λ x. header_bytes hob.kind (hob_len hob) ++ x ++ spelled (half s to (all_done s)) (at + hob_len hob) hobs) (body_is s to (at + 8) hob.body)
    ∙ ap (λ x. header_bytes hob.kind (hob_len hob) ++ body_bytes t (at + 8) (moved_body s to (at + 8) hob.body) ++ x) (heaps_are_moved s to hobs (at + hob_len hob) h.1)
    ∙ ap (λ n. header_bytes hob.kind n ++ body_bytes t (at + 8) (moved_body s to (at + 8) hob.body) ++ hobs_bytes t (at + n) (moved_hobs s to (at + hob_len hob) hobs)) len
