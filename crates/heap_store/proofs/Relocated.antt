-- The image after the move, part by part, beside the image before.
use Rattle.std.proofs.Common.{◌≡◌, ℕ, ◌+◌, ◌-◌, ◌≤◌, true, false, List, [], ◌∷◌, length, take, drop, arith, ap, refl, sym, subst, ◌∙◌, Some, map, option_map, if◌then◌else◌}
use Rattle.pi_base.specs.Field.{little_bytes, ReadsWhatItSpells}
use Rattle.store_model.specs.{declared.state.AllocationBody.AllocationBody, declared.state.Body.Body}
use Rattle.store_model.specs.declared.state.Body.TheVariants.{Allocation, Bytes, Descriptor}
use Rattle.store_model.specs.{declared.state.DescriptorBody.DescriptorBody, declared.store_handle.EntryList.EntryList}
use Rattle.store_model.specs.StoreState.{Range, StoreState, body_at, body_len, descriptor_len}
use Rattle.store_model.specs.HeapImage.{Links, links_bytes, kind_flags, descriptor_bytes, allocation_bytes, guid_behind, body_bytes, heap_image}
use Rattle.store_model.specs.Migration.{migrated_to, moved_number, moved_value, moved_descriptor, moved_body}
use Rattle.store_model.specs.Service.Descriptor.{is_named}
use Rattle.store_laws.proofs.{Fits.all_fit, Fits.body_is_of, Moved.moved_at, Descriptors.address_is, Descriptors.numbers_are_read}
use Rattle.store_laws.specs.{Growing.front_bytes, Word.word_in}
use Rattle.store_laws.specs.Items.{Item, items, links_before}
use Rattle.store_laws.proofs.{Facts.bodies_are_spelled, Front.front_piece, Front.number_is, Reading.image_at}
use Rattle.store_laws.proofs.Nodes.{piece_of, node_is, next_is_read, descriptor_is_read, second_is_read}
use Rattle.heap_store.specs.{declared.course.Course.Course, Ready.IsReady}
use Rattle.heap_store.specs.Linked.{Link, links_of, item_at, first_of, fields}
use Rattle.heap_store.specs.Relocated.{IsKept, IsNodeMoved, IsDescriptorMoved, ArePagesMoved, IsRelocated}
use Rattle.heap_store.proofs.Links.{items_old, items_new, first_is, drop_map, is_link}
use Rattle.heap_store.proofs.{MovedBodies.inside, MovedBodies.spelt_at, DescriptorMoves.descriptor_behind}
use Rattle.heap_store.proofs.NodeMoves.{next_within, descriptor_within, other_within}
use Rattle.heap_store.proofs.Numbers.{address_moves, place_moves, guid_moves}

-- parts of two pieces that are the same
kept_by : (old new a b : List ℕ) (p n k m : ℕ) → take n (drop p old) ≡ a → take n (drop p new) ≡ b → k + m ≤ n → take m (drop k b) ≡ take m (drop k a) → IsKept old new (p + k) m
kept_by old new a b p n k m f g le e = piece_of new b p n k m g le ∙ e ∙ sym (piece_of old a p n k m f le)

kept_first : (old new a b : List ℕ) (p n m : ℕ) → take n (drop p old) ≡ a → take n (drop p new) ≡ b → m ≤ n → take m (drop 0 b) ≡ take m (drop 0 a) → IsKept old new p m
kept_first old new a b p n m f g le e = let here : p + 0 ≡ p = omega arith in subst (λ k. IsKept old new k m) here (kept_by old new a b p n 0 m f g (omega (arith, le)) e)

-- the hand-off HOB
front_on : (s : StoreState) (to : Range) → take 16 (drop 0 (front_bytes (migrated_to s to))) ≡ take 16 (drop 0 (front_bytes s))
front_on s to = refl

front_kept : (s : StoreState) (to : Range) → IsKept (heap_image s) (heap_image (migrated_to s to)) 0 16
front_kept s to = front_piece (migrated_to s to) 0 16 (omega arith) ∙ front_on s to ∙ sym (front_piece s 0 16 (omega arith))

-- a node
number_on : (old new : Links) → new.number ≡ old.number → take 8 (drop 24 (links_bytes (Some new))) ≡ take 8 (drop 24 (links_bytes (Some old)))
number_on old new e = ap (little_bytes 8) e

node_moved : ReadsWhatItSpells → (s : StoreState) (to : Range) (course : Course) (list : EntryList) (i : ℕ) (link : Link) (rest : List Link) → IsReady s to course → drop i (links_of s list) ≡ link ∷ rest
    → IsNodeMoved s to (heap_image s) (heap_image (migrated_to s to)) link.node
node_moved law s to course list i link rest h e =
    let t = migrated_to s to in
    let is = is_link s to list i link rest h.state h.after e in
    let old : drop i (items s list) ≡ item_at s.base link ∷ map (item_at s.base) rest = ap (drop i) (items_old s list) ∙ drop_map (item_at s.base) (links_of s list) rest link i e in
    let new : drop i (items t list) ≡ item_at to.base link ∷ map (item_at to.base) rest = ap (drop i) (items_new s to list) ∙ drop_map (item_at to.base) (links_of s list) rest link i e in
    record {
      next = next_is_read law t list i (item_at to.base link) (map (item_at to.base) rest) h.after new ∙ first_is to.base rest
          ∙ sym (ap (moved_number s to) (next_is_read law s list i (item_at s.base link) (map (item_at s.base) rest) h.state old ∙ first_is s.base rest) ∙ address_moves s to course (first_of rest) h.way (next_within s to course (first_of rest) h is.next));
      descriptor = descriptor_is_read law t list i (item_at to.base link) (map (item_at to.base) rest) h.after new
          ∙ sym (ap (moved_number s to) (descriptor_is_read law s list i (item_at s.base link) (map (item_at s.base) rest) h.state old) ∙ place_moves s to course link.descriptor h.way (descriptor_within s to course link.descriptor h is.descriptor));
      second = second_is_read law t list i (item_at to.base link) (map (item_at to.base) rest) h.after new
          ∙ sym (ap (moved_number s to) (second_is_read law s list i (item_at s.base link) (map (item_at s.base) rest) h.state old) ∙ address_moves s to course link.other h.way (other_within s to course link.other h is.other));
      number = kept_by (heap_image s) (heap_image t) _ _ link.node 32 24 8
          (node_is s list i (item_at s.base link) (map (item_at s.base) rest) h.state old ∙ ap (λ n. links_bytes (Some (links_before (item_at s.base link) n))) (first_is s.base rest)) (node_is t list i (item_at to.base link) (map (item_at to.base) rest) h.after new ∙ ap (λ n. links_bytes (Some (links_before (item_at to.base link) n))) (first_is to.base rest)) (omega arith) (number_on (fields s.base link rest) (fields to.base link rest) refl);
    }

unmapped : {A B : Type 0} (f : A → B) (xs : List A) (i : ℕ) (y : B) (ys : List B) → drop i (map f xs) ≡ y ∷ ys → (x : A) × (rest : List A) × (drop i xs ≡ x ∷ rest) × (f x ≡ y)
unmapped f [] ℕ.zero y ys e = absurd cc
unmapped f [] (ℕ.suc i) y ys e = absurd cc
unmapped f (x ∷ xs) ℕ.zero y ys e = (x, xs, refl, cc)
unmapped f (x ∷ xs) (ℕ.suc i) y ys e = unmapped f xs i y ys e

item_moved : ReadsWhatItSpells → (s : StoreState) (to : Range) (course : Course) (list : EntryList) (i : ℕ) (item : Item) (rest : List Item) → IsReady s to course → drop i (items s list) ≡ item ∷ rest
    → IsNodeMoved s to (heap_image s) (heap_image (migrated_to s to)) item.node
item_moved law s to course list i item rest h e =
    let one = unmapped (item_at s.base) (links_of s list) i item rest (ap (drop i) (sym (items_old s list)) ∙ e) in
    subst (λ (x : Item). IsNodeMoved s to (heap_image s) (heap_image (migrated_to s to)) x.node) one.3 (node_moved law s to course list i one.0 one.1 h one.2)

-- a body stands in its place
there : (s : StoreState) (to : Range) (course : Course) (place : ℕ) (body : Body) → IsReady s to course → body_at s place ≡ Some body → body_at (migrated_to s to) place ≡ Some (moved_body s to place body)
there s to course place body h found = moved_at s to s.hobs 56 place h.state.board h.state.hobs ∙ ap (option_map (moved_body s to place)) found

old_piece : (s : StoreState) (to : Range) (course : Course) (place : ℕ) (body : Body) → IsReady s to course → body_at s place ≡ Some body → take (body_len body) (drop place (heap_image s)) ≡ body_bytes s place body
old_piece s to course place body h found = image_at s place body (bodies_are_spelled s h.state) found

new_piece : (s : StoreState) (to : Range) (course : Course) (place : ℕ) (body new : Body) → IsReady s to course → body_at s place ≡ Some body → moved_body s to place body ≡ new
    → take (body_len new) (drop place (heap_image (migrated_to s to))) ≡ body_bytes (migrated_to s to) place new
new_piece s to course place body new h found is = image_at (migrated_to s to) place new (bodies_are_spelled (migrated_to s to) h.after) (there s to course place body h found ∙ ap Some is)

plain_kept : (s : StoreState) (to : Range) (course : Course) (place : ℕ) (bytes : List ℕ) → IsReady s to course → body_at s place ≡ Some (Bytes bytes) → IsKept (heap_image s) (heap_image (migrated_to s to)) place (length bytes)
plain_kept s to course place bytes h found = new_piece s to course place (Bytes bytes) (Bytes bytes) h found refl ∙ sym (old_piece s to course place (Bytes bytes) h found)

forgotten_kept : (s : StoreState) (to : Range) (course : Course) (place : ℕ) (d : DescriptorBody) → IsReady s to course → body_at s place ≡ Some (Descriptor d) → is_named s place ≡ false
    → IsKept (heap_image s) (heap_image (migrated_to s to)) place (descriptor_len d.stands)
forgotten_kept s to course place d h found named =
    let bytes : List ℕ = descriptor_bytes s.base place d in
    let is : moved_body s to place (Descriptor d) ≡ Bytes bytes = ap (λ b. if b then Descriptor (moved_descriptor s to d) else Bytes (descriptor_bytes s.base place d)) named in
    let len : length bytes ≡ descriptor_len d.stands = (all_fit.descriptors s place d h.state found).spelled s.base place in
    ap (λ n. take n (drop place (heap_image (migrated_to s to)))) (sym len) ∙ new_piece s to course place (Descriptor d) (Bytes bytes) h found is ∙ sym (old_piece s to course place (Descriptor d) h found)

-- a descriptor that is named
flags_on : (base place to_base : ℕ) (d new : DescriptorBody) → new.kind ≡ d.kind → take 8 (drop 0 (descriptor_bytes to_base place new)) ≡ take 8 (drop 0 (descriptor_bytes base place d))
flags_on base place to_base d new e = ap (λ k. little_bytes 8 (kind_flags k)) e

guid_on : (s : StoreState) (to : Range) (place : ℕ) (d : DescriptorBody) (m : ℕ) → take m (drop 24 (descriptor_bytes to.base place (moved_descriptor s to d))) ≡ take m (drop 24 (descriptor_bytes s.base place d))
guid_on s to place d m = refl

descriptor_moved : ReadsWhatItSpells → (s : StoreState) (to : Range) (course : Course) (place : ℕ) (d : DescriptorBody) → IsReady s to course → body_at s place ≡ Some (Descriptor d) → is_named s place ≡ true
    → IsDescriptorMoved s to (heap_image s) (heap_image (migrated_to s to)) place d
descriptor_moved law s to course place d h found named =
    let t = migrated_to s to in
    let new : DescriptorBody = moved_descriptor s to d in
    let is : moved_body s to place (Descriptor d) ≡ Descriptor new = ap (λ b. if b then Descriptor (moved_descriptor s to d) else Bytes (descriptor_bytes s.base place d)) named in
    let later : body_at t place ≡ Some (Descriptor new) = there s to course place (Descriptor d) h found ∙ ap Some is in
    let a : take (descriptor_len d.stands) (drop place (heap_image s)) ≡ descriptor_bytes s.base place d = old_piece s to course place (Descriptor d) h found in
    let b : take (descriptor_len d.stands) (drop place (heap_image t)) ≡ descriptor_bytes to.base place new = new_piece s to course place (Descriptor d) (Descriptor new) h found is in
    let long : descriptor_len d.stands ≡ 24 + length (guid_behind d d.stands) = descriptor_behind s place d (spelt_at (body_bytes s) s.hobs 56 place (Descriptor d) h.bodies found) in
    record {
      flags = kept_first (heap_image s) (heap_image t) _ _ place (descriptor_len d.stands) 8 a b (omega (arith, long)) (flags_on s.base place to.base d new refl);
      address = address_is law t place new h.after later
          ∙ sym (ap (moved_number s to) (address_is law s place d h.state found) ∙ guid_moves s to course place d.stands h.way (h.descriptors place d found).guid (inside s to course place (Descriptor d) h found));
      number = numbers_are_read law t place new h.after later ∙ sym (ap (moved_value s to d.kind) (numbers_are_read law s place d h.state found));
      guid = kept_by (heap_image s) (heap_image t) _ _ place (descriptor_len d.stands) 24 (length (guid_behind d d.stands)) a b (omega (arith, long)) (guid_on s to place d (length (guid_behind d d.stands)));
    }

-- pages
name_on : (a : AllocationBody) (end to_end : ℕ) → take 16 (drop 0 (allocation_bytes to_end a)) ≡ take 16 (drop 0 (allocation_bytes end a))
name_on a end to_end = refl

kind_on : (a : AllocationBody) (end to_end : ℕ) → take 16 (drop 24 (allocation_bytes to_end a)) ≡ take 16 (drop 24 (allocation_bytes end a))
kind_on a end to_end = refl

base_on : (a : AllocationBody) (end : ℕ) → take 8 (drop 16 (allocation_bytes end a)) ≡ little_bytes 8 (end - a.below)
base_on a end = refl

base_read : ReadsWhatItSpells → (a : AllocationBody) (heap : List ℕ) (place end : ℕ) → end ≤ 0x10000000000 → take 40 (drop place heap) ≡ allocation_bytes end a → word_in heap (place + 16) ≡ end - a.below
base_read law a heap place end low is =
    number_is 8 (end - a.below) (take 8 (drop (place + 16) heap)) law (omega (arith, low)) (piece_of heap (allocation_bytes end a) place 40 16 8 is (omega arith) ∙ base_on a end)

below_end : (below page_end top old new : ℕ) → below ≤ page_end → old ≡ page_end - below → new ≡ top - below → new ≡ top - (page_end - old)
below_end below page_end top old new le e f = omega (arith, le, e, f)

abbrev IsBelow : StoreState → AllocationBody → Type 0
IsBelow s a = a.below ≤ s.page_end

pages_moved : ReadsWhatItSpells → (s : StoreState) (to : Range) (course : Course) (place : ℕ) (a : AllocationBody) → IsReady s to course → body_at s place ≡ Some (Allocation a) → IsBelow s a
    → ArePagesMoved s to (heap_image s) (heap_image (migrated_to s to)) place
pages_moved law s to course place a h found below =
    let t = migrated_to s to in
    let old : take 40 (drop place (heap_image s)) ≡ allocation_bytes s.page_end a = old_piece s to course place (Allocation a) h found in
    let new : take 40 (drop place (heap_image t)) ≡ allocation_bytes (to.base + to.len) a = new_piece s to course place (Allocation a) (Allocation a) h found refl in
    record {
      name = kept_first (heap_image s) (heap_image t) _ _ place 40 16 old new (omega arith) (name_on a s.page_end (to.base + to.len));
      base = below_end a.below s.page_end (to.base + to.len) (word_in (heap_image s) (place + 16)) (word_in (heap_image t) (place + 16)) below
          (base_read law a (heap_image s) place s.page_end h.way.low old) (base_read law a (heap_image t) place (to.base + to.len) h.way.high new);
      kind = kept_by (heap_image s) (heap_image t) _ _ place 40 24 16 old new (omega arith) (kind_on a s.page_end (to.base + to.len));
    }

taken_below : (s : StoreState) (to : Range) (course : Course) (place : ℕ) (a : AllocationBody) → IsReady s to course → s.taken ≤ s.board.pages → body_at s place ≡ Some (Allocation a) → IsBelow s a
taken_below s to course place a h few found =
    let is = body_is_of s place (Allocation a) h.state found in
    let below = is.1.1.below in
    let end = h.way.end in
    omega (arith, below, few, end)

pub relocated : ReadsWhatItSpells → (s : StoreState) (to : Range) (course : Course) → IsReady s to course → s.taken ≤ s.board.pages → IsRelocated s to (heap_image s) (heap_image (migrated_to s to))
relocated law s to course h few = record {
  front = front_kept s to;
  nodes = λ list i item rest e. item_moved law s to course list i item rest h e;
  descriptors = λ place d found named. descriptor_moved law s to course place d h found named;
  forgotten = λ place d found named. forgotten_kept s to course place d h found named;
  pages = λ place a found. pages_moved law s to course place a h found (taken_below s to course place a h few found);
  plain = λ place bytes found. plain_kept s to course place bytes h found;
}
