-- One body more is done: what is read there, and what is written.
use Rattle.std.proofs.Common.{◌≡◌, ℕ, ◌+◌, ◌-◌, ◌≤◌, Bool, true, false, cond, List, [], ◌∷◌, ◌++◌, length, take, drop, arith, ap, refl, sym, ◌∙◌, Option, Some, None, sum_by, length-append}
use Rattle.pi_base.specs.Field.{little_bytes}
use Rattle.phys_mem.specs.Region.{replaced}
use Rattle.store_model.specs.{declared.state.Body.Body, declared.state.DescriptorBody.DescriptorBody, declared.state.HobEntry.HobEntry}
use Rattle.store_model.specs.declared.state.Body.TheVariants.{Bytes, Descriptor, Node, Allocation}
use Rattle.store_model.specs.StoreState.{Range, StoreState, body_at, body_len, hob_len}
use Rattle.store_model.specs.HeapImage.{Links, body_bytes, descriptor_bytes, node_bytes, guid_behind, links_bytes}
use Rattle.store_model.specs.Migration.{migrated_to, moved_descriptor}
use Rattle.store_laws.specs.{Growing.front_bytes, Spelling.spelled, Spelling.AreSpelled, Moving.Done, Moving.half}
use Rattle.store_laws.proofs.{HeapBodies.body_behind, HeapBodies.body_inside, Growing.spelled_len}
use Rattle.heap_store.specs.{declared.words.Words.Words, Half.half_image, Half.behind}
use Rattle.heap_store.specs.WordBytes.{words_bytes, descriptor_words, links_words}
use Rattle.heap_store.specs.Linked.{Link, fields, IsLink}
use Rattle.heap_store.proofs.Frame.{frame_read, framed, front_written, front_read, rest_read}
use Rattle.heap_store.proofs.Spelt.{words_len}

-- each body has its length, whatever is done
either : (b : Bool) (x y : List ℕ) (n : ℕ) → length x ≡ n → length y ≡ n → length (cond b x y) ≡ n
either true x y n h k = h
either false x y n h k = k

links_len : (links : Option Links) → length (links_bytes links) ≡ 32
links_len None = refl
links_len (Some links) = refl

half_len : (s : StoreState) (to : Range) (done : Done) (place : ℕ) (body : Body) → length (body_bytes s place body) ≡ body_len body → length (half s to done place body) ≡ body_len body
half_len s to done place (Bytes bytes) h = refl
half_len s to done place (Descriptor d) h = either (done.descriptors place) (descriptor_bytes to.base place (moved_descriptor s to d)) (descriptor_bytes s.base place d) (body_len (Descriptor d)) h h
half_len s to done place Node h = either (done.nodes place) (node_bytes (migrated_to s to) place) (node_bytes s place) 32 (links_len _) (links_len _)
half_len s to done place (Allocation a) h = either (done.pages place) _ _ 40 refl refl

pub half_spelt : (s : StoreState) (to : Range) (done : Done) (hobs : List HobEntry) → AreSpelled (body_bytes s) hobs → AreSpelled (half s to done) hobs
half_spelt s to done [] h = tt
half_spelt s to done (hob ∷ hobs) h = (λ place. half_len s to done place hob.body (h.0 place), half_spelt s to done hobs h.1)

front_len : (s : StoreState) → length (front_bytes s) ≡ 56
front_len s = refl

-- the front of a body is read
pub step_read : (s : StoreState) (to : Range) (done : Done) (p : ℕ) (body : Body) (old : Words) (rest : List ℕ) → AreSpelled (body_bytes s) s.hobs → body_at s p ≡ Some body
    → half s to done p body ≡ words_bytes old ++ rest → 24 ≤ body_len body → take 24 (drop p (half_image s to done)) ≡ words_bytes old
unfolding half_image
step_read s to done p body old rest spelt found is le =
    front_read (drop p (front_bytes (migrated_to s to) ++ spelled (half s to done) 56 s.hobs ++ behind s to)) (words_bytes old) rest 24 (body_len body) (words_len old) le
    (frame_read (front_bytes (migrated_to s to)) (behind s to) (half s to done) s.hobs p body (front_len (migrated_to s to)) (half_spelt s to done s.hobs spelt) found ∙ is)

-- its front is written, where the rest stays
pub step_written : (s : StoreState) (to : Range) (done more : Done) (p : ℕ) (body : Body) (old new : Words) (rest : List ℕ) → AreSpelled (body_bytes s) s.hobs → body_at s p ≡ Some body
    → half s to done p body ≡ words_bytes old ++ rest → body_len body ≡ 24 + length rest
    → spelled (half s to more) 56 s.hobs ≡ replaced (spelled (half s to done) 56 s.hobs) (p - 56) (words_bytes new ++ rest)
    → half_image s to more ≡ replaced (half_image s to done) p (words_bytes new)
unfolding half_image
step_written s to done more p body old new rest spelt found was len moved =
    let front : List ℕ = front_bytes (migrated_to s to) in
    let tail : List ℕ = behind s to in
    let bodies : List ℕ = spelled (half s to done) 56 s.hobs in
    let heap : List ℕ = front ++ bodies ++ tail in
    let behind : 56 + 8 ≤ p = body_behind s.hobs 56 p body found in
    let before : p + body_len body ≤ 56 + sum_by hob_len s.hobs = body_inside s.hobs 56 p body found in
    let size : length bodies ≡ sum_by hob_len s.hobs = spelled_len (half s to done) 56 s.hobs (half_spelt s to done s.hobs spelt) in
    let text : length (words_bytes new ++ rest) ≡ 24 + length rest = length-append (words_bytes new) rest ∙ ap (λ n. n + length rest) (words_len new) in
    let there : take (body_len body) (drop p heap) ≡ words_bytes old ++ rest =
    frame_read front tail (half s to done) s.hobs p body (front_len (migrated_to s to)) (half_spelt s to done s.hobs spelt) found ∙ was in
    let same : take (length rest) (drop (p + 24) heap) ≡ rest =
    rest_read heap (words_bytes old) rest p 24 (length rest) (words_len old) (ap (λ n. take n (drop p heap)) (sym len) ∙ there) in
    let same_new : take (length rest) (drop (p + length (words_bytes new)) heap) ≡ rest = ap (λ n. take (length rest) (drop (p + n) heap)) (words_len new) ∙ same in
    framed front bodies tail (words_bytes new ++ rest) (spelled (half s to more) 56 s.hobs) p (front_len (migrated_to s to)) behind (omega (arith, before, size, text, len)) moved
    ∙ front_written heap (words_bytes new) rest p same_new

-- a descriptor
pub descriptor_is : (s : StoreState) (to : Range) (done : Done) (p : ℕ) (d : DescriptorBody) (b : Bool) → done.descriptors p ≡ b
    → half s to done p (Descriptor d) ≡ words_bytes (cond b (descriptor_words to.base p (moved_descriptor s to d)) (descriptor_words s.base p d)) ++ guid_behind d d.stands
unfolding words_bytes
descriptor_is s to done p d true e = ap (λ b. cond b (descriptor_bytes to.base p (moved_descriptor s to d)) (descriptor_bytes s.base p d)) e
descriptor_is s to done p d false e = ap (λ b. cond b (descriptor_bytes to.base p (moved_descriptor s to d)) (descriptor_bytes s.base p d)) e

pub spelt_descriptor : (base p : ℕ) (d : DescriptorBody) → descriptor_bytes base p d ≡ words_bytes (descriptor_words base p d) ++ guid_behind d d.stands
unfolding words_bytes
spelt_descriptor base p d = refl

-- a node
spelt_links : (links : Links) → links_bytes (Some links) ≡ words_bytes (links_words links) ++ little_bytes 8 links.number
unfolding words_bytes
spelt_links links = refl

node_old : (s : StoreState) (to : Range) (link : Link) (rest : List Link) → IsLink s to link rest → node_bytes s link.node ≡ links_bytes (Some (fields s.base link rest))
node_old s to link rest h = ap links_bytes h.old

pub node_new : (s : StoreState) (to : Range) (link : Link) (rest : List Link) → IsLink s to link rest → node_bytes (migrated_to s to) link.node ≡ words_bytes (links_words (fields to.base link rest)) ++ little_bytes 8 link.number
node_new s to link rest h = ap links_bytes h.new ∙ spelt_links (fields to.base link rest)

pub node_is : (s : StoreState) (to : Range) (done : Done) (link : Link) (rest : List Link) (b : Bool) → IsLink s to link rest → done.nodes link.node ≡ b
    → half s to done link.node Node ≡ words_bytes (cond b (links_words (fields to.base link rest)) (links_words (fields s.base link rest))) ++ little_bytes 8 link.number
node_is s to done link rest true h e = ap (λ b. cond b (node_bytes (migrated_to s to) link.node) (node_bytes s link.node)) e ∙ node_new s to link rest h
node_is s to done link rest false h e = ap (λ b. cond b (node_bytes (migrated_to s to) link.node) (node_bytes s link.node)) e ∙ node_old s to link rest h ∙ spelt_links (fields s.base link rest)
