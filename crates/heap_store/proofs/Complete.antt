-- Where all four lists and the HOBs are walked, the bytes are the image of the state after the move.
use Rattle.std.proofs.Common.{◌≡◌, ℕ, ◌+◌, ◌-◌, ◌==◌, ◌||◌, Bool, true, false, cond, List, [], ◌∷◌, ◌++◌, length, replicate, arith, ap, refl, sym, ◌∙◌, None, append_assoc, sum_by, length-append}
use Rattle.hob_codec.specs.declared.kind.TheConstants.{END}
use Rattle.store_model.specs.{declared.state.Body.Body, declared.state.HobEntry.HobEntry, StateFacts.IsStoreState, StateFacts.IsHobEntry}
use Rattle.store_model.specs.declared.state.Body.TheVariants.{Bytes, Descriptor, Node, Allocation}
use Rattle.pi_base.specs.Lists.{Each}
use Rattle.pi_base.proofs.ListFacts.{each_more}
use Rattle.store_model.specs.StoreState.{Range, StoreState, hob_len, body_len, end_place}
use Rattle.store_model.specs.HeapImage.{header_bytes, descriptor_bytes, node_bytes, allocation_bytes, links_at, links_bytes, hobs_bytes, heap_image}
use Rattle.store_model.specs.Migration.{migrated_to, moved_descriptor, moved_body, moved_hobs}
use Rattle.store_laws.proofs.{Moved.moved_len, Growing.spelled_len, Facts.bodies_are_spelled, Moving.heaps_are_moved, HeapItems.same_is}
use Rattle.store_laws.specs.{Growing.front_bytes, Spelling.spelled}
use Rattle.store_laws.specs.Moving.{Done, half, all_done}
use Rattle.heap_store.specs.Half.{half_image, behind, lists_done}
use Rattle.heap_store.specs.Pages.{with_pages, with_hobs}
use Rattle.heap_store.proofs.{Marks.no_links, Marks.named_done, Steps.half_spelt}

-- the HOBs' walk leaves nodes and descriptors
step_nodes : (done : Done) (p : ℕ) (body : Body) → (with_pages done p body).nodes ≡ done.nodes
step_nodes done p (Bytes bytes) = refl
step_nodes done p (Descriptor d) = refl
step_nodes done p Node = refl
step_nodes done p (Allocation a) = refl

hobs_nodes : (done : Done) (at : ℕ) (hobs : List HobEntry) → (with_hobs done at hobs).nodes ≡ done.nodes
hobs_nodes done at [] = refl
hobs_nodes done at (hob ∷ hobs) = hobs_nodes (with_pages done (at + 8) hob.body) (at + hob_len hob) hobs ∙ step_nodes done (at + 8) hob.body

step_descriptors : (done : Done) (p : ℕ) (body : Body) → (with_pages done p body).descriptors ≡ done.descriptors
step_descriptors done p (Bytes bytes) = refl
step_descriptors done p (Descriptor d) = refl
step_descriptors done p Node = refl
step_descriptors done p (Allocation a) = refl

hobs_descriptors : (done : Done) (at : ℕ) (hobs : List HobEntry) → (with_hobs done at hobs).descriptors ≡ done.descriptors
hobs_descriptors done at [] = refl
hobs_descriptors done at (hob ∷ hobs) = hobs_descriptors (with_pages done (at + 8) hob.body) (at + hob_len hob) hobs ∙ step_descriptors done (at + 8) hob.body

-- it marks all pages
or_true : (b : Bool) → (b || true) ≡ true
or_true true = refl
or_true false = refl

step_keeps : (done : Done) (p place : ℕ) (body : Body) → done.pages place ≡ true → (with_pages done p body).pages place ≡ true
step_keeps done p place (Bytes bytes) h = h
step_keeps done p place (Descriptor d) h = h
step_keeps done p place Node h = h
step_keeps done p place (Allocation a) h = ap (λ b. b || place == p) h

hobs_keep : (done : Done) (at place : ℕ) (hobs : List HobEntry) → done.pages place ≡ true → (with_hobs done at hobs).pages place ≡ true
hobs_keep done at place [] h = h
hobs_keep done at place (hob ∷ hobs) h = hobs_keep (with_pages done (at + 8) hob.body) (at + hob_len hob) place hobs (step_keeps done (at + 8) place hob.body h)

abbrev IsMarked : Done → ℕ → Body → Type 0
IsMarked done place (Bytes bytes) = Unit {0}
IsMarked done place (Descriptor d) = Unit {0}
IsMarked done place Node = Unit {0}
IsMarked done place (Allocation a) = done.pages place ≡ true

abbrev AreMarked : Done → ℕ → List HobEntry → Type 0
AreMarked done at [] = Unit {0}
AreMarked done at (hob ∷ hobs) = IsMarked done (at + 8) hob.body × AreMarked done (at + hob_len hob) hobs

here_marked : (done : Done) (p at : ℕ) (body : Body) (hobs : List HobEntry) → IsMarked (with_hobs (with_pages done p body) at hobs) p body
here_marked done p at (Bytes bytes) hobs = tt
here_marked done p at (Descriptor d) hobs = tt
here_marked done p at Node hobs = tt
here_marked done p at (Allocation a) hobs = hobs_keep (with_pages done p (Allocation a)) at p hobs (ap (λ b. done.pages p || b) (same_is p) ∙ or_true (done.pages p))

are_marked : (done : Done) (at : ℕ) (hobs : List HobEntry) → AreMarked (with_hobs done at hobs) at hobs
are_marked done at [] = tt
are_marked done at (hob ∷ hobs) = (here_marked done (at + 8) (at + hob_len hob) hob.body hobs, are_marked (with_pages done (at + 8) hob.body) (at + hob_len hob) hobs)

-- so each body is spelled as where all is done
node_on : (s : StoreState) (to : Range) (place : ℕ) (b : Bool) → (b ≡ false → (base : ℕ) → links_at (record s { base = base }) place ≡ None) → cond b (node_bytes (migrated_to s to) place) (node_bytes s place) ≡ node_bytes (migrated_to s to) place
node_on s to place true h = refl
node_on s to place false h = ap links_bytes (h refl s.base ∙ sym (h refl to.base))

body_done : (s : StoreState) (to : Range) (done : Done) (place : ℕ) (body : Body) → done.nodes ≡ (lists_done s).nodes → done.descriptors ≡ (lists_done s).descriptors → IsMarked done place body
    → half s to done place body ≡ half s to (all_done s) place body
body_done s to done place (Bytes bytes) n d m = refl
body_done s to done place (Descriptor b) n d m = ap (λ x. cond x (descriptor_bytes to.base place (moved_descriptor s to b)) (descriptor_bytes s.base place b)) (ap (λ f. f place) d ∙ named_done s place)
body_done s to done place Node n d m = ap (λ f. cond (f place) (node_bytes (migrated_to s to) place) (node_bytes s place)) n ∙ node_on s to place ((lists_done s).nodes place) (no_links s place)
body_done s to done place (Allocation a) n d m = ap (λ x. cond x (allocation_bytes (to.base + to.len) a) (allocation_bytes s.page_end a)) m

spelled_done : (s : StoreState) (to : Range) (done : Done) (at : ℕ) (hobs : List HobEntry) → done.nodes ≡ (lists_done s).nodes → done.descriptors ≡ (lists_done s).descriptors → AreMarked done at hobs
    → spelled (half s to done) at hobs ≡ spelled (half s to (all_done s)) at hobs
spelled_done s to done at [] n d m = refl
spelled_done s to done at (hob ∷ hobs) n d m =
    ap (λ x. header_bytes hob.kind (hob_len hob) ++ x ++ spelled (half s to done) (at + hob_len hob) hobs) (body_done s to done (at + 8) hob.body n d m.0)
    ∙ ap (λ x. header_bytes hob.kind (hob_len hob) ++ half s to (all_done s) (at + 8) hob.body ++ x) (spelled_done s to done (at + hob_len hob) hobs n d m.1)

-- each body keeps its length
moved_lens : (s : StoreState) (to : Range) → IsStoreState s → Each (λ hob. (place : ℕ) → body_len (moved_body s to place hob.body) ≡ body_len hob.body) s.hobs
moved_lens s to h =
    each_more (IsHobEntry s.board s.taken) (λ (hob : HobEntry). (place : ℕ) → body_len (moved_body s to place hob.body) ≡ body_len hob.body) s.hobs (λ hob is place. moved_len s to place hob.kind hob.body h.board is.body) h.hobs

-- the image in its parts
image_parts : (front bodies end : List ℕ) (len place : ℕ) → length front ≡ 56 → length end ≡ 8 → place ≡ 56 + length bodies
    → front ++ bodies ++ (end ++ replicate (len - (place + 8)) 0) ≡ front ++ bodies ++ end ++ replicate (len - length (front ++ bodies ++ end)) 0
image_parts front bodies end len place f e p =
    let size : length (front ++ bodies ++ end) ≡ place + 8 = length-append (front ++ bodies) end ∙ ap (λ n. n + length end) (length-append front bodies) ∙ omega (arith, f, e, p) in
    sym (append_assoc (front ++ bodies) end (replicate (len - (place + 8)) 0)) ∙ ap (λ n. front ++ bodies ++ end ++ replicate (len - n) 0) (sym size)

pub image_done : (s : StoreState) (to : Range) → IsStoreState s → half_image s to (with_hobs (lists_done s) 56 s.hobs) ≡ heap_image (migrated_to s to)
unfolding half_image behind
image_done s to h =
    let done = with_hobs (lists_done s) 56 s.hobs in
    let front : List ℕ = front_bytes (migrated_to s to) in
    let end : List ℕ = header_bytes END 8 in
    let lens = moved_lens s to h in
    let bodies : spelled (half s to done) 56 s.hobs ≡ hobs_bytes (migrated_to s to) 56 (moved_hobs s to 56 s.hobs) =
    spelled_done s to done 56 s.hobs (hobs_nodes (lists_done s) 56 s.hobs) (hobs_descriptors (lists_done s) 56 s.hobs) (are_marked (lists_done s) 56 s.hobs) ∙ heaps_are_moved s to s.hobs 56 lens in
    let len : length (spelled (half s to done) 56 s.hobs) ≡ sum_by hob_len s.hobs = spelled_len (half s to done) 56 s.hobs (half_spelt s to done s.hobs (bodies_are_spelled s h)) in
    let size : end_place s ≡ 56 + length (hobs_bytes (migrated_to s to) 56 (moved_hobs s to 56 s.hobs)) = ap (λ n. 56 + n) (sym len ∙ ap length bodies) in
    ap (λ x. front ++ x ++ (end ++ replicate (to.len - (end_place s + 8)) 0)) bodies
    ∙ image_parts front (hobs_bytes (migrated_to s to) 56 (moved_hobs s to 56 s.hobs)) end to.len (end_place s) refl refl size
