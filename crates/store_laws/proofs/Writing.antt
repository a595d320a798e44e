-- Nodes written: a state that has another's HOBs and other lists.
use Rattle.std.proofs.Common.{◌≡◌, ◌≢◌, ℕ, ◌+◌, ◌-◌, ◌≤◌, Bool, true, false, cond, List, [], ◌∷◌, length, arith, ap, refl, sym, ◌∙◌, Some, ◌==◌}
use Rattle.std.proofs.lemmas.Bool.Decides.{nat_tests}
use Rattle.phys_mem.specs.Region.{replaced}
use Rattle.store_model.specs.{declared.state.Body.Body, declared.state.Entry.Entry, declared.state.Pending.Pending}
use Rattle.store_model.specs.declared.state.Body.TheVariants.{Bytes, Descriptor, Node, Allocation}
use Rattle.store_model.specs.{declared.state.HobEntry.HobEntry, StateFacts.IsNodeAt}
use Rattle.store_model.specs.StoreState.{StoreState, body_from, with_body, hob_len, body_len, end_place}
use Rattle.store_model.specs.HeapImage.{links_at, links_bytes, body_bytes, heap_image}
use Rattle.store_laws.specs.Spelling.{spelled, AreSpelled, AgreeBut}
use Rattle.store_laws.proofs.HeapBodies.{bodies_are_written, body_behind, body_inside}
use Rattle.store_laws.proofs.{Facts.node_is_32, HeapItems.same_is, HeapItems.other_is, Image.image_written, Image.image_written_twice}

-- the same HOBs, and other lists
abbrev pub altered : StoreState → List Entry → List Entry → List Entry → List Pending → StoreState
altered s ppis callbacks dispatches pendings = record s { ppis = ppis; callbacks = callbacks; dispatches = dispatches; pendings = pendings }

-- a body that does not change
unchanged_on : (b : Bool) (hob : HobEntry) (rest : List HobEntry) → (cond b (record hob { body = hob.body }) hob) ∷ rest ≡ hob ∷ rest
unchanged_on true hob rest = refl
unchanged_on false hob rest = refl

pub unchanged : (hobs : List HobEntry) (at p : ℕ) → with_body (λ body. body) at hobs p ≡ hobs
unchanged [] at p = refl
unchanged (hob ∷ hobs) at p = unchanged_on (at + 8 == p) hob (with_body (λ body. body) (at + hob_len hob) hobs p) ∙ ap (λ rest. hob ∷ rest) (unchanged hobs (at + hob_len hob) p)

-- one spelling at a place, and another elsewhere
abbrev mixed : ℕ → (ℕ → Body → List ℕ) → (ℕ → Body → List ℕ) → ℕ → Body → List ℕ
mixed p f g place body = cond (place == p) (g place body) (f place body)

mixed_here : (p : ℕ) (f g : ℕ → Body → List ℕ) (body : Body) → mixed p f g p body ≡ g p body
mixed_here p f g body = rw (same_is p) refl

mixed_other : (p : ℕ) (f g : ℕ → Body → List ℕ) → AgreeBut p f (mixed p f g)
mixed_other p f g place body h = rw (other_is place p h) refl

rest_on : (p : ℕ) (f g : ℕ → Body → List ℕ) (place : ℕ) (body : Body) (b : Bool) → (place == p) ≡ b → (place ≢ p → g place body ≡ f place body) → g place body ≡ cond b (g place body) (f place body)
rest_on p f g place body true e h = refl
rest_on p f g place body false e h = h (λ same. let t : (place == p) ≡ true = grind (arith, nat_tests, same) in let no : true ≡ false = sym t ∙ e in cc)

either : (b : Bool) (x y : List ℕ) (n : ℕ) → length x ≡ n → length y ≡ n → length (cond b x y) ≡ n
either true x y n h k = h
either false x y n h k = k

mixed_spelt : (p : ℕ) (f g : ℕ → Body → List ℕ) (hobs : List HobEntry) → AreSpelled f hobs → AreSpelled g hobs → AreSpelled (mixed p f g) hobs
mixed_spelt p f g [] h k = tt
mixed_spelt p f g (hob ∷ hobs) h k = (λ place. either (place == p) (g place hob.body) (f place hob.body) (body_len hob.body) (k.0 place) (h.0 place), mixed_spelt p f g hobs h.1 k.1)

pub written_once : (f g : ℕ → Body → List ℕ) (hobs : List HobEntry) (at p : ℕ) (body : Body) → AreSpelled f hobs → AgreeBut p f g → body_from at hobs p ≡ Some body → length (g p body) ≡ body_len body
    → spelled g at hobs ≡ replaced (spelled f at hobs) (p - at) (g p body)
written_once f g hobs at p body spelt agree found len = ap (spelled g at) (sym (unchanged hobs at p)) ∙ bodies_are_written f g (λ body. body) hobs at p body spelt agree found refl len

-- two spellings agree but at two places
twice : (f g : ℕ → Body → List ℕ) (hobs : List HobEntry) (at p q : ℕ) (a b : Body) → AreSpelled f hobs → AreSpelled g hobs → ((place : ℕ) (body : Body) → place ≢ p → place ≢ q → g place body ≡ f place body)
    → body_from at hobs p ≡ Some a → body_from at hobs q ≡ Some b → length (g p a) ≡ body_len a → length (g q b) ≡ body_len b
    → spelled g at hobs ≡ replaced (replaced (spelled f at hobs) (p - at) (g p a)) (q - at) (g q b)
twice f g hobs at p q a b spelt spelt_then agree here there a_len b_len =
    let h = mixed p f g in
    let first : spelled h at hobs ≡ replaced (spelled f at hobs) (p - at) (h p a) = written_once f h hobs at p a spelt (mixed_other p f g) here (ap length (mixed_here p f g a) ∙ a_len) in
    let rest : AgreeBut q h g = λ place body n. rest_on p f g place body (place == p) refl (λ m. agree place body m n) in
    written_once h g hobs at q b (mixed_spelt p f g hobs spelt spelt_then) rest there b_len
    ∙ ap (λ x. replaced x (q - at) (g q b)) (first ∙ ap (replaced (spelled f at hobs) (p - at)) (mixed_here p f g a))

-- bodies of a state with other lists
pub body_same : (s : StoreState) (a b c : List Entry) (d : List Pending) (place : ℕ) (body : Body) → links_at (altered s a b c d) place ≡ links_at s place → body_bytes (altered s a b c d) place body ≡ body_bytes s place body
body_same s a b c d place (Bytes bytes) e = refl
body_same s a b c d place (Descriptor x) e = refl
body_same s a b c d place Node e = ap links_bytes e
body_same s a b c d place (Allocation x) e = refl

altered_len : (s : StoreState) (a b c : List Entry) (d : List Pending) (place : ℕ) (body : Body) → length (body_bytes s place body) ≡ body_len body → length (body_bytes (altered s a b c d) place body) ≡ body_len body
altered_len s a b c d place (Bytes bytes) h = h
altered_len s a b c d place (Descriptor x) h = h
altered_len s a b c d place Node h = node_is_32 (links_at (altered s a b c d) place)
altered_len s a b c d place (Allocation x) h = h

pub altered_spelt : (s : StoreState) (a b c : List Entry) (d : List Pending) (hobs : List HobEntry) → AreSpelled (body_bytes s) hobs → AreSpelled (body_bytes (altered s a b c d)) hobs
altered_spelt s a b c d [] h = tt
altered_spelt s a b c d (hob ∷ hobs) h = (λ place. altered_len s a b c d place hob.body (h.0 place), altered_spelt s a b c d hobs h.1)

node_inside : (s : StoreState) (p : ℕ) → IsNodeAt s p → (56 ≤ p) × (p + 32 ≤ end_place s)
node_inside s p h = let le = body_behind s.hobs 56 p Node h in (omega (arith, le), body_inside s.hobs 56 p Node h)

-- one node has other fields
pub node_written : (s : StoreState) (a b c : List Entry) (d : List Pending) (p : ℕ) → AreSpelled (body_bytes s) s.hobs → IsNodeAt s p → ((place : ℕ) → place ≢ p → links_at (altered s a b c d) place ≡ links_at s place)
    → heap_image (altered s a b c d) ≡ replaced (heap_image s) p (links_bytes (links_at (altered s a b c d) p))
node_written s a b c d p spelt node agree =
    let t = altered s a b c d in
    let le = node_inside s p node in
    let text = links_bytes (links_at t p) in
    let size : length text ≡ 32 = node_is_32 (links_at t p) in
    image_written s t p text spelt (altered_spelt s a b c d s.hobs spelt) refl refl refl le.0 (omega (arith, le.1, size))
    (written_once (body_bytes s) (body_bytes t) s.hobs 56 p Node spelt (λ place body n. body_same s a b c d place body (agree place n)) node size)

-- two nodes have other fields
pub nodes_written : (s : StoreState) (a b c : List Entry) (d : List Pending) (p q : ℕ) → AreSpelled (body_bytes s) s.hobs → IsNodeAt s p → IsNodeAt s q
    → ((place : ℕ) → place ≢ p → place ≢ q → links_at (altered s a b c d) place ≡ links_at s place)
    → heap_image (altered s a b c d) ≡ replaced (replaced (heap_image s) p (links_bytes (links_at (altered s a b c d) p))) q (links_bytes (links_at (altered s a b c d) q))
nodes_written s a b c d p q spelt node other agree =
    let t = altered s a b c d in
    let le = node_inside s p node in
    let lq = node_inside s q other in
    let text = links_bytes (links_at t p) in
    let more = links_bytes (links_at t q) in
    let size : length text ≡ 32 = node_is_32 (links_at t p) in
    let len : length more ≡ 32 = node_is_32 (links_at t q) in
    image_written_twice s t p q text more spelt (altered_spelt s a b c d s.hobs spelt) refl refl refl le.0 (omega (arith, le.1, size)) lq.0 (omega (arith, lq.1, len))
    (twice (body_bytes s) (body_bytes t) s.hobs 56 p q Node Node spelt (altered_spelt s a b c d s.hobs spelt) (λ place body n m. body_same s a b c d place body (agree place n m)) node other size len)
