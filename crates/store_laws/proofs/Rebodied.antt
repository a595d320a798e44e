-- A state with other lists and one other body.
use Rattle.std.proofs.Common.{◌≡◌, ◌≢◌, ℕ, ◌+◌, ◌-◌, Bool, true, false, cond, List, [], ◌∷◌, ◌++◌, length, arith, ap, refl, sym, ◌∙◌, Some, ◌==◌, sum_by}
use Rattle.std.proofs.{lemmas.Bool.Decides.nat_tests, lemmas.List.Sums.sum_by-cons}
use Rattle.phys_mem.specs.Region.{replaced}
use Rattle.hob_codec.specs.{declared.kind.TheConstants.HANDOFF, HobValue.HandoffHob, HobBytes.joined, HobBytes.fields_of}
use Rattle.store_model.specs.{declared.state.Body.Body, declared.state.Entry.Entry, declared.state.Pending.Pending}
use Rattle.store_model.specs.declared.state.Body.TheVariants.{Bytes, Descriptor, Node, Allocation}
use Rattle.store_model.specs.{declared.state.HobEntry.HobEntry, StateFacts.IsStoreState}
use Rattle.store_model.specs.StoreState.{StoreState, end_place, hob_len, body_len, body_from, body_at, with_body, page_bytes}
use Rattle.store_model.specs.HeapImage.{header_bytes, body_bytes, links_at, links_bytes, heap_image}
use Rattle.store_laws.specs.{Spelling.AreSpelled, Growing.front_bytes}
use Rattle.store_laws.proofs.{HeapBodies.past, HeapBodies.bodies_are_written, Image.image_written}
use Rattle.store_laws.proofs.Facts.{bodies_are_spelled, places_are_inside, node_is_32}

-- the HOBs are as long as before
sum_on : (change : Body → Body) (hob : HobEntry) (hobs : List HobEntry) (at p : ℕ) (body : Body) (b : Bool) → (at + 8 == p) ≡ b → cond b (Some hob.body) (body_from (at + hob_len hob) hobs p) ≡ Some body → body_len (change body) ≡ body_len body
    → (body_from (at + hob_len hob) hobs p ≡ Some body → sum_by hob_len (with_body change (at + hob_len hob) hobs p) ≡ sum_by hob_len hobs)
    → sum_by hob_len ((cond b (record hob { body = change hob.body }) hob) ∷ with_body change (at + hob_len hob) hobs p) ≡ sum_by hob_len (hob ∷ hobs)
sum_on change hob hobs at p body true e found len rest =
    let here : at + 8 ≡ p = grind (arith, nat_tests, e) in
    let is : hob.body ≡ body = cc in
    let same : body_len (change hob.body) ≡ body_len hob.body = ap (λ x. body_len (change x)) is ∙ len ∙ sym (ap body_len is) in
    let others : with_body change (at + hob_len hob) hobs p ≡ hobs = past change hobs (at + hob_len hob) p (omega (arith, here)) in
    let c : sum_by hob_len (hob ∷ hobs) ≡ hob_len hob + sum_by hob_len hobs = sum_by-cons hob_len hob hobs in
    sum_by-cons hob_len (record hob { body = change hob.body }) (with_body change (at + hob_len hob) hobs p) ∙ ap (λ xs. 8 + body_len (change hob.body) + sum_by hob_len xs) others
    ∙ ap (λ n. 8 + n + sum_by hob_len hobs) same ∙ sym c
sum_on change hob hobs at p body false e found len rest =
    sum_by-cons hob_len hob (with_body change (at + hob_len hob) hobs p) ∙ ap (λ n. hob_len hob + n) (rest found) ∙ sym (sum_by-cons hob_len hob hobs)

sum_kept : (change : Body → Body) (hobs : List HobEntry) (at p : ℕ) (body : Body) → body_from at hobs p ≡ Some body → body_len (change body) ≡ body_len body → sum_by hob_len (with_body change at hobs p) ≡ sum_by hob_len hobs
sum_kept change [] at p body found len = refl
sum_kept change (hob ∷ hobs) at p body found len =
    sum_on change hob hobs at p body (at + 8 == p) refl found len (λ later. sum_kept change hobs (at + hob_len hob) p body later len)

-- each body is spelled by as many bytes as it has
spelt_on : (g : ℕ → Body → List ℕ) (change : Body → Body) (hob : HobEntry) (b : Bool) → ((place : ℕ) → length (g place hob.body) ≡ body_len hob.body) → ((place : ℕ) → length (g place (change hob.body)) ≡ body_len (change hob.body))
    → (place : ℕ) → length (g place (cond b (record hob { body = change hob.body }) hob).body) ≡ body_len (cond b (record hob { body = change hob.body }) hob).body
spelt_on g change hob true h k place = k place
spelt_on g change hob false h k place = h place

with_spelt : (g : ℕ → Body → List ℕ) (change : Body → Body) (hobs : List HobEntry) (at p : ℕ) → AreSpelled g hobs
    → ((body : Body) → ((place : ℕ) → length (g place body) ≡ body_len body) → (place : ℕ) → length (g place (change body)) ≡ body_len (change body)) → AreSpelled g (with_body change at hobs p)
with_spelt g change [] at p h f = tt
with_spelt g change (hob ∷ hobs) at p h f = (spelt_on g change hob (at + 8 == p) h.0 (f hob.body h.0), with_spelt g change hobs (at + hob_len hob) p h.1 f)

-- a state with other lists and one other body
abbrev pub rebodied : StoreState → List Entry → List Pending → (Body → Body) → ℕ → StoreState
rebodied s ppis pendings change p = record s { hobs = with_body change 56 s.hobs p; ppis = ppis; pendings = pendings }

rebodied_same : (s : StoreState) (a : List Entry) (d : List Pending) (change : Body → Body) (p place : ℕ) (body : Body) → links_at (rebodied s a d change p) place ≡ links_at s place → body_bytes (rebodied s a d change p) place body ≡ body_bytes s place body
rebodied_same s a d change p place (Bytes bytes) e = refl
rebodied_same s a d change p place (Descriptor x) e = refl
rebodied_same s a d change p place Node e = ap links_bytes e
rebodied_same s a d change p place (Allocation x) e = refl

rebodied_len : (s : StoreState) (a : List Entry) (d : List Pending) (change : Body → Body) (p place : ℕ) (body : Body) → length (body_bytes s place body) ≡ body_len body → length (body_bytes (rebodied s a d change p) place body) ≡ body_len body
rebodied_len s a d change p place (Bytes bytes) h = h
rebodied_len s a d change p place (Descriptor x) h = h
rebodied_len s a d change p place Node h = node_is_32 (links_at (rebodied s a d change p) place)
rebodied_len s a d change p place (Allocation x) h = h

rebodied_spelt : (s : StoreState) (a : List Entry) (d : List Pending) (change : Body → Body) (p : ℕ) (hobs : List HobEntry) → AreSpelled (body_bytes s) hobs → AreSpelled (body_bytes (rebodied s a d change p)) hobs
rebodied_spelt s a d change p [] h = tt
rebodied_spelt s a d change p (hob ∷ hobs) h = (λ place. rebodied_len s a d change p place hob.body (h.0 place), rebodied_spelt s a d change p hobs h.1)

-- the hand-off HOB by the place of the end HOB
abbrev front_by : StoreState → ℕ → List ℕ
front_by s end = header_bytes HANDOFF 56 ++ joined (fields_of (HandoffHob (record {
  boot_mode = s.boot_mode;
  top = s.base + s.len;
  bottom = s.base;
  free_top = s.base + s.len - page_bytes s.moved s.taken;
  free_bottom = s.base + end + 8;
  end = s.base + end;
})))

pub body_written : (s : StoreState) (a : List Entry) (d : List Pending) (change : Body → Body) (p : ℕ) (body : Body) → IsStoreState s → body_at s p ≡ Some body → body_len (change body) ≡ body_len body
    → length (body_bytes (rebodied s a d change p) p (change body)) ≡ body_len body
    → ((place : ℕ) → place ≢ p → links_at (rebodied s a d change p) place ≡ links_at s place)
    → ((x : Body) → ((place : ℕ) → length (body_bytes (rebodied s a d change p) place x) ≡ body_len x) → (place : ℕ) → length (body_bytes (rebodied s a d change p) place (change x)) ≡ body_len (change x))
    → heap_image (rebodied s a d change p) ≡ replaced (heap_image s) p (body_bytes (rebodied s a d change p) p (change body))
body_written s a d change p body h found len text agree f =
    let t = rebodied s a d change p in
    let spelt = bodies_are_spelled s h in
    let then : AreSpelled (body_bytes t) (with_body change 56 s.hobs p) = with_spelt (body_bytes t) change s.hobs 56 p (rebodied_spelt s a d change p s.hobs spelt) f in
    let end : end_place t ≡ end_place s = ap (λ n. 56 + n) (sum_kept change s.hobs 56 p body found len) in
    let inside = places_are_inside s p body found in
    let front : front_bytes t ≡ front_bytes s = ap (front_by s) end in
    image_written s t p (body_bytes t p (change body)) spelt then front refl end (omega (arith, inside.0)) (omega (arith, inside.1, text))
    (bodies_are_written (body_bytes s) (body_bytes t) change s.hobs 56 p body spelt (λ place x n. rebodied_same s a d change p place x (agree place n)) found len text)
