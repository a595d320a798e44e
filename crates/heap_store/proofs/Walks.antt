-- The places of a list that is walked: what stands there, and what is done before it.
use Rattle.std.proofs.Common.{◌≡◌, ◌≢◌, ◌⊎◌, ℕ, zero, suc, ◌+◌, ◌≤◌, List, [], ◌∷◌, length, take, drop, arith, ap, refl, ◌∙◌}
use Rattle.store_model.specs.{declared.store_handle.EntryList.EntryList, StoreState.Range, StoreState.StoreState}
use Rattle.store_model.specs.declared.state.Body.TheVariants.{Node}
use Rattle.store_laws.specs.Moving.{Done}
use Rattle.store_laws.proofs.HeapBodies.{body_behind}
use Rattle.heap_store.specs.{Half.with_link, Half.with_links, declared.course.Course.Course, Ready.IsReady}
use Rattle.heap_store.specs.Linked.{Link, links_of, address, first_of}
use Rattle.heap_store.proofs.Links.{is_link}

pub more_done : (done : Done) (links : List Link) (i : ℕ) (link : Link) (rest : List Link) → drop i links ≡ link ∷ rest → with_links done (take (i + 1) links) ≡ with_link (with_links done (take i links)) link
more_done done [] zero link rest e = cc
more_done done [] (suc i) link rest e = cc
more_done done (first ∷ links) zero link rest e = let same : first ≡ link = cc in ap (with_link done) same
more_done done (first ∷ links) (suc i) link rest e =
    let next : suc i + 1 ≡ suc (i + 1) = omega arith in
    ap (λ n. with_links done (take n (first ∷ links))) next ∙ more_done (with_link done first) links i link rest e

-- a node stands at the place, or the list ends there
abbrev pub Stop : StoreState → List Link → ℕ → ℕ → Type 0
Stop s xs base at = ((link : Link) × (rest : List Link) × (xs ≡ link ∷ rest) × (at ≡ base + link.node)) ⊎ ((xs ≡ []) × (at ≡ 0))

stop_by : (s : StoreState) (base at : ℕ) (xs : List Link) → at ≡ address base (first_of xs) → Stop s xs base at
stop_by s base at [] h = ◌⊎◌.inr (refl, h)
stop_by s base at (link ∷ rest) h = ◌⊎◌.inl (link, rest, refl, h)

some_on : (s : StoreState) (base at : ℕ) (xs : List Link) → at ≢ 0 → Stop s xs base at → (link : Link) × (rest : List Link) × (xs ≡ link ∷ rest) × (at ≡ base + link.node)
some_on s base at xs z (◌⊎◌.inl h) = h
some_on s base at xs z (◌⊎◌.inr h) = absurd (z h.1)

pub some_left : (s : StoreState) (base at : ℕ) (xs : List Link) → at ≢ 0 → at ≡ address base (first_of xs) → (link : Link) × (rest : List Link) × (xs ≡ link ∷ rest) × (at ≡ base + link.node)
some_left s base at xs z h = some_on s base at xs z (stop_by s base at xs h)

none_on : (s : StoreState) (to : Range) (course : Course) (list : EntryList) (base at i : ℕ) → IsReady s to course → at ≡ 0 → Stop s (drop i (links_of s list)) base at → drop i (links_of s list) ≡ []
none_on s to course list base at i h z (◌⊎◌.inl k) =
    let link = is_link s to list i k.0 k.1 h.state h.after k.2 in
    let le : 56 + 8 ≤ k.0.node = body_behind s.hobs 56 k.0.node Node link.node in absurd (omega (arith, le, k.3, z))
none_on s to course list base at i h z (◌⊎◌.inr k) = k.0

pub none_left : (s : StoreState) (to : Range) (course : Course) (list : EntryList) (base at i : ℕ) → IsReady s to course → at ≡ 0 → at ≡ address base (first_of (drop i (links_of s list))) → drop i (links_of s list) ≡ []
none_left s to course list base at i h z e = none_on s to course list base at i h z (stop_by s base at (drop i (links_of s list)) e)

pub take_all : {A : Type 0} (xs : List A) (i : ℕ) → drop i xs ≡ [] → take i xs ≡ xs
take_all [] zero e = refl
take_all [] (suc i) e = refl
take_all (x ∷ xs) zero e = cc
take_all (x ∷ xs) (suc i) e = ap (λ rest. x ∷ rest) (take_all xs i e)

pub none_past : {A : Type 0} (xs : List A) (i : ℕ) → length xs ≤ i → drop i xs ≡ []
none_past [] zero le = refl
none_past [] (suc i) le = refl
none_past (x ∷ xs) zero le = absurd (omega (arith, le))
none_past (x ∷ xs) (suc i) le = none_past xs i (omega (arith, le))
