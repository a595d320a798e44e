-- The pages that are done while HOBs are walked.
use Rattle.std.proofs.Common.{◌≡◌, ℕ, zero, suc, ◌+◌, ◌<◌, ◌==◌, ◌||◌, false, List, [], ◌∷◌, take, drop, arith, ap, refl, ◌∙◌, Option, Some, None, sum_by}
use Rattle.std.proofs.{lemmas.Bool.Decides.nat_tests, lemmas.List.Sums.sum_by-cons}
use Rattle.store_model.specs.{declared.state.Body.Body, declared.state.HobEntry.HobEntry, StoreState.StoreState, StoreState.hob_len}
use Rattle.store_model.specs.declared.state.Body.TheVariants.{Bytes, Descriptor, Node, Allocation}
use Rattle.store_model.specs.declared.store_handle.EntryList.TheVariants.{Ppis, Callbacks, Dispatches, Pendings}
use Rattle.store_laws.specs.Moving.{Done}
use Rattle.heap_store.specs.Half.{with_link, with_links, with_other, none_done, lists_done}
use Rattle.heap_store.specs.{Linked.Link, Linked.links_of, Pages.with_pages, Pages.with_hobs}
use Rattle.heap_store.proofs.HobWalk.{place_of, sum_first}

-- what is done before a HOB, and with it
pub more_pages : (done : Done) (at : ℕ) (hobs : List HobEntry) (i : ℕ) (hob : HobEntry) (rest : List HobEntry) → drop i hobs ≡ hob ∷ rest
    → with_hobs done at (take (i + 1) hobs) ≡ with_pages (with_hobs done at (take i hobs)) (place_of at hobs i + 8) hob.body
more_pages done at [] zero hob rest e = cc
more_pages done at [] (suc i) hob rest e = cc
more_pages done at (first ∷ hobs) zero hob rest e =
    let same : first ≡ hob = cc in
    let here : at + 8 ≡ at + 0 + 8 = omega arith in
    ap (λ (x : HobEntry). with_pages done (at + 8) x.body) same ∙ ap (λ n. with_pages done n hob.body) here
more_pages done at (first ∷ hobs) (suc i) hob rest e =
    let next : suc i + 1 ≡ suc (i + 1) = omega arith in
    let sum : sum_by hob_len (take (suc i) (first ∷ hobs)) ≡ hob_len first + sum_by hob_len (take i hobs) = sum_first first hobs i in
    let place : place_of (at + hob_len first) hobs i + 8 ≡ place_of at (first ∷ hobs) (suc i) + 8 = omega (arith, sum) in
    ap (λ n. with_hobs done at (take n (first ∷ hobs))) next
    ∙ more_pages (with_pages done (at + 8) first.body) (at + hob_len first) hobs i hob rest e
    ∙ ap (λ n. with_pages (with_hobs (with_pages done (at + 8) first.body) (at + hob_len first) (take i hobs)) n hob.body) place

-- pages behind those HOBs are not done
one_unmarked : (done : Done) (p place : ℕ) (body : Body) → p < place → done.pages place ≡ false → (with_pages done p body).pages place ≡ false
one_unmarked done p place (Bytes bytes) less h = h
one_unmarked done p place (Descriptor d) less h = h
one_unmarked done p place Node less h = h
one_unmarked done p place (Allocation a) less h =
    let no : (place == p) ≡ false = grind (arith, nat_tests, less) in ap (λ b. b || place == p) h ∙ no

pub unmarked_pages : (done : Done) (at place : ℕ) (hobs : List HobEntry) → at + sum_by hob_len hobs < place → done.pages place ≡ false → (with_hobs done at hobs).pages place ≡ false
unmarked_pages done at place [] less h = h
unmarked_pages done at place (hob ∷ hobs) less h =
    let sum : sum_by hob_len (hob ∷ hobs) ≡ hob_len hob + sum_by hob_len hobs = sum_by-cons hob_len hob hobs in
    unmarked_pages (with_pages done (at + 8) hob.body) (at + hob_len hob) place hobs (omega (arith, sum, less)) (one_unmarked done (at + 8) place hob.body (omega (arith, sum, less)) h)

-- the lists' walk marks none
other_pages : (done : Done) (p : Option ℕ) → (with_other done p).pages ≡ done.pages
other_pages done None = refl
other_pages done (Some p) = refl

links_pages : (done : Done) (links : List Link) → (with_links done links).pages ≡ done.pages
links_pages done [] = refl
links_pages done (link ∷ rest) = links_pages (with_link done link) rest ∙ other_pages _ link.other

pub lists_pages : (s : StoreState) (place : ℕ) → (lists_done s).pages place ≡ false
lists_pages s place =
    let p : List Link = links_of s Ppis in
    let c : List Link = links_of s Callbacks in
    let d : List Link = links_of s Dispatches in
    let q : List Link = links_of s Pendings in
    ap (λ f. f place) (links_pages (with_links (with_links (with_links none_done p) c) d) q)
    ∙ ap (λ f. f place) (links_pages (with_links (with_links none_done p) c) d)
    ∙ ap (λ f. f place) (links_pages (with_links none_done p) c)
    ∙ ap (λ f. f place) (links_pages none_done p)
