-- The HOBs of a heap's bytes, one after another.
use Rattle.std.proofs.Common.{◌≡◌, ◌≢◌, ℕ, zero, suc, ◌+◌, ◌<◌, ◌≤◌, ◌==◌, Bool, true, false, cond, List, [], ◌∷◌, ◌++◌, length, take, drop, arith, ap, refl, sym, subst, ◌∙◌, Option, Some, sum_by, append_assoc, drop-drop, drop_at}
use Rattle.std.proofs.{lemmas.Bool.Decides.nat_tests, lemmas.List.Sums.sum_by-cons, lemmas.List.Sums.sum_by-take-drop}
use Rattle.store_model.specs.{declared.state.Body.Body, declared.state.HobEntry.HobEntry, HeapImage.header_bytes, HeapImage.body_bytes}
use Rattle.store_model.specs.StoreState.{Range, StoreState, hob_len, body_len, body_from}
use Rattle.store_model.specs.Migration.{migrated_to}
use Rattle.store_laws.specs.{Growing.front_bytes, Spelling.spelled, Spelling.AreSpelled, Moving.Done, Moving.half}
use Rattle.store_laws.proofs.Pieces.{piece_later}
use Rattle.heap_store.specs.Half.{half_image, behind}
use Rattle.heap_store.proofs.Steps.{half_spelt}

-- the place of a HOB's header by its number
abbrev pub place_of : ℕ → List HobEntry → ℕ → ℕ
place_of at hobs i = at + sum_by hob_len (take i hobs)

pub sum_first : (hob : HobEntry) (hobs : List HobEntry) (i : ℕ) → sum_by hob_len (take (suc i) (hob ∷ hobs)) ≡ hob_len hob + sum_by hob_len (take i hobs)
sum_first hob hobs i = sum_by-cons hob_len hob (take i hobs)

pub place_next : (at : ℕ) (hobs : List HobEntry) (i : ℕ) (hob : HobEntry) (rest : List HobEntry) → drop i hobs ≡ hob ∷ rest → place_of at hobs (i + 1) ≡ place_of at hobs i + hob_len hob
place_next at [] zero hob rest e = cc
place_next at [] (suc i) hob rest e = cc
place_next at (first ∷ hobs) zero hob rest e =
    let same : first ≡ hob = cc in
    let one : sum_by hob_len (take 1 (first ∷ hobs)) ≡ hob_len first + 0 = sum_first first hobs 0 in
    let len : hob_len first ≡ hob_len hob = ap hob_len same in
    let none : sum_by hob_len (take 0 (first ∷ hobs)) ≡ 0 = refl in omega (arith, one, len, none)
place_next at (first ∷ hobs) (suc i) hob rest e =
    let later : place_of (at + hob_len first) hobs (i + 1) ≡ place_of (at + hob_len first) hobs i + hob_len hob = place_next (at + hob_len first) hobs i hob rest e in
    let a : sum_by hob_len (take (suc (i + 1)) (first ∷ hobs)) ≡ hob_len first + sum_by hob_len (take (i + 1) hobs) = sum_first first hobs (i + 1) in
    let b : sum_by hob_len (take (suc i) (first ∷ hobs)) ≡ hob_len first + sum_by hob_len (take i hobs) = sum_first first hobs i in
    let next : suc i + 1 ≡ suc (i + 1) = omega arith in
    let c : sum_by hob_len (take (suc i + 1) (first ∷ hobs)) ≡ sum_by hob_len (take (suc (i + 1)) (first ∷ hobs)) = ap (λ n. sum_by hob_len (take n (first ∷ hobs))) next in
    omega (arith, later, a, b, c)

-- a HOB's header is read
header_on : (f : ℕ → Body → List ℕ) (hobs : List HobEntry) (at i : ℕ) (hob : HobEntry) (rest : List HobEntry) (tail : List ℕ) → AreSpelled f hobs → drop i hobs ≡ hob ∷ rest
    → take 8 (drop (sum_by hob_len (take i hobs)) (spelled f at hobs ++ tail)) ≡ header_bytes hob.kind (hob_len hob)
header_on f [] at zero hob rest tail h e = cc
header_on f [] at (suc i) hob rest tail h e = cc
header_on f (first ∷ hobs) at zero hob rest tail h e = let same : first ≡ hob = cc in ap (λ (x : HobEntry). header_bytes x.kind (hob_len x)) same
header_on f (first ∷ hobs) at (suc i) hob rest tail h e =
    let head : List ℕ = header_bytes first.kind (hob_len first) in
    let text : List ℕ = f (at + 8) first.body in
    let more : List ℕ = spelled f (at + hob_len first) hobs in
    let len : length text ≡ body_len first.body = h.0 (at + 8) in
    let eight : length head ≡ 8 = refl in
    let sum : sum_by hob_len (take (suc i) (first ∷ hobs)) ≡ length head + length text + sum_by hob_len (take i hobs) = sum_first first hobs i ∙ omega (arith, len, eight) in
    ap (take 8) (piece_later head text more tail (sum_by hob_len (take (suc i) (first ∷ hobs))) (sum_by hob_len (take i hobs)) sum) ∙ header_on f hobs (at + hob_len first) i hob rest tail h.1 e

behind_front : (front xs : List ℕ) (k : ℕ) → length front ≡ 56 → drop (56 + k) (front ++ xs) ≡ drop k xs
behind_front front xs k len =
    ap (λ n. drop (n + k) (front ++ xs)) (sym len) ∙ sym (drop-drop k (length front) (front ++ xs)) ∙ ap (drop k) (drop_at front xs (length front) refl)

pub header_read : (s : StoreState) (to : Range) (done : Done) (i : ℕ) (hob : HobEntry) (rest : List HobEntry) → AreSpelled (body_bytes s) s.hobs → drop i s.hobs ≡ hob ∷ rest
    → take 8 (drop (place_of 56 s.hobs i) (half_image s to done)) ≡ header_bytes hob.kind (hob_len hob)
unfolding half_image
header_read s to done i hob rest spelt e =
    let front : List ℕ = front_bytes (migrated_to s to) in
    let bodies : List ℕ = spelled (half s to done) 56 s.hobs in
    let k : ℕ = sum_by hob_len (take i s.hobs) in
    ap (λ x. take 8 (drop (56 + k) x)) (append_assoc front bodies (behind s to)) ∙ ap (take 8) (behind_front front (bodies ++ behind s to) k refl)
    ∙ header_on (half s to done) s.hobs 56 i hob rest (behind s to) (half_spelt s to done s.hobs spelt) e

-- its body is found
found_past : (b : Bool) (here : Option Body) (then : Option Body) (body : Body) → b ≡ false → then ≡ Some body → cond b here then ≡ Some body
found_past true here then body e h = cc
found_past false here then body e h = h

pub body_found : (at : ℕ) (hobs : List HobEntry) (i : ℕ) (hob : HobEntry) (rest : List HobEntry) → drop i hobs ≡ hob ∷ rest → body_from at hobs (place_of at hobs i + 8) ≡ Some hob.body
body_found at [] zero hob rest e = cc
body_found at [] (suc i) hob rest e = cc
body_found at (first ∷ hobs) zero hob rest e =
    let same : first ≡ hob = cc in
    let t : (at + 8 == at + 0 + 8) ≡ true = grind (arith, nat_tests) in
    rw t (ap (λ (x : HobEntry). Some x.body) same)
body_found at (first ∷ hobs) (suc i) hob rest e =
    let sum : sum_by hob_len (take (suc i) (first ∷ hobs)) ≡ hob_len first + sum_by hob_len (take i hobs) = sum_first first hobs i in
    let later : body_from (at + hob_len first) hobs (place_of (at + hob_len first) hobs i + 8) ≡ Some hob.body = body_found (at + hob_len first) hobs i hob rest e in
    let place : place_of (at + hob_len first) hobs i + 8 ≡ place_of at (first ∷ hobs) (suc i) + 8 = omega (arith, sum) in
    let other : at + 8 ≢ place_of at (first ∷ hobs) (suc i) + 8 = λ same. absurd (omega (arith, same, sum)) in
    let no : (at + 8 == place_of at (first ∷ hobs) (suc i) + 8) ≡ false = grind (arith, nat_tests, other) in
    found_past (at + 8 == place_of at (first ∷ hobs) (suc i) + 8) (Some first.body) (body_from (at + hob_len first) hobs (place_of at (first ∷ hobs) (suc i) + 8)) hob.body no
    (subst (λ n. body_from (at + hob_len first) hobs n ≡ Some hob.body) place later)

-- a HOB stands at a place before the end, and none behind it
abbrev pub Next : List HobEntry → Type 0
Next xs = (hob : HobEntry) × (rest : List HobEntry) × (xs ≡ hob ∷ rest)

next_on : (xs : List HobEntry) → 0 < sum_by hob_len xs → Next xs
next_on [] le = absurd (omega (arith, le))
next_on (hob ∷ rest) le = (hob, rest, refl)

pub some_hob : (hobs : List HobEntry) (i : ℕ) → place_of 56 hobs i < 56 + sum_by hob_len hobs → Next (drop i hobs)
some_hob hobs i less =
    let all : sum_by hob_len (take i hobs) + sum_by hob_len (drop i hobs) ≡ sum_by hob_len hobs = sum_by-take-drop hob_len hobs i in
    next_on (drop i hobs) (omega (arith, all, less))

none_on : (xs : List HobEntry) → sum_by hob_len xs ≤ 0 → xs ≡ []
none_on [] le = refl
none_on (hob ∷ rest) le = let sum : sum_by hob_len (hob ∷ rest) ≡ hob_len hob + sum_by hob_len rest = sum_by-cons hob_len hob rest in absurd (omega (arith, sum, le))

pub no_hob : (hobs : List HobEntry) (i : ℕ) → 56 + sum_by hob_len hobs ≤ place_of 56 hobs i → drop i hobs ≡ []
no_hob hobs i le =
    let all : sum_by hob_len (take i hobs) + sum_by hob_len (drop i hobs) ≡ sum_by hob_len hobs = sum_by-take-drop hob_len hobs i in
    none_on (drop i hobs) (omega (arith, all, le))

pub few_hobs : (hobs : List HobEntry) → length hobs ≤ sum_by hob_len hobs
few_hobs [] = omega arith
few_hobs (hob ∷ rest) = let sum : sum_by hob_len (hob ∷ rest) ≡ hob_len hob + sum_by hob_len rest = sum_by-cons hob_len hob rest in let few = few_hobs rest in omega (arith, sum, few)
