-- The HOB with a number stands where those before it end, and no other stands there.
use Rattle.std.proofs.Common.{◌≡◌, ℕ, zero, suc, ◌+◌, ◌<◌, true, false, List, [], ◌∷◌, take, sum_by, arith, length, ap, refl, sym, ◌∙◌, Some, ◌==◌, slice_set, slice_index_or}
use Rattle.std.proofs.{lemmas.Bool.Decides.nat_tests, lemmas.List.Sums.sum_by-cons}
use Rattle.store_model.specs.{declared.state.Body.Body, declared.state.HobEntry.HobEntry}
use Rattle.store_model.specs.StoreState.{hob_len, body_from, with_body}

pub apart : (a b : ℕ) → a < b → (a == b) ≡ false
apart a b h = grind (arith, nat_tests)

pub apart_behind : (a b : ℕ) → b < a → (a == b) ≡ false
apart_behind a b h = grind (arith, nat_tests)

same : (a b : ℕ) → a ≡ b → (a == b) ≡ true
same a b h = grind (arith, nat_tests)

pub body_here : (hobs : List HobEntry) (at place i : ℕ) (d : HobEntry) → i < length hobs → at + sum_by hob_len (take i hobs) + 8 ≡ place
    → body_from at hobs place ≡ Some (slice_index_or hobs i d).body
body_here [] at place i d le e = absurd (omega arith)
body_here (hob ∷ hobs) at place zero d le e = let t : (at + 8 == place) ≡ true = same (at + 8) place (omega arith) in rw t refl
body_here (hob ∷ hobs) at place (suc i) d le e =
    let c : sum_by hob_len (hob ∷ take i hobs) ≡ hob_len hob + sum_by hob_len (take i hobs) = sum_by-cons hob_len hob (take i hobs) in
    let t : (at + 8 == place) ≡ false = apart (at + 8) place (omega arith) in
    rw t (body_here hobs (at + hob_len hob) place i d (omega arith) (omega arith))

-- nothing is changed at a place before the HOBs
pub past : (change : Body → Body) (hobs : List HobEntry) (at place : ℕ) → place < at + 8 → with_body change at hobs place ≡ hobs
past change [] at place le = refl
past change (hob ∷ hobs) at place le =
    let t : (at + 8 == place) ≡ false = apart_behind (at + 8) place (omega arith) in
    rw t (ap (λ rest. hob ∷ rest) (past change hobs (at + hob_len hob) place (omega arith)))

pub changed_here : (change : Body → Body) (hobs : List HobEntry) (at place i : ℕ) (d : HobEntry) → i < length hobs → at + sum_by hob_len (take i hobs) + 8 ≡ place
    → with_body change at hobs place ≡ slice_set hobs i (record (slice_index_or hobs i d) { body = change (slice_index_or hobs i d).body })
changed_here change [] at place i d le e = absurd (omega arith)
changed_here change (hob ∷ hobs) at place zero d le e =
    let t : (at + 8 == place) ≡ true = same (at + 8) place (omega arith) in
    rw t (ap (λ rest. record hob { body = change hob.body } ∷ rest) (past change hobs (at + hob_len hob) place (omega arith)))
changed_here change (hob ∷ hobs) at place (suc i) d le e =
    let c : sum_by hob_len (hob ∷ take i hobs) ≡ hob_len hob + sum_by hob_len (take i hobs) = sum_by-cons hob_len hob (take i hobs) in
    let t : (at + 8 == place) ≡ false = apart (at + 8) place (omega arith) in
    rw t (ap (λ rest. hob ∷ rest) (changed_here change hobs (at + hob_len hob) place i d (omega arith) (omega arith)))

pub same_sum : (hobs : List HobEntry) (i : ℕ) (new d : HobEntry) → i < length hobs → hob_len new ≡ hob_len (slice_index_or hobs i d) → sum_by hob_len (slice_set hobs i new) ≡ sum_by hob_len hobs
same_sum [] i new d le e = absurd (omega arith)
same_sum (hob ∷ hobs) zero new d le e =
    let a : sum_by hob_len (new ∷ hobs) ≡ hob_len new + sum_by hob_len hobs = sum_by-cons hob_len new hobs in
    let b : sum_by hob_len (hob ∷ hobs) ≡ hob_len hob + sum_by hob_len hobs = sum_by-cons hob_len hob hobs in
    omega (arith, e)
same_sum (hob ∷ hobs) (suc i) new d le e =
    let a : sum_by hob_len (hob ∷ slice_set hobs i new) ≡ hob_len hob + sum_by hob_len (slice_set hobs i new) = sum_by-cons hob_len hob (slice_set hobs i new) in
    let b : sum_by hob_len (hob ∷ hobs) ≡ hob_len hob + sum_by hob_len hobs = sum_by-cons hob_len hob hobs in
    let rest = same_sum hobs i new d (omega arith) e in
    omega (arith, rest)

-- the same for a HOB that is known by its number
pub body_of_hob : (hobs : List HobEntry) (at place i : ℕ) (hob : HobEntry) (body : Body) → i < length hobs → at + sum_by hob_len (take i hobs) + 8 ≡ place
    → hob ≡ slice_index_or hobs i hob → body_from at hobs place ≡ Some body → hob.body ≡ body
body_of_hob hobs at place i hob body le e is found =
    let here : body_from at hobs place ≡ Some (slice_index_or hobs i hob).body = body_here hobs at place i hob le e in
    let names : hob.body ≡ (slice_index_or hobs i hob).body = ap (λ (h : HobEntry). h.body) is in
    cc

pub changed_hob : (change : Body → Body) (hobs : List HobEntry) (at place i : ℕ) (hob new : HobEntry) → i < length hobs → at + sum_by hob_len (take i hobs) + 8 ≡ place
    → hob ≡ slice_index_or hobs i hob → new ≡ record hob { body = change hob.body } → with_body change at hobs place ≡ slice_set hobs i new
changed_hob change hobs at place i hob new le e is made =
    let there : record hob { body = change hob.body } ≡ record (slice_index_or hobs i hob) { body = change (slice_index_or hobs i hob).body } = ap (λ (h : HobEntry). record h { body = change h.body }) is in
    changed_here change hobs at place i hob le e ∙ ap (λ h. slice_set hobs i h) (sym (made ∙ there))

pub sum_of_changed : (hobs : List HobEntry) (i : ℕ) (hob new : HobEntry) → i < length hobs → hob ≡ slice_index_or hobs i hob → hob_len new ≡ hob_len hob → sum_by hob_len (slice_set hobs i new) ≡ sum_by hob_len hobs
sum_of_changed hobs i hob new le is e = same_sum hobs i new hob le (e ∙ ap hob_len is)
