-- Where bodies stand after a HOB was added, and after one body was changed.
use Rattle.std.proofs.Common.{◌≡◌, ◌≢◌, ℕ, ◌+◌, ◌<◌, Bool, true, false, cond, List, [], ◌∷◌, ◌++◌, arith, sym, refl, ap, subst, ◌∙◌, Option, Some, ◌==◌, sum_by}
use Rattle.std.proofs.{lemmas.List.Sums.sum_by-cons, lemmas.Bool.Decides.nat_tests}
use Rattle.pi_base.specs.Lists.{Each}
use Rattle.store_model.specs.{declared.state.Body.Body, declared.state.HobEntry.HobEntry}
use Rattle.store_model.specs.StoreState.{StoreState, appended, body_from, body_len, handoff_len, hob_len, with_body}
use Rattle.store_laws.specs.Bodies.{IsGrown}
use Rattle.store_laws.proofs.Places.{apart, past}

-- a HOB more changes no body that was there
stays_on : (b : Bool) (here : Body) (then later : Option Body) (body : Body) → (then ≡ Some body → later ≡ Some body) → cond b (Some here) then ≡ Some body → cond b (Some here) later ≡ Some body
stays_on true here then later body f h = h
stays_on false here then later body f h = f h

body_stays : (hobs : List HobEntry) (hob : HobEntry) (at place : ℕ) (body : Body) → body_from at hobs place ≡ Some body → body_from at (hobs ++ hob ∷ []) place ≡ Some body
body_stays [] hob at place body h = cc
body_stays (first ∷ hobs) hob at place body h =
    stays_on (at + 8 == place) first.body (body_from (at + hob_len first) hobs place) (body_from (at + hob_len first) (hobs ++ hob ∷ []) place) body (body_stays hobs hob (at + hob_len first) place body) h

pub grown_by : (s : StoreState) (hob : HobEntry) → IsGrown s (appended s hob)
grown_by s hob place body h = body_stays s.hobs hob handoff_len place body h

-- the HOB that was added stands behind the others
pub new_body : (hobs : List HobEntry) (hob : HobEntry) (at place : ℕ) → place ≡ at + sum_by hob_len hobs + 8 → body_from at (hobs ++ hob ∷ []) place ≡ Some hob.body
new_body [] hob at place e = let t : (at + 8 == place) ≡ true = grind (arith, nat_tests) in rw t refl
new_body (first ∷ hobs) hob at place e =
    let c : sum_by hob_len (first ∷ hobs) ≡ hob_len first + sum_by hob_len hobs = sum_by-cons hob_len first hobs in
    let t : (at + 8 == place) ≡ false = apart (at + 8) place (omega arith) in
    rw t (new_body hobs hob (at + hob_len first) place (omega arith))

-- a body that is there stands before the end
before_on : (b : Bool) (here : Body) (then : Option Body) (body : Body) (place last : ℕ) → (b ≡ true → place < last) → (then ≡ Some body → place < last) → cond b (Some here) then ≡ Some body → place < last
before_on true here then body place last f g h = f refl
before_on false here then body place last f g h = g h

pub body_before : (hobs : List HobEntry) (at place : ℕ) (body : Body) → body_from at hobs place ≡ Some body → place < at + sum_by hob_len hobs + 1
body_before [] at place body h = cc
body_before (first ∷ hobs) at place body h =
    let c : sum_by hob_len (first ∷ hobs) ≡ hob_len first + sum_by hob_len hobs = sum_by-cons hob_len first hobs in
    before_on (at + 8 == place) first.body (body_from (at + hob_len first) hobs place) body place (at + sum_by hob_len (first ∷ hobs) + 1)
    (λ t. let e : at + 8 ≡ place = grind (arith, nat_tests, t) in omega (arith, e, c))
    (λ later. let le : place < at + hob_len first + sum_by hob_len hobs + 1 = body_before hobs (at + hob_len first) place body later in omega (arith, le, c)) h

-- the place itself has the body changed
here_on : (change : Body → Body) (hobs : List HobEntry) (hob : HobEntry) (at p : ℕ) (body : Body) (b : Bool) → (at + 8 == p) ≡ b
    → cond b (Some hob.body) (body_from (at + hob_len hob) hobs p) ≡ Some body
    → (body_from (at + hob_len hob) hobs p ≡ Some body → body_from (at + hob_len hob) (with_body change (at + hob_len hob) hobs p) p ≡ Some (change body))
    → body_from at ((cond b (record hob { body = change hob.body }) hob) ∷ with_body change (at + hob_len hob) hobs p) p ≡ Some (change body)
here_on change hobs hob at p body true e found rest = let is : hob.body ≡ body = cc in rw e (ap (λ x. Some (change x)) is)
here_on change hobs hob at p body false e found rest = rw e (rest found)

pub here : (change : Body → Body) (hobs : List HobEntry) (at p : ℕ) (body : Body) → body_from at hobs p ≡ Some body
    → body_from at (with_body change at hobs p) p ≡ Some (change body)
here change [] at p body found = cc
here change (hob ∷ hobs) at p body found = here_on change hobs hob at p body (at + 8 == p) refl found (λ e. here change hobs (at + hob_len hob) p body e)

differ_by : (t : Bool) (a b : ℕ) → (a == b) ≡ t → a ≢ b → t ≡ false
differ_by true a b e h = let same : a ≡ b = grind (arith, nat_tests, e) in absurd (h same)
differ_by false a b e h = refl

differ : (a b : ℕ) → a ≢ b → (a == b) ≡ false
differ a b h = differ_by (a == b) a b refl h

-- every other place has the body that it had, if the length is the same
elsewhere_on : (change : Body → Body) (hobs : List HobEntry) (hob : HobEntry) (at p place : ℕ) (body : Body) (b : Bool) → (at + 8 == p) ≡ b
    → cond b (Some hob.body) (body_from (at + hob_len hob) hobs p) ≡ Some body → body_len (change body) ≡ body_len body → place ≢ p
    → (body_from (at + hob_len hob) hobs p ≡ Some body → body_from (at + hob_len hob) (with_body change (at + hob_len hob) hobs p) place ≡ body_from (at + hob_len hob) hobs place)
    → body_from at ((cond b (record hob { body = change hob.body }) hob) ∷ with_body change (at + hob_len hob) hobs p) place ≡ body_from at (hob ∷ hobs) place
elsewhere_on change hobs hob at p place body true e found len other rest =
    let here : at + 8 ≡ p = grind (arith, nat_tests, e) in
    let no : (at + 8 == place) ≡ false = differ (at + 8) place (λ x. other (sym x ∙ here)) in
    let is : hob.body ≡ body = cc in
    let size : hob_len (record hob { body = change hob.body }) ≡ hob_len hob = ap (λ x. 8 + body_len (change x)) is ∙ ap (λ n. 8 + n) len ∙ ap (λ x. 8 + body_len x) (sym is) in
    let same : with_body change (at + hob_len hob) hobs p ≡ hobs = past change hobs (at + hob_len hob) p (omega (arith, here)) in
    rw no (ap (λ xs. body_from (at + hob_len (record hob { body = change hob.body })) xs place) same ∙ ap (λ n. body_from (at + n) hobs place) size)
elsewhere_on change hobs hob at p place body false e found len other rest =
    ap (λ later. cond (at + 8 == place) (Some hob.body) later) (rest found)

pub elsewhere : (change : Body → Body) (hobs : List HobEntry) (at p place : ℕ) (body : Body) → body_from at hobs p ≡ Some body → body_len (change body) ≡ body_len body → place ≢ p
    → body_from at (with_body change at hobs p) place ≡ body_from at hobs place
elsewhere change [] at p place body found len other = refl
elsewhere change (hob ∷ hobs) at p place body found len other =
    elsewhere_on change hobs hob at p place body (at + 8 == p) refl found len other (λ e. elsewhere change hobs (at + hob_len hob) p place body e len other)

-- a fact of all HOBs, where the change keeps it of the one
each_on : (P : HobEntry → Type 0) (change : Body → Body) (hobs : List HobEntry) (hob : HobEntry) (at p : ℕ) (body : Body) (b : Bool) → (at + 8 == p) ≡ b
    → cond b (Some hob.body) (body_from (at + hob_len hob) hobs p) ≡ Some body → ((x : HobEntry) → x.body ≡ body → P x → P (record x { body = change x.body }))
    → P hob → Each P hobs → (body_from (at + hob_len hob) hobs p ≡ Some body → Each P (with_body change (at + hob_len hob) hobs p))
    → Each P ((cond b (record hob { body = change hob.body }) hob) ∷ with_body change (at + hob_len hob) hobs p)
each_on P change hobs hob at p body true e found keep one each rest =
    let here : at + 8 ≡ p = grind (arith, nat_tests, e) in
    let is : hob.body ≡ body = cc in
    let same : with_body change (at + hob_len hob) hobs p ≡ hobs = past change hobs (at + hob_len hob) p (omega (arith, here)) in
    (keep hob is one, subst (λ xs. Each P xs) (sym same) each)
each_on P change hobs hob at p body false e found keep one each rest = (one, rest found)

pub each_changed : (P : HobEntry → Type 0) (change : Body → Body) (hobs : List HobEntry) (at p : ℕ) (body : Body) → body_from at hobs p ≡ Some body
    → ((x : HobEntry) → x.body ≡ body → P x → P (record x { body = change x.body })) → Each P hobs → Each P (with_body change at hobs p)
each_changed P change [] at p body found keep each = tt
each_changed P change (hob ∷ hobs) at p body found keep each =
    each_on P change hobs hob at p body (at + 8 == p) refl found keep each.0 each.1 (λ e. each_changed P change hobs (at + hob_len hob) p body e keep each.1)

-- a body that changes and keeps its length
sum_on : (change : Body → Body) (hobs : List HobEntry) (hob : HobEntry) (at p : ℕ) (body : Body) (b : Bool) → (at + 8 == p) ≡ b
    → cond b (Some hob.body) (body_from (at + hob_len hob) hobs p) ≡ Some body → body_len (change body) ≡ body_len body
    → (body_from (at + hob_len hob) hobs p ≡ Some body → sum_by hob_len (with_body change (at + hob_len hob) hobs p) ≡ sum_by hob_len hobs)
    → sum_by hob_len ((cond b (record hob { body = change hob.body }) hob) ∷ with_body change (at + hob_len hob) hobs p) ≡ sum_by hob_len (hob ∷ hobs)
sum_on change hobs hob at p body true e found len rest =
    let here : at + 8 ≡ p = grind (arith, nat_tests, e) in
    let is : hob.body ≡ body = cc in
    let new : HobEntry = record hob { body = change hob.body } in
    let size : hob_len new ≡ hob_len hob = ap (λ x. 8 + body_len (change x)) is ∙ ap (λ n. 8 + n) len ∙ ap (λ x. 8 + body_len x) (sym is) in
    let same : with_body change (at + hob_len hob) hobs p ≡ hobs = past change hobs (at + hob_len hob) p (omega (arith, here)) in
    ap (λ xs. sum_by hob_len (new ∷ xs)) same ∙ sum_by-cons hob_len new hobs ∙ ap (λ n. n + sum_by hob_len hobs) size ∙ sym (sum_by-cons hob_len hob hobs)
sum_on change hobs hob at p body false e found len rest =
    sum_by-cons hob_len hob (with_body change (at + hob_len hob) hobs p) ∙ ap (λ n. hob_len hob + n) (rest found) ∙ sym (sum_by-cons hob_len hob hobs)

pub sum_changed : (change : Body → Body) (hobs : List HobEntry) (at p : ℕ) (body : Body) → body_from at hobs p ≡ Some body → body_len (change body) ≡ body_len body
    → sum_by hob_len (with_body change at hobs p) ≡ sum_by hob_len hobs
sum_changed change [] at p body found len = refl
sum_changed change (hob ∷ hobs) at p body found len =
    sum_on change hobs hob at p body (at + 8 == p) refl found len (λ e. sum_changed change hobs (at + hob_len hob) p body e len)
