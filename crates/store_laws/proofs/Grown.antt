-- A state with a HOB more: its bodies stand where they stood, and the new one behind them.
use Rattle.std.proofs.Common.{◌≡◌, ◌≢◌, ℕ, ◌+◌, Bool, true, false, cond, List, [], ◌∷◌, ◌++◌, length, arith, ap, refl, ◌∙◌, Option, Some, ◌==◌, sum_by}
use Rattle.std.proofs.{lemmas.Bool.Decides.nat_tests, lemmas.List.Sums.sum_by-cons, lemmas.List.Sums.sum_by_push}
use Rattle.store_model.specs.{declared.state.Body.Body, declared.state.HobEntry.HobEntry, HeapImage.body_bytes}
use Rattle.store_model.specs.declared.state.Body.TheVariants.{Bytes, Descriptor, Node, Allocation}
use Rattle.store_model.specs.StoreState.{StoreState, appended, end_place, hob_len, body_len, body_from}
use Rattle.store_laws.specs.Spelling.{AreSpelled}
use Rattle.store_laws.proofs.{Lists.each_append, Lists.each_more, HeapItems.other_is}

before_on : (b : Bool) (here : Body) (x y : Option Body) (body : Body) → (x ≡ Some body → y ≡ Some body) → cond b (Some here) x ≡ Some body → cond b (Some here) y ≡ Some body
before_on true here x y body f h = h
before_on false here x y body f h = f h

pub body_before : (hobs : List HobEntry) (hob : HobEntry) (at p : ℕ) (body : Body) → body_from at hobs p ≡ Some body → body_from at (hobs ++ hob ∷ []) p ≡ Some body
body_before [] hob at p body h = cc
body_before (first ∷ hobs) hob at p body h =
    before_on (at + 8 == p) first.body (body_from (at + hob_len first) hobs p) (body_from (at + hob_len first) (hobs ++ hob ∷ []) p) body (body_before hobs hob (at + hob_len first) p body) h

pub body_last : (hobs : List HobEntry) (hob : HobEntry) (at p : ℕ) → p ≡ at + sum_by hob_len hobs + 8 → body_from at (hobs ++ hob ∷ []) p ≡ Some hob.body
body_last [] hob at p e = let here : (at + 8 == p) ≡ true = grind (arith, nat_tests, e) in rw here refl
body_last (first ∷ hobs) hob at p e =
    let c : sum_by hob_len (first ∷ hobs) ≡ hob_len first + sum_by hob_len hobs = sum_by-cons hob_len first hobs in
    let past : at + 8 ≢ p = λ same. absurd (omega (arith, same, e, c)) in
    rw (other_is (at + 8) p past) (body_last hobs hob (at + hob_len first) p (omega (arith, e, c)))

pub end_more : (s : StoreState) (hob : HobEntry) → end_place (appended s hob) ≡ end_place s + hob_len hob
end_more s hob = let sum : sum_by hob_len (s.hobs ++ hob ∷ []) ≡ sum_by hob_len s.hobs + hob_len hob = sum_by_push hob_len s.hobs hob in omega (arith, sum)

-- bodies are spelled as before
pub same_bytes : (s : StoreState) (hob : HobEntry) (place : ℕ) (body : Body) → body_bytes (appended s hob) place body ≡ body_bytes s place body
same_bytes s hob place (Bytes bytes) = refl
same_bytes s hob place (Descriptor d) = refl
same_bytes s hob place Node = refl
same_bytes s hob place (Allocation a) = refl

pub grown_spelt : (s : StoreState) (hob : HobEntry) → AreSpelled (body_bytes s) s.hobs → ((place : ℕ) → length (body_bytes s place hob.body) ≡ body_len hob.body) → AreSpelled (body_bytes (appended s hob)) (s.hobs ++ hob ∷ [])
grown_spelt s hob h len =
    each_more (λ (x : HobEntry). (place : ℕ) → length (body_bytes s place x.body) ≡ body_len x.body) (λ (x : HobEntry). (place : ℕ) → length (body_bytes (appended s hob) place x.body) ≡ body_len x.body) (s.hobs ++ hob ∷ [])
    (λ x f place. ap length (same_bytes s hob place x.body) ∙ f place)
    (each_append (λ (x : HobEntry). (place : ℕ) → length (body_bytes s place x.body) ≡ body_len x.body) s.hobs (hob ∷ []) h (len, tt))
