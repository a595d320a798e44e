-- Bodies stay where they stand, and stand between the hand-off HOB and the end HOB.
use Rattle.std.proofs.Common.{◌≡◌, ℕ, ◌+◌, ◌%◌, ◌≤◌, Bool, true, false, cond, List, [], ◌∷◌, ap, arith, refl, Some, ◌==◌, sum_by}
use Rattle.std.proofs.{lemmas.Bool.Decides.nat_tests, lemmas.List.Sums.sum_by-cons}
use Rattle.pi_base.specs.Lists.{Each}
use Rattle.store_model.specs.{declared.state.Body.Body, declared.state.HobEntry.HobEntry, StateFacts.IsHobEntry}
use Rattle.store_model.specs.StoreState.{Board, body_from, body_len, end_place, handoff_len, header_len, hob_len, next_body}
use Rattle.store_laws.specs.Bodies.{BodiesStay, BodiesAreInside}
use Rattle.store_laws.proofs.Bodies.{elsewhere, grown_by, here, new_body}
use Rattle.store_laws.proofs.Moved.{moved_at}

pub all_stay : BodiesStay
all_stay = record {
  grown = grown_by;
  new = λ s hob. new_body s.hobs hob handoff_len (next_body s) refl;
  here = λ change s place body keeps. here change s.hobs handoff_len place body keeps.there;
  elsewhere = λ change s place other body keeps differ. elsewhere change s.hobs handoff_len place other body keeps.there keeps.len differ;
  moved = λ s to place h. moved_at s to s.hobs handoff_len place h.board h.hobs;
}

-- a body among HOBs that stand from a place on
record IsBetween (at end place : ℕ) (body : Body) : Type 0 where
  behind : at + header_len ≤ place
  aligned : place % 8 ≡ 0
  before : place + body_len body ≤ end

next_aligned : (a b : ℕ) → a % 8 ≡ 0 → b % 8 ≡ 0 → (a + b) % 8 ≡ 0
next_aligned a b e f = omega (arith, e, f)

between_on : (at place end : ℕ) (hob : HobEntry) (hobs : List HobEntry) (body : Body) (b : Bool) → (at + header_len == place) ≡ b → at % 8 ≡ 0 → end ≡ at + sum_by hob_len (hob ∷ hobs)
    → cond b (Some hob.body) (body_from (at + hob_len hob) hobs place) ≡ Some body
    → (body_from (at + hob_len hob) hobs place ≡ Some body → IsBetween (at + hob_len hob) end place body) → IsBetween at end place body
between_on at place end hob hobs body true e aligned sum found later =
    let there : at + header_len ≡ place = grind (arith, nat_tests, e) in
    let is : hob.body ≡ body = cc in
    let long : body_len hob.body ≡ body_len body = ap body_len is in
    let c : sum_by hob_len (hob ∷ hobs) ≡ hob_len hob + sum_by hob_len hobs = sum_by-cons hob_len hob hobs in
    record { behind = omega (arith, there); aligned = omega (arith, there, aligned); before = omega (arith, there, long, c, sum) }
between_on at place end hob hobs body false e aligned sum found later =
    let rest = later found in
    let behind = rest.behind in
    record { behind = omega (arith, behind); aligned = rest.aligned; before = rest.before }

between : (board : Board) (taken at place end : ℕ) (hobs : List HobEntry) (body : Body) → Each (IsHobEntry board taken) hobs → at % 8 ≡ 0 → end ≡ at + sum_by hob_len hobs
    → body_from at hobs place ≡ Some body → IsBetween at end place body
between board taken at place end [] body h aligned sum found = cc
between board taken at place end (hob ∷ hobs) body h aligned sum found =
    let c : sum_by hob_len (hob ∷ hobs) ≡ hob_len hob + sum_by hob_len hobs = sum_by-cons hob_len hob hobs in
    between_on at place end hob hobs body (at + header_len == place) refl aligned sum found
    (λ e. between board taken (at + hob_len hob) place end hobs body h.1 (next_aligned at (hob_len hob) aligned h.0.aligned) (omega (arith, sum, c)) e)

pub all_inside : BodiesAreInside
all_inside s place body h found =
    let is = between s.board s.taken handoff_len place (end_place s) s.hobs body h.hobs refl refl found in
    record { behind = is.behind; aligned = is.aligned; before = is.before }
