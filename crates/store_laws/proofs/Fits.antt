-- Descriptors fit their fields, and the heap lies where a plan lets it.
use Rattle.std.proofs.Common.{◌≡◌, ℕ, ◌+◌, ◌*◌, ◌≤◌, ◌<◌, ◌^◌, Bool, true, false, cond, List, [], ◌∷◌, length, arith, refl, subst, Option, Some, None, ◌==◌, sum_by, IfSome}
use Rattle.std.proofs.lemmas.List.Sums.{sum_by-cons}
use Rattle.pi_base.specs.Lists.{Each}
use Rattle.pi_base.proofs.ListFacts.{each_more}
use Rattle.store_model.specs.HeapImage.{Links, body_bytes, links_bytes}
use Rattle.store_model.specs.{declared.state.Body.Body, declared.state.HobEntry.HobEntry}
use Rattle.store_model.specs.declared.state.Body.TheVariants.{Allocation, Bytes, Descriptor, Node}
use Rattle.store_model.specs.StoreState.{Range, StoreState, body_at, body_from, body_len, handoff_len, header_len, hob_len}
use Rattle.store_model.specs.StateFacts.{IsBoard, IsBodyOf, IsHeap, IsHobEntry, IsPlanned, IsStoreState}
use Rattle.store_laws.specs.Fitting.{IsFittingHeap, IsSpelled, StatesFit}
use Rattle.store_laws.proofs.Guids.{descriptor_fits}

-- the HOB that has a body
pub record Has (P : HobEntry → Type 0) (body : Body) : Type 0 where
  pub hob : HobEntry
  pub fact : P hob
  pub body_is : hob.body ≡ body

has_on : (P : HobEntry → Type 0) (b : Bool) (first : HobEntry) (later : Option Body) (body : Body) → P first → (later ≡ Some body → Has P body) → cond b (Some first.body) later ≡ Some body → Has P body
has_on P true first later body p rest e = record { hob = first; fact = p; body_is = cc }
has_on P false first later body p rest e = rest e

pub has_body : (P : HobEntry → Type 0) (hobs : List HobEntry) (at place : ℕ) (body : Body) → Each P hobs → body_from at hobs place ≡ Some body → Has P body
has_body P [] at place body each e = cc
has_body P (first ∷ hobs) at place body each e =
    has_on P (at + header_len == place) first (body_from (at + hob_len first) hobs place) body each.0 (has_body P hobs (at + hob_len first) place body each.1) e

-- what is known of the body at a place
pub body_is_of : (s : StoreState) (place : ℕ) (body : Body) → IsStoreState s → body_at s place ≡ Some body → (kind : ℕ) × IsBodyOf s.board s.taken kind body
body_is_of s place body h found =
    let has = has_body (IsHobEntry s.board s.taken) s.hobs handoff_len place body h.hobs found in
    (has.hob.kind, subst (IsBodyOf s.board s.taken has.hob.kind) has.body_is has.fact.body)

-- bodies spell as many bytes as they have
links_len : (links : Option Links) → length (links_bytes links) ≡ 32
links_len None = refl
links_len (Some links) = refl

body_spelled : (s : StoreState) (kind place : ℕ) (body : Body) → IsBoard s.board → IsBodyOf s.board s.taken kind body → length (body_bytes s place body) ≡ body_len body
body_spelled s kind place (Bytes bytes) board h = refl
body_spelled s kind place (Descriptor d) board h = (descriptor_fits s.board s.taken kind d board h).spelled s.base place
body_spelled s kind place Node board h = links_len _
body_spelled s kind place (Allocation a) board h = refl

all_spelled : (s : StoreState) → IsStoreState s → Each (IsSpelled s) s.hobs
all_spelled s h = each_more (IsHobEntry s.board s.taken) (IsSpelled s) s.hobs (λ hob is place. body_spelled s hob.kind place hob.body h.board is.body) h.hobs

heap_on : (s : StoreState) (moved : Bool) → IsHeap s moved → IfSome s.planned (IsPlanned s.board) → IsBoard s.board → IsFittingHeap s
heap_on s false h p b =
    let base = h.0 in
    let sum = h.1 in
    let last = h.2 in
    let end = b.temp_end in
    let long = b.temp_len in
    record { len = omega (arith, sum, long); end = omega (arith, base, sum, end); pages = omega (arith, base, sum, last); pages_end = omega (arith, last, end) }
heap_on s true h p b =
    let P : Option Range → Type 0 = λ planned. IfSome planned (IsPlanned s.board) in
    let q : IsPlanned s.board (record { base = s.base; len = s.len }) = subst P h.0 p in
    let low = q.0 in
    let high = q.1 in
    let last = h.1 in
    let end = b.ram_end in
    let long = b.ram_len in
    record { len = omega (arith, low, high, long); end = omega (arith, high, end); pages = omega (arith, last); pages_end = omega (arith, high, last, end) }

-- HOBs have headers
pub hobs_len : (hobs : List HobEntry) → length hobs * 8 ≤ sum_by hob_len hobs
hobs_len [] = omega arith
hobs_len (hob ∷ hobs) = let c : sum_by hob_len (hob ∷ hobs) ≡ hob_len hob + sum_by hob_len hobs = sum_by-cons hob_len hob hobs in omega (arith, c, hobs_len hobs)

few_hobs : (s : StoreState) → IsStoreState s → length s.hobs < 2 ^ 28
few_hobs s h =
    let long = hobs_len s.hobs in
    let most = (heap_on s s.moved h.heap h.planned h.board).len in
    let room = h.room in
    omega (arith, long, most, room)

pub all_fit : StatesFit
all_fit = record {
  descriptors = λ s place d h found. let is = body_is_of s place (Descriptor d) h found in descriptor_fits s.board s.taken is.0 d h.board is.1;
  bodies = all_spelled;
  hobs = few_hobs;
  heap = λ s h. heap_on s s.moved h.heap h.planned h.board;
}
