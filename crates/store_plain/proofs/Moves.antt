-- The move of the HOBs, one after the other.
use Rattle.std.proofs.Common.{◌≡◌, ℕ, zero, suc, ◌+◌, ◌<◌, Bool, true, false, List, [], ◌∷◌, ◌++◌, length, take, drop, get_or, arith, ap, refl, sym, ◌∙◌, ◌==◌, slice_set, ◌||◌, sum_by}
use Rattle.std.specs.List.{list_any}
use Rattle.std.proofs.lemmas.List.Sums.{sum_by-cons}
use Rattle.store_plain.specs.{declared.store.PlainStore.PlainStore, PlainState.state_of, Moves.SameLists}
use Rattle.store_model.specs.{declared.state.Entry.Entry, declared.state.Body.Body, declared.state.HobEntry.HobEntry}
use Rattle.store_model.specs.declared.state.Body.TheVariants.{Bytes, Descriptor, Node, Allocation}
use Rattle.store_model.specs.StoreState.{StoreState, Range, hob_len}
use Rattle.store_model.specs.{Service.Descriptor.descriptors, Migration.moved_body, Migration.moved_hobs}

or_assoc : (a b c : Bool) → (a || b || c) ≡ (a || (b || c))
or_assoc true b c = refl
or_assoc false b c = refl

any_both : (p : ℕ → Bool) (xs ys : List Entry) → list_any p (descriptors (xs ++ ys)) ≡ (list_any p (descriptors xs) || list_any p (descriptors ys))
any_both p [] ys = refl
any_both p (x ∷ xs) ys = ap (λ b. p x.descriptor || b) (any_both p xs ys) ∙ sym (or_assoc (p x.descriptor) (list_any p (descriptors xs)) (list_any p (descriptors ys)))

pub named_by : (place : ℕ) (ppis callbacks dispatches : List Entry)
    → list_any (λ named. named == place) (descriptors (ppis ++ callbacks ++ dispatches))
    ≡ (list_any (λ named. named == place) (descriptors ppis) || list_any (λ named. named == place) (descriptors callbacks) || list_any (λ named. named == place) (descriptors dispatches))
named_by place ppis callbacks dispatches =
    let test : ℕ → Bool = λ named. named == place in
    any_both test (ppis ++ callbacks) dispatches ∙ ap (λ b. b || list_any test (descriptors dispatches)) (any_both test ppis callbacks)

-- the HOBs that are there do not matter to where a body moves
pub moved_same : (s : StoreState) (hobs : List HobEntry) (to : Range) (place : ℕ) (body : Body) → moved_body (record s { hobs = hobs }) to place body ≡ moved_body s to place body
moved_same s hobs to place (Bytes bytes) = refl
moved_same s hobs to place (Descriptor d) = refl
moved_same s hobs to place Node = refl
moved_same s hobs to place (Allocation a) = refl

-- one HOB more has moved
pub moved_more : (s : StoreState) (to : Range) (hobs : List HobEntry) (at i : ℕ) (d : HobEntry) → i < length hobs
    → take (i + 1) (slice_set hobs i (record (get_or hobs i d) { body = moved_body s to (at + 8) (get_or hobs i d).body }))
    ++ moved_hobs s to (at + hob_len (get_or hobs i d)) (drop (i + 1) (slice_set hobs i (record (get_or hobs i d) { body = moved_body s to (at + 8) (get_or hobs i d).body })))
    ≡ take i hobs ++ moved_hobs s to at (drop i hobs)
moved_more s to [] at i d le = absurd (omega (arith, le))
moved_more s to (hob ∷ hobs) at zero d le = refl
moved_more s to (hob ∷ hobs) at (suc i) d le =
    let next : suc i + 1 ≡ suc (i + 1) = omega arith in
    rw next (ap (λ xs. hob ∷ xs) (moved_more s to hobs at i d (omega (arith, le))))

pub rest_sum : (hobs : List HobEntry) (i : ℕ) (d new : HobEntry) → i < length hobs → sum_by hob_len (drop i hobs) ≡ hob_len (get_or hobs i d) + sum_by hob_len (drop (i + 1) (slice_set hobs i new))
rest_sum [] i d new le = absurd (omega (arith, le))
rest_sum (hob ∷ hobs) zero d new le = sum_by-cons hob_len hob hobs
rest_sum (hob ∷ hobs) (suc i) d new le =
    let next : suc i + 1 ≡ suc (i + 1) = omega arith in
    rw next (rest_sum hobs i d new (omega (arith, le)))

pub moved_like : (p q : PlainStore) → SameLists p q → (to : Range) (place : ℕ) (body : Body) → moved_body (state_of q) to place body ≡ moved_body (state_of p) to place body
moved_like p q same to place body =
    sym (moved_same (state_of q) [] to place body) ∙ ap (λ s. moved_body s to place body) same.state ∙ moved_same (state_of p) [] to place body

pub same_then : (p q r : PlainStore) → SameLists p q → SameLists q r → SameLists p r
same_then p q r h k = record {
  state = k.state ∙ h.state;
  region = k.region ∙ h.region;
  base = k.base ∙ h.base;
  len = k.len ∙ h.len;
  taken = k.taken ∙ h.taken;
  planned = k.planned ∙ h.planned;
  moved = k.moved ∙ h.moved;
  end = k.end ∙ h.end;
}
