-- Where the HOBs of a store stand, by their number.
use Rattle.std.proofs.Common.{◌≡◌, ℕ, zero, suc, ◌+◌, ◌≤◌, ◌<◌, Bool, true, false, cond, List, [], ◌∷◌, length, take, arith, sym, refl, ap, ◌∙◌, Option, Some, None, option_map, slice_get, is_some, get_or, ◌==◌, sum_by, inl, inr, take_all}
use Rattle.std.proofs.lemmas.List.Sums.{sum_by-cons, sum_by_more, sum_by-take-le}
use Rattle.std.proofs.lemmas.Option.{same_Some, slice_get_within, get_or_from_slice_get}
use Rattle.std.proofs.lemmas.Bool.Decides.{nat_tests}
use Rattle.store_model.specs.{declared.store_handle.HobSpan.HobSpan, declared.state.HobEntry.HobEntry, HeapImage.body_bytes}
use Rattle.boot_model.specs.{declared.line.Line.Line, Listing.hob_lines_from}
use Rattle.boot_model.specs.declared.line.Line.TheVariants as L
use Rattle.store_model.specs.StoreState.{StoreState, hob_len, end_place}
use Rattle.store_model.specs.{Service.Reading.span_from, Service.Reading.hob_at, StoreCall.IsHobPlace}
use Rattle.boot_trace.specs.HobLines.{handoff_hob, all_hobs, hob_line_from, hob_line_at}
use Rattle.boot_trace.proofs.ListPlaces.{past}

-- how far the HOB of a number stands behind the first
abbrev pub place_of : List HobEntry → ℕ → ℕ
place_of hobs n = sum_by hob_len (take n hobs)

abbrev pub span_of : ℕ → HobEntry → HobSpan
span_of offset hob = record { kind = hob.kind; length = hob_len hob; next = offset + hob_len hob }

abbrev pub line_of_hob : StoreState → ℕ → HobEntry → Line
line_of_hob s offset hob = L.Hob hob.kind (body_bytes s (offset + 8) hob.body)

pub place_more : (hob : HobEntry) (hobs : List HobEntry) (n : ℕ) → place_of (hob ∷ hobs) (suc n) ≡ hob_len hob + place_of hobs n
place_more hob hobs n = sum_by-cons hob_len hob (take n hobs)

apart : (a b : ℕ) → a < b → (a == b) ≡ false
apart a b le = grind (arith, nat_tests)

same : (a b : ℕ) → a ≡ b → (a == b) ≡ true
same a b e = grind (arith, nat_tests)

-- the HOB of a number is found at its place
pub span_there : (hobs : List HobEntry) (at n to : ℕ) → to ≡ at + place_of hobs n → span_from at hobs to ≡ option_map (span_of to) (slice_get hobs n)
span_there [] at n to e = refl
span_there (hob ∷ hobs) at zero to e =
    let here : at ≡ to = omega (arith, e) in
    let t : (at == to) ≡ true = same at to here in
    rw t (ap (λ from. Some (span_of from hob)) here)
span_there (hob ∷ hobs) at (suc n) to e =
    let t : (at == to) ≡ false = apart at to (omega (arith, e, place_more hob hobs n)) in
    rw t (span_there hobs (at + hob_len hob) n to (omega (arith, e, place_more hob hobs n)))

pub line_there : (s : StoreState) (hobs : List HobEntry) (at n to : ℕ) → to ≡ at + place_of hobs n → hob_line_from s at hobs to ≡ option_map (line_of_hob s to) (slice_get hobs n)
line_there s [] at n to e = refl
line_there s (hob ∷ hobs) at zero to e =
    let here : at ≡ to = omega (arith, e) in
    let t : (at == to) ≡ true = same at to here in
    rw t (ap (λ from. Some (line_of_hob s from hob)) here)
line_there s (hob ∷ hobs) at (suc n) to e =
    let t : (at == to) ≡ false = apart at to (omega (arith, e, place_more hob hobs n)) in
    rw t (line_there s hobs (at + hob_len hob) n to (omega (arith, e, place_more hob hobs n)))

-- as its line stands among all lines
pub line_among : (s : StoreState) (hobs : List HobEntry) (at n to : ℕ) → to ≡ at + place_of hobs n → slice_get (hob_lines_from s at hobs) n ≡ option_map (line_of_hob s to) (slice_get hobs n)
line_among s [] at n to e = refl
line_among s (hob ∷ hobs) at zero to e = let here : at ≡ to = omega (arith, e) in ap (λ from. Some (line_of_hob s from hob)) here
line_among s (hob ∷ hobs) at (suc n) to e = line_among s hobs (at + hob_len hob) n to (omega (arith, e, place_more hob hobs n))

pub lines_len : (s : StoreState) (hobs : List HobEntry) (at : ℕ) → length (hob_lines_from s at hobs) ≡ length hobs
lines_len s [] at = refl
lines_len s (hob ∷ hobs) at = ap suc (lines_len s hobs (at + hob_len hob))

-- a HOB that is found has a number
found_on : (b : Bool) (here span : HobSpan) (then : Option HobSpan) (P : Type 0) → (b ≡ true → P) → (then ≡ Some span → P) → cond b (Some here) then ≡ Some span → P
found_on true here span then P f g h = f refl
found_on false here span then P f g h = g h

abbrev pub HasNumber : List HobEntry → ℕ → ℕ → Type 0
HasNumber hobs at to = (n : ℕ) × (n < length hobs) × (to ≡ at + place_of hobs n)

pub number_of : (hobs : List HobEntry) (at to : ℕ) (span : HobSpan) → span_from at hobs to ≡ Some span → HasNumber hobs at to
number_of [] at to span h = cc
number_of (hob ∷ hobs) at to span h =
    found_on (at == to) (record { kind = hob.kind; length = hob_len hob; next = at + hob_len hob }) span (span_from (at + hob_len hob) hobs to) (HasNumber (hob ∷ hobs) at to)
    (λ t. let e : at ≡ to = grind (arith, nat_tests, t) in (0, omega arith, omega (arith, e)))
    (λ later. let rest = number_of hobs (at + hob_len hob) to span later in (suc rest.0, omega (arith, rest.1), omega (arith, rest.2, place_more hob hobs rest.0))) h

-- the hand-off HOB is the first of all
pub at_start : (s : StoreState) (offset : ℕ) → hob_at s offset ≡ span_from 0 (all_hobs s) offset
at_start s zero = refl
at_start s (suc offset) =
    let t : (suc offset == 0) ≡ false = grind (arith, nat_tests) in
    let u : (0 == suc offset) ≡ false = grind (arith, nat_tests) in
    rw (t, u) refl

pub end_is : (s : StoreState) → end_place s ≡ sum_by hob_len (all_hobs s)
end_is s = let c : sum_by hob_len (all_hobs s) ≡ hob_len (handoff_hob s) + sum_by hob_len s.hobs = sum_by-cons hob_len (handoff_hob s) s.hobs in omega (arith, c)

-- what a place tells
told_at : (s : StoreState) (n offset : ℕ) → offset ≡ place_of (all_hobs s) n → hob_at s offset ≡ option_map (span_of offset) (slice_get (all_hobs s) n)
told_at s n offset e = at_start s offset ∙ span_there (all_hobs s) 0 n offset (omega (arith, e))

some_told : {A B : Type 0} (f : A → B) (o : Option A) (b : B) → option_map f o ≡ Some b → (a : A) × (o ≡ Some a) × (f a ≡ b)
some_told f None b e = cc
some_told f (Some a) b e = (a, refl, same_Some (f a) b e)

none_told : {A B : Type 0} (f : A → B) (o : Option A) → option_map f o ≡ None → o ≡ None
none_told f None e = refl
none_told f (Some a) e = cc

-- the HOB that is told at the place of a number
pub record Told (s : StoreState) (n offset : ℕ) (span : HobSpan) : Type 0 where
  pub hob : HobEntry
  pub is : slice_get (all_hobs s) n ≡ Some hob
  pub told : span_of offset hob ≡ span
  pub within : n < length (all_hobs s)
  pub next : span.next ≡ place_of (all_hobs s) (n + 1)
  pub more : offset < span.next
  pub low : span.next ≤ end_place s

pub told : (s : StoreState) (n offset : ℕ) (span : HobSpan) → offset ≡ place_of (all_hobs s) n → Some span ≡ hob_at s offset → Told s n offset span
told s n offset span e h =
    let x = some_told (span_of offset) (slice_get (all_hobs s) n) span (sym (told_at s n offset e) ∙ sym h) in
    let le = slice_get_within (all_hobs s) n x.0 x.1 in
    let here : get_or (all_hobs s) n x.0 ≡ x.0 = get_or_from_slice_get (all_hobs s) n x.0 x.0 x.1 in
    let more : place_of (all_hobs s) (n + 1) ≡ place_of (all_hobs s) n + hob_len x.0 = sum_by_more hob_len (all_hobs s) n x.0 le ∙ ap (λ (hob : HobEntry). place_of (all_hobs s) n + hob_len hob) here in
    let after : offset + hob_len x.0 ≡ span.next = ap (λ (span : HobSpan). span.next) x.2 in
    let next : span.next ≡ place_of (all_hobs s) (n + 1) = sym after ∙ ap (λ k. k + hob_len x.0) e ∙ sym more in
    record { hob = x.0; is = x.1; told = x.2; within = le; next = next; more = omega (arith, after); low = omega (arith, next, sum_by-take-le hob_len (all_hobs s) (n + 1), end_is s) }

-- no HOB is told behind the last
pub none_left : (s : StoreState) (n offset : ℕ) → offset ≡ place_of (all_hobs s) n → None ≡ hob_at s offset → length (all_hobs s) ≤ n
none_left s n offset e h = past (all_hobs s) n (none_told (span_of offset) (slice_get (all_hobs s) n) (sym (told_at s n offset e) ∙ sym h))

-- each number has a place, and the one behind the last has the end HOB's
place_on : (s : StoreState) (n offset : ℕ) (o : Option HobEntry) → slice_get (all_hobs s) n ≡ o → n ≤ length (all_hobs s) → offset ≡ place_of (all_hobs s) n → IsHobPlace offset s
place_on s n offset None is le e = let high = past (all_hobs s) n is in inr (e ∙ ap (sum_by hob_len) (take_all n (all_hobs s) high) ∙ sym (end_is s))
place_on s n offset (Some hob) is le e = inl (ap is_some (told_at s n offset e ∙ ap (option_map (span_of offset)) is))

pub hob_place : (s : StoreState) (n offset : ℕ) → n ≤ length (all_hobs s) → offset ≡ place_of (all_hobs s) n → IsHobPlace offset s
hob_place s n offset = place_on s n offset (slice_get (all_hobs s) n) refl

-- a place at which no HOB stands is the end HOB's
end_or : (s : StoreState) (offset : ℕ) (o : Option HobSpan) → hob_at s offset ≡ o → None ≡ o → IsHobPlace offset s → offset ≡ end_place s
end_or s offset None is none (inl some) = let no : false ≡ true = sym (ap is_some is) ∙ some in cc
end_or s offset None is none (inr end) = end
end_or s offset (Some span) is none place = cc

pub at_end : (s : StoreState) (offset : ℕ) → IsHobPlace offset s → None ≡ hob_at s offset → offset ≡ end_place s
at_end s offset place none = end_or s offset (hob_at s offset) refl none place

-- a HOB that is found has a number
pub numbered : (s : StoreState) (offset : ℕ) (span : HobSpan) → hob_at s offset ≡ Some span → (n : ℕ) × (offset ≡ place_of (all_hobs s) n)
numbered s offset span h =
    let n = number_of (all_hobs s) 0 offset span (sym (at_start s offset) ∙ h) in
    (n.0, omega (arith, n.2))

-- its line, by its offset and among all lines
pub line_at : (s : StoreState) (n offset : ℕ) (hob : HobEntry) → offset ≡ place_of (all_hobs s) n → slice_get (all_hobs s) n ≡ Some hob → hob_line_at s offset ≡ Some (line_of_hob s offset hob)
line_at s n offset hob e is = line_there s (all_hobs s) 0 n offset (omega (arith, e)) ∙ ap (option_map (line_of_hob s offset)) is

pub line_in : (s : StoreState) (n offset : ℕ) (hob : HobEntry) → offset ≡ place_of (all_hobs s) n → slice_get (all_hobs s) n ≡ Some hob → Some (line_of_hob s offset hob) ≡ slice_get (hob_lines_from s 0 (all_hobs s)) n
line_in s n offset hob e is = sym (line_among s (all_hobs s) 0 n offset (omega (arith, e)) ∙ ap (option_map (line_of_hob s offset)) is)
