-- What is read from the header of a HOB.
use Rattle.std.proofs.Common.{◌≡◌, ◌≢◌, ◌⊎◌, ℕ, ◌+◌, ◌-◌, ◌≤◌, ◌<◌, ◌^◌, Bool, true, false, cond, List, [], ◌∷◌, ◌++◌, length, take, drop, arith, ap, refl, sym, subst, ◌∙◌, Option, Some, None, ◌==◌, append_assoc, sum_by, replicate, is_some, drop_at, drop-drop, take_at}
use Rattle.std.proofs.{lemmas.Bool.Decides.nat_tests, lemmas.List.Sums.sum_by-cons}
use Rattle.pi_base.specs.{Field.little_bytes, Field.ReadsWhatItSpells, Lists.Each}
use Rattle.hob_codec.specs.declared.kind.TheConstants.{HANDOFF, END}
use Rattle.store_model.specs.{declared.state.Body.Body, declared.state.HobEntry.HobEntry, declared.store_handle.HobSpan.HobSpan}
use Rattle.store_model.specs.StoreState.{StoreState, end_place, hob_len, body_len}
use Rattle.store_model.specs.{StateFacts.IsHobEntry, StateFacts.IsStoreState, Service.Reading.span_from}
use Rattle.store_model.specs.HeapImage.{header_bytes, hobs_bytes, hob_list, body_bytes, heap_image}
use Rattle.store_laws.specs.{Spelling.spelled, Spelling.AreSpelled, Growing.front_bytes, Word.short_in}
use Rattle.store_laws.specs.Hobs.{span_told, HobsAreTold, HobPlacesAreInside}
use Rattle.store_laws.proofs.{Pieces.piece_later, HeapBodies.is_spelled, Front.number_is, Front.front_piece, Nodes.piece_of}
use Rattle.store_laws.proofs.Facts.{bodies_are_spelled, bodies_len, has_room}
use Rattle.store_laws.proofs.HeapItems.{other_is}

-- a HOB among others: its type and length fit, its header stands at its place, and the next is behind it
record IsSpanAt (s : StoreState) (spell : ℕ → Body → List ℕ) (hobs : List HobEntry) (at place : ℕ) (tail : List ℕ) (span : HobSpan) : Type 0 where
  pub behind : at ≤ place
  pub inside : place + span.length ≤ at + sum_by hob_len hobs
  pub header : take 8 (drop (place - at) (spelled spell at hobs ++ tail)) ≡ header_bytes span.kind span.length
  pub next : span.next ≡ place + span.length
  pub kind_fits : span.kind < 2 ^ 16
  pub no_end : span.kind ≢ END
  pub len_fits : span.length < 2 ^ 16

header_here : (header body rest tail : List ℕ) → length header ≡ 8 → take 8 (drop 0 (header ++ body ++ rest ++ tail)) ≡ header
header_here header body rest tail e =
    ap (take 8) (append_assoc (header ++ body) rest tail ∙ append_assoc header body (rest ++ tail)) ∙ take_at header (body ++ (rest ++ tail)) 8 e

span_on : (s : StoreState) (spell : ℕ → Body → List ℕ) (hob : HobEntry) (hobs : List HobEntry) (at place : ℕ) (tail : List ℕ) (span : HobSpan) (b : Bool) → (at == place) ≡ b → ((p : ℕ) → length (spell p hob.body) ≡ body_len hob.body) → IsHobEntry s.board s.taken hob
    → cond b (Some (record { kind = hob.kind; length = hob_len hob; next = at + hob_len hob })) (span_from (at + hob_len hob) hobs place) ≡ Some span
    → (span_from (at + hob_len hob) hobs place ≡ Some span → IsSpanAt s spell hobs (at + hob_len hob) place tail span) → IsSpanAt s spell (hob ∷ hobs) at place tail span
span_on s spell hob hobs at place tail span true e len fits found f =
    let here : at ≡ place = grind (arith, nat_tests, e) in
    let one : HobSpan = record { kind = hob.kind; length = hob_len hob; next = at + hob_len hob } in
    let is : one ≡ span = cc in
    let none : place - at ≡ 0 = omega (arith, here) in
    let c : sum_by hob_len (hob ∷ hobs) ≡ hob_len hob + sum_by hob_len hobs = sum_by-cons hob_len hob hobs in
    let header : take 8 (drop (place - at) (spelled spell at (hob ∷ hobs) ++ tail)) ≡ header_bytes hob.kind (hob_len hob) =
    ap (λ n. take 8 (drop n (spelled spell at (hob ∷ hobs) ++ tail))) none ∙ header_here (header_bytes hob.kind (hob_len hob)) (spell (at + 8) hob.body) (spelled spell (at + hob_len hob) hobs) tail refl in
    subst (IsSpanAt s spell (hob ∷ hobs) at place tail) is
    (record { behind = omega (arith, here); inside = omega (arith, here, c); header = header; next = ap (λ n. n + hob_len hob) here; kind_fits = fits.kind; no_end = fits.not_end; len_fits = (let most = fits.len in omega (arith, most)) })
span_on s spell hob hobs at place tail span false e len fits found f =
    let h = f found in
    let header = header_bytes hob.kind (hob_len hob) in
    let le = h.behind in
    let inside = h.inside in
    let eight : length header ≡ 8 = refl in
    let size = len (at + 8) in
    let c : sum_by hob_len (hob ∷ hobs) ≡ hob_len hob + sum_by hob_len hobs = sum_by-cons hob_len hob hobs in
    let sum : place - at ≡ length header + length (spell (at + 8) hob.body) + (place - (at + hob_len hob)) = omega (arith, le, eight, size) in
    record {
      behind = omega (arith, le);
      inside = omega (arith, inside, c);
      header = ap (take 8) (piece_later header (spell (at + 8) hob.body) (spelled spell (at + hob_len hob) hobs) tail (place - at) (place - (at + hob_len hob)) sum) ∙ h.header;
      next = h.next;
      kind_fits = h.kind_fits;
      no_end = h.no_end;
      len_fits = h.len_fits;
    }

span_at : (s : StoreState) (spell : ℕ → Body → List ℕ) (hobs : List HobEntry) (at place : ℕ) (tail : List ℕ) (span : HobSpan) → AreSpelled spell hobs → Each (IsHobEntry s.board s.taken) hobs → span_from at hobs place ≡ Some span → IsSpanAt s spell hobs at place tail span
span_at s spell [] at place tail span h fits e = cc
span_at s spell (hob ∷ hobs) at place tail span h fits e =
    span_on s spell hob hobs at place tail span (at == place) refl h.0 fits.0 e (λ later. span_at s spell hobs (at + hob_len hob) place tail span h.1 fits.1 later)

-- bytes behind the hand-off HOB
behind_front : (front bodies end zeros : List ℕ) (place n : ℕ) → length front ≡ 56 → 56 ≤ place → take n (drop place (front ++ bodies ++ end ++ zeros)) ≡ take n (drop (place - 56) (bodies ++ (end ++ zeros)))
behind_front front bodies end zeros place n f le =
    let whole : front ++ bodies ++ end ++ zeros ≡ front ++ (bodies ++ (end ++ zeros)) = append_assoc (front ++ bodies) end zeros ∙ append_assoc front bodies (end ++ zeros) in
    let sum : length front + (place - 56) ≡ place = omega (arith, f, le) in
    ap (λ x. take n (drop place x)) whole ∙ ap (λ k. take n (drop k (front ++ (bodies ++ (end ++ zeros))))) (sym sum)
    ∙ ap (take n) (sym (drop-drop (place - 56) (length front) (front ++ (bodies ++ (end ++ zeros)))) ∙ ap (drop (place - 56)) (drop_at front (bodies ++ (end ++ zeros)) (length front) refl))

-- a header tells its two numbers
pub header_tells : (heap : List ℕ) (place kind len : ℕ) → ReadsWhatItSpells → take 8 (drop place heap) ≡ header_bytes kind len → kind < 2 ^ 16 → len < 2 ^ 16 → (short_in heap place ≡ kind) × (short_in heap (place + 2) ≡ len)
header_tells heap place kind len law e k l =
    let same : place + 0 ≡ place = omega arith in
    let first : take 2 (drop (place + 0) heap) ≡ little_bytes 2 kind = piece_of heap (header_bytes kind len) place 8 0 2 e (omega arith) ∙ (let x : take 2 (drop 0 (header_bytes kind len)) ≡ little_bytes 2 kind = refl in x) in
    let second : take 2 (drop (place + 2) heap) ≡ little_bytes 2 len = piece_of heap (header_bytes kind len) place 8 2 2 e (omega arith) ∙ (let x : take 2 (drop 2 (header_bytes kind len)) ≡ little_bytes 2 len = refl in x) in
    (ap (short_in heap) (sym same) ∙ number_is 2 kind (take 2 (drop (place + 0) heap)) law (omega (arith, k)) first, number_is 2 len (take 2 (drop (place + 2) heap)) law (omega (arith, l)) second)

told : (heap : List ℕ) (place kind len : ℕ) → short_in heap place ≡ kind → short_in heap (place + 2) ≡ len → kind ≢ END → span_told heap place ≡ Some (record { kind = kind; length = len; next = place + len })
told heap place kind len k l other =
    let t : (short_in heap place == END) ≡ false = ap (λ n. n == END) k ∙ other_is kind END other in
    rw t (ap (λ n. Some (record { kind = n; length = short_in heap (place + 2); next = place + short_in heap (place + 2) })) k ∙ ap (λ n. Some (record { kind = kind; length = n; next = place + n })) l)

-- the three kinds of places
first_told : (s : StoreState) → ReadsWhatItSpells → span_told (heap_image s) 0 ≡ Some (record { kind = HANDOFF; length = 56; next = 56 })
first_told s law =
    let header : take 8 (drop 0 (heap_image s)) ≡ header_bytes HANDOFF 56 = front_piece s 0 8 (omega arith) ∙ (let x : take 8 (drop 0 (front_bytes s)) ≡ header_bytes HANDOFF 56 = refl in x) in
    let both = header_tells (heap_image s) 0 HANDOFF 56 law header (omega arith) (omega arith) in
    told (heap_image s) 0 HANDOFF 56 both.0 both.1 (λ e. absurd (omega (arith, e)))

span_is : (s : StoreState) (place : ℕ) (span : HobSpan) → ReadsWhatItSpells → IsStoreState s → span_from 56 s.hobs place ≡ Some span → span_told (heap_image s) place ≡ Some span
span_is s place span law h found =
    let zeros : List ℕ = replicate (s.len - length (hob_list s)) 0 in
    let tail = header_bytes END 8 ++ zeros in
    let at = span_at s (body_bytes s) s.hobs 56 place tail span (bodies_are_spelled s h) h.hobs found in
    let header : take 8 (drop place (heap_image s)) ≡ header_bytes span.kind span.length =
    behind_front (front_bytes s) (hobs_bytes s 56 s.hobs) (header_bytes END 8) zeros place 8 refl at.behind
    ∙ ap (λ x. take 8 (drop (place - 56) (x ++ tail))) (is_spelled s 56 s.hobs) ∙ at.header in
    let both = header_tells (heap_image s) place span.kind span.length law header at.kind_fits at.len_fits in
    told (heap_image s) place span.kind span.length both.0 both.1 at.no_end ∙ ap (λ n. Some (record { kind = span.kind; length = span.length; next = n })) (sym at.next)

end_header : (s : StoreState) → IsStoreState s → take 8 (drop (end_place s) (heap_image s)) ≡ header_bytes END 8
end_header s h =
    let zeros : List ℕ = replicate (s.len - length (hob_list s)) 0 in
    let bodies = hobs_bytes s 56 s.hobs in
    let size = bodies_len s (bodies_are_spelled s h) in
    let place : end_place s - 56 ≡ length bodies = omega (arith, size) in
    behind_front (front_bytes s) bodies (header_bytes END 8) zeros (end_place s) 8 refl (omega arith)
    ∙ ap (λ n. take 8 (drop n (bodies ++ (header_bytes END 8 ++ zeros)))) place ∙ ap (take 8) (drop_at bodies (header_bytes END 8 ++ zeros) (length bodies) refl) ∙ take_at (header_bytes END 8) zeros 8 refl

end_told : (s : StoreState) → ReadsWhatItSpells → IsStoreState s → span_told (heap_image s) (end_place s) ≡ None
end_told s law h =
    let both = header_tells (heap_image s) (end_place s) END 8 law (end_header s h) (omega arith) (omega arith) in
    let t : (short_in (heap_image s) (end_place s) == END) ≡ true = ap (λ n. n == END) both.0 in
    rw t refl

by_span : (s : StoreState) (place : ℕ) (found : Option HobSpan) → span_from 56 s.hobs place ≡ found → ReadsWhatItSpells → IsStoreState s → (is_some found ≡ true) ⊎ (place ≡ end_place s) → found ≡ span_told (heap_image s) place
by_span s place (Some span) e law h at = sym (span_is s place span law h e)
by_span s place None e law h (◌⊎◌.inl some) = cc
by_span s place None e law h (◌⊎◌.inr end) = sym (ap (span_told (heap_image s)) end ∙ end_told s law h)

by_place : (s : StoreState) (place : ℕ) (b : Bool) → (place == 0) ≡ b → ReadsWhatItSpells → IsStoreState s
    → (is_some (cond b (Some (record { kind = HANDOFF; length = 56; next = 56 })) (span_from 56 s.hobs place)) ≡ true) ⊎ (place ≡ end_place s)
    → cond b (Some (record { kind = HANDOFF; length = 56; next = 56 })) (span_from 56 s.hobs place) ≡ span_told (heap_image s) place
by_place s place true e law h at = let same : place ≡ 0 = grind (arith, nat_tests, e) in sym (ap (span_told (heap_image s)) same ∙ first_told s law)
by_place s place false e law h at = by_span s place (span_from 56 s.hobs place) refl law h at

pub hobs_are_told : ReadsWhatItSpells → HobsAreTold
hobs_are_told law s place h at = by_place s place (place == 0) refl law h at

-- a HOB's header lies before the end HOB
inside_on : (hob : HobEntry) (hobs : List HobEntry) (at place : ℕ) (b : Bool) (span : HobSpan) → (at == place) ≡ b
    → cond b (Some (record { kind = hob.kind; length = hob_len hob; next = at + hob_len hob })) (span_from (at + hob_len hob) hobs place) ≡ Some span
    → (span_from (at + hob_len hob) hobs place ≡ Some span → place + 8 ≤ at + hob_len hob + sum_by hob_len hobs) → place + 8 ≤ at + sum_by hob_len (hob ∷ hobs)
inside_on hob hobs at place true span e found f =
    let here : at ≡ place = grind (arith, nat_tests, e) in
    let c : sum_by hob_len (hob ∷ hobs) ≡ hob_len hob + sum_by hob_len hobs = sum_by-cons hob_len hob hobs in
    omega (arith, here, c)
inside_on hob hobs at place false span e found f =
    let c : sum_by hob_len (hob ∷ hobs) ≡ hob_len hob + sum_by hob_len hobs = sum_by-cons hob_len hob hobs in
    let le = f found in
    omega (arith, le, c)

header_inside : (hobs : List HobEntry) (at place : ℕ) (span : HobSpan) → span_from at hobs place ≡ Some span → place + 8 ≤ at + sum_by hob_len hobs
header_inside [] at place span e = cc
header_inside (hob ∷ hobs) at place span e = inside_on hob hobs at place (at == place) span refl e (header_inside hobs (at + hob_len hob) place span)

found_inside : (s : StoreState) (place : ℕ) (found : Option HobSpan) → span_from 56 s.hobs place ≡ found → IsStoreState s → (is_some found ≡ true) ⊎ (place ≡ end_place s) → place + 8 ≤ s.len
found_inside s place found e h (◌⊎◌.inr end) = let room = has_room s h in omega (arith, end, room)
found_inside s place None e h (◌⊎◌.inl some) = cc
found_inside s place (Some span) e h (◌⊎◌.inl some) = let le = header_inside s.hobs 56 place span e in let room = has_room s h in omega (arith, le, room)

placed_inside : (s : StoreState) (place : ℕ) (b : Bool) → (place == 0) ≡ b → IsStoreState s
    → (is_some (cond b (Some (record { kind = HANDOFF; length = 56; next = 56 })) (span_from 56 s.hobs place)) ≡ true) ⊎ (place ≡ end_place s) → place + 8 ≤ s.len
placed_inside s place true e h at = let same : place ≡ 0 = grind (arith, nat_tests, e) in let room = has_room s h in omega (arith, same, room)
placed_inside s place false e h at = found_inside s place (span_from 56 s.hobs place) refl h at

pub hob_places_are_inside : HobPlacesAreInside
hob_places_are_inside s place h at = placed_inside s place (place == 0) refl h at
