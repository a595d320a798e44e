-- The bytes of a state's heap are a HOB list: each HOB is read at its place without a fault, and the next stands behind it.
use Rattle.std.proofs.Common.{◌≡◌, ◌≢◌, ℕ, ◌+◌, ◌-◌, ◌%◌, ◌≤◌, ◌<◌, ◌^◌, Bool, true, false, cond, List, [], ◌∷◌, ◌++◌, length, take, drop, arith, ap, refl, sym, subst, ◌∙◌, Option, Some, None, Ok, ◌==◌, ◌&&◌, ◌||◌, append_assoc, length-append, length-drop, length-take, sum_by, replicate, not, is_some, nat_lt, nat_le, drop_at, drop-drop, take_at, take-append-drop}
use Rattle.std.proofs.{lemmas.Bool.Decides.nat_tests, lemmas.List.Sums.sum_by-cons}
use Rattle.pi_base.proofs.FieldLaws.{little_number-append}
use Rattle.pi_base.specs.{Field.little_number, Field.ReadsWhatItSpells, Lists.Each}
use Rattle.hob_codec.specs.declared.fault.HobFault.TheVariants.{Short, Length, Form}
use Rattle.hob_codec.specs.declared.kind.TheConstants.{HANDOFF, ALLOCATION, RESOURCE, NAMED, VOLUME, CPU, POOL, VOLUME2, END}
use Rattle.hob_codec.specs.{declared.list.HobPlace.HobPlace, HobValue.HobValue}
use Rattle.hob_codec.specs.HobList.{place_at, first_fault, fault_at, Leads, AreHobs}
use Rattle.hob_codec.specs.HobReading.{of_length, hob_of, kind_at, length_at, body_at, header_fault, formed, behind, reading}
use Rattle.store_model.specs.{declared.state.Body.Body, declared.state.HobEntry.HobEntry}
use Rattle.store_model.specs.declared.state.Body.TheVariants.{Bytes, Descriptor, Node, Allocation}
use Rattle.store_model.specs.StoreState.{StoreState, body_len, end_place, hob_len}
use Rattle.store_model.specs.StateFacts.{HasTypesLength, IsBodyOf, IsHobEntry, IsStoreState}
use Rattle.store_model.specs.HeapImage.{body_bytes, handoff_body, header_bytes, heap_image, hob_list, hobs_bytes}
use Rattle.store_laws.specs.{Spelling.AreSpelled, Spelling.spelled, Growing.front_bytes}
use Rattle.store_laws.specs.HobWalk.{places_from, hob_places, HaveBodies, WalksGiveHobs}
use Rattle.store_laws.proofs.{HeapBodies.is_spelled, Facts.bodies_are_spelled, Facts.bodies_len, HeapHobs.header_tells, HeapItems.other_is}

-- a HOB stands at a place of these bytes
record StandsAt (heap : List ℕ) (at kind : ℕ) (body : List ℕ) : Type 0 where
  kind_is : kind_at heap at ≡ kind
  length_is : length_at heap at ≡ 8 + length body
  body_is : body_at heap at ≡ body
  inside : at + 8 + length body ≤ length heap

-- a number is read of the bytes from its place on as of its own bytes
first_two : (bytes : List ℕ) → 2 ≤ length bytes → little_number 2 (take 2 bytes) ≡ little_number 2 bytes
first_two bytes le =
    let size : length (take 2 bytes) ≡ 2 = grind (arith, length-take, le) in
    sym (little_number-append 2 (take 2 bytes) (drop 2 bytes) (omega (arith, size))) ∙ ap (little_number 2) (take-append-drop 2 bytes)

stands : (heap body rest : List ℕ) (at kind : ℕ) → ReadsWhatItSpells → drop at heap ≡ header_bytes kind (8 + length body) ++ (body ++ rest) → kind < 2 ^ 16 → 8 + length body < 2 ^ 16
    → StandsAt heap at kind body
stands heap body rest at kind law e k l =
    let header = header_bytes kind (8 + length body) in
    let eight : length header ≡ 8 = refl in
    let size : length (header ++ (body ++ rest)) ≡ 8 + (length body + length rest) = length-append header (body ++ rest) ∙ ap (λ n. 8 + n) (length-append body rest) in
    let from : length (drop at heap) ≡ length heap - at = length-drop at heap in
    let left : length heap - at ≡ 8 + (length body + length rest) = sym from ∙ ap length e ∙ size in
    let both = header_tells heap at kind (8 + length body) law (ap (take 8) e ∙ take_at header (body ++ rest) 8 eight) k l in
    let later : length (drop (at + 2) heap) ≡ length heap - (at + 2) = length-drop (at + 2) heap in
    let len : length_at heap at ≡ 8 + length body = sym (first_two (drop (at + 2) heap) (omega (arith, later, left))) ∙ both.1 in
    let behind : drop (at + 8) heap ≡ body ++ rest = sym (drop-drop 8 at heap) ∙ ap (drop 8) e ∙ drop_at header (body ++ rest) 8 eight in
    let short : length_at heap at - 8 ≡ length body = omega (arith, len) in
    record {
      kind_is = sym (first_two (drop at heap) (omega (arith, from, left))) ∙ both.0;
      length_is = len;
      body_is = ap (λ n. take n (drop (at + 8) heap)) short ∙ ap (take (length body)) behind ∙ take_at body rest (length body) refl;
      inside = omega (arith, left);
    }

-- it is read without a fault
no_header_fault : (left n : ℕ) → 8 ≤ n → n % 8 ≡ 0 → n ≤ left
    → cond (nat_lt left 8) (Some Short) (cond ((nat_lt n 8 || not (n % 8 == 0)) || nat_lt left n) (Some Length) None) ≡ None
no_header_fault left n eight whole le =
    let a : nat_lt left 8 ≡ false = grind (arith, nat_tests, eight, le) in
    let b : nat_lt n 8 ≡ false = grind (arith, nat_tests, eight) in
    let c : (n % 8 == 0) ≡ true = grind (arith, nat_tests, whole) in
    let d : nat_lt left n ≡ false = grind (arith, nat_tests, le) in rw a (rw b (rw c (rw d refl)))

some_is : (found : Option HobValue) (next : ℕ) → is_some found ≡ true → (hob : HobValue) × (formed found next ≡ Ok (hob, next))
some_is None next h = cc
some_is (Some hob) next h = (hob, refl)

read_at : (heap : List ℕ) (at kind : ℕ) (body : List ℕ) → StandsAt heap at kind body → (8 + length body) % 8 ≡ 0 → is_some (hob_of kind body) ≡ true
    → (hob : HobValue) × (reading heap at ≡ Ok (hob, at + length_at heap at))
read_at heap at kind body is whole formed_is =
    let len = is.length_is in
    let inside = is.inside in
    let sound : header_fault heap at ≡ None = no_header_fault (length heap - at) (length_at heap at) (omega (arith, len)) (ap (λ n. n % 8) len ∙ whole) (omega (arith, len, inside)) in
    let same : hob_of (kind_at heap at) (body_at heap at) ≡ hob_of kind body = ap (λ k. hob_of k (body_at heap at)) is.kind_is ∙ ap (hob_of kind) is.body_is in
    let found = some_is (hob_of kind body) (at + length_at heap at) formed_is in
    (found.0, ap (λ f. behind f heap at) sound ∙ ap (λ o. formed o (at + length_at heap at)) same ∙ found.1)

no_fault : (heap : List ℕ) (at : ℕ) (pair : HobValue × ℕ) → at < length heap → reading heap at ≡ Ok pair → ((at == 0) && not (kind_at heap at == HANDOFF)) ≡ false → fault_at heap at ≡ None
no_fault heap at pair less e first =
    let there : nat_le (length heap) at ≡ false = grind (arith, nat_tests, less) in
    rw there (ap (first_fault at (kind_at heap at)) e ∙ ap (λ b. cond b (Some Form) None) first)

-- the form of a HOB whose body is as long as its type asks
some_if : (b : Bool) (one other : Option HobValue) → (b ≡ true → is_some one ≡ true) → (b ≡ false → is_some other ≡ true) → is_some (cond b one other) ≡ true
some_if true one other h k = h refl
some_if false one other h k = k refl

of_len : (len : ℕ) (body : List ℕ) (hob : HobValue) → length body ≡ len → is_some (of_length len body hob) ≡ true
of_len len body hob e = let t : (length body == len) ≡ true = grind (arith, nat_tests, e) in rw t refl

is_kind : (a b : ℕ) → (a == b) ≡ true → a ≡ b
is_kind a b t = grind (arith, nat_tests, t)

has_form : (kind : ℕ) (body : List ℕ) → HasTypesLength kind (length body) → kind ≢ HANDOFF → kind ≢ END → (kind ≡ ALLOCATION → length body ≡ 40) → is_some (hob_of kind body) ≡ true
has_form kind body typed not_handoff not_end pages =
    some_if (kind == HANDOFF) _ _ (λ t. absurd (not_handoff (is_kind kind HANDOFF t))) (λ _.
    some_if (kind == ALLOCATION) _ _ (λ t. of_len 40 body _ (pages (is_kind kind ALLOCATION t))) (λ _.
    some_if (kind == RESOURCE) _ _ (λ t. of_len 40 body _ (typed.resource (is_kind kind RESOURCE t))) (λ _.
    some_if (kind == NAMED) _ _ (λ t. let le = typed.named (is_kind kind NAMED t) in let long : nat_le 16 (length body) ≡ true = grind (arith, nat_tests, le) in rw long refl) (λ _.
    some_if (kind == VOLUME) _ _ (λ t. of_len 16 body _ (typed.volume (is_kind kind VOLUME t))) (λ _.
    some_if (kind == CPU) _ _ (λ t. of_len 8 body _ (typed.cpu (is_kind kind CPU t))) (λ _.
    some_if (kind == POOL) _ _ (λ _. refl) (λ _.
    some_if (kind == VOLUME2) _ _ (λ t. of_len 48 body _ (typed.volume2 (is_kind kind VOLUME2 t))) (λ _.
    some_if (kind == END) _ _ (λ t. absurd (not_end (is_kind kind END t))) (λ _. refl)))))))))

pages_are : (s : StoreState) (kind : ℕ) (body : Body) → IsBodyOf s.board s.taken kind body → kind ≡ ALLOCATION → body_len body ≡ 40
pages_are s kind (Bytes bytes) is e = absurd (is e)
pages_are s kind (Descriptor d) is e = let pool = is.0 in absurd (omega (arith, pool, e))
pages_are s kind Node is e = absurd (omega (arith, is, e))
pages_are s kind (Allocation a) is e = refl

-- a HOB of a state, of which the first stands behind the hand-off HOB
record IsRead (s : StoreState) (heap : List ℕ) (at : ℕ) (hob : HobEntry) : Type 0 where
  place : record { at = at; kind = hob.kind; length = hob_len hob } ≡ place_at heap at
  fault : fault_at heap at ≡ None
  goes_on : kind_at heap at ≢ END
  length_is : length_at heap at ≡ hob_len hob
  body_is : body_at heap at ≡ body_bytes s (at + 8) hob.body

made : (at : ℕ) {k k' l l' : ℕ} → k ≡ k' → l ≡ l' → (let p : HobPlace = record { at = at; kind = k; length = l } in p) ≡ (let p : HobPlace = record { at = at; kind = k'; length = l' } in p)
made at k l = rw k (rw l refl)

hob_is_read : (s : StoreState) (heap rest : List ℕ) (at : ℕ) (hob : HobEntry) → ReadsWhatItSpells → 0 < at → length (body_bytes s (at + 8) hob.body) ≡ body_len hob.body → IsHobEntry s.board s.taken hob
    → drop at heap ≡ header_bytes hob.kind (hob_len hob) ++ (body_bytes s (at + 8) hob.body ++ rest) → IsRead s heap at hob
hob_is_read s heap rest at hob law later size is e =
    let body = body_bytes s (at + 8) hob.body in
    let long : 8 + length body ≡ hob_len hob = ap (λ n. 8 + n) size in
    let most = is.len in
    let here = stands heap body rest at hob.kind law (e ∙ ap (λ n. header_bytes hob.kind n ++ (body ++ rest)) (sym long)) is.kind (omega (arith, long, most)) in
    let whole : (8 + length body) % 8 ≡ 0 = ap (λ n. n % 8) long ∙ is.aligned in
    let pages : hob.kind ≡ ALLOCATION → length body ≡ 40 = λ k. size ∙ pages_are s hob.kind hob.body is.body k in
    let form = has_form hob.kind body (subst (HasTypesLength hob.kind) (sym size) is.typed) is.not_handoff is.not_end pages in
    let found = read_at heap at hob.kind body here whole form in
    let inside = here.inside in
    let first : ((at == 0) && not (kind_at heap at == HANDOFF)) ≡ false = (let t : (at == 0) ≡ false = grind (arith, nat_tests, later) in rw t refl) in
    let len : length_at heap at ≡ hob_len hob = here.length_is ∙ long in
    record {
      place = made at (sym here.kind_is) (sym len);
      fault = no_fault heap at (found.0, at + length_at heap at) (omega (arith, inside)) found.1 first;
      goes_on = λ end. is.not_end (sym here.kind_is ∙ end);
      length_is = len;
      body_is = here.body_is;
    }

-- all of them, one behind another
record AreRead (s : StoreState) (heap : List ℕ) (at : ℕ) (hobs : List HobEntry) : Type 0 where
  leads : Leads heap at (places_from at hobs) (at + sum_by hob_len hobs)
  bodies : HaveBodies s heap at hobs

walk : (s : StoreState) (heap tail : List ℕ) (hobs : List HobEntry) (at : ℕ) → ReadsWhatItSpells → 0 < at → drop at heap ≡ spelled (body_bytes s) at hobs ++ tail
    → AreSpelled (body_bytes s) hobs → Each (IsHobEntry s.board s.taken) hobs → AreRead s heap at hobs
walk s heap tail [] at law later e spelt are = record { leads = omega arith; bodies = tt }
walk s heap tail (hob ∷ hobs) at law later e spelt are =
    let header = header_bytes hob.kind (hob_len hob) in
    let body = body_bytes s (at + 8) hob.body in
    let others = spelled (body_bytes s) (at + hob_len hob) hobs in
    let size : length body ≡ body_len hob.body = spelt.0 (at + 8) in
    let here : drop at heap ≡ header ++ (body ++ (others ++ tail)) = e ∙ append_assoc (header ++ body) others tail ∙ append_assoc header body (others ++ tail) in
    let one = hob_is_read s heap (others ++ tail) at hob law later size are.0 here in
    let eight : length header ≡ 8 = refl in
    let front : length (header ++ body) ≡ hob_len hob = length-append header body ∙ omega (arith, eight, size) in
    let behind : drop (at + hob_len hob) heap ≡ others ++ tail =
    sym (drop-drop (hob_len hob) at heap) ∙ ap (drop (hob_len hob)) (here ∙ sym (append_assoc header body (others ++ tail))) ∙ drop_at (header ++ body) (others ++ tail) (hob_len hob) front in
    let rest = walk s heap tail hobs (at + hob_len hob) law (omega (arith, later)) behind spelt.1 are.1 in
    let c : sum_by hob_len (hob ∷ hobs) ≡ hob_len hob + sum_by hob_len hobs = sum_by-cons hob_len hob hobs in
    let to : at + hob_len hob + sum_by hob_len hobs ≡ at + sum_by hob_len (hob ∷ hobs) = omega (arith, c) in
    let from : at + hob_len hob ≡ at + length_at heap at = ap (λ n. at + n) (sym one.length_is) in
    record {
      leads = (
        one.place,
        one.fault,
        one.goes_on,
        subst (λ n. Leads heap n (places_from (at + hob_len hob) hobs) (at + sum_by hob_len (hob ∷ hobs))) from
            (subst (Leads heap (at + hob_len hob) (places_from (at + hob_len hob) hobs)) to rest.leads),
      );
      bodies = (one.body_is, rest.bodies);
    }

-- the hand-off HOB at the front
handoff_form : (s : StoreState) → is_some (hob_of HANDOFF (handoff_body s)) ≡ true
handoff_form s = refl

split : (header body hobs end zeros : List ℕ) → header ++ body ++ hobs ++ end ++ zeros ≡ header ++ (body ++ (hobs ++ (end ++ zeros)))
split header body hobs end zeros =
    append_assoc (header ++ body ++ hobs) end zeros ∙ append_assoc (header ++ body) hobs (end ++ zeros) ∙ append_assoc header body (hobs ++ (end ++ zeros))

front_of : (s : StoreState) → ReadsWhatItSpells → StandsAt (heap_image s) 0 HANDOFF (handoff_body s)
front_of s law =
    let zeros : List ℕ = replicate (s.len - length (hob_list s)) 0 in
    let hobs = hobs_bytes s 56 s.hobs in
    stands (heap_image s) (handoff_body s) (hobs ++ (header_bytes END 8 ++ zeros)) 0 HANDOFF law (split (header_bytes HANDOFF 56) (handoff_body s) hobs (header_bytes END 8) zeros) (omega arith) (omega arith)

-- the HOBs behind it, and the end HOB behind them
behind_front : (s : StoreState) → drop 56 (heap_image s) ≡ spelled (body_bytes s) 56 s.hobs ++ (header_bytes END 8 ++ (let zeros : List ℕ = replicate (s.len - length (hob_list s)) 0 in zeros))
behind_front s =
    let zeros : List ℕ = replicate (s.len - length (hob_list s)) 0 in
    let hobs = hobs_bytes s 56 s.hobs in
    let whole : heap_image s ≡ front_bytes s ++ (hobs ++ (header_bytes END 8 ++ zeros)) = append_assoc (front_bytes s ++ hobs) (header_bytes END 8) zeros ∙ append_assoc (front_bytes s) hobs (header_bytes END 8 ++ zeros) in
    ap (drop 56) whole ∙ drop_at (front_bytes s) (hobs ++ (header_bytes END 8 ++ zeros)) 56 refl ∙ ap (λ x. x ++ (header_bytes END 8 ++ zeros)) (is_spelled s 56 s.hobs)

end_of : (s : StoreState) → ReadsWhatItSpells → IsStoreState s → StandsAt (heap_image s) (end_place s) END []
end_of s law h =
    let zeros : List ℕ = replicate (s.len - length (hob_list s)) 0 in
    let hobs = spelled (body_bytes s) 56 s.hobs in
    let size : 56 + length (hobs_bytes s 56 s.hobs) ≡ end_place s = bodies_len s (bodies_are_spelled s h) in
    let same : length (hobs_bytes s 56 s.hobs) ≡ length hobs = ap length (is_spelled s 56 s.hobs) in
    let place : 56 + length hobs ≡ end_place s = omega (arith, size, same) in
    let behind : drop (end_place s) (heap_image s) ≡ header_bytes END 8 ++ zeros =
    ap (λ n. drop n (heap_image s)) (sym place) ∙ sym (drop-drop (length hobs) 56 (heap_image s)) ∙ ap (drop (length hobs)) (behind_front s) ∙ drop_at hobs (header_bytes END 8 ++ zeros) (length hobs) refl in
    stands (heap_image s) [] zeros (end_place s) END law behind (omega arith) (omega arith)

pub walks_give_hobs : ReadsWhatItSpells → ((bytes : List ℕ) (a b : List HobPlace) → AreHobs bytes a → AreHobs bytes b → a ≡ b) → WalksGiveHobs
walks_give_hobs law one s h =
    let heap = heap_image s in
    let zeros : List ℕ = replicate (s.len - length (hob_list s)) 0 in
    let front = front_of s law in
    let first = read_at heap 0 HANDOFF (handoff_body s) front refl (handoff_form s) in
    let long = front.inside in
    let begins : fault_at heap 0 ≡ None = no_fault heap 0 (first.0, 0 + length_at heap 0) (omega (arith, long)) first.1 (ap (λ k. (0 == 0) && not (k == HANDOFF)) front.kind_is) in
    let not_end : kind_at heap 0 ≢ END = λ e. let k = front.kind_is in absurd (omega (arith, e, k)) in
    let all = walk s heap (header_bytes END 8 ++ zeros) s.hobs 56 law (omega arith) (behind_front s) (bodies_are_spelled s h) h.hobs in
    let end = end_of s law h in
    let last = read_at heap (end_place s) END [] end refl refl in
    let inside = end.inside in
    let later : (end_place s == 0) ≡ false = other_is (end_place s) 0 (λ e. absurd (omega (arith, e))) in
    let sound : fault_at heap (end_place s) ≡ None =
    no_fault heap (end_place s) (last.0, end_place s + length_at heap (end_place s)) (omega (arith, inside)) last.1 (ap (λ b. b && not (kind_at heap (end_place s) == HANDOFF)) later) in
    let next : 56 ≡ 0 + length_at heap 0 = (let l = front.length_is in omega (arith, l)) in
    let walked : Leads heap 0 (hob_places s) (end_place s) =
    (made 0 (sym front.kind_is) (sym front.length_is), begins, not_end, subst (λ n. Leads heap n (places_from 56 s.hobs) (end_place s)) next all.leads) in
    record {
      walked = walked;
      sound = sound;
      ends = end.kind_is;
      only = λ places are. one heap places (hob_places s) are (end_place s, walked, sound, end.kind_is);
      handoff = front.body_is;
      bodies = all.bodies;
    }
