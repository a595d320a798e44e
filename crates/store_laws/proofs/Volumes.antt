-- The bases of the volumes that HOBs tell of.
use Rattle.std.proofs.Common.{◌≡◌, ℕ, zero, suc, ◌+◌, ◌-◌, ◌≤◌, ◌<◌, Bool, true, false, cond, List, [], ◌∷◌, ◌++◌, length, take, drop, arith, ap, refl, sym, ◌∙◌, ◌==◌, append_assoc, length-append, length-take, map, filter, replicate, drop_at, drop-drop, take_at, take-append-drop}
use Rattle.std.proofs.{lemmas.Bool.Decides.nat_tests, lemmas.List.take-append-le}
use Rattle.pi_base.proofs.FieldLaws.{little_number-append}
use Rattle.pi_base.specs.{Field.little_number, Field.ReadsWhatItSpells, Lists.Each}
use Rattle.hob_codec.specs.declared.kind.TheConstants.{END, VOLUME}
use Rattle.store_model.specs.{declared.state.Body.Body, declared.state.HobEntry.HobEntry, StateFacts.IsBodyOf, StateFacts.IsHobEntry}
use Rattle.store_model.specs.declared.state.Body.TheVariants.{Bytes, Descriptor, Node, Allocation}
use Rattle.store_model.specs.StoreState.{StoreState, hob_len, body_len}
use Rattle.store_model.specs.HeapImage.{header_bytes, hobs_bytes, hob_list, body_bytes, heap_image}
use Rattle.store_laws.specs.{Spelling.spelled, Spelling.AreSpelled, Growing.front_bytes, Word.short_in, Word.word_in}
use Rattle.store_laws.specs.Volumes.{volumes_told, VolumesAreTold}
use Rattle.store_laws.proofs.{HeapBodies.is_spelled, Facts.bodies_are_spelled, HeapItems.other_is, HeapHobs.header_tells}

-- the first number of a body of bytes stands anywhere
number_of : (bytes : List ℕ) → 8 ≤ length bytes → little_number 8 (take 8 bytes) ≡ little_number 8 bytes
number_of bytes le =
    let size : length (take 8 bytes) ≡ 8 = grind (arith, length-take, le) in
    sym (little_number-append 8 (take 8 bytes) (drop 8 bytes) (omega (arith, size))) ∙ ap (little_number 8) (take-append-drop 8 bytes)

same_number : (s : StoreState) (kind place : ℕ) (body : Body) → kind ≡ VOLUME → IsBodyOf s.board s.taken kind body → body_bytes s place body ≡ body_bytes s 0 body
same_number s kind place (Bytes bytes) e h = refl
same_number s kind place (Descriptor d) e h = let k = h.0 in absurd (omega (arith, e, k))
same_number s kind place Node e h = absurd (omega (arith, e, h))
same_number s kind place (Allocation a) e h = absurd (omega (arith, e, h))

-- what stands at a HOB
header_at : (header body rest : List ℕ) → length header ≡ 8 → take 8 (header ++ body ++ rest) ≡ header
header_at header body rest e = ap (take 8) (append_assoc header body rest) ∙ take_at header (body ++ rest) 8 e

body_at_8 : (header body rest : List ℕ) → length header ≡ 8 → 8 ≤ length body → take 8 (drop 8 (header ++ body ++ rest)) ≡ take 8 body
body_at_8 header body rest e le = ap (λ x. take 8 (drop 8 x)) (append_assoc header body rest) ∙ ap (take 8) (drop_at header (body ++ rest) 8 e) ∙ take-append-le 8 body rest le

rest_at : (header body rest : List ℕ) (n : ℕ) → length header ≡ 8 → 8 + length body ≡ n → drop n (header ++ body ++ rest) ≡ rest
rest_at header body rest n e b = drop_at (header ++ body) rest n (length-append header body ∙ omega (arith, e, b))

volumes_on : (kind number : ℕ) (here : Bool) (xs ys : List ℕ) → xs ≡ ys → cond here (number ∷ xs) xs ≡ cond here (number ∷ ys) ys
volumes_on kind number true xs ys e = ap (λ x. number ∷ x) e
volumes_on kind number false xs ys e = e

mapped_on : (s : StoreState) (hob : HobEntry) (b : Bool) (hobs : List HobEntry)
    → map (λ (x : HobEntry). little_number 8 (body_bytes s 0 x.body)) (cond b (hob ∷ hobs) hobs) ≡ cond b (little_number 8 (body_bytes s 0 hob.body) ∷ map (λ (x : HobEntry). little_number 8 (body_bytes s 0 x.body)) hobs) (map (λ (x : HobEntry). little_number 8 (body_bytes s 0 x.body)) hobs)
mapped_on s hob true hobs = refl
mapped_on s hob false hobs = refl

numbers_agree : (a b : ℕ) (t : Bool) (xs : List ℕ) → (t ≡ true → a ≡ b) → cond t (a ∷ xs) xs ≡ cond t (b ∷ xs) xs
numbers_agree a b true xs f = ap (λ n. n ∷ xs) (f refl)
numbers_agree a b false xs f = refl

abbrev bases_of : StoreState → List HobEntry → List ℕ
bases_of s hobs = map (λ (x : HobEntry). little_number 8 (body_bytes s 0 x.body)) (filter (λ (x : HobEntry). x.kind == VOLUME) hobs)

walk : (s : StoreState) (heap tail : List ℕ) (hobs : List HobEntry) (fuel at : ℕ) → ReadsWhatItSpells → take 8 tail ≡ header_bytes END 8 → drop at heap ≡ spelled (body_bytes s) at hobs ++ tail
    → AreSpelled (body_bytes s) hobs → Each (IsHobEntry s.board s.taken) hobs → length hobs < fuel → bases_of s hobs ≡ volumes_told fuel heap at
walk s heap tail hobs zero at law end e spelt fits le = absurd (omega (arith, le))
walk s heap tail [] (suc fuel) at law end e spelt fits le =
    let both = header_tells heap at END 8 law (ap (take 8) e ∙ end) (omega arith) (omega arith) in
    let t : (short_in heap at == END) ≡ true = ap (λ n. n == END) both.0 in rw t refl
walk s heap tail (hob ∷ hobs) (suc fuel) at law end e spelt fits le =
    let header = header_bytes hob.kind (hob_len hob) in
    let body = body_bytes s (at + 8) hob.body in
    let rest = spelled (body_bytes s) (at + hob_len hob) hobs ++ tail in
    let size : length body ≡ body_len hob.body = spelt.0 (at + 8) in
    let whole : drop at heap ≡ header ++ body ++ rest = e ∙ append_assoc (header ++ body) (spelled (body_bytes s) (at + hob_len hob) hobs) tail in
    let both = header_tells heap at hob.kind (hob_len hob) law (ap (take 8) whole ∙ header_at header body rest refl) fits.0.kind (let most = fits.0.len in omega (arith, most)) in
    let other : (short_in heap at == END) ≡ false = ap (λ n. n == END) both.0 ∙ other_is hob.kind END fits.0.not_end in
    let behind : drop (at + hob_len hob) heap ≡ rest = sym (drop-drop (hob_len hob) at heap) ∙ ap (drop (hob_len hob)) whole ∙ rest_at header body rest (hob_len hob) refl (omega (arith, size)) in
    let later : bases_of s hobs ≡ volumes_told fuel heap (at + hob_len hob) = walk s heap tail hobs fuel (at + hob_len hob) law end behind spelt.1 fits.1 (omega (arith, le)) in
    let number : (hob.kind == VOLUME) ≡ true → little_number 8 (body_bytes s 0 hob.body) ≡ word_in heap (at + 8) = λ t.
    let kind : hob.kind ≡ VOLUME = grind (arith, nat_tests, t) in
    let sixteen = fits.0.typed.volume kind in
    let long : 8 ≤ length body = omega (arith, size, sixteen) in
    let text : take 8 (drop (at + 8) heap) ≡ take 8 body = ap (take 8) (sym (drop-drop 8 at heap)) ∙ ap (λ x. take 8 (drop 8 x)) whole ∙ body_at_8 header body rest refl long in
    ap (little_number 8) (sym (same_number s hob.kind (at + 8) hob.body kind fits.0.body)) ∙ sym (number_of body long) ∙ ap (little_number 8) (sym text) in
    let next : at + short_in heap (at + 2) ≡ at + hob_len hob = ap (λ n. at + n) both.1 in
    let told : volumes_told (suc fuel) heap at ≡ cond (hob.kind == VOLUME) (word_in heap (at + 8) ∷ volumes_told fuel heap (at + hob_len hob)) (volumes_told fuel heap (at + hob_len hob)) =
    ap (λ b. cond b [] (cond (short_in heap at == VOLUME) (word_in heap (at + 8) ∷ volumes_told fuel heap (at + short_in heap (at + 2))) (volumes_told fuel heap (at + short_in heap (at + 2))))) other
    ∙ ap (λ n. cond (n == VOLUME) (word_in heap (at + 8) ∷ volumes_told fuel heap (at + short_in heap (at + 2))) (volumes_told fuel heap (at + short_in heap (at + 2)))) both.0
    ∙ ap (λ n. cond (hob.kind == VOLUME) (word_in heap (at + 8) ∷ volumes_told fuel heap n) (volumes_told fuel heap n)) next in
    mapped_on s hob (hob.kind == VOLUME) (filter (λ (x : HobEntry). x.kind == VOLUME) hobs)
    ∙ numbers_agree (little_number 8 (body_bytes s 0 hob.body)) (word_in heap (at + 8)) (hob.kind == VOLUME) (bases_of s hobs) number
    ∙ volumes_on hob.kind (word_in heap (at + 8)) (hob.kind == VOLUME) (bases_of s hobs) (volumes_told fuel heap (at + hob_len hob)) later ∙ sym told

behind_front : (front bodies end zeros : List ℕ) → length front ≡ 56 → drop 56 (front ++ bodies ++ end ++ zeros) ≡ bodies ++ (end ++ zeros)
behind_front front bodies end zeros f = ap (drop 56) (append_assoc (front ++ bodies) end zeros ∙ append_assoc front bodies (end ++ zeros)) ∙ drop_at front (bodies ++ (end ++ zeros)) 56 f

pub volumes_are_told : ReadsWhatItSpells → VolumesAreTold
volumes_are_told law s fuel h le =
    let zeros : List ℕ = replicate (s.len - length (hob_list s)) 0 in
    let tail = header_bytes END 8 ++ zeros in
    let whole : drop 56 (heap_image s) ≡ spelled (body_bytes s) 56 s.hobs ++ tail =
    behind_front (front_bytes s) (hobs_bytes s 56 s.hobs) (header_bytes END 8) zeros refl ∙ ap (λ x. x ++ tail) (is_spelled s 56 s.hobs) in
    walk s (heap_image s) tail s.hobs fuel 56 law (take_at (header_bytes END 8) zeros 8 refl) whole (bodies_are_spelled s h) h.hobs le
