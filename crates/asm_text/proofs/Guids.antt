-- The text of a GUID, as a word and at the front of a text.
use Rattle.std.proofs.Common.{◌≡◌, ◌<◌, ◌&&◌, ℕ, zero, suc, Bool, true, false, eqb, List, [], ◌∷◌, ◌++◌, length, take, drop, get_or, Option, Some, None, option_map, refl, sym, ap, subst, ◌∙◌, arith, bytes_eq, if◌then◌else◌, option_and_then, nat_lt, eqb-true, take_at, drop_at, take-append-drop, length-append}
use Rattle.std.specs.List.{list_all}
use Rattle.std.proofs.{lemmas.Bool.and_parts, lemmas.Bool.and_from, lemmas.Bool.Decides.nat_tests, lemmas.Option.same_Some}
use Rattle.std.proofs.{lemmas.List.get_or_append_left, lemmas.List.Sums.AllPass-from_list_all}
use Rattle.hex.specs.Hex.{IsBytes}
use Rattle.pi_base.specs.{declared.guid.Guid.Guid, GuidText.guid_of_text, WordText.guid_text}
use Rattle.asm_text.specs.Front.{is_guid, spelled_so, guid_word, guid_front}
use Rattle.line_words.specs.PrintedWords.{Finds, IsGuid}
use Rattle.line_words.proofs.Comparisons.{same}
use Rattle.line_words.proofs.GuidWords.{is_guid_char, guid_chars, guid_long, guid_back}
use Rattle.asm_text.proofs.Stacks.{bind_some}
use Rattle.asm_text.proofs.Fronts.{passed, none_of, itself}

-- a text that a GUID's text begins has such characters in its first 36 places
pub guid_at_front : (guid : Guid) (rest text : List ℕ) (k : ℕ) → k < 36 → guid_text guid ++ rest ≡ text → is_guid_char (get_or text k 0) ≡ true
guid_at_front guid rest text k below is =
    let inside : k < length (guid_text guid) = omega (arith, guid_long guid) in
    let here : get_or text k 0 ≡ get_or (guid_text guid) k 0 = ap (λ t. get_or t k 0) (sym is) ∙ get_or_append_left (guid_text guid) rest 0 k inside in
    rw here (AllPass-from_list_all is_guid_char (guid_text guid) (guid_chars guid) k 0 inside)

pub bytes_from : (xs : List ℕ) → list_all (λ byte. nat_lt byte 256) xs ≡ true → IsBytes xs
bytes_from [] all i = omega arith
bytes_from (x ∷ xs) all zero = let here : nat_lt x 256 ≡ true = (and_parts _ _ all).0 in grind (arith, nat_tests)
bytes_from (x ∷ xs) all (suc i) = bytes_from xs (and_parts _ _ all).1 i

pub bytes_to : (xs : List ℕ) → IsBytes xs → list_all (λ byte. nat_lt byte 256) xs ≡ true
bytes_to [] all = refl
bytes_to (x ∷ xs) all = let here : x < 256 = all 0 in and_from _ _ (grind (arith, nat_tests)) (bytes_to xs (λ i. all (suc i)))

guid_tested : (guid : Guid) → IsGuid guid → is_guid guid.0 ≡ true
guid_tested guid is = let long : eqb (length guid.0) 16 ≡ true = rw is.0 refl in and_from _ _ long (bytes_to guid.0 is.1)

pub guid_word_there : (guid : Guid) → IsGuid guid → guid_word (guid_text guid) ≡ Some guid
unfolding guid_word
guid_word_there guid is =
    ap (option_and_then (spelled_so (guid_text guid))) (guid_back (guid_text guid) guid is refl) ∙ rw (guid_tested guid is, itself (guid_text guid)) refl

pub guid_word_is : (word : List ℕ) (guid : Guid) → guid_word word ≡ Some guid → IsGuid guid × (word ≡ guid_text guid)
unfolding guid_word
guid_word_is word guid e =
    let b = bind_some (guid_of_text word) (spelled_so word) guid e in
    let made : Guid = record { 0 = b.0 } in
    let p = passed (is_guid b.0 && bytes_eq (guid_text made) word) made guid b.2 in
    let tests = and_parts (is_guid b.0) (bytes_eq (guid_text made) word) p.0 in
    let parts = and_parts (eqb (length b.0) 16) (list_all (λ byte. nat_lt byte 256) b.0) tests.0 in
    subst (λ (g : Guid). IsGuid g × (word ≡ guid_text g)) p.1 ((eqb-true (length b.0) 16 parts.0, bytes_from b.0 parts.1), sym ((same (guid_text made) word).0 tests.1))

-- the GUID of a word is what reading gives
pub guid_found : (word : List ℕ) (r : Option Guid) → Finds (λ guid. IsGuid guid × (word ≡ guid_text guid)) r → r ≡ guid_word word
guid_found word (Some guid) found = sym (ap guid_word found.1 ∙ guid_word_there guid found.0)
guid_found word None none = sym (none_of (guid_word word) (λ guid e. none guid (guid_word_is word guid e)))

past : {A : Type 0} (test : Bool) (o : Option A) (y : A) → (if test then None else o) ≡ Some y → o ≡ Some y
past true o y e = absurd cc
past false o y e = e

pub mapped : {A B : Type 0} (f : A → B) (o : Option A) (y : B) → option_map f o ≡ Some y → (x : A) × (o ≡ Some x) × (f x ≡ y)
mapped f None y e = absurd cc
mapped f (Some x) y e = (x, refl, same_Some (f x) y e)

pub guid_front_is : (text : List ℕ) (x : Guid × List ℕ) → guid_front text ≡ Some x → IsGuid x.0 × (text ≡ guid_text x.0 ++ x.1)
unfolding guid_front
guid_front_is text x e =
    let m = mapped (λ guid. (guid, drop 36 text)) (guid_word (take 36 text)) x (past (nat_lt (length text) 36) _ x e) in
    let w = guid_word_is (take 36 text) m.0 m.1 in
    subst (λ (x : Guid × List ℕ). IsGuid x.0 × (text ≡ guid_text x.0 ++ x.1)) m.2 (w.0, sym (take-append-drop 36 text) ∙ ap (λ t. t ++ drop 36 text) w.1)

pub guid_front_there : (guid : Guid) (rest : List ℕ) → IsGuid guid → guid_front (guid_text guid ++ rest) ≡ Some (guid, rest)
unfolding guid_front
guid_front_there guid rest is =
    let long : nat_lt (length (guid_text guid ++ rest)) 36 ≡ false = let n = length-append (guid_text guid) rest in let m = guid_long guid in grind (arith, nat_tests) in
    rw (long, take_at (guid_text guid) rest 36 (guid_long guid), drop_at (guid_text guid) rest 36 (guid_long guid), guid_word_there guid is) refl
