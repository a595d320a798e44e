-- The name of a `volume` line is a name.
use Rattle.std.proofs.Common.{◌≡◌, ℕ, ◌≤◌, Bool, true, false, cond, ◌&&◌, not, eqb, ltb, leb, List, [], ◌∷◌, length, Option, Some, None, refl, subst, arith, filter}
use Rattle.std.specs.List.{slice_split, onto_first, list_all, AllByRecursion}
use Rattle.std.proofs.{lemmas.List.Elements.All-from_recursion, lemmas.Bool.Decides.nat_tests}
use Rattle.boot_plan.specs.Entry.{Entry, Temp, Ram, Volume, Fuel, Pages}
use Rattle.line_words.specs.Words.{words, is_plain, has_outer_space}
use Rattle.boot_plan.specs.{Form.form_of, Form.form_of_words, Range.IsName, declared.limits.TheConstants.MOST_NAME}
use Rattle.line_words.proofs.LineLemmas.{is_byte}

abbrev visible : ℕ → Type 0
visible byte = (0x21 ≤ byte) × (byte ≤ 0x7e)

abbrev pub printable : ℕ → Bool
printable byte = leb 0x20 byte && leb byte 0x7e

abbrev IsVisible : List ℕ → Type 0
IsVisible part = AllByRecursion visible part

abbrev IsWord : List ℕ → Type 0
IsWord word = IsVisible word × (1 ≤ length word)

onto : (x : ℕ) (parts : List (List ℕ)) → visible x → AllByRecursion IsVisible parts → AllByRecursion IsVisible (onto_first x parts)
onto x [] v h = ((v, tt), tt)
onto x (part ∷ parts) v h = ((v, h.0), h.1)

printable_is : (x : ℕ) → printable x ≡ true → eqb x 32 ≡ false → visible x
printable_is x p n = (grind (arith, nat_tests), grind (arith, nat_tests))

both_true : (a b : Bool) → (a && b) ≡ true → (a ≡ true) × (b ≡ true)
both_true true true h = (refl, refl)
both_true true false h = (refl, h)
both_true false b h = (h, absurd cc)

-- the parts between spaces are visible
parts_visible : (line : List ℕ) → list_all printable line ≡ true → AllByRecursion IsVisible (slice_split (is_byte 32) line)
parts_visible [] h = (tt, tt)
parts_visible (x ∷ line) h =
    let p = both_true (printable x) (list_all printable line) h in
    let rest = parts_visible line p.1 in
    let cases : (b : Bool) → eqb x 32 ≡ b → AllByRecursion IsVisible (cond b ([] ∷ slice_split (is_byte 32) line) (onto_first x (slice_split (is_byte 32) line))) =
    λ b. elim b as (λ b. eqb x 32 ≡ b → AllByRecursion IsVisible (cond b ([] ∷ slice_split (is_byte 32) line) (onto_first x (slice_split (is_byte 32) line)))) [
      | true ↦ λ e. (tt, rest)
      | false ↦ λ e. onto x (slice_split (is_byte 32) line) (printable_is x p.0 e) rest
    ] in
    cases (eqb x 32) refl

some_part : (part : List ℕ) → ltb 0 (length part) ≡ true → 1 ≤ length part
some_part part h = grind (arith, nat_tests)

-- and those that are not empty are words
words_are : (parts : List (List ℕ)) → AllByRecursion IsVisible parts → AllByRecursion IsWord (filter (λ part. ltb 0 (length part)) parts)
words_are [] h = tt
words_are (part ∷ parts) h =
    let rest = words_are parts h.1 in
    let kept = filter (λ part. ltb 0 (length part)) parts in
    let cases : (b : Bool) → ltb 0 (length part) ≡ b → AllByRecursion IsWord (cond b (part ∷ kept) kept) =
    λ b. elim b as (λ b. ltb 0 (length part) ≡ b → AllByRecursion IsWord (cond b (part ∷ kept) kept)) [
      | true ↦ λ e. ((h.0, some_part part e), rest)
      | false ↦ λ e. rest
    ] in
    cases (ltb 0 (length part)) refl

-- where it is a volume's, the entry has a name
abbrev pub IsNamed : {N : Type 0} → Entry N → Type 0
IsNamed (Volume base name) = IsName name
IsNamed _ = Unit {0}

abbrev of : Entry (List ℕ) → Option (Entry (List ℕ))
of form = Some form

long_by : (a b c d : Bool) (base last : List ℕ) (form : Entry (List ℕ)) → of form ≡ cond a (Some (Temp base last)) (cond b (Some (Ram base last)) (cond (c && d) (Some (Volume base last)) None))
    → (d ≡ true → IsName last) → IsNamed form
long_by true b c d base last form e name = let s : Temp base last ≡ form = cc in subst (λ (f : Entry (List ℕ)). IsNamed f) s tt
long_by false true c d base last form e name = let s : Ram base last ≡ form = cc in subst (λ (f : Entry (List ℕ)). IsNamed f) s tt
long_by false false true true base last form e name = let s : Volume base last ≡ form = cc in subst (λ (f : Entry (List ℕ)). IsNamed f) s (name refl)
long_by false false true false base last form e name = absurd cc
long_by false false false d base last form e name = absurd cc

short_by : (a b : Bool) (number : List ℕ) (form : Entry (List ℕ)) → of form ≡ cond a (Some (Fuel number)) (cond b (Some (Pages number)) None) → IsNamed form
short_by true b number form e = let s : Fuel number ≡ form = cc in subst (λ (f : Entry (List ℕ)). IsNamed f) s tt
short_by false true number form e = let s : Pages number ≡ form = cc in subst (λ (f : Entry (List ℕ)). IsNamed f) s tt
short_by false false number form e = absurd cc

name_is : (word : List ℕ) → IsWord word → leb (length word) MOST_NAME ≡ true → IsName word
name_is word h short = record { some = h.1; short = grind (arith, nat_tests); visible = All-from_recursion visible word h.0 }

of_words : (words : List (List ℕ)) (form : Entry (List ℕ)) → AllByRecursion IsWord words → of form ≡ form_of_words words → IsNamed form
of_words [] form h e = absurd cc
of_words (k ∷ []) form h e = absurd cc
of_words (k ∷ number ∷ []) form h e = short_by _ _ number form e
of_words (k ∷ base ∷ last ∷ []) form h e = long_by _ _ _ (leb (length last) MOST_NAME) base last form e (λ short. name_is last h.1.1.0 short)
of_words (k ∷ base ∷ last ∷ more ∷ words) form h e = absurd cc

pub form_named : (line : List ℕ) (form : Entry (List ℕ)) → of form ≡ form_of line → IsNamed form
form_named line form e =
    let cases : (b : Bool) → is_plain line ≡ b → of form ≡ cond b (form_of_words (words line)) None → IsNamed form =
    λ b. elim b as (λ b. is_plain line ≡ b → of form ≡ cond b (form_of_words (words line)) None → IsNamed form) [
      | true ↦ λ plain e. of_words (words line) form (words_are (slice_split (is_byte 32) line) (parts_visible line (both_true (list_all printable line) (not (has_outer_space line)) plain).0)) e
      | false ↦ λ plain e. absurd cc
    ] in
    cases (is_plain line) refl e
