-- The chains of the modules that may install a GUID, as modules are put in front.
use Rattle.std.proofs.Common.{◌≡◌, ℕ, suc, ◌+◌, ◌<◌, ◌==◌, Bool, true, false, cond, ◌||◌, List, [], ◌∷◌, ◌++◌, length, Option, Some, None, refl, sym, ap, subst, ◌∙◌, arith, slice_get}
use Rattle.std.specs.{List.list_any, Map.lookup}
use Rattle.std.proofs.{lemmas.Bool.Decides.nat_tests, lemmas.Cmp.nat_list_eq_equiv, lemmas.List.Folds.list_any-append, Math.Bool.or-false}
use Rattle.pi_base.specs.{declared.guid.Guid.Guid, declared.phase.Phase.Phase, Guids.same_guid, GuidMap.IsPut, GuidMap.value_of}
use Rattle.mod_catalog.specs.{declared.catalogue.Module.Module, declared.catalogue.Part.Part, Parts.part_of}
use Rattle.explain_text.specs.{Gives.given_in, declared.givers.Givers.Givers, declared.givers.Link.Link}
use Rattle.explain_text.specs.Givers.{AddsName, AddsNames, AreGivers, AreKept, Chain, givers_from, has_number, in_front, is_first, link_at, part_gives}

-- two GUIDs that are the same have one value
same_value : {V : Type 0} (map : List (Guid × V)) (a b : Guid) → same_guid a b ≡ true → value_of map a ≡ value_of map b
same_value map a b e = λ j. lookup (λ x. nat_list_eq_equiv.congr a.0 b.0 x.0 e j) map

turned : (a b : Guid) → same_guid a b ≡ same_guid b a
turned a b = nat_list_eq_equiv.symm a.0 b.0

-- a link more behind the links
get_more : (links : List Link) (link : Link) (place : ℕ) (found : Link) → slice_get links place ≡ Some found → slice_get (links ++ link ∷ []) place ≡ Some found
get_more [] link place found e = absurd cc
get_more (first ∷ links) link ℕ.zero found e = e
get_more (first ∷ links) link (suc place) found e = get_more links link place found e

get_last : (links : List Link) (link : Link) → slice_get (links ++ link ∷ []) (length links) ≡ Some link
get_last [] link = refl
get_last (first ∷ links) link = get_last links link

link_more : (links : List Link) (link : Link) (place : Option ℕ) (found : Link) → link_at links place ≡ Some found → link_at (links ++ link ∷ []) place ≡ Some found
link_more links link None found e = absurd cc
link_more links link (Some place) found e = get_more links link place found e

chain_more : (links : List Link) (link : Link) (place : Option ℕ) (numbers : List ℕ) → Chain links place numbers → Chain (links ++ link ∷ []) place numbers
chain_more links link place [] chain = chain
chain_more links link place (number ∷ numbers) chain =
    (chain.0, link_more links link place chain.0 chain.1, chain.2, chain_more links link chain.0.next numbers chain.3)

-- the module is the first already
first_again : (links : List Link) (place : Option ℕ) (number : ℕ) (numbers : List ℕ) → Chain links place numbers → is_first links place number ≡ true → numbers ≡ in_front number numbers
first_again links place number [] chain e =
    let none : is_first links None number ≡ true = ap (λ p. is_first links p number) (sym chain) ∙ e in absurd cc
first_again links place number (first ∷ rest) chain e =
    let here : (chain.0.number == number) ≡ true = ap (λ found. has_number found number) (sym chain.1) ∙ e in
    let is : (first == number) ≡ true = ap (λ n. n == number) (sym chain.2) ∙ here in
    ap (λ b. cond b (first ∷ rest) (number ∷ first ∷ rest)) (sym is)

-- it is not
not_first : (links : List Link) (place : Option ℕ) (number : ℕ) (numbers : List ℕ) → Chain links place numbers → is_first links place number ≡ false → in_front number numbers ≡ number ∷ numbers
not_first links place number [] chain e = refl
not_first links place number (first ∷ rest) chain e =
    let here : (chain.0.number == number) ≡ false = ap (λ found. has_number found number) (sym chain.1) ∙ e in
    let is : (first == number) ≡ false = ap (λ n. n == number) (sym chain.2) ∙ here in
    ap (λ b. cond b (first ∷ rest) (number ∷ first ∷ rest)) is

-- a module that is the first for a GUID
pub name_again : (number : ℕ) (guid : Guid) (givers : Givers) → is_first givers.links (value_of givers.first guid) number ≡ true → AddsName number guid givers givers
name_again number guid givers e other numbers kept = by (same_guid other guid) refl
  where
    by : (s : Bool) → same_guid other guid ≡ s → AreKept givers other (cond s (in_front number numbers) numbers)
    by false s = kept
    by true s =
        let here : is_first givers.links (value_of givers.first other) number ≡ true = ap (λ place. is_first givers.links place number) (same_value givers.first other guid s) ∙ e in
        subst (AreKept givers other) (first_again givers.links (value_of givers.first other) number numbers kept here) kept

-- a module that is put in front for a GUID
pub name_added : (number : ℕ) (guid : Guid) (old new : Givers) → is_first old.links (value_of old.first guid) number ≡ false
    → IsPut old.first guid (length old.links) new.first → new.links ≡ old.links ++ record { number = number; next = value_of old.first guid } ∷ [] → AddsName number guid old new
name_added number guid old new e put grown other numbers kept = by (same_guid guid other) refl
  where
    link : Link
    link = record { number = number; next = value_of old.first guid }

    by : (s : Bool) → same_guid guid other ≡ s → AreKept new other (cond (same_guid other guid) (in_front number numbers) numbers)
    by false s =
        let place : value_of new.first other ≡ value_of old.first other = put other ∙ ap (λ b. cond b (Some (length old.links)) (value_of old.first other)) s in
        let P : Option ℕ → Type 0 = λ p. Chain (old.links ++ record { number = number; next = value_of old.first guid } ∷ []) p numbers in
        let Q : List Link → Type 0 = λ links. Chain links (value_of new.first other) numbers in
        let here : AreKept new other numbers = subst Q (sym grown) (subst P (sym place) (chain_more old.links (record { number = number; next = value_of old.first guid }) (value_of old.first other) numbers kept)) in
        subst (λ b. AreKept new other (cond b (in_front number numbers) numbers)) (sym (turned other guid ∙ s)) here
    by true s =
        let place : value_of new.first other ≡ Some (length old.links) = put other ∙ ap (λ b. cond b (Some (length old.links)) (value_of old.first other)) s in
        let next : value_of old.first other ≡ value_of old.first guid = sym (same_value old.first guid other s) in
        let later : Chain old.links (value_of old.first guid) numbers = subst (λ p. Chain old.links p numbers) next kept in
        let more : Chain (old.links ++ record { number = number; next = value_of old.first guid } ∷ []) (Some (length old.links)) (number ∷ numbers) = (
          record { number = number; next = value_of old.first guid },
          get_last old.links (record { number = number; next = value_of old.first guid }),
          refl,
          chain_more old.links (record { number = number; next = value_of old.first guid }) (value_of old.first guid) numbers later,
        ) in
        let P : Option ℕ → Type 0 = λ p. Chain (old.links ++ record { number = number; next = value_of old.first guid } ∷ []) p (number ∷ numbers) in
        let Q : List Link → Type 0 = λ links. Chain links (value_of new.first other) (number ∷ numbers) in
        let here : AreKept new other (number ∷ numbers) = subst Q (sym grown) (subst P (sym place) more) in
        let front : AreKept new other (in_front number numbers) = subst (AreKept new other) (sym (not_first old.links (value_of old.first guid) number numbers later e)) here in
        subst (λ b. AreKept new other (cond b (in_front number numbers) numbers)) (sym (turned other guid ∙ s)) front

-- the same, by what was found and where the link is put
pub name_put : (number : ℕ) (guid : Guid) (old new : Givers) (links : List Link) (next : Option ℕ) (place : ℕ) → links ≡ old.links → next ≡ value_of old.first guid → place ≡ length old.links
    → is_first links next number ≡ false → IsPut old.first guid place new.first → new.links ≡ old.links ++ record { number = number; next = next } ∷ [] → AddsName number guid old new
name_put number guid old new links next place same found at e put grown =
    let first : is_first old.links (value_of old.first guid) number ≡ false = sym (ap (λ list. is_first list next number) same ∙ ap (λ n. is_first old.links n number) found) ∙ e in
    let link : Option ℕ → Link = λ n. record { number = number; next = n } in
    name_added number guid old new first (subst (λ n. IsPut old.first guid n new.first) at put) (grown ∙ ap (λ n. old.links ++ link n ∷ []) found)

-- no GUID, and one more
pub no_names : (number : ℕ) (givers : Givers) → AddsNames number [] givers givers
no_names number givers other numbers kept = kept

equal_self : (n : ℕ) → (n == n) ≡ true
equal_self n = grind (arith, nat_tests)

twice : (number : ℕ) (numbers : List ℕ) → in_front number (in_front number numbers) ≡ in_front number numbers
twice number [] = ap (λ b. cond b (number ∷ []) (number ∷ number ∷ [])) (equal_self number)
twice number (first ∷ rest) = by (first == number) refl
  where
    by : (b : Bool) → (first == number) ≡ b → in_front number (cond b (first ∷ rest) (number ∷ first ∷ rest)) ≡ cond b (first ∷ rest) (number ∷ first ∷ rest)
    by true e = ap (λ b. cond b (first ∷ rest) (number ∷ first ∷ rest)) e
    by false e = ap (λ b. cond b (number ∷ first ∷ rest) (number ∷ number ∷ first ∷ rest)) (equal_self number)

pub names_more : (number : ℕ) (guids : List Guid) (guid : Guid) (old mid new : Givers) → AddsNames number guids old mid → AddsName number guid mid new → AddsNames number (guids ++ guid ∷ []) old new
names_more number guids guid old mid new before adds other numbers kept =
    subst (AreKept new other) (by (list_any (same_guid other) guids) (same_guid other guid) ∙ ap (λ b. cond b (in_front number numbers) numbers) (sym (any_more (same_guid other) guids)))
    (adds other (cond (list_any (same_guid other) guids) (in_front number numbers) numbers) (before other numbers kept))
  where
    any_more : (test : Guid → Bool) (xs : List Guid) → list_any test (xs ++ guid ∷ []) ≡ list_any test xs || test guid
    any_more test xs = list_any-append test xs (guid ∷ []) ∙ ap (λ b. list_any test xs || b) (or-false (test guid))

    by : (a s : Bool) → cond s (in_front number (cond a (in_front number numbers) numbers)) (cond a (in_front number numbers) numbers) ≡ cond (a || s) (in_front number numbers) numbers
    by true true = twice number numbers
    by true false = refl
    by false true = refl
    by false false = refl

-- the modules behind one have greater numbers
in_front_of : (number from : ℕ) (phase : Phase) (guid : Guid) (modules : List Module) → number < from → in_front number (givers_from phase guid from modules) ≡ number ∷ givers_from phase guid from modules
in_front_of number from phase guid [] less = refl
in_front_of number from phase guid (m ∷ ms) less = by (part_gives guid (part_of phase m)) (in_front_of number (from + 1) phase guid ms (omega (arith, less)))
  where
    by : (b : Bool) → in_front number (givers_from phase guid (from + 1) ms) ≡ number ∷ givers_from phase guid (from + 1) ms
        → in_front number (cond b (from ∷ []) [] ++ givers_from phase guid (from + 1) ms) ≡ number ∷ (cond b (from ∷ []) [] ++ givers_from phase guid (from + 1) ms)
    by false rest = rest
    by true rest =
        let differ : (from == number) ≡ false = grind (arith, nat_tests) in
        ap (λ b. cond b (from ∷ givers_from phase guid (from + 1) ms) (number ∷ from ∷ givers_from phase guid (from + 1) ms)) differ

-- a module without a part, and one with a part
pub module_without : (phase : Phase) (number : ℕ) (m : Module) (givers : Givers) → part_of phase m ≡ None → (behind : List Module) → AreGivers phase (number + 1) behind givers → AreGivers phase number (m ∷ behind) givers
module_without phase number m givers none behind are guid =
    subst (AreKept givers guid) (sym (ap (λ (part : Option Part). cond (part_gives guid part) (number ∷ []) [] ++ givers_from phase guid (number + 1) behind) none)) (are guid)

pub module_with : (phase : Phase) (number : ℕ) (m : Module) (part : Part) (old new : Givers) → part_of phase m ≡ Some part → AddsNames number (given_in part.script) old new
    → (behind : List Module) → AreGivers phase (number + 1) behind old → AreGivers phase number (m ∷ behind) new
module_with phase number m part old new some adds behind are guid =
    subst (AreKept new guid) (by (list_any (same_guid guid) (given_in part.script)) ∙ sym (ap (λ (p : Option Part). cond (part_gives guid p) (number ∷ []) [] ++ later) some))
    (adds guid later (are guid))
  where
    later : List ℕ
    later = givers_from phase guid (number + 1) behind

    by : (b : Bool) → cond b (in_front number (givers_from phase guid (number + 1) behind)) (givers_from phase guid (number + 1) behind) ≡ cond b (number ∷ []) [] ++ givers_from phase guid (number + 1) behind
    by true = in_front_of number (number + 1) phase guid behind (omega arith)
    by false = refl
