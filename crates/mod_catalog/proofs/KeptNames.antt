-- The names that a list keeps, with one name more.
use Rattle.std.proofs.Common.{◌≡◌, ◌<◌, ◌≤◌, ℕ, zero, suc, ◌+◌, Bool, true, false, cond, not, ◌||◌, List, [], ◌∷◌, ◌++◌, length, map, filter, position, Option, Some, None, is_some, refl, sym, ap, ◌∙◌, subst, arith, length-append, slice_index_or, slice_set, append-nil, get_or-set_same, get_or-set_other}
use Rattle.std.specs.{Map.lookup, List.list_any, List.position_from, Option.option_or}
use Rattle.std.proofs.{lemmas.Cmp.nat_list_eq_equiv, lemmas.List.Elements.filter-append, lemmas.Iterator.Adapters.position_from-zero}
use Rattle.pi_base.specs.{declared.guid.Guid.Guid, Guids.same_guid, Lists.firsts, Lists.numbers, GuidMap.value_of}
use Rattle.fv_volume.specs.declared.file.FfsFile.{FfsFile}
use Rattle.pi_base.specs.declared.phase.Phase.{Phase}
use Rattle.mod_catalog.specs.{FileType.has_part, APrioriNames.bearer, APrioriNames.kept_names, declared.ranks.Bearer.Bearer}
use Rattle.mod_catalog.proofs.BorneNames.{few_kept as few_kept_names}
use Rattle.mod_catalog.specs.Ranks.{kept_of, known, AreKept, ArePlaces, AreBearers, AreOfSome}
use Rattle.mod_catalog.specs.declared.ranks.Kept.{Kept}
use Rattle.mod_catalog.proofs.Bearers.{same_some, within_files, one_name}

plus_zero : (n : ℕ) → 0 + n ≡ n
plus_zero n = omega arith

module _ {A : Type 0} (test : A → Bool) where
  from_push : (n : ℕ) (xs : List A) (y : A) → position_from test n (xs ++ y ∷ []) ≡ option_or (position_from test n xs) (cond (test y) (Some (n + length xs)) None)
  from_push n [] y = ap (λ m. cond (test y) (Some m) None) (omega arith)
  from_push n (x ∷ xs) y =
      let later : n + 1 + length xs ≡ n + suc (length xs) = omega arith in
      by (test x) (from_push (n + 1) xs y ∙ ap (λ m. option_or (position_from test (n + 1) xs) (cond (test y) (Some m) None)) later)
    where
      by : (b : Bool) → position_from test (n + 1) (xs ++ y ∷ []) ≡ option_or (position_from test (n + 1) xs) (cond (test y) (Some (n + suc (length xs))) None)
          → cond b (Some n) (position_from test (n + 1) (xs ++ y ∷ [])) ≡ option_or (cond b (Some n) (position_from test (n + 1) xs)) (cond (test y) (Some (n + suc (length xs))) None)
      by true rest = refl
      by false rest = rest

  from_any : (n : ℕ) (xs : List A) → is_some (position_from test n xs) ≡ list_any test xs
  from_any n [] = refl
  from_any n (x ∷ xs) = by (test x) (from_any (n + 1) xs)
    where
      by : (b : Bool) → is_some (position_from test (n + 1) xs) ≡ list_any test xs → is_some (cond b (Some n) (position_from test (n + 1) xs)) ≡ b || list_any test xs
      by true rest = refl
      by false rest = rest

  -- the place of an item, with one item more
  pub position_push : (xs : List A) (y : A) → position test (xs ++ y ∷ []) ≡ option_or (position test xs) (cond (test y) (Some (length xs)) None)
  position_push xs y =
      position_from-zero test (xs ++ y ∷ []) ∙ from_push 0 xs y ∙ ap (λ m. option_or (position_from test 0 xs) (cond (test y) (Some m) None)) (plus_zero (length xs)) ∙ ap (λ found. option_or found (cond (test y) (Some (length xs)) None)) (sym (position_from-zero test xs))

  pub position_any : (xs : List A) → is_some (position test xs) ≡ list_any test xs
  position_any xs = ap is_some (position_from-zero test xs) ∙ from_any 0 xs

-- the items that differ from one are asked for another
any_other : (a name : Guid) (ys : List Guid) → same_guid a name ≡ false → list_any (same_guid name) (filter (λ b. not (same_guid a b)) ys) ≡ list_any (same_guid name) ys
any_other a name [] differ = refl
any_other a name (b ∷ ys) differ = by (same_guid a b) refl (any_other a name ys differ)
  where
    by : (t : Bool) → same_guid a b ≡ t → list_any (same_guid name) (filter (λ b. not (same_guid a b)) ys) ≡ list_any (same_guid name) ys
        → list_any (same_guid name) (cond (not t) (b ∷ filter (λ b. not (same_guid a b)) ys) (filter (λ b. not (same_guid a b)) ys)) ≡ same_guid name b || list_any (same_guid name) ys
    by false e rest = ap (λ t. same_guid name b || t) rest
    by true e rest =
        let apart : same_guid name b ≡ false = nat_list_eq_equiv.symm name.0 b.0 ∙ sym (nat_list_eq_equiv.congr a.0 b.0 name.0 e) ∙ differ in
        rest ∙ ap (λ t. t || list_any (same_guid name) ys) (sym apart)

-- the first of each name, with one name more
pub firsts_push : (xs : List Guid) (name : Guid) → firsts same_guid (xs ++ name ∷ []) ≡ firsts same_guid xs ++ cond (list_any (same_guid name) (firsts same_guid xs)) [] (name ∷ [])
firsts_push [] name = refl
firsts_push (a ∷ xs) name =
    by (same_guid a name) refl (ap others (firsts_push xs name) ∙ filter-append (λ b. not (same_guid a b)) rest (cond (list_any (same_guid name) rest) [] (name ∷ [])))
  where
    rest : List Guid
    rest = firsts same_guid xs

    others : List Guid → List Guid
    others names = filter (λ b. not (same_guid a b)) names

    turned : same_guid name a ≡ same_guid a name
    turned = nat_list_eq_equiv.symm name.0 a.0

    alone : (s t : Bool) → same_guid a name ≡ s → others (cond t [] (name ∷ [])) ≡ cond (s || t) [] (name ∷ [])
    alone s true e = by_s s
      where
        by_s : (s : Bool) → [] ≡ cond (s || true) [] (name ∷ [])
        by_s true = refl
        by_s false = refl
    alone true false e = ap (λ t. cond (not t) (name ∷ []) []) e
    alone false false e = ap (λ t. cond (not t) (name ∷ []) []) e

    by : (s : Bool) → same_guid a name ≡ s → others (firsts same_guid (xs ++ name ∷ [])) ≡ others rest ++ others (cond (list_any (same_guid name) rest) [] (name ∷ []))
        → a ∷ others (firsts same_guid (xs ++ name ∷ [])) ≡ a ∷ (others rest ++ cond (same_guid name a || list_any (same_guid name) (others rest)) [] (name ∷ []))
    by true e grown =
        ap (λ names. a ∷ names) (grown ∙ ap (λ more. others rest ++ more) (alone true (list_any (same_guid name) rest) e))
        ∙ ap (λ t. a ∷ (others rest ++ cond (t || list_any (same_guid name) (others rest)) [] (name ∷ []))) (sym (turned ∙ e))
    by false e grown =
        ap (λ names. a ∷ names) (grown ∙ ap (λ more. others rest ++ more) (alone false (list_any (same_guid name) rest) e))
        ∙ ap (λ t. a ∷ (others rest ++ cond t [] (name ∷ []))) (sym (any_other a name rest e))
        ∙ ap (λ t. a ∷ (others rest ++ cond (t || list_any (same_guid name) (others rest)) [] (name ∷ []))) (sym (turned ∙ e))

module _ (known : Guid → Bool) (list : List Guid) (name : Guid) (is : known name ≡ true) where
  filter_push : filter known (list ++ name ∷ []) ≡ filter known list ++ name ∷ []
  filter_push = filter-append known list (name ∷ []) ∙ ap (λ t. filter known list ++ cond t (name ∷ []) []) is

  kept_push : kept_of known (list ++ name ∷ []) ≡ kept_of known list ++ cond (is_some (position (same_guid name) (kept_of known list))) [] (name ∷ [])
  kept_push = ap (firsts same_guid) filter_push ∙ firsts_push (filter known list) name ∙ ap (λ t. kept_of known list ++ cond t [] (name ∷ [])) (sym (position_any (same_guid name) (kept_of known list)))

-- what a list keeps with a name more, which stands for no file
kept_without : (known : Guid → Bool) (list : List Guid) (name : Guid) → known name ≡ false → kept_of known (list ++ name ∷ []) ≡ kept_of known list
kept_without known list name is =
    ap (firsts same_guid) (filter-append known list (name ∷ []) ∙ ap (λ t. filter known list ++ cond t (name ∷ []) []) is ∙ append-nil (filter known list))

kept_same : (bearers : List (Guid × Bearer)) (list more : List Guid) (kept : Kept) → kept_of (known bearers) more ≡ kept_of (known bearers) list → AreKept bearers list kept → AreKept bearers more kept
kept_same bearers list more kept same before = record {
  places = λ name b is. before.places name b is ∙ ap (position (same_guid name)) (sym same);
  count = before.count ∙ ap length (sym same);
}

pub kept_unknown : (bearers : List (Guid × Bearer)) (list : List Guid) (name : Guid) (kept : Kept) → None ≡ value_of bearers name → AreKept bearers list kept → AreKept bearers (list ++ name ∷ []) kept
kept_unknown bearers list name kept is before =
    let not_known : known bearers name ≡ false = ap is_some (sym is) in
    kept_same bearers list (list ++ name ∷ []) kept (kept_without (known bearers) list name not_known) before

-- a name that was kept before
pub kept_again : (bearers : List (Guid × Bearer)) (list : List Guid) (name : Guid) (b : Bearer) (kept : Kept) → Some b ≡ value_of bearers name → is_some (slice_index_or kept.places b.index None) ≡ true
    → AreKept bearers list kept → AreKept bearers (list ++ name ∷ []) kept
kept_again bearers list name b kept is again before =
    let test : Guid → Bool = known bearers in
    let is_known : test name ≡ true = ap is_some (sym is) in
    let there : is_some (position (same_guid name) (kept_of test list)) ≡ true = ap is_some (sym (before.places name b (sym is))) ∙ again in
    let same : kept_of test (list ++ name ∷ []) ≡ kept_of test list =
    kept_push test list name is_known ∙ ap (λ t. kept_of test list ++ cond t [] (name ∷ [])) there ∙ append-nil (kept_of test list) in
    kept_same bearers list (list ++ name ∷ []) kept same before

none_of : {A : Type 0} (found : Option A) → is_some found ≡ false → found ≡ None
none_of None e = refl
none_of (Some x) e = absurd cc

or_none : {A : Type 0} (found : Option A) → option_or found None ≡ found
or_none None = refl
or_none (Some x) = refl

length_push : (names : List Guid) (name : Guid) → length (names ++ name ∷ []) ≡ length names + 1
length_push names name = length-append names (name ∷ [])

-- the place of a name, with one name more that was not there
place_of : (names : List Guid) (count : ℕ) (name other : Guid) (b : Bool) → same_guid name other ≡ b → (found : Option ℕ) → found ≡ position (same_guid other) names
    → is_some (position (same_guid name) names) ≡ false → count ≡ length names
    → cond b (Some count) found ≡ option_or (position (same_guid other) names) (cond (same_guid other name) (Some (length names)) None)
place_of names count name other true e found is absent counted =
    let same : position (same_guid name) names ≡ position (same_guid other) names = (λ j. position (λ x. nat_list_eq_equiv.congr name.0 other.0 x.0 e j) names) in
    let none : position (same_guid other) names ≡ None = sym same ∙ none_of (position (same_guid name) names) absent in
    ap (λ n. Some n) counted ∙ ap (λ t. cond t (Some (length names)) None) (sym (nat_list_eq_equiv.symm other.0 name.0 ∙ e))
    ∙ ap (λ found. option_or found (cond (same_guid other name) (Some (length names)) None)) (sym none)
place_of names count name other false e found is absent counted =
    is ∙ sym (or_none (position (same_guid other) names))
    ∙ ap (λ t. option_or (position (same_guid other) names) (cond t (Some (length names)) None)) (sym (nat_list_eq_equiv.symm other.0 name.0 ∙ e))

-- the file that a name stands for is one of so many
pub within_places : (bearers : List (Guid × Bearer)) (count : ℕ) (some : AreOfSome bearers count) (name : Guid) (b : Bearer) → Some b ≡ value_of bearers name → b.index < count
within_places bearers count some name b is = let within = (within_files some.0 name 0 some.1 b (sym (some.2 name) ∙ sym is)).1 in omega (arith, within, some.3)

-- what a table has for another name behind a write
written : (bearers : List (Guid × Bearer)) (count : ℕ) (some : AreOfSome bearers count) (places : List (Option ℕ)) (place : Option ℕ) (name other : Guid) (b o : Bearer) (t : Bool) → length places ≡ count
    → value_of bearers name ≡ Some b → value_of bearers other ≡ Some o → same_guid name other ≡ t
    → slice_index_or (slice_set places b.index place) o.index None ≡ cond t place (slice_index_or places o.index None)
written bearers count some places place name other b o true long is has e =
    let both : value_of bearers name ≡ value_of bearers other = (λ j. lookup (λ x. nat_list_eq_equiv.congr name.0 other.0 x.0 e j) bearers) in
    let one : Some b ≡ Some o = sym is ∙ both ∙ has in
    let same : b ≡ o = cc in
    let within = (within_files some.0 name 0 some.1 b (sym (some.2 name) ∙ is)).1 in
    subst (λ (x : Bearer). slice_index_or (slice_set places b.index place) x.index None ≡ place) same
    (get_or-set_same places b.index place None (omega (arith, within, long, some.3)))
written bearers count some places place name other b o false long is has e =
    get_or-set_other places b.index o.index place None
    (λ (level : o.index ≡ b.index).
    let one : same_guid name other ≡ true = one_name some.0 name other 0 some.1 b o (sym (some.2 name) ∙ is) (sym (some.2 other) ∙ has) (sym level) in
    let no : false ≡ true = sym e ∙ one in absurd (cc))

-- a name that is kept for the first time
pub kept_first : (bearers : List (Guid × Bearer)) (list : List Guid) (name : Guid) (b : Bearer) (kept more : Kept) → AreOfSome bearers (length kept.places) → Some b ≡ value_of bearers name
    → is_some (slice_index_or kept.places b.index None) ≡ false → more.places ≡ slice_set kept.places b.index (Some kept.count) → more.count ≡ kept.count + 1
    → AreKept bearers list kept → AreKept bearers (list ++ name ∷ []) more
kept_first bearers list name b kept more some is first put count before =
    let test : Guid → Bool = known bearers in
    let names : List Guid = kept_of test list in
    let is_known : test name ≡ true = ap is_some (sym is) in
    let absent : is_some (position (same_guid name) names) ≡ false = ap is_some (sym (before.places name b (sym is))) ∙ first in
    let grown : kept_of test (list ++ name ∷ []) ≡ names ++ name ∷ [] = kept_push test list name is_known ∙ ap (λ t. names ++ cond t [] (name ∷ [])) absent in
    record {
      places = λ other o has.
          ap (λ (l : List (Option ℕ)). slice_index_or l o.index None) put
          ∙ written bearers (length kept.places) some kept.places (Some kept.count) name other b o (same_guid name other) refl (sym is) has refl
          ∙ place_of names kept.count name other (same_guid name other) refl (slice_index_or kept.places o.index None) (before.places other o has) absent before.count
          ∙ sym (position_push (same_guid other) names name) ∙ ap (position (same_guid other)) (sym grown);
      count = count ∙ ap (λ n. n + 1) before.count ∙ sym (length_push names name) ∙ ap length (sym grown);
    }

-- the items of numbers, with one number more
numbers_push : {A : Type 0} (f : ℕ → A) (from n : ℕ) → map f (numbers from (suc n)) ≡ map f (numbers from n) ++ f (from + n) ∷ []
numbers_push f from zero = ap (λ n. f n ∷ []) (omega arith)
numbers_push f from (suc n) = ap (λ rest. f from ∷ rest) (numbers_push f (from + 1) n ∙ ap (λ m. map f (numbers (from + 1) n) ++ f m ∷ []) (omega arith))

pub next_number : {A : Type 0} (f : ℕ → A) (n : ℕ) → map f (numbers 0 (n + 1)) ≡ map f (numbers 0 n) ++ f n ∷ []
next_number f n =
    let later : n + 1 ≡ suc n = omega arith in
    ap (λ m. map f (numbers 0 m)) later ∙ numbers_push f 0 n ∙ ap (λ m. map f (numbers 0 n) ++ f m ∷ []) (plus_zero n)

-- the names that are kept are those of the definitions
same_filter : (p q : Guid → Bool) (xs : List Guid) → ((x : Guid) → p x ≡ q x) → filter p xs ≡ filter q xs
same_filter p q [] same = refl
same_filter p q (x ∷ xs) same = ap (λ b. cond b (x ∷ filter p xs) (filter p xs)) (same x) ∙ ap (λ rest. cond (q x) (x ∷ rest) rest) (same_filter p q xs same)

pub kept_are : (phase : Phase) (files : List FfsFile) (bearers : List (Guid × Bearer)) (list : List Guid) → AreBearers phase 0 files bearers → kept_of (known bearers) list ≡ kept_names phase files list
kept_are phase files bearers list are =
    ap (firsts same_guid) (same_filter (known bearers) (λ name. is_some (bearer phase files name)) list (λ name. ap is_some (are name) ∙ same_some phase name 0 files))

pub held : (phase : Phase) (files : List FfsFile) (bearers : List (Guid × Bearer)) (list : List Guid) (kept : Kept) → AreBearers phase 0 files bearers → AreKept bearers list kept
    → ArePlaces bearers (kept_names phase files list) kept.places
held phase files bearers list kept are so name b is = so.places name b is ∙ ap (position (same_guid name)) (kept_are phase files bearers list are)

length-filter : {A : Type 0} (p : A → Bool) (xs : List A) → length (filter p xs) ≤ length xs
length-filter p [] = omega arith
length-filter p (x ∷ xs) = by (p x) (length-filter p xs)
  where
    by : (b : Bool) → length (filter p xs) ≤ length xs → length (cond b (x ∷ filter p xs) (filter p xs)) ≤ length (x ∷ xs)
    by true rest = omega (arith, rest)
    by false rest = omega (arith, rest)

-- they are no more than the files
pub few_kept : (phase : Phase) (files : List FfsFile) (bearers : List (Guid × Bearer)) (list : List Guid) → AreBearers phase 0 files bearers → length (kept_of (known bearers) list) ≤ length files
few_kept phase files bearers list are =
    omega (arith, ap length (kept_are phase files bearers list are), few_kept_names phase files list, length-filter (λ (file : FfsFile). has_part phase file.kind) files)
