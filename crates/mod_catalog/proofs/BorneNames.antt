-- Names that differ and each stand for a file with a part are no more than such files.
use Rattle.std.proofs.Common.{◌≡◌, ◌+◌, ◌≤◌, Bool, true, false, cond, not, ◌&&◌, List, [], ◌∷◌, length, filter, is_some, Some, refl, ap, ◌∙◌, arith}
use Rattle.std.proofs.lemmas.Cmp.{nat_list_eq_equiv}
use Rattle.pi_base.specs.{declared.guid.Guid.Guid, declared.phase.Phase.Phase, Guids.same_guid}
use Rattle.pi_base.specs.Lists.{Each, Ordered, firsts}
use Rattle.pi_base.proofs.ListFacts.{each_filter, ordered_filter}
use Rattle.fv_volume.specs.declared.file.FfsFile.{FfsFile}
use Rattle.mod_catalog.specs.{FileType.has_part, APrioriNames.bearer, APrioriNames.kept_names}

abbrev pub Differ : Guid → Guid → Type 0
Differ a b = same_guid a b ≡ false

abbrev pub others : Guid → List Guid → List Guid
others a names = filter (λ b. not (same_guid a b)) names

others_differ : (a : Guid) (xs : List Guid) → Each (Differ a) (others a xs)
others_differ a [] = tt
others_differ a (x ∷ xs) = by (same_guid a x) refl (others_differ a xs)
  where
    by : (b : Bool) → same_guid a x ≡ b → Each (Differ a) (others a xs) → Each (Differ a) (cond (not b) (x ∷ others a xs) (others a xs))
    by true e rest = rest
    by false e rest = (e, rest)

firsts_differ : (xs : List Guid) → Ordered Differ (firsts same_guid xs)
firsts_differ [] = tt
firsts_differ (a ∷ xs) = (others_differ a (firsts same_guid xs), ordered_filter Differ (λ b. not (same_guid a b)) (firsts same_guid xs) (firsts_differ xs))

each_first : (P : Guid → Type 0) (xs : List Guid) → Each P xs → Each P (firsts same_guid xs)
each_first P [] each = tt
each_first P (a ∷ xs) each = (each.0, each_filter P (λ b. not (same_guid a b)) (firsts same_guid xs) (each_first P xs each.1))

each_passes : (test : Guid → Bool) (xs : List Guid) → Each (λ x. test x ≡ true) (filter test xs)
each_passes test [] = tt
each_passes test (x ∷ xs) = by (test x) refl (each_passes test xs)
  where
    by : (b : Bool) → test x ≡ b → Each (λ x. test x ≡ true) (filter test xs) → Each (λ x. test x ≡ true) (cond b (x ∷ filter test xs) (filter test xs))
    by true e rest = (e, rest)
    by false e rest = rest

-- names that differ from one name, and so from each that is the same
all_others : (a x : Guid) (names : List Guid) → same_guid a x ≡ true → Each (Differ x) names → others a names ≡ names
all_others a x [] same differ = refl
all_others a x (n ∷ names) same differ =
    let apart : same_guid a n ≡ false = nat_list_eq_equiv.congr a.0 x.0 n.0 same ∙ differ.0 in
    ap (λ b. cond (not b) (n ∷ others a names) (others a names)) apart ∙ ap (λ rest. n ∷ rest) (all_others a x names same differ.1)

at_most_one : (a : Guid) (names : List Guid) → Ordered Differ names → length names ≤ 1 + length (others a names)
at_most_one a [] ordered = omega arith
at_most_one a (x ∷ names) ordered = by (same_guid a x) refl (at_most_one a names ordered.1)
  where
    by : (b : Bool) → same_guid a x ≡ b → length names ≤ 1 + length (others a names) → length (x ∷ names) ≤ 1 + length (cond (not b) (x ∷ others a names) (others a names))
    by true e rest =
        let all : length (others a names) ≡ length names = ap length (all_others a x names e ordered.0) in
        omega (arith, all)
    by false e rest = omega (arith, rest)

module _ (phase : Phase) where
  -- each name stands for one of these files
  abbrev pub AreBorne : List FfsFile → List Guid → Type 0
  AreBorne files names = Each (λ name. is_some (bearer phase files name) ≡ true) names

  -- the files with a part
  abbrev pub bearers : List FfsFile → List FfsFile
  bearers files = filter (λ file. has_part phase file.kind) files

  borne_by_rest : (file : FfsFile) (files : List FfsFile) (names : List Guid) → AreBorne (file ∷ files) names → AreBorne files (others file.name names)
  borne_by_rest file files [] borne = tt
  borne_by_rest file files (x ∷ names) borne = by (same_guid file.name x) borne.0 (borne_by_rest file files names borne.1)
    where
      by : (b : Bool) → is_some (cond (b && has_part phase file.kind) (Some file) (bearer phase files x)) ≡ true → AreBorne files (others file.name names)
          → AreBorne files (cond (not b) (x ∷ others file.name names) (others file.name names))
      by true here rest = rest
      by false here rest = (here, rest)

  -- a file without a part bears no name
  borne_behind : (file : FfsFile) (files : List FfsFile) (names : List Guid) → has_part phase file.kind ≡ false → AreBorne (file ∷ files) names → AreBorne files names
  borne_behind file files [] none borne = tt
  borne_behind file files (x ∷ names) none borne = (by (same_guid file.name x) (has_part phase file.kind) none borne.0, borne_behind file files names none borne.1)
    where
      by : (same kind : Bool) → kind ≡ false → is_some (cond (same && kind) (Some file) (bearer phase files x)) ≡ true → is_some (bearer phase files x) ≡ true
      by true true e here = absurd cc
      by true false e here = here
      by false kind e here = here

  few_names : (files : List FfsFile) (names : List Guid) → Ordered Differ names → AreBorne files names → length names ≤ length (bearers files)
  few_names [] [] ordered borne = omega arith
  few_names [] (x ∷ names) ordered borne =
      let none : false ≡ true = borne.0 in
      absurd cc
  few_names (file ∷ files) names ordered borne = by (has_part phase file.kind) refl (few_names files)
    where
      by : (b : Bool) → has_part phase file.kind ≡ b → ((some : List Guid) → Ordered Differ some → AreBorne files some → length some ≤ length (bearers files))
          → length names ≤ length (cond b (file ∷ bearers files) (bearers files))
      by true e few =
          let rest = few (others file.name names) (ordered_filter Differ (λ b. not (same_guid file.name b)) names ordered) (borne_by_rest file files names borne) in
          omega (arith, rest, at_most_one file.name names ordered)
      by false e few = few names ordered (borne_behind file files names e borne)

  -- the names of a list that are kept are no more than the files with a part
  pub few_kept : (files : List FfsFile) (list : List Guid) → length (kept_names phase files list) ≤ length (bearers files)
  few_kept files list =
      let stands : Guid → Bool = λ name. is_some (bearer phase files name) in
      few_names files (kept_names phase files list) (firsts_differ (filter stands list))
      (each_first (λ name. stands name ≡ true) (filter stands list) (each_passes stands list))
