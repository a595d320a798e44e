-- The file that a name stands for, as it is looked up.
use Rattle.std.proofs.Common.{◌≡◌, ◌<◌, ◌≤◌, ℕ, suc, ◌+◌, Bool, true, false, cond, ◌&&◌, ◌==◌, List, [], ◌∷◌, length, position, Option, Some, None, is_some, option_map, refl, sym, ap, ◌∙◌, arith, slice_index_or}
use Rattle.std.proofs.{lemmas.Bool.Decides.nat_tests, lemmas.Cmp.nat_list_eq_equiv}
use Rattle.pi_base.specs.{declared.guid.Guid.Guid, declared.phase.Phase.Phase, Guids.same_guid, GuidMap.value_of}
use Rattle.fv_volume.specs.declared.file.FfsFile.{FfsFile}
use Rattle.mod_catalog.specs.{FileType.has_part, ReadFile.is_file, declared.ranks.Bearer.Bearer, declared.ranks.Ranks.Ranks}
use Rattle.mod_catalog.specs.APrioriNames.{bearer, kept_names, rank_of}
use Rattle.mod_catalog.specs.Ranks.{bearer_from, HoldRanks}

-- it is the file of the definitions
pub bearer_at : (phase : Phase) (name : Guid) (n : ℕ) (files : List FfsFile) → option_map (λ (b : Bearer). b.at) (bearer_from phase name n files) ≡ option_map (λ (file : FfsFile). file.at) (bearer phase files name)
bearer_at phase name n [] = refl
bearer_at phase name n (file ∷ files) = by (same_guid file.name name && has_part phase file.kind) (bearer_at phase name (n + 1) files)
  where
    by : (t : Bool) → option_map (λ (b : Bearer). b.at) (bearer_from phase name (n + 1) files) ≡ option_map (λ (file : FfsFile). file.at) (bearer phase files name)
        → option_map (λ (b : Bearer). b.at) (cond t (Some (record { index = n; at = file.at })) (bearer_from phase name (n + 1) files)) ≡ option_map (λ (file : FfsFile). file.at) (cond t (Some file) (bearer phase files name))
    by true rest = refl
    by false rest = rest

of_map : {A B : Type 0} (f : A → B) (found : Option A) → is_some (option_map f found) ≡ is_some found
of_map f None = refl
of_map f (Some x) = refl

pub same_some : (phase : Phase) (name : Guid) (n : ℕ) (files : List FfsFile) → is_some (bearer_from phase name n files) ≡ is_some (bearer phase files name)
same_some phase name n files =
    sym (of_map (λ (b : Bearer). b.at) (bearer_from phase name n files)) ∙ ap is_some (bearer_at phase name n files) ∙ of_map (λ (file : FfsFile). file.at) (bearer phase files name)

-- its index is that of one of the files
pub within_files : (phase : Phase) (name : Guid) (n : ℕ) (files : List FfsFile) (b : Bearer) → bearer_from phase name n files ≡ Some b → (n ≤ b.index) × (b.index < n + length files)
within_files phase name n [] b e = absurd cc
within_files phase name n (file ∷ files) b e = by (same_guid file.name name && has_part phase file.kind) (within_files phase name (n + 1) files b) e
  where
    by : (t : Bool) → (bearer_from phase name (n + 1) files ≡ Some b → (n + 1 ≤ b.index) × (b.index < n + 1 + length files))
        → cond t (Some (record { index = n; at = file.at })) (bearer_from phase name (n + 1) files) ≡ Some b → (n ≤ b.index) × (b.index < n + suc (length files))
    by true later e =
        let made : Bearer = record { index = n; at = file.at } in
        let same : made ≡ b = cc in
        let here : n ≡ b.index = ap (λ (x : Bearer). x.index) same in
        (omega (arith, here), omega (arith, here))
    by false later e = let rest = later e in (omega (arith, rest.0), omega (arith, rest.1))

both_left : (p q : Bool) → (p && q) ≡ true → p ≡ true
both_left true q e = refl
both_left false q e = e

-- names that stand for one file are one name
pub one_name : (phase : Phase) (a c : Guid) (n : ℕ) (files : List FfsFile) (x y : Bearer) → bearer_from phase a n files ≡ Some x → bearer_from phase c n files ≡ Some y → x.index ≡ y.index → same_guid a c ≡ true
one_name phase a c n [] x y e f same = absurd cc
one_name phase a c n (file ∷ files) x y e f same =
    by (same_guid file.name a && has_part phase file.kind) (same_guid file.name c && has_part phase file.kind) refl refl (λ p q. one_name phase a c (n + 1) files x y p q same) e f
  where
    made : Bearer
    made = record { index = n; at = file.at }

    apart : (name : Guid) (here later : Bearer) → made ≡ here → bearer_from phase name (n + 1) files ≡ Some later → here.index ≡ later.index → ⊥
    apart name here later is found level =
        let first : n ≡ here.index = ap (λ (b : Bearer). b.index) is in
        let behind : n + 1 ≤ later.index = (within_files phase name (n + 1) files later found).0 in
        omega (arith, first, behind, level)

    by : (s t : Bool) → (same_guid file.name a && has_part phase file.kind) ≡ s → (same_guid file.name c && has_part phase file.kind) ≡ t
        → (bearer_from phase a (n + 1) files ≡ Some x → bearer_from phase c (n + 1) files ≡ Some y → same_guid a c ≡ true)
        → cond s (Some made) (bearer_from phase a (n + 1) files) ≡ Some x → cond t (Some made) (bearer_from phase c (n + 1) files) ≡ Some y → same_guid a c ≡ true
    by true true p q later e f =
        let first : same_guid file.name a ≡ true = both_left (same_guid file.name a) (has_part phase file.kind) p in
        let second : same_guid file.name c ≡ true = both_left (same_guid file.name c) (has_part phase file.kind) q in
        sym (nat_list_eq_equiv.congr file.name.0 a.0 c.0 first) ∙ second
    by true false p q later e f = let is : made ≡ x = cc in absurd (apart c x y is f same)
    by false true p q later e f = let is : made ≡ y = cc in absurd (apart a y x is e (sym same))
    by false false p q later e f = later e f

-- whether the file is the one that its name stands for
borne : (o : Option FfsFile) (b : Option Bearer) (file : FfsFile) → option_map (λ (b : Bearer). b.at) b ≡ option_map (λ (file : FfsFile). file.at) o
    → is_file o file ≡ elim b [ None ↦ false | Some bearer ↦ bearer.at == file.at ]
borne None None file e = refl
borne None (Some b) file e = absurd cc
borne (Some f) None file e = absurd cc
borne (Some f) (Some b) file e = let same : b.at ≡ f.at = cc in ap (λ n. n == file.at) (sym same)

-- the rank of a file, as it is looked up
pub ranked : (phase : Phase) (files : List FfsFile) (list : List Guid) (ranks : Ranks) (file : FfsFile) (found : Option Bearer) → HoldRanks phase files list ranks → value_of ranks.bearers file.name ≡ found
    → rank_of phase files list file ≡ elim found [ None ↦ None | Some b ↦ cond (b.at == file.at) (slice_index_or ranks.places b.index None) None ]
ranked phase files list ranks file None hold is =
    let at : option_map (λ (b : Bearer). b.at) None ≡ option_map (λ (file : FfsFile). file.at) (bearer phase files file.name) =
    ap (option_map (λ (b : Bearer). b.at)) (sym is ∙ hold.bearers file.name) ∙ bearer_at phase file.name 0 files in
    let no : is_file (bearer phase files file.name) file ≡ false = borne (bearer phase files file.name) None file at in
    ap (λ t. cond t (position (same_guid file.name) (kept_names phase files list)) None) no
ranked phase files list ranks file (Some b) hold is =
    let at : option_map (λ (b : Bearer). b.at) (Some b) ≡ option_map (λ (file : FfsFile). file.at) (bearer phase files file.name) =
    ap (option_map (λ (b : Bearer). b.at)) (sym is ∙ hold.bearers file.name) ∙ bearer_at phase file.name 0 files in
    let test : is_file (bearer phase files file.name) file ≡ (b.at == file.at) = borne (bearer phase files file.name) (Some b) file at in
    let place : slice_index_or ranks.places b.index None ≡ position (same_guid file.name) (kept_names phase files list) = hold.places file.name b is in
    ap (λ t. cond t (position (same_guid file.name) (kept_names phase files list)) None) test ∙ ap (λ p. cond (b.at == file.at) p None) (sym place)

module _ (phase : Phase) (files : List FfsFile) (list : List Guid) (ranks : Ranks) (file : FfsFile) (hold : HoldRanks phase files list ranks) where
  pub ranked_here : (b : Bearer) → Some b ≡ value_of ranks.bearers file.name → b.at ≡ file.at → slice_index_or ranks.places b.index None ≡ rank_of phase files list file
  ranked_here b is same =
      let test : (b.at == file.at) ≡ true = grind (arith, nat_tests) in
      sym (ranked phase files list ranks file (Some b) hold (sym is) ∙ ap (λ t. cond t (slice_index_or ranks.places b.index None) None) test)

  pub ranked_other : (b : Bearer) → Some b ≡ value_of ranks.bearers file.name → (b.at ≡ file.at → ⊥) → None ≡ rank_of phase files list file
  ranked_other b is other =
      let test : (b.at == file.at) ≡ false = grind (arith, nat_tests) in
      sym (ranked phase files list ranks file (Some b) hold (sym is) ∙ ap (λ t. cond t (slice_index_or ranks.places b.index None) None) test)

  pub ranked_unknown : None ≡ value_of ranks.bearers file.name → None ≡ rank_of phase files list file
  ranked_unknown is = sym (ranked phase files list ranks file None hold (sym is))
