-- A rank is below the number of the parts of its phase in its volume.
use Rattle.std.proofs.Common.{◌≡◌, ℕ, ◌+◌, ◌<◌, ◌≤◌, Bool, true, false, cond, List, [], ◌∷◌, ◌++◌, length, map, filter, Option, Some, None, is_some, refl, sym, ap, ◌∙◌, arith, subst, length-append, eq-eqb, IfSome, position, ◌&&◌, ◌||◌, ◌==◌}
use Rattle.std.proofs.{lemmas.Bool.false≢true, lemmas.List.Elements.filter-append, lemmas.List.Quantifiers.position-Some}
use Rattle.pi_base.specs.{declared.guid.Guid.Guid, declared.phase.Phase.Phase}
use Rattle.pi_base.specs.{declared.phase.Phase.TheVariants.Pei, declared.phase.Phase.TheVariants.Dxe, Guids.same_guid}
use Rattle.pi_base.specs.Lists.{Each, EachPair}
use Rattle.pi_base.proofs.ListFacts.{each_more, each_append, right_each}
use Rattle.fv_volume.specs.{declared.file.FfsFile.FfsFile, declared.file_type.TheConstants.VOLUME_IMAGE as VOLUME_FILE}
use Rattle.mod_catalog.specs.{declared.catalogue.Module.Module, declared.catalogue.Part.Part, FileType.has_part, FileType.has_module}
use Rattle.mod_catalog.specs.ReadFile.{ReadFile, AreRead, is_read, is_file, a_priori_file}
use Rattle.mod_catalog.specs.APrioriNames.{bearer, kept_names, a_priori_list, rank_of}
use Rattle.mod_catalog.specs.ModuleEntry.{IsPart, IsPartIf, IsModule}
use Rattle.mod_catalog.specs.Totals.{module_files}
use Rattle.mod_catalog.specs.Parts.{part_of, is_part_in, parts_from}
use Rattle.mod_catalog.proofs.BorneNames.{bearers, few_kept}

-- how many of these modules have a part of the phase in a volume
abbrev pub part_count : Phase → ℕ → List Module → ℕ
part_count phase volume modules = length (filter (is_part_in phase volume) modules)

pub length-parts_from : (phase : Phase) (volume number : ℕ) (modules : List Module) → length (parts_from phase volume number modules) ≡ part_count phase volume modules
length-parts_from phase volume number [] = refl
length-parts_from phase volume number (m ∷ ms) = by (is_part_in phase volume m) (length-parts_from phase volume (number + 1) ms)
  where
    by : (b : Bool) → length (parts_from phase volume (number + 1) ms) ≡ part_count phase volume ms
        → length (cond b (number ∷ []) [] ++ parts_from phase volume (number + 1) ms) ≡ length (cond b (m ∷ filter (is_part_in phase volume) ms) (filter (is_part_in phase volume) ms))
    by true rest = omega (arith, rest)
    by false rest = rest

-- the rank of a part is below a number that goes with its volume
abbrev pub IsBelow : Phase → (ℕ → ℕ) → Module → Type 0
IsBelow phase most m = IfSome (part_of phase m) (λ part. IfSome part.rank (λ rank. rank < most m.volume))

if_some_more : {A : Type 0} (P Q : A → Type 0) (o : Option A) → ((x : A) → P x → Q x) → IfSome o P → IfSome o Q
if_some_more P Q None f p = tt
if_some_more P Q (Some x) f p = f x p

pub below_more : (phase : Phase) (most more : ℕ → ℕ) → ((volume : ℕ) → most volume ≤ more volume) → (m : Module) → IsBelow phase most m → IsBelow phase more m
below_more phase most more le m below =
    if_some_more (λ part. IfSome part.rank (λ rank. rank < most m.volume)) (λ part. IfSome part.rank (λ rank. rank < more m.volume)) (part_of phase m)
    (λ part p. if_some_more (λ rank. rank < most m.volume) (λ rank. rank < more m.volume) part.rank (λ rank r. omega (arith, r, le m.volume)) p) below

-- the ranks of these modules are below the numbers of parts among them
abbrev pub AreWithin : Phase → List Module → Type 0
AreWithin phase modules = Each (IsBelow phase (λ volume. part_count phase volume modules)) modules

pub within_append : (phase : Phase) (ms ns : List Module) → AreWithin phase ms → AreWithin phase ns → AreWithin phase (ms ++ ns)
within_append phase ms ns p q =
    let all : ℕ → ℕ = λ volume. part_count phase volume (ms ++ ns) in
    let sum : (volume : ℕ) → all volume ≡ part_count phase volume ms + part_count phase volume ns = λ volume.
    ap length (filter-append (is_part_in phase volume) ms ns) ∙ length-append (filter (is_part_in phase volume) ms) (filter (is_part_in phase volume) ns) in
    each_append (IsBelow phase all) ms ns
    (each_more (IsBelow phase (λ volume. part_count phase volume ms)) (IsBelow phase all) ms (below_more phase (λ volume. part_count phase volume ms) all (λ volume. omega (arith, sum volume))) p)
    (each_more (IsBelow phase (λ volume. part_count phase volume ns)) (IsBelow phase all) ns (below_more phase (λ volume. part_count phase volume ns) all (λ volume. omega (arith, sum volume))) q)

-- what passes one test passes the other, so that nothing is lost by it
filter_of_filter : {A : Type 0} (p q : A → Bool) (xs : List A) → ((x : A) → p x ≡ true → q x ≡ true) → filter p (filter q xs) ≡ filter p xs
filter_of_filter p q [] f = refl
filter_of_filter p q (x ∷ xs) f = by (p x) (q x) refl refl (filter_of_filter p q xs f)
  where
    by : (b c : Bool) → p x ≡ b → q x ≡ c → filter p (filter q xs) ≡ filter p xs → filter p (cond c (x ∷ filter q xs) (filter q xs)) ≡ cond b (x ∷ filter p xs) (filter p xs)
    by true true is other rest = ap (λ t. cond t (x ∷ filter p (filter q xs)) (filter p (filter q xs))) is ∙ ap (λ more. x ∷ more) rest
    by true false is other rest = absurd (false≢true (sym other ∙ f x is))
    by false true is other rest = ap (λ t. cond t (x ∷ filter p (filter q xs)) (filter p (filter q xs))) is ∙ rest
    by false false is other rest = rest

length-filter_map : {A B : Type 0} (f : A → B) (test : B → Bool) (xs : List A) → length (filter test (map f xs)) ≡ length (filter (λ x. test (f x)) xs)
length-filter_map f test [] = refl
length-filter_map f test (x ∷ xs) = by (test (f x)) (length-filter_map f test xs)
  where
    by : (b : Bool) → length (filter test (map f xs)) ≡ length (filter (λ y. test (f y)) xs)
        → length (cond b (f x ∷ filter test (map f xs)) (filter test (map f xs))) ≡ length (cond b (x ∷ filter (λ y. test (f y)) xs) (filter (λ y. test (f y)) xs))
    by true rest = omega (arith, rest)
    by false rest = rest

-- a file with a part has a module, and is read
part_is_module : (phase : Phase) (kind : ℕ) → has_part phase kind ≡ true → has_module kind ≡ true
part_is_module Pei kind e = ap (λ b. b || has_part Dxe kind) e
part_is_module Dxe kind e = by (has_part Pei kind) (has_part Dxe kind) e
  where
    by : (a b : Bool) → b ≡ true → a || b ≡ true
    by true b e = refl
    by false b e = e

module_is_read : (files : List FfsFile) (file : FfsFile) → has_module file.kind ≡ true → is_read files file ≡ true
module_is_read files file e =
    let volume : Bool = file.kind == VOLUME_FILE in
    let pei : Bool = is_file (a_priori_file Pei files) file in
    let dxe : Bool = is_file (a_priori_file Dxe files) file in
    ap (λ b. b || volume || pei || dxe) e

-- as many files have a part as of those that are read and have a module
bearer_count : (phase : Phase) (bytes : List ℕ) (files : List FfsFile) (reads : List ReadFile) → AreRead bytes files reads
    → length (bearers phase files) ≡ length (filter (λ read. has_part phase read.file.kind) (module_files reads))
bearer_count phase bytes files reads are =
    let of_file : FfsFile → Bool = λ file. has_part phase file.kind in
    let of_read : ReadFile → Bool = λ read. has_part phase read.file.kind in
    let all : filter of_file (filter (is_read files) files) ≡ filter of_file files =
    filter_of_filter of_file (is_read files) files (λ file e. module_is_read files file (part_is_module phase file.kind e)) in
    let read : filter of_file (map (λ (read : ReadFile). read.file) reads) ≡ filter of_file files = ap (filter of_file) are.these ∙ all in
    let own : filter of_read (module_files reads) ≡ filter of_read reads =
    filter_of_filter of_read (λ read. has_module read.file.kind) reads (λ read e. part_is_module phase read.file.kind e) in
    sym (ap length own ∙ sym (length-filter_map (λ (read : ReadFile). read.file) of_file reads) ∙ ap length read)

there : (kinds : Bool) (P : Part → Type 0) (o : Option Part) → IsPartIf kinds P o → is_some o ≡ kinds
there true P (Some part) is = refl
there true P None is = absurd is
there false P (Some part) is = absurd is
there false P None is = refl

part_is : (bytes : List ℕ) (files : List FfsFile) (reads : List ReadFile) (number : ℕ) (phase : Phase) (read : ReadFile) (m : Module) (is : IsModule bytes files reads number read m)
    → IsPartIf (has_part phase read.file.kind) (IsPart bytes files reads read phase) (part_of phase m)
part_is bytes files reads number Pei read m is = is.pei
part_is bytes files reads number Dxe read m is = is.dxe

module _ (phase : Phase) (bytes : List ℕ) (files : List FfsFile) (reads : List ReadFile) (number : ℕ) where
  has_part_of : (read : ReadFile) (m : Module) → IsModule bytes files reads number read m → is_some (part_of phase m) ≡ has_part phase read.file.kind
  has_part_of read m is =
      there (has_part phase read.file.kind) (IsPart bytes files reads read phase) (part_of phase m) (part_is bytes files reads number phase read m is)

  -- as many of the modules of a volume have a part as of their files
  own_count : (of : List ReadFile) (own : List Module) → EachPair (IsModule bytes files reads number) of own
      → part_count phase number own ≡ length (filter (λ read. has_part phase read.file.kind) of)
  own_count [] [] pairs = refl
  own_count [] (m ∷ ms) pairs = absurd pairs
  own_count (r ∷ rs) [] pairs = absurd pairs
  own_count (r ∷ rs) (m ∷ ms) pairs = by (m.volume == number) (eq-eqb m.volume number pairs.0.volume) (is_some (part_of phase m)) (has_part phase r.file.kind) (has_part_of r m pairs.0) (own_count rs ms pairs.1)
    where
      by : (here : Bool) → here ≡ true → (some kind : Bool) → some ≡ kind → part_count phase number ms ≡ length (filter (λ read. has_part phase read.file.kind) rs)
          → length (cond (here && some) (m ∷ filter (is_part_in phase number) ms) (filter (is_part_in phase number) ms))
          ≡ length (cond kind (r ∷ filter (λ read. has_part phase read.file.kind) rs) (filter (λ read. has_part phase read.file.kind) rs))
      by true e true true same rest = omega (arith, rest)
      by true e true false same rest = absurd cc
      by true e false true same rest = absurd cc
      by true e false false same rest = rest
      by false e some kind same rest = absurd cc

  -- the place of a name is below the number of the files with a part
  rank_below : (file : FfsFile) (rank : Option ℕ) → rank ≡ rank_of phase files (a_priori_list bytes files reads phase) file
      → IfSome rank (λ r. r < length (bearers phase files))
  rank_below file None is = tt
  rank_below file (Some r) is = by (is_file (bearer phase files file.name) file) is
    where
      kept : List Guid
      kept = kept_names phase files (a_priori_list bytes files reads phase)

      by : (b : Bool) → Some r ≡ cond b (position (same_guid file.name) kept) None → r < length (bearers phase files)
      by true e =
          let within = (position-Some (same_guid file.name) kept r file.name (sym e)).0 in
          omega (arith, within, few_kept phase files (a_priori_list bytes files reads phase))
      by false e = absurd cc

  part_below : (kinds : Bool) (read : ReadFile) (o : Option Part) → IsPartIf kinds (IsPart bytes files reads read phase) o
      → IfSome o (λ part. IfSome part.rank (λ rank. rank < length (bearers phase files)))
  part_below true read (Some part) is = rank_below read.file part.rank is.rank
  part_below true read None is = tt
  part_below false read (Some part) is = absurd is
  part_below false read None is = tt

  module_below : (read : ReadFile) (m : Module) → IsModule bytes files reads number read m → IfSome (part_of phase m) (λ part. IfSome part.rank (λ rank. rank < length (bearers phase files)))
  module_below read m is = part_below (has_part phase read.file.kind) read (part_of phase m) (part_is bytes files reads number phase read m is)

  -- the ranks of the modules of a volume
  pub own_within : (own : List Module) → AreRead bytes files reads → EachPair (IsModule bytes files reads number) (module_files reads) own → AreWithin phase own
  own_within own are pairs =
      let count : length (bearers phase files) ≡ part_count phase number own = bearer_count phase bytes files reads are ∙ sym (own_count (module_files reads) own pairs) in
      right_each (IsModule bytes files reads number) (IsBelow phase (λ volume. part_count phase volume own)) (module_files reads) own
      (λ r m is. subst (λ volume. IfSome (part_of phase m) (λ part. IfSome part.rank (λ rank. rank < part_count phase volume own))) (sym is.volume)
      (subst (λ n. IfSome (part_of phase m) (λ part. IfSome part.rank (λ rank. rank < n))) count (module_below r m is))) pairs
