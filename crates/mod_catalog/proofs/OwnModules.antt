-- The modules of one volume.
use Rattle.std.proofs.Common.{◌≡◌, ℕ, ◌<◌, ◌≤◌, Bool, true, false, cond, List, [], ◌∷◌, length, Option, Some, None, refl, sym, ap, ◌∙◌, arith, subst, inl, inr, eqb-true, get_or, ◌⊎◌, find, position, IfSome, unwrap_or}
use Rattle.std.proofs.{lemmas.Bool.false≢true, lemmas.Slice.Eq.bytes_eq-Decides, lemmas.List.Quantifiers.position-Some}
use Rattle.pi_base.specs.{declared.guid.Guid.Guid, declared.phase.Phase.Phase}
use Rattle.pi_base.specs.{declared.phase.Phase.TheVariants.Pei, declared.phase.Phase.TheVariants.Dxe, Guids.same_guid}
use Rattle.fv_volume.specs.{declared.file.FfsFile.FfsFile, declared.sections.section.Section.Section}
use Rattle.act_code.specs.{declared.script.Script.Script, declared.action.Action.Action, declared.header.TheConstants.MOST_SCRIPT}
use Rattle.act_code.specs.Script.{IsScript, IsInGrammar, script_bytes}
use Rattle.mod_catalog.specs.{declared.catalogue.Module.Module, declared.catalogue.Part.Part, declared.catalogue.PartExpr.PartExpr}
use Rattle.mod_catalog.specs.declared.catalogue.PartExpr.TheVariants.{Absent, Malformed, Held}
use Rattle.mod_catalog.specs.FileType.{has_part, expression_section}
use Rattle.mod_catalog.specs.ReadFile.{ReadFile, IsReadFile, is_file, section_body, first_body, script_sections}
use Rattle.mod_catalog.specs.APrioriNames.{bearer, kept_names, a_priori_list, rank_of}
use Rattle.mod_catalog.specs.ModuleEntry.{IsExpression, is_of_phase, script_for, IsPart, IsPartIf, IsModule}
use Rattle.mod_catalog.specs.WellFormed.{Precedes, HaveOtherRanks, RanksDiffer, IsExpressionOf, IsPartOf}
use Rattle.pi_base.specs.Lists.{Each, EachPair, Ordered}
use Rattle.pi_base.proofs.ListFacts.{right_each, right_ordered}
use Rattle.mod_catalog.proofs.ShortExpressions.{expression_short}

chosen : (b : Bool) (o : Option ℕ) (r : ℕ) → cond b o None ≡ Some r → (b ≡ true) × (o ≡ Some r)
chosen true o r e = (refl, e)
chosen false o r e = absurd cc

same_file : (o : Option FfsFile) (f g : FfsFile) → is_file o f ≡ true → is_file o g ≡ true → f.at ≡ g.at
same_file None f g p q = absurd (false≢true p)
same_file (Some h) f g p q = sym (eqb-true h.at f.at p) ∙ eqb-true h.at g.at q

-- two files of one rank are one
one_rank : (phase : Phase) (files : List FfsFile) (list : List Guid) (f g : FfsFile) (r : ℕ) → rank_of phase files list f ≡ Some r → rank_of phase files list g ≡ Some r → f.at ≡ g.at
one_rank phase files list f g r p q =
    let kept = kept_names phase files list in
    let a = chosen (is_file (bearer phase files f.name) f) (position (same_guid f.name) kept) r p in
    let b = chosen (is_file (bearer phase files g.name) g) (position (same_guid g.name) kept) r q in
    let name = get_or kept r f.name in
    let first : f.name.0 ≡ name.0 = (bytes_eq-Decides f.name.0 name.0).0 (position-Some (same_guid f.name) kept r f.name a.1).1 in
    let second : g.name.0 ≡ name.0 = (bytes_eq-Decides g.name.0 name.0).0 (position-Some (same_guid g.name) kept r f.name b.1).1 in
    let of : List ℕ → Guid = λ bytes. record { 0 = bytes } in
    let same : f.name ≡ g.name = ap of (first ∙ sym second) in
    same_file (bearer phase files f.name) f g a.0 (rw same b.0)

if_some : {A : Type 0} (o : Option A) (P : A → Type 0) → ((x : A) → o ≡ Some x → P x) → IfSome o P
if_some None P f = tt
if_some (Some x) P f = f x refl

part_if : (b : Bool) (P : Part → Type 0) (o : Option Part) → IsPartIf b P o → IfSome o P
part_if true P (Some part) p = p
part_if true P None p = tt
part_if false P (Some part) p = absurd p
part_if false P None p = tt

if_some_more : {A : Type 0} (P Q : A → Type 0) (o : Option A) → ((x : A) → P x → Q x) → IfSome o P → IfSome o Q
if_some_more P Q None f p = tt
if_some_more P Q (Some x) f p = f x p

other_ranks : (files : List FfsFile) (phase : Phase) (list : List Guid) (f g : FfsFile) → f.at < g.at → (o q : Option Part)
    → IfSome o (λ part. part.rank ≡ rank_of phase files list f) → IfSome q (λ part. part.rank ≡ rank_of phase files list g) → HaveOtherRanks o q
other_ranks files phase list f g below None q p r = tt
other_ranks files phase list f g below (Some a) None p r = tt
other_ranks files phase list f g below (Some a) (Some b) p r = if_some a.rank (λ rank. b.rank ≡ Some rank → ⊥)
    (λ rank is same. let one = one_rank phase files list f g rank (sym p ∙ is) (sym r ∙ same) in absurd (omega (arith, one)))

expression_of : (phase : Phase) (body : Option (List ℕ)) (expr : PartExpr) → IsExpression phase body expr → IsExpressionOf phase expr
expression_of phase None Absent e = tt
expression_of phase None (Malformed at) e = absurd e
expression_of phase None (Held expression) e = absurd e
expression_of phase (Some body) Absent e = absurd e
expression_of phase (Some body) (Malformed at) e = tt
expression_of phase (Some body) (Held expression) e = e.suits

of_phase : (phase own : Phase) (blocks : List (List Action)) → is_of_phase phase (record { phase = own; blocks = blocks }) ≡ true → own ≡ phase
of_phase Pei Pei blocks e = refl
of_phase Pei Dxe blocks e = absurd (false≢true e)
of_phase Dxe Pei blocks e = absurd (false≢true e)
of_phase Dxe Dxe blocks e = refl

-- a script of the phase within its length that keeps its ranges, or has no blocks
abbrev pub Suits : Phase → Script → Type 0
Suits phase script = (script.phase ≡ phase) × ((script.blocks ≡ []) ⊎ IsInGrammar script) × (length (script_bytes script) ≤ MOST_SCRIPT)

found_suits : (Q : Script → Type 0) (test : Script → Bool) (scripts : List Script) (other : Script) → Each (λ s. test s ≡ true → Q s) scripts → Q other → Q (unwrap_or (find test scripts) other)
found_suits Q test [] other e q = q
found_suits Q test (s ∷ scripts) other e q = by_test (test s) e.0 (found_suits Q test scripts other e.1 q)
  where
    by_test : (b : Bool) → (b ≡ true → Q s) → Q (unwrap_or (find test scripts) other) → Q (unwrap_or (cond b (Some s) (find test scripts)) other)
    by_test true f p = f refl
    by_test false f p = p

script_suits : (bytes : List ℕ) (read : ReadFile) (phase : Phase) → IsReadFile bytes read → Suits phase (script_for phase read.scripts)
script_suits bytes read phase is =
    let R : Section → Script → Type 0 = λ section script. IsScript (section_body bytes read.file section) script in
    let each = right_each R (λ s. is_of_phase phase s ≡ true → Suits phase s) (script_sections bytes read.file read.sections) read.scripts
    (λ section s is test. (of_phase phase s.phase s.blocks test, inr is.grammar, omega (arith, ap length is.spelled, is.short))) is.scripts in
    found_suits (Suits phase) (is_of_phase phase) read.scripts (record { phase = phase; blocks = [] }) each (refl, inl refl, omega arith)

part_of : (bytes : List ℕ) (files : List FfsFile) (reads : List ReadFile) (read : ReadFile) (phase : Phase) (part : Part)
    → IsReadFile bytes read → IsPart bytes files reads read phase part → IsPartOf phase part
part_of bytes files reads read phase part of is =
    let suits = subst (Suits phase) (sym is.script) (script_suits bytes read phase of) in
    let body : Option (List ℕ) = first_body bytes (expression_section phase) read.file read.sections in
    record {
      expression = expression_of phase body part.expr is.expression;
      short = expression_short phase body part.expr is.expression;
      script_phase = suits.0;
      script = suits.1;
      script_len = suits.2;
    }

-- modules of one volume, as every catalogue has them
pub record AreOwn (number : ℕ) (modules : List Module) : Type 0 where
  pub volumes : Each (λ m. m.volume ≡ number) modules
  pub order : Ordered Precedes modules
  pub ranks : Ordered RanksDiffer modules
  pub pei : Each (λ m. IfSome m.pei (IsPartOf Pei)) modules
  pub dxe : Each (λ m. IfSome m.dxe (IsPartOf Dxe)) modules

abbrev pub Before : ReadFile → ReadFile → Type 0
Before a b = a.file.at < b.file.at

module_ranks : (bytes : List ℕ) (files : List FfsFile) (reads : List ReadFile) (number : ℕ) (a b : ReadFile) (x y : Module)
    → Before a b → IsModule bytes files reads number a x → IsModule bytes files reads number b y → RanksDiffer x y
module_ranks bytes files reads number a b x y before p q = λ same.
    let rank : (phase : Phase) (read : ReadFile) (kinds : Bool) (o : Option Part) → IsPartIf kinds (IsPart bytes files reads read phase) o
    → IfSome o (λ part. part.rank ≡ rank_of phase files (a_priori_list bytes files reads phase) read.file)
    = λ phase read kinds o is.
    if_some_more (IsPart bytes files reads read phase) (λ part. part.rank ≡ rank_of phase files (a_priori_list bytes files reads phase) read.file) o (λ part i. i.rank)
    (part_if kinds (IsPart bytes files reads read phase) o is) in (
      other_ranks files Pei (a_priori_list bytes files reads Pei) a.file b.file before x.pei y.pei
          (rank Pei a (has_part Pei a.file.kind) x.pei p.pei) (rank Pei b (has_part Pei b.file.kind) y.pei q.pei),
      other_ranks files Dxe (a_priori_list bytes files reads Dxe) a.file b.file before x.dxe y.dxe
          (rank Dxe a (has_part Dxe a.file.kind) x.dxe p.dxe) (rank Dxe b (has_part Dxe b.file.kind) y.dxe q.dxe),
    )

module_order : (bytes : List ℕ) (files : List FfsFile) (reads : List ReadFile) (number : ℕ) (a b : ReadFile) (x y : Module)
    → Before a b → IsModule bytes files reads number a x → IsModule bytes files reads number b y → Precedes x y
module_order bytes files reads number a b x y before p q = inr (p.volume ∙ sym q.volume, omega (arith, before, p.at, q.at))

module_part : (bytes : List ℕ) (files : List FfsFile) (reads : List ReadFile) (read : ReadFile) (phase : Phase) (kinds : Bool) (o : Option Part)
    → IsReadFile bytes read → IsPartIf kinds (IsPart bytes files reads read phase) o → IfSome o (IsPartOf phase)
module_part bytes files reads read phase kinds o of is =
    if_some_more (IsPart bytes files reads read phase) (IsPartOf phase) o (λ part i. part_of bytes files reads read phase part of i)
    (part_if kinds (IsPart bytes files reads read phase) o is)

-- the parts of the modules of read files
own_parts : (bytes : List ℕ) (files : List FfsFile) (reads : List ReadFile) (number : ℕ) (of : List ReadFile) (own : List Module)
    → Each (IsReadFile bytes) of → EachPair (IsModule bytes files reads number) of own
    → Each (λ m. IfSome m.pei (IsPartOf Pei)) own × Each (λ m. IfSome m.dxe (IsPartOf Dxe)) own
own_parts bytes files reads number [] [] each pairs = (tt, tt)
own_parts bytes files reads number [] (m ∷ ms) each pairs = absurd pairs
own_parts bytes files reads number (r ∷ rs) [] each pairs = absurd pairs
own_parts bytes files reads number (r ∷ rs) (m ∷ ms) each pairs =
    let rest = own_parts bytes files reads number rs ms each.1 pairs.1 in (
      (module_part bytes files reads r Pei (has_part Pei r.file.kind) m.pei each.0 pairs.0.pei, rest.0),
      (module_part bytes files reads r Dxe (has_part Dxe r.file.kind) m.dxe each.0 pairs.0.dxe, rest.1),
    )

pub own_modules : (bytes : List ℕ) (files : List FfsFile) (reads : List ReadFile) (number : ℕ) (of : List ReadFile) (own : List Module)
    → Ordered Before of → Each (IsReadFile bytes) of → EachPair (IsModule bytes files reads number) of own → AreOwn number own
own_modules bytes files reads number of own order each pairs =
    let R = IsModule bytes files reads number in
    let parts = own_parts bytes files reads number of own each pairs in
    record {
      volumes = right_each R (λ m. m.volume ≡ number) of own (λ r m is. is.volume) pairs;
      order = right_ordered R Before Precedes of own (λ a b x y before p q. module_order bytes files reads number a b x y before p q) pairs order;
      ranks = right_ordered R Before RanksDiffer of own (λ a b x y before p q. module_ranks bytes files reads number a b x y before p q) pairs order;
      pei = parts.0;
      dxe = parts.1;
    }
