-- An action of a block of a module's script is in the grammar of its phase, names blocks that a script may have, and stands at a place that a block may have.
use Rattle.std.proofs.Common.{◌≡◌, ◌⊎◌, ℕ, zero, suc, ◌-◌, ◌≤◌, ◌<◌, ◌&&◌, Bool, true, false, List, [], ◌∷◌, length, arith, refl, ap, ◌∙◌, subst, Option, Some, None, inl, inr, slice_get, nat_lt, IfSome, unwrap_or, option_and_then}
use Rattle.std.specs.List.{list_all}
use Rattle.std.proofs.{lemmas.Bool.Decides.nat_tests, lemmas.Option.slice_get_within}
use Rattle.pi_base.specs.{declared.phase.Phase.Phase, declared.phase.Phase.TheVariants.Pei, declared.phase.Phase.TheVariants.Dxe}
use Rattle.pi_base.specs.{declared.word.Word.TheVariants.Success, Lists.Each}
use Rattle.act_code.specs.{declared.action.Action.Action, declared.action.Action.TheVariants.Ret, declared.script.Script.Script}
use Rattle.act_code.specs.Format.{is_within, registers_in, blocks_in}
use Rattle.act_code.specs.Index.{is_indexed}
use Rattle.act_code.specs.Script.{IsBlock, AreSound, IsSound, IsInGrammar}
use Rattle.act_code.specs.Script as S
use Rattle.act_code.specs.Table.{format_of, code_of_action, operands}
use Rattle.mod_catalog.specs.{declared.catalogue.Catalog.Catalog, declared.catalogue.Module.Module, declared.catalogue.Part.Part}
use Rattle.mod_catalog.specs.WellFormed.{IsPartOf, IsWellFormed, part_of}
use Rattle.mod_catalog.specs.Parts.{block_of, part_at}

more : (n m k : ℕ) → m ≤ k → nat_lt n m ≡ true → nat_lt n k ≡ true
more n m k le e = grind (arith, nat_tests, le, e)

and_both : (a b c d : Bool) → (a ≡ true → c ≡ true) → (b ≡ true → d ≡ true) → (a && b) ≡ true → (c && d) ≡ true
and_both true b c d f g e = let one = f refl in let other = g e in cc
and_both false b c d f g e = cc

all_more : (m k : ℕ) → m ≤ k → (blocks : List ℕ) → list_all (λ n. nat_lt n m) blocks ≡ true → list_all (λ n. nat_lt n k) blocks ≡ true
all_more m k le [] e = refl
all_more m k le (n ∷ rest) e = and_both (nat_lt n m) (list_all (λ x. nat_lt x m) rest) (nat_lt n k) (list_all (λ x. nat_lt x k) rest) (more n m k le) (all_more m k le rest) e

-- an action that names blocks below a number names blocks below a greater one
indexed_more : (m k : ℕ) (action : Action) → m ≤ k → is_indexed m action ≡ true → is_indexed k action ≡ true
indexed_more m k action le e =
    let registers = registers_in (format_of (code_of_action action)) (operands action) in
    let blocks = blocks_in (format_of (code_of_action action)) (operands action) in
    and_both (list_all (λ r. nat_lt r 16) registers) (list_all (λ b. nat_lt b m) blocks) (list_all (λ r. nat_lt r 16) registers) (list_all (λ b. nat_lt b k) blocks) (λ h. h) (all_more m k le blocks) e

-- an action of sound ones
sound_at : (phase : Phase) (count left : ℕ) (actions : List Action) (i : ℕ) (action : Action) → AreSound phase count left actions → slice_get actions i ≡ Some action → (l : ℕ) × IsSound phase count l action
sound_at phase count left [] zero action each e = cc
sound_at phase count left [] (suc i) action each e = cc
sound_at phase count left (first ∷ rest) zero action each e = let same : first ≡ action = cc in (left, subst (λ a. IsSound phase count left a) same each.0)
sound_at phase count left (first ∷ rest) (suc i) action each e = sound_at phase count (left - 1) rest i action each.1 e

block_at : (phase : Phase) (count left : ℕ) (blocks : List (List Action)) (i : ℕ) (block : List Action) → S.Each (λ _. IsBlock phase count) left blocks → slice_get blocks i ≡ Some block → IsBlock phase count block
block_at phase count left [] zero block each e = cc
block_at phase count left [] (suc i) block each e = cc
block_at phase count left (first ∷ rest) zero block each e = let same : first ≡ block = cc in subst (λ b. IsBlock phase count b) same each.0
block_at phase count left (first ∷ rest) (suc i) block each e = block_at phase count (left - 1) rest i block each.1 e

none_of : (blocks : List (List Action)) (i : ℕ) (block : List Action) → blocks ≡ [] → slice_get blocks i ≡ Some block → ⊥
none_of [] zero block none e = cc
none_of [] (suc i) block none e = cc
none_of (first ∷ rest) i block none e = cc

within_high : (n low high : ℕ) → is_within low high n ≡ true → n ≤ high
within_high n low high e = grind (arith, nat_tests, e)

-- an action of a script of the phase, which names blocks that a script may have
pub record IsOfScript (phase : Phase) (action : Action) : Type 0 where
  pub is : S.IsAction phase action
  pub indexed : is_indexed 64 action ≡ true

-- the same, and its place in its block
pub record Fits (phase : Phase) (place : ℕ) (action : Action) : Type 0 where
  pub script : IsOfScript phase action
  pub position : place < 1024

-- the same, in the script of a module of the catalogue
pub record FitsIn (phase : Phase) (catalog : Catalog) (number place : ℕ) (action : Action) : Type 0 where
  pub fits : Fits phase place action
  pub here : number < length catalog.modules

in_grammar : (phase : Phase) (script : Script) (b p : ℕ) (block : List Action) (action : Action) → script.phase ≡ phase → IsInGrammar script → slice_get script.blocks b ≡ Some block → slice_get block p ≡ Some action → Fits phase p action
in_grammar phase script b p block action of grammar e f =
    let is : IsBlock script.phase (length script.blocks) block = block_at script.phase (length script.blocks) (length script.blocks) script.blocks b block grammar.blocks e in
    let sound = sound_at script.phase (length script.blocks) (length block) block p action is.sound f in
    let few : length block ≤ 1024 = within_high (length block) 1 1024 is.number in
    let inside : p < length block = slice_get_within block p action f in
    let below : length script.blocks ≤ 64 = within_high (length script.blocks) 1 64 grammar.number in
    record {
      script = record { is = subst (λ x. S.IsAction x action) of sound.1.is; indexed = indexed_more (length script.blocks) 64 action below sound.1.indexed };
      position = omega (arith, few, inside);
    }

in_script : (phase : Phase) (script : Script) (b p : ℕ) (block : List Action) (action : Action) → script.phase ≡ phase → ((script.blocks ≡ []) ⊎ IsInGrammar script) → slice_get script.blocks b ≡ Some block → slice_get block p ≡ Some action → Fits phase p action
in_script phase script b p block action of (inl none) e f = absurd (none_of script.blocks b block none e)
in_script phase script b p block action of (inr grammar) e f = in_grammar phase script b p block action of grammar e f

in_block : (phase : Phase) (part : Part) (b p : ℕ) (action : Action) (o : Option (List Action)) → IsPartOf phase part → slice_get part.script.blocks b ≡ o → option_and_then (λ block. slice_get block p) o ≡ Some action → Fits phase p action
in_block phase part b p action None is e f = cc
in_block phase part b p action (Some block) is e f = in_script phase part.script b p block action is.script_phase is.script e f

in_part : (phase : Phase) (b p : ℕ) (action : Action) (o : Option Part) → IfSome o (IsPartOf phase) → option_and_then (λ block. slice_get block p) (option_and_then (λ part. slice_get part.script.blocks b) o) ≡ Some action → Fits phase p action
in_part phase b p action None is f = cc
in_part phase b p action (Some part) is f = in_block phase part b p action (slice_get part.script.blocks b) is refl f

-- the module of a number has what each module has
each_at : {A : Type 0} (P : A → Type 0) (xs : List A) (i : ℕ) (x : A) → Each P xs → slice_get xs i ≡ Some x → P x
each_at P [] zero x each e = cc
each_at P [] (suc i) x each e = cc
each_at P (first ∷ rest) zero x each e = let same : first ≡ x = cc in subst P same each.0
each_at P (first ∷ rest) (suc i) x each e = each_at P rest i x each.1 e

part_is : (phase : Phase) (catalog : Catalog) (number : ℕ) (m : Module) → IsWellFormed catalog → slice_get catalog.modules number ≡ Some m → IfSome (part_of phase m) (IsPartOf phase)
part_is Pei catalog number m well e = each_at (λ x. IfSome x.pei (IsPartOf Pei)) catalog.modules number m well.pei_parts e
part_is Dxe catalog number m well e = each_at (λ x. IfSome x.dxe (IsPartOf Dxe)) catalog.modules number m well.dxe_parts e

in_module : (phase : Phase) (catalog : Catalog) (number b p : ℕ) (action : Action) (o : Option Module) → IsWellFormed catalog → slice_get catalog.modules number ≡ o
    → option_and_then (λ block. slice_get block p) (option_and_then (λ part. slice_get part.script.blocks b) (option_and_then (part_of phase) o)) ≡ Some action → FitsIn phase catalog number p action
in_module phase catalog number b p action None well e f = cc
in_module phase catalog number b p action (Some m) well e f =
    record { fits = in_part phase b p action (part_of phase m) (part_is phase catalog number m well e) f; here = slice_get_within catalog.modules number m e }

pub script_action : (phase : Phase) (catalog : Catalog) (number b p : ℕ) (action : Action) → IsWellFormed catalog
    → option_and_then (λ block. slice_get block p) (option_and_then (λ part. slice_get part.script.blocks b) (part_at phase catalog number)) ≡ Some action
    → FitsIn phase catalog number p action
script_action phase catalog number b p action well e = in_module phase catalog number b p action (slice_get catalog.modules number) well refl e

-- behind the end of a block a script returns
ret : (phase : Phase) → IsOfScript phase (Ret Success)
ret Pei = record { is = record { of_phase = refl; in_range = tt }; indexed = refl }
ret Dxe = record { is = record { of_phase = refl; in_range = tt }; indexed = refl }

in_place : (phase : Phase) (catalog : Catalog) (number b p : ℕ) (block : List Action) (action : Option Action) → IsWellFormed catalog
    → option_and_then (λ part. slice_get part.script.blocks b) (part_at phase catalog number) ≡ Some block → slice_get block p ≡ action
    → IsOfScript phase (unwrap_or action (Ret Success))
in_place phase catalog number b p block None well e f = ret phase
in_place phase catalog number b p block (Some action) well e f =
    (script_action phase catalog number b p action well (ap (option_and_then (λ block. slice_get block p)) e ∙ f)).fits.script

in_found : (phase : Phase) (catalog : Catalog) (number b p : ℕ) (block : Option (List Action)) → IsWellFormed catalog
    → option_and_then (λ part. slice_get part.script.blocks b) (part_at phase catalog number) ≡ block
    → IsOfScript phase (unwrap_or (slice_get (unwrap_or block []) p) (Ret Success))
in_found phase catalog number b zero None well e = ret phase
in_found phase catalog number b (suc p) None well e = ret phase
in_found phase catalog number b p (Some block) well e = in_place phase catalog number b p block (slice_get block p) well e refl

pub taken_action : (phase : Phase) (catalog : Catalog) (number b p : ℕ) → IsWellFormed catalog → IsOfScript phase (unwrap_or (slice_get (block_of phase catalog number b) p) (Ret Success))
taken_action phase catalog number b p well = in_found phase catalog number b p (option_and_then (λ part. slice_get part.script.blocks b) (part_at phase catalog number)) well refl
