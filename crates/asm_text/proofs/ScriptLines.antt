-- The lines of a script.
use Rattle.std.proofs.Common.{◌≡◌, ℕ, List, [], ◌∷◌, ◌++◌, length, map, take, flat_map, Bool, true, false, refl, sym, ap, subst, ◌∙◌, append_assoc, codes, bytes_eq, append-nil, take_at}
use Rattle.std.specs.List.{AllByRecursion}
use Rattle.std.proofs.lemmas.Bool.{false≢true}
use Rattle.pi_base.specs.{declared.phase.Phase.Phase, declared.phase.Phase.TheVariants.Pei, declared.phase.Phase.TheVariants.Dxe}
use Rattle.act_code.specs.{declared.action.Action.Action, declared.code.Code.Code, declared.script.Script.Script}
use Rattle.act_code.specs.declared.code.Code.TheVariants as code
use Rattle.act_code.specs.Table.{name_of, code_of_action}
use Rattle.asm_text.specs.ActionText.{spaced, operand_words, action_text}
use Rattle.line_words.specs.PrintedWords.{Lacks}
use Rattle.line_words.proofs.Comparisons.{same}
use Rattle.asm_text.specs.{ReadScript.IsWellFormed, WordReading.space_place}
use Rattle.asm_text.specs.ScriptText.{phase_text, block_text, line, action_line, block_lines, script_text}
use Rattle.asm_text.proofs.WordSplits.{Stands, word_end, stands_too}
use Rattle.asm_text.proofs.{ActionLines.IsGoodAction, ActionLines.name_plain, LineTexts.action_lacks, LineTexts.all_both}
use Rattle.asm_text.proofs.Blocks.{IsClosedBlock, well_made}

abbrev pub lines_of_block : List Action → List (List ℕ)
lines_of_block actions = block_text ∷ map action_text actions

-- the lines behind the first
abbrev pub body_lines : List (List Action) → List (List ℕ)
body_lines blocks = flat_map lines_of_block blocks

abbrev pub lines_of : Script → List (List ℕ)
lines_of script = phase_text script.phase ∷ body_lines script.blocks

pub flat_both : {A B : Type 0} (f : A → List B) (xs ys : List A) → flat_map f (xs ++ ys) ≡ flat_map f xs ++ flat_map f ys
flat_both f [] ys = refl
flat_both f (x ∷ xs) ys = ap (λ t. f x ++ t) (flat_both f xs ys) ∙ sym (append_assoc (f x) (flat_map f xs) (flat_map f ys))

actions_text : (actions : List Action) → flat_map action_line actions ≡ flat_map line (map action_text actions)
actions_text [] = refl
actions_text (a ∷ actions) = ap (λ t. action_line a ++ t) (actions_text actions)

blocks_text : (blocks : List (List Action)) → flat_map block_lines blocks ≡ flat_map line (body_lines blocks)
blocks_text [] = refl
blocks_text (b ∷ blocks) =
    ap (λ t. (line block_text ++ t) ++ flat_map block_lines blocks) (actions_text b) ∙ ap (λ t. (line block_text ++ flat_map line (map action_text b)) ++ t) (blocks_text blocks)
    ∙ sym (flat_both line (lines_of_block b) (body_lines blocks))

pub text_is : (script : Script) → script_text script ≡ flat_map line (lines_of script)
text_is script = ap (λ t. line (phase_text script.phase) ++ t) (blocks_text script.blocks)

-- no line has a line feed before its end
pub phase_lacks : (phase : Phase) → Lacks 10 (phase_text phase)
unfolding phase_text
phase_lacks Pei = refl
phase_lacks Dxe = refl

block_lacks : Lacks 10 block_text
unfolding block_text
block_lacks = refl

actions_lack : (phase : Phase) (actions : List Action) → AllByRecursion (IsGoodAction phase) actions → AllByRecursion (Lacks 10) (map action_text actions)
actions_lack phase [] good = tt
actions_lack phase (a ∷ actions) good = (action_lacks phase a good.0, actions_lack phase actions good.1)

body_lacks : (phase : Phase) (blocks : List (List Action)) → AllByRecursion (IsClosedBlock phase) blocks → AllByRecursion (Lacks 10) (body_lines blocks)
body_lacks phase [] closed = tt
body_lacks phase (b ∷ blocks) closed =
    all_both (lines_of_block b) (body_lines blocks) (block_lacks, actions_lack phase b closed.0.good) (body_lacks phase blocks closed.1)

pub lines_lack : (script : Script) → IsWellFormed script → AllByRecursion (Lacks 10) (lines_of script)
lines_lack script well = (phase_lacks script.phase, body_lacks script.phase script.blocks (well_made script well).closed)

-- the phases have different lines
pub phase_one : (p q : Phase) → phase_text p ≡ phase_text q → p ≡ q
unfolding phase_text
phase_one Pei Pei is = refl
phase_one Dxe Dxe is = refl
phase_one Pei Dxe is = let test : bytes_eq (codes "phase pei") (codes "phase dxe") ≡ true = (same (codes "phase pei") (codes "phase dxe")).1 is in absurd (false≢true test)
phase_one Dxe Pei is = let test : bytes_eq (codes "phase dxe") (codes "phase pei") ≡ true = (same (codes "phase dxe") (codes "phase pei")).1 is in absurd (false≢true test)

-- no action has the line of a block
no_block_name : (c : Code) → bytes_eq (name_of c) (codes "block") ≡ false
unfolding name_of
no_block_name code.Set = refl
no_block_name _ = refl

name_cut : (a : Action) → take (space_place (action_text a)) (action_text a) ≡ name_of (code_of_action a)
name_cut a =
    let name = name_of (code_of_action a) in
    let text = flat_map spaced (operand_words a) in
    let stands : Stands text = subst Stands (append-nil text) (stands_too (operand_words a) [] tt) in
    rw (word_end name text (name_plain (code_of_action a)) stands) (take_at name text (length name) refl)

block_cut : take (space_place block_text) block_text ≡ codes "block"
unfolding block_text
block_cut = refl

false_by : (test : Bool) → (test ≡ true → ⊥) → test ≡ false
false_by true never = absurd (never refl)
false_by false never = refl

pub no_block : (a : Action) → bytes_eq (action_text a) block_text ≡ false
no_block a =
    false_by (bytes_eq (action_text a) block_text) (λ test.
    let is : action_text a ≡ block_text = (same (action_text a) block_text).0 test in
    let name : name_of (code_of_action a) ≡ codes "block" = sym (name_cut a) ∙ ap (λ t. take (space_place t) t) is ∙ block_cut in
    false≢true (sym (no_block_name (code_of_action a)) ∙ (same (name_of (code_of_action a)) (codes "block")).1 name))
