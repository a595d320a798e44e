-- The lines of files say the files again.
use Rattle.std.proofs.Common.{◌≡◌, inl, inr, ℕ, true, List, [], ◌∷◌, ◌++◌, map, flat_map, Ok, refl, sym, ap, subst, append_assoc, codes, ◌==◌, eqb-true, append-nil}
use Rattle.std.specs.List.{list_any, AllByRecursion}
use Rattle.std.proofs.lemmas.Bool.{and_parts}
use Rattle.pi_base.specs.declared.phase.Phase.{Phase}
use Rattle.act_code.specs.declared.action.Action.{Action}
use Rattle.asm_text.specs.ActionText.{action_text}
use Rattle.asm_text.specs.ScriptText.{line, block_text, action_line, block_lines}
use Rattle.source_words.proofs.PrintedActions.{IsGoodAction, action_read}
use Rattle.fv_volume.specs.{declared.build.new_file.NewFile.NewFile, declared.build.new_file.NewSection.NewSection, Reading.AreEach}
use Rattle.volume_text.specs.{Open.is_depex_of, Open.is_script_of, Script.action_at, Script.said_by}
use Rattle.volume_text.specs.Volume.{SayBlocks, no_block, block, action}
use Rattle.volume_again.specs.Again.{IsSectionAgain}
use Rattle.volume_again.proofs.TextLines.{Has, has_none, has_line, has_both}
use Rattle.volume_again.proofs.SaidLines.{block_says, action_says}

-- the lines of a script
abbrev pub block_texts : List Action → List (List ℕ)
block_texts actions = codes "block" ∷ map action_text actions

actions_say : (phase : Phase) (lines : List (List ℕ)) (done : List (List Action)) (actions more : List Action) → AllByRecursion (IsGoodAction phase) more
    → SayBlocks phase lines (done ++ actions ∷ []) → SayBlocks phase (lines ++ map action_text more) (done ++ (actions ++ more) ∷ [])
actions_say phase lines done actions [] good say =
    subst (λ (ls : List (List ℕ)). SayBlocks phase ls (done ++ (actions ++ []) ∷ [])) (sym (append-nil lines))
    (subst (λ (list : List Action). SayBlocks phase lines (done ++ list ∷ [])) (sym (append-nil actions)) say)
actions_say phase lines done actions (a ∷ more) good say =
    let is : action_at phase (action_text a) ≡ Ok a = ap said_by (action_read phase a good.0) in
    let next = action lines done actions (action_text a) (action_text a) a say (action_says phase a good.0).says is in
    let rest = actions_say phase (lines ++ action_text a ∷ []) done (actions ++ a ∷ []) more good.1 next in
    subst (λ (ls : List (List ℕ)). SayBlocks phase ls (done ++ (actions ++ a ∷ more) ∷ [])) (append_assoc lines (action_text a ∷ []) (map action_text more))
    (subst (λ (list : List Action). SayBlocks phase ((lines ++ action_text a ∷ []) ++ map action_text more) (done ++ list ∷ [])) (append_assoc actions (a ∷ []) more) rest)

blocks_say : (phase : Phase) (lines : List (List ℕ)) (done blocks : List (List Action)) → AllByRecursion (AllByRecursion (IsGoodAction phase)) blocks → SayBlocks phase lines done
    → SayBlocks phase (lines ++ flat_map block_texts blocks) (done ++ blocks)
blocks_say phase lines done [] good say =
    subst (λ (ls : List (List ℕ)). SayBlocks phase ls (done ++ [])) (sym (append-nil lines)) (subst (λ (bs : List (List Action)). SayBlocks phase lines bs) (sym (append-nil done)) say)
blocks_say phase lines done (actions ∷ blocks) good say =
    let begun = block lines done (codes "block") say block_says.says in
    let first = actions_say phase (lines ++ codes "block" ∷ []) done [] actions good.0 begun in
    let here : (lines ++ codes "block" ∷ []) ++ map action_text actions ≡ lines ++ block_texts actions = append_assoc lines (codes "block" ∷ []) (map action_text actions) in
    let next = subst (λ (ls : List (List ℕ)). SayBlocks phase ls (done ++ actions ∷ [])) here first in
    let rest = blocks_say phase (lines ++ block_texts actions) (done ++ actions ∷ []) blocks good.1 next in
    subst (λ (ls : List (List ℕ)). SayBlocks phase ls (done ++ actions ∷ blocks)) (append_assoc lines (block_texts actions) (flat_map block_texts blocks))
    (subst (λ (bs : List (List Action)). SayBlocks phase ((lines ++ block_texts actions) ++ flat_map block_texts blocks) bs) (append_assoc done (actions ∷ []) blocks) rest)

pub script_says : (phase : Phase) (blocks : List (List Action)) → AllByRecursion (AllByRecursion (IsGoodAction phase)) blocks → SayBlocks phase (flat_map block_texts blocks) blocks
script_says phase blocks good = blocks_say phase [] [] blocks good no_block

action_lines : (phase : Phase) (actions : List Action) → AllByRecursion (IsGoodAction phase) actions → Has (flat_map action_line actions) (map action_text actions)
action_lines phase [] good = has_none
action_lines phase (a ∷ actions) good =
    has_both (action_line a) (flat_map action_line actions) (action_text a ∷ []) (map action_text actions) (has_line (action_text a) (action_says phase a good.0).is) (action_lines phase actions good.1)

block_has : (phase : Phase) (actions : List Action) → AllByRecursion (IsGoodAction phase) actions → Has (block_lines actions) (block_texts actions)
unfolding block_text
block_has phase actions good =
    has_both (line (codes "block")) (flat_map action_line actions) (codes "block" ∷ []) (map action_text actions) (has_line (codes "block") block_says.is) (action_lines phase actions good)

pub script_has : (phase : Phase) (blocks : List (List Action)) → AllByRecursion (AllByRecursion (IsGoodAction phase)) blocks → Has (flat_map block_lines blocks) (flat_map block_texts blocks)
script_has phase [] good = has_none
script_has phase (actions ∷ blocks) good =
    has_both (block_lines actions) (flat_map block_lines blocks) (block_texts actions) (flat_map block_texts blocks) (block_has phase actions good.0) (script_has phase blocks good.1)

-- which sections are scripts does not change
same_script : (Inner : List ℕ → List ℕ → Type 0) (host : NewFile) (phase : Phase) (section again : NewSection) → IsSectionAgain Inner host section again → is_script_of phase again ≡ is_script_of phase section
same_script Inner host phase section again (kind, long, inl body) = rw (kind, body) refl
same_script Inner host phase section again (kind, long, inr inside) =
    let volume : (section.kind == 23) ≡ true = (and_parts (host.kind == 11) (section.kind == 23) inside.0).1 in
    let is : section.kind ≡ 23 = eqb-true section.kind 23 volume in
    rw (kind, is) refl

pub same_scripts : (Inner : List ℕ → List ℕ → Type 0) (host : NewFile) (phase : Phase) (sections others : List NewSection) → AreEach (IsSectionAgain Inner host) sections others
    → list_any (is_script_of phase) others ≡ list_any (is_script_of phase) sections
same_scripts Inner host phase [] [] each = refl
same_scripts Inner host phase [] (other ∷ others) each = absurd each
same_scripts Inner host phase (section ∷ sections) [] each = absurd each
same_scripts Inner host phase (section ∷ sections) (other ∷ others) each =
    rw (same_script Inner host phase section other each.0, same_scripts Inner host phase sections others each.1) refl

-- nor which have expressions
pub same_depexes : (Inner : List ℕ → List ℕ → Type 0) (host : NewFile) (phase : Phase) (sections others : List NewSection) → AreEach (IsSectionAgain Inner host) sections others
    → list_any (is_depex_of phase) others ≡ list_any (is_depex_of phase) sections
same_depexes Inner host phase [] [] each = refl
same_depexes Inner host phase [] (other ∷ others) each = absurd each
same_depexes Inner host phase (section ∷ sections) [] each = absurd each
same_depexes Inner host phase (section ∷ sections) (other ∷ others) each =
    rw (each.0.0, same_depexes Inner host phase sections others each.1) refl
