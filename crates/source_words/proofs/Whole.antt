-- A draft at none of whose lines something is wrong is a script.
use Rattle.std.proofs.Common.{◌≡◌, ◌≢◌, ℕ, suc, zero, ◌+◌, ◌-◌, ◌<◌, ◌≤◌, Bool, true, false, not, List, [], ◌∷◌, ◌++◌, length, Option, Some, None, refl, sym, ap, subst, ◌∙◌, arith, All, nat_le, nat_lt, slice_get, ◌==◌, if◌then◌else◌, length-append}
use Rattle.std.specs.{List.list_all, List.AllByRecursion, Option.option_map_or}
use Rattle.std.proofs.{lemmas.Bool.and_parts, lemmas.Bool.and_from, lemmas.Bool.Decides.nat_tests, lemmas.List.Elements.recursion_from_All}
use Rattle.std.proofs.{lemmas.Option.slice_get-get_or, Math.Seq.get_or-append_seam}
use Rattle.pi_base.specs.declared.phase.Phase.{Phase}
use Rattle.act_code.specs.{declared.action.Action.Action, declared.script.Script.Script, Format.registers_in, Format.blocks_in}
use Rattle.act_code.specs.Table.{format_of, code_of_action, operands}
use Rattle.act_code.specs.{Index.has_room, Index.names_below, ScriptReading.ends_in_ret}
use Rattle.act_code.specs.Script.{IsSound, IsBlock, IsInGrammar, Each}
use Rattle.source_words.specs.declared.script.script.ScriptCause.{ScriptCause}
use Rattle.source_words.specs.declared.script.script.ScriptCause.TheVariants.{NoBlock, NoRet, Jump, NoSuchBlock, Full}
use Rattle.source_words.specs.Script.{IsSaid, AreSaid, action_cause, action_causes, may_end, block_cause, end_cause, causes_behind, line_causes, first_fault}
use Rattle.source_words.proofs.Faults.{within_is, few_actions}

-- what the tests of an action say together
tests_by : (full room named : Bool) → (if full then Some Full else if not room then Some Jump else if not named then Some NoSuchBlock else None) ≡ None → (room ≡ true) × (named ≡ true)
tests_by true room named none = absurd cc
tests_by false false named none = absurd cc
tests_by false true false none = absurd cc
tests_by false true true none = (refl, refl)

sound_action : (phase : Phase) (count before left : ℕ) (action : Action) → IsSaid phase action → action_cause count before left action ≡ None → IsSound phase count left action
sound_action phase count before left action said none =
    let tests = tests_by (nat_le 1024 before) (has_room left action) (names_below count action) none in
    let registers = list_all (λ r. nat_lt r 16) (registers_in (format_of (code_of_action action)) (operands action)) in
    let parts = and_parts registers (list_all (λ b. nat_lt b 64) (blocks_in (format_of (code_of_action action)) (operands action))) said.indexed in
    record { is = said.is; indexed = and_from registers (names_below count action) parts.0 tests.1; room = tests.0 }

none_by : (o : Option ScriptCause) (place : ℕ) (causes : List (Option ScriptCause)) → first_fault place (o ∷ causes) ≡ None → (o ≡ None) × (first_fault (place + 1) causes ≡ None)
none_by None place causes none = (refl, none)
none_by (Some cause) place causes none = absurd cc

sound_actions : (phase : Phase) (place count before : ℕ) (actions : List Action) → AllByRecursion (IsSaid phase) actions → first_fault place (action_causes count before actions) ≡ None
    → Each (IsSound phase count) (length actions) actions
sound_actions phase place count before [] said none = tt
sound_actions phase place count before (action ∷ actions) said none =
    let parts = none_by (action_cause count before (length actions + 1) action) place (action_causes count (before + 1) actions) none in
    let here : IsSound phase count (length actions + 1) action = sound_action phase count before (length actions + 1) action said.0 parts.0 in
    let long : length actions + 1 ≡ suc (length actions) = omega arith in
    let left : length actions ≡ suc (length actions) - 1 = omega arith in
    let behind : Each (IsSound phase count) (length actions) actions = sound_actions phase (place + 1) count (before + 1) actions said.1 parts.1 in
    (subst (λ n. IsSound phase count n action) long here, subst (λ n. Each (IsSound phase count) n actions) left behind)

-- the last block of some
last_of : (before : List (List Action)) (actions : List Action) → slice_get (before ++ actions ∷ []) (length (before ++ actions ∷ []) - 1) ≡ Some actions
last_of before actions =
    let place : length (before ++ actions ∷ []) - 1 ≡ length before = omega (arith, length-append before (actions ∷ [])) in
    ap (slice_get (before ++ actions ∷ [])) place ∙ (slice_get-get_or (before ++ actions ∷ []) (length before) actions (omega (arith, length-append before (actions ∷ []))) ∙ ap Some (get_or-append_seam before actions [] actions))

last_ends : (before : List (List Action)) (actions : List Action) → may_end (before ++ actions ∷ []) ≡ ends_in_ret actions
last_ends before actions = ap (λ o. option_map_or ends_in_ret o true) (last_of before actions)

block_by : (ended full : Bool) (n : ℕ) → nat_le 64 n ≡ full → (if not ended then Some NoRet else if full then Some Full else None) ≡ None → (ended ≡ true) × (n < 64)
block_by true true n is none = absurd cc
block_by true false n is none = (refl, grind (arith, nat_tests))
block_by false full n is none = absurd cc

not_empty : (actions : List Action) → ends_in_ret actions ≡ true → 1 ≤ length actions
not_empty [] ret = absurd cc
not_empty (action ∷ actions) ret = omega arith

few_by : (before behind grown : ℕ) → before < 64 → grown ≡ before + 1 → (behind ≢ 0 → grown + behind ≤ 64) → before + suc behind ≤ 64
few_by before zero grown few is more = omega arith
few_by before (suc behind) grown few is more = let m = more (λ e. omega (arith, e)) in omega (arith, m)

-- a line `block`, or the end, stands behind blocks of which the last one ends with `ret`
after_block : (before : List (List Action)) → block_cause before ≡ None → (may_end before ≡ true) × (length before < 64)
after_block before none = block_by (may_end before) (nat_le 64 (length before)) (length before) refl none

end_by : (empty ended : Bool) → (if empty then Some NoBlock else if not ended then Some NoRet else None) ≡ None → (empty ≡ false) × (ended ≡ true)
end_by true ended none = absurd cc
end_by false true none = (refl, refl)
end_by false false none = absurd cc

-- the blocks behind others may stand there, and the others end with `ret`
pub record MayStand (phase : Phase) (count : ℕ) (before blocks : List (List Action)) : Type 0 where
  pub ended : may_end before ≡ true
  pub some : 0 < length before + length blocks
  pub few : length blocks ≢ 0 → length before + length blocks ≤ 64
  pub are : (n : ℕ) → Each (λ _. IsBlock phase count) n blocks

sound_block : (phase : Phase) (place count : ℕ) (actions : List Action) → AllByRecursion (IsSaid phase) actions → first_fault place (action_causes count 0 actions) ≡ None → ends_in_ret actions ≡ true → IsBlock phase count actions
sound_block phase place count actions said none ret =
    let few = few_actions place count 0 actions none (omega arith) in
    let some : 1 ≤ length actions = not_empty actions ret in
    record { number = within_is 1 1024 (length actions) some (omega arith); sound = sound_actions phase place count 0 actions said none; ret = ret }

-- the lines of a block and those behind it
split_none : (place : ℕ) (xs ys : List (Option ScriptCause)) → first_fault place (xs ++ ys) ≡ None → (first_fault place xs ≡ None) × (first_fault (place + length xs) ys ≡ None)
split_none place [] ys none = let e : place + 0 ≡ place = omega arith in (refl, ap (λ n. first_fault n ys) e ∙ none)
split_none place (None ∷ xs) ys none =
    let parts = split_none (place + 1) xs ys none in
    let e : place + suc (length xs) ≡ place + 1 + length xs = omega arith in
    (parts.0, ap (λ n. first_fault n ys) e ∙ parts.1)
split_none place (Some cause ∷ xs) ys none = absurd cc

stand : (phase : Phase) (place count : ℕ) (before blocks : List (List Action)) → AllByRecursion (All (IsSaid phase)) blocks → first_fault place (causes_behind count before blocks) ≡ None → MayStand phase count before blocks
stand phase place count before [] said none =
    let parts = none_by (end_cause before) place [] none in
    let tests = end_by (length before == 0) (may_end before) parts.0 in
    let e = tests.0 in
    record { ended = tests.1; some = grind (arith, nat_tests); few = λ never. absurd (never refl); are = λ n. tt }
stand phase place count before (actions ∷ blocks) said none =
    let parts = none_by (block_cause before) place (action_causes count 0 actions ++ causes_behind count (before ++ actions ∷ []) blocks) none in
    let here = after_block before parts.0 in
    let lines = split_none (place + 1) (action_causes count 0 actions) (causes_behind count (before ++ actions ∷ []) blocks) parts.1 in
    let rest = stand phase (place + 1 + length (action_causes count 0 actions)) count (before ++ actions ∷ []) blocks said.1 lines.1 in
    let long = length-append before (actions ∷ []) in
    let ret : ends_in_ret actions ≡ true = sym (last_ends before actions) ∙ rest.ended in
    let block = sound_block phase (place + 1) count actions (recursion_from_All (IsSaid phase) actions said.0) lines.0 ret in
    record {
      ended = here.0;
      some = omega arith;
      few = λ _. few_by (length before) (length blocks) (length (before ++ actions ∷ [])) here.1 long rest.few;
      are = λ n. (block, rest.are (n - 1));
    }

pub in_grammar : (draft : Script) → AreSaid draft → first_fault 0 (line_causes draft) ≡ None → IsInGrammar draft
in_grammar draft said none =
    let all = stand draft.phase 0 (length draft.blocks) [] draft.blocks (recursion_from_All (All (IsSaid draft.phase)) draft.blocks said) none in
    let some = all.some in
    let few = all.few (λ e. omega (arith, some, e)) in
    record { number = within_is 1 64 (length draft.blocks) (omega arith) (omega arith); blocks = all.are (length draft.blocks) }
