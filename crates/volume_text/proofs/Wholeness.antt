-- With a script in the grammar nothing is wrong at any of its lines.
use Rattle.std.proofs.Common.{◌≡◌, ℕ, suc, ◌+◌, ◌-◌, ◌<◌, ◌≤◌, true, false, List, [], ◌∷◌, ◌++◌, length, Option, Some, None, refl, ap, ◌∙◌, subst, arith, length-append, slice_get, nat_le, nat_lt, ◌==◌}
use Rattle.std.specs.List.{list_all, AllByRecursion}
use Rattle.std.proofs.{lemmas.Bool.and_parts, lemmas.Bool.Decides.nat_tests}
use Rattle.pi_base.specs.declared.phase.Phase.{Phase}
use Rattle.act_code.specs.{declared.action.Action.Action, declared.script.Script.Script, Format.registers_in, ScriptReading.ends_in_ret}
use Rattle.act_code.specs.Script.{IsSound, AreSound, IsBlock, IsInGrammar}
use Rattle.act_code.specs.Table.{format_of, code_of_action, operands}
use Rattle.act_code.specs.Index.{names_below}
use Rattle.source_words.specs.declared.script.script.ScriptCause.{ScriptCause}
use Rattle.source_words.specs.Script.{action_cause, action_causes, may_end, block_cause, end_cause, block_causes, causes_behind, line_causes, first_fault, HasNoFault}

is_most : (n m : ℕ) → nat_le n m ≡ true → n ≤ m
is_most n m test = grind (arith, nat_tests)

-- the last block behind others
last_of : (before : List (List Action)) (actions : List Action) → slice_get (before ++ actions ∷ []) (length (before ++ actions ∷ []) - 1) ≡ Some actions
last_of [] actions = refl
last_of (b ∷ before) actions =
    let long = length-append before (actions ∷ []) in
    let place : length ((b ∷ before) ++ actions ∷ []) - 1 ≡ suc (length (before ++ actions ∷ []) - 1) = omega arith in
    rw place (last_of before actions)

last_ends : (before : List (List Action)) (actions : List Action) → may_end (before ++ actions ∷ []) ≡ ends_in_ret actions
last_ends before actions = rw (last_of before actions) refl

-- nothing is wrong at any of these lines
abbrev AreNone : List (Option ScriptCause) → Type 0
AreNone causes = AllByRecursion (λ cause. cause ≡ None) causes

no_fault : (place : ℕ) (causes : List (Option ScriptCause)) → AreNone causes → first_fault place causes ≡ None
no_fault place [] none = refl
no_fault place (None ∷ causes) none = no_fault (place + 1) causes none.1
no_fault place (Some cause ∷ causes) none = let e : ◌≡◌ {A = Option ScriptCause} (Some cause) None = none.0 in absurd cc

both_none : (xs ys : List (Option ScriptCause)) → AreNone xs → AreNone ys → AreNone (xs ++ ys)
both_none [] ys a b = b
both_none (x ∷ xs) ys a b = (a.0, both_none xs ys a.1 b)

few : (n m : ℕ) → n < m → nat_le m n ≡ false
few n m less = grind (arith, nat_tests)

-- the actions of a block
action_none : (phase : Phase) (count before left : ℕ) (action : Action) → before < 1024 → IsSound phase count left action → action_cause count before left action ≡ None
action_none phase count before left action less sound =
    let named : names_below count action ≡ true =
    (and_parts (list_all (λ r. nat_lt r 16) (registers_in (format_of (code_of_action action)) (operands action))) (names_below count action) sound.indexed).1 in
    rw (few before 1024 less, sound.room, named) refl

actions_none : (phase : Phase) (count before : ℕ) (actions : List Action) → before + length actions ≤ 1024 → AreSound phase count (length actions) actions
    → AreNone (action_causes count before actions)
actions_none phase count before [] most sound = tt
actions_none phase count before (action ∷ actions) most sound =
    let left : length actions + 1 ≡ suc (length actions) = omega arith in
    let less : suc (length actions) - 1 ≡ length actions = omega arith in (
      ap (λ n. action_cause count before n action) left ∙ action_none phase count before (suc (length actions)) action (omega arith) sound.0,
      actions_none phase count (before + 1) actions (omega arith) (subst (λ n. AreSound phase count n actions) less sound.1),
    )

block_none : (before : List (List Action)) → may_end before ≡ true → length before < 64 → block_cause before ≡ None
block_none before ended less = rw (ended, few (length before) 64 less) refl

end_none : (before : List (List Action)) → may_end before ≡ true → 0 < length before → end_cause before ≡ None
end_none before ended some =
    let there : (length before == 0) ≡ false = grind (arith, nat_tests) in
    rw (there, ended) refl

blocks_none : (phase : Phase) (count left : ℕ) (before blocks : List (List Action)) → may_end before ≡ true → length before + length blocks ≤ 64 → 0 < length before + length blocks
    → Rattle.act_code.specs.Script.Each (λ _. IsBlock phase count) left blocks → AreNone (causes_behind count before blocks)
blocks_none phase count left before [] ended most some are = (end_none before ended (omega arith), tt)
blocks_none phase count left before (actions ∷ blocks) ended most some are =
    let block = are.0 in
    let within : length actions ≤ 1024 = is_most (length actions) 1024 (and_parts (nat_le 1 (length actions)) (nat_le (length actions) 1024) block.number).1 in
    let long = length-append before (actions ∷ []) in
    let here : AreNone (block_causes count before actions) = (block_none before ended (omega arith), actions_none phase count 0 actions (omega arith) block.sound) in
    both_none (block_causes count before actions) (causes_behind count (before ++ actions ∷ []) blocks) here
    (blocks_none phase count (left - 1) (before ++ actions ∷ []) blocks (last_ends before actions ∙ block.ret) (omega arith) (omega arith) are.1)

pub none_wrong : (script : Script) → IsInGrammar script → HasNoFault script
none_wrong script is =
    let parts = and_parts (nat_le 1 (length script.blocks)) (nat_le (length script.blocks) 64) is.number in
    let most = is_most (length script.blocks) 64 parts.1 in
    let least = is_most 1 (length script.blocks) parts.0 in
    no_fault 0 (line_causes script)
    (blocks_none script.phase (length script.blocks) (length script.blocks) [] script.blocks refl (omega (arith, most)) (omega (arith, least)) is.blocks)
