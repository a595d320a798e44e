-- The first line at which something is wrong, looked for line by line.
use Rattle.std.proofs.Common.{◌≡◌, ℕ, suc, ◌+◌, ◌-◌, ◌<◌, ◌≤◌, Bool, true, false, not, List, [], ◌∷◌, ◌++◌, length, take, drop, get_or, Option, Some, None, refl, sym, ap, ◌∙◌, arith, length-drop, nat_le, if◌then◌else◌, append-nil, take_all}
use Rattle.std.proofs.lemmas.Bool.Decides.{nat_tests}
use Rattle.std.proofs.lemmas.List.{take_more, drop_more, drop_all}
use Rattle.act_code.specs.{declared.action.Action.Action, Format.is_within, Index.has_room, Index.names_below}
use Rattle.source_words.specs.declared.script.script.ScriptCause.{ScriptCause}
use Rattle.source_words.specs.declared.script.script.ScriptCause.TheVariants.{NoRet, Jump, NoSuchBlock, Full}
use Rattle.source_words.specs.Script.{action_cause, action_causes, may_end, block_cause, block_causes, end_cause, causes_behind, first_fault}

pub within_is : (low high n : ℕ) → low ≤ n → n ≤ high → is_within low high n ≡ true
within_is low high n least few = grind (arith, nat_tests)

abbrev Found : Type 0
Found = ℕ × ScriptCause

-- lines at which nothing is wrong, and those behind them
pub behind_sound : (place from : ℕ) (xs ys : List (Option ScriptCause)) → first_fault from xs ≡ None → first_fault place (xs ++ ys) ≡ first_fault (place + length xs) ys
behind_sound place from [] ys sound = let e : place ≡ place + 0 = omega arith in ap (λ n. first_fault n ys) e
behind_sound place from (None ∷ xs) ys sound =
    let e : place + 1 + length xs ≡ place + suc (length xs) = omega arith in
    behind_sound (place + 1) (from + 1) xs ys sound ∙ ap (λ n. first_fault n ys) e
behind_sound place from (Some cause ∷ xs) ys sound = absurd cc

-- the first of lines, where they stand behind others and before others
pub among : (place from within : ℕ) (cause : ScriptCause) (xs ys : List (Option ScriptCause)) → first_fault from xs ≡ Some (within, cause) → first_fault (place + from) (xs ++ ys) ≡ Some (place + within, cause)
among place from within cause [] ys here = absurd cc
among place from within cause (None ∷ xs) ys here =
    let e : place + from + 1 ≡ place + (from + 1) = omega arith in
    ap (λ n. first_fault n (xs ++ ys)) e ∙ among place (from + 1) within cause xs ys here
among place from within cause (Some other ∷ xs) ys here =
    let same : ◌≡◌ {A = Found} (from, other) (within, cause) = cc in
    ap (λ (f : Found). Some (place + f.0, f.1)) same

pub as_many : (count before : ℕ) (actions : List Action) → length (action_causes count before actions) ≡ length actions
as_many count before [] = refl
as_many count before (action ∷ actions) = ap suc (as_many count (before + 1) actions)

full_by : (test others : Bool) (last : Bool) → (if test then Some Full else if others then Some Jump else if last then Some NoSuchBlock else None) ≡ None → test ≡ false
full_by true others last none = absurd cc
full_by false others last none = refl

-- an action at which nothing is wrong is one of the first 1,024
pub not_full : (count before left : ℕ) (action : Action) → action_cause count before left action ≡ None → before < 1024
not_full count before left action none =
    let test : nat_le 1024 before ≡ false = full_by (nat_le 1024 before) (not (has_room left action)) (not (names_below count action)) none in
    grind (arith, nat_tests)

rest_by : (o : Option ScriptCause) (place : ℕ) (causes : List (Option ScriptCause)) → first_fault place (o ∷ causes) ≡ None → (o ≡ None) × (first_fault (place + 1) causes ≡ None)
rest_by None place causes none = (refl, none)
rest_by (Some cause) place causes none = absurd cc

pub few_actions : (place count before : ℕ) (actions : List Action) → first_fault place (action_causes count before actions) ≡ None → before ≤ 1024 → before + length actions ≤ 1024
few_actions place count before [] none few = omega arith
few_actions place count before (action ∷ actions) none few =
    let parts = rest_by (action_cause count before (length actions + 1) action) place (action_causes count (before + 1) actions) none in
    let here = not_full count before (length actions + 1) action parts.0 in
    let more = few_actions (place + 1) count (before + 1) actions parts.1 (omega arith) in
    omega arith

-- a step of the search among actions
one_action : (count index : ℕ) (actions : List Action) (action : Action) → index < length actions → action ≡ get_or actions index action
    → first_fault index (action_causes count index (drop index actions))
    ≡ first_fault index (action_cause count index (length actions - index) action ∷ action_causes count (index + 1) (drop (index + 1) actions))
one_action count index actions action within is =
    let split : drop index actions ≡ action ∷ drop (index + 1) actions = drop_more actions index action within ∙ ap (λ a. a ∷ drop (index + 1) actions) (sym is) in
    let left : length (drop (index + 1) actions) + 1 ≡ length actions - index = omega (arith, length-drop (index + 1) actions, within) in
    ap (λ l. first_fault index (action_causes count index l)) split
    ∙ ap (λ n. first_fault index (action_cause count index n action ∷ action_causes count (index + 1) (drop (index + 1) actions))) left

pub next_action : (count index : ℕ) (actions : List Action) (action : Action) → index < length actions → action ≡ get_or actions index action
    → action_cause count index (length actions - index) action ≡ None
    → first_fault index (action_causes count index (drop index actions)) ≡ first_fault (index + 1) (action_causes count (index + 1) (drop (index + 1) actions))
next_action count index actions action within is none =
    one_action count index actions action within is ∙ ap (λ (o : Option ScriptCause). first_fault index (o ∷ action_causes count (index + 1) (drop (index + 1) actions))) none

pub here_action : (count index : ℕ) (cause : ScriptCause) (actions : List Action) (action : Action) → index < length actions → action ≡ get_or actions index action
    → action_cause count index (length actions - index) action ≡ Some cause → first_fault index (action_causes count index (drop index actions)) ≡ Some (index, cause)
here_action count index cause actions action within is found =
    one_action count index actions action within is ∙ ap (λ (o : Option ScriptCause). first_fault index (o ∷ action_causes count (index + 1) (drop (index + 1) actions))) found

-- a step of the search among blocks
one_block : (count index place : ℕ) (blocks : List (List Action)) (actions : List Action) → index < length blocks → actions ≡ get_or blocks index actions
    → first_fault place (causes_behind count (take index blocks) (drop index blocks))
    ≡ first_fault place (block_causes count (take index blocks) actions ++ causes_behind count (take (index + 1) blocks) (drop (index + 1) blocks))
one_block count index place blocks actions within is =
    let split : drop index blocks ≡ actions ∷ drop (index + 1) blocks = drop_more blocks index actions within ∙ ap (λ a. a ∷ drop (index + 1) blocks) (sym is) in
    let grown : take (index + 1) blocks ≡ take index blocks ++ actions ∷ [] = take_more blocks index actions within ∙ ap (λ a. take index blocks ++ a ∷ []) (sym is) in
    ap (λ l. first_fault place (causes_behind count (take index blocks) l)) split
    ∙ ap (λ b. first_fault place (block_causes count (take index blocks) actions ++ causes_behind count b (drop (index + 1) blocks))) (sym grown)

pub next_block : (count index place : ℕ) (blocks before : List (List Action)) (actions : List Action) → index < length blocks → actions ≡ get_or blocks index actions → before ≡ take index blocks
    → None ≡ first_fault 0 (block_causes count before actions)
    → first_fault place (causes_behind count (take index blocks) (drop index blocks)) ≡ first_fault (place + (1 + length actions)) (causes_behind count (take (index + 1) blocks) (drop (index + 1) blocks))
next_block count index place blocks before actions within is front none =
    let causes = block_causes count (take index blocks) actions in
    let rest = causes_behind count (take (index + 1) blocks) (drop (index + 1) blocks) in
    let sound : first_fault 0 causes ≡ None = ap (λ b. first_fault 0 (block_causes count b actions)) (sym front) ∙ sym none in
    let long : place + length causes ≡ place + (1 + length actions) = omega (arith, as_many count 0 actions) in
    one_block count index place blocks actions within is ∙ behind_sound place 0 causes rest sound ∙ ap (λ n. first_fault n rest) long

pub here_block : (count index place within : ℕ) (cause : ScriptCause) (blocks before : List (List Action)) (actions : List Action) → index < length blocks → actions ≡ get_or blocks index actions → before ≡ take index blocks
    → Some (within, cause) ≡ first_fault 0 (block_causes count before actions)
    → first_fault place (causes_behind count (take index blocks) (drop index blocks)) ≡ Some (place + within, cause)
here_block count index place within cause blocks before actions inside is front here =
    let causes = block_causes count (take index blocks) actions in
    let rest = causes_behind count (take (index + 1) blocks) (drop (index + 1) blocks) in
    let found : first_fault 0 causes ≡ Some (within, cause) = ap (λ b. first_fault 0 (block_causes count b actions)) (sym front) ∙ sym here in
    let same : place ≡ place + 0 = omega arith in
    one_block count index place blocks actions inside is ∙ ap (λ n. first_fault n (causes ++ rest)) same ∙ among place 0 within cause causes rest found

-- behind all blocks stands the end
pub at_end : (count index place : ℕ) (blocks : List (List Action)) → length blocks ≤ index → first_fault place (causes_behind count (take index blocks) (drop index blocks)) ≡ first_fault place (end_cause blocks ∷ [])
at_end count index place blocks past =
    ap (λ l. first_fault place (causes_behind count (take index blocks) l)) (drop_all index blocks past)
    ∙ ap (λ l. first_fault place (end_cause l ∷ [])) (take_all index blocks past)

not_full_block : (ended full : Bool) → (if not ended then Some NoRet else if full then Some Full else None) ≡ None → full ≡ false
not_full_block true true none = absurd cc
not_full_block true false none = refl
not_full_block false full none = absurd cc

-- a block at whose lines nothing is wrong is one of the first 64, and not too long
pub few_lines : (count : ℕ) (before : List (List Action)) (actions : List Action) → None ≡ first_fault 0 (block_causes count before actions) → (length before < 64) × (length actions ≤ 1024)
few_lines count before actions none =
    let parts = rest_by (block_cause before) 0 (action_causes count 0 actions) (sym none) in
    let test : nat_le 64 (length before) ≡ false = not_full_block (may_end before) (nat_le 64 (length before)) parts.0 in
    let few = few_actions 1 count 0 actions parts.1 (omega arith) in
    (grind (arith, nat_tests), omega arith)

-- behind a block's own line, at which nothing is wrong
pub block_found : (count within : ℕ) (cause : ScriptCause) (before : List (List Action)) (actions : List Action) → block_cause before ≡ None → Some (within, cause) ≡ first_fault 0 (action_causes count 0 actions)
    → Some (1 + within, cause) ≡ first_fault 0 (block_causes count before actions)
block_found count within cause before actions none here =
    let xs = action_causes count 0 actions in
    sym (ap (λ o. first_fault 0 (o ∷ xs)) none ∙ ap (first_fault 1) (sym (append-nil xs)) ∙ among 1 0 within cause xs [] (sym here))

pub block_sound : (count : ℕ) (before : List (List Action)) (actions : List Action) → block_cause before ≡ None → None ≡ first_fault 0 (action_causes count 0 actions)
    → None ≡ first_fault 0 (block_causes count before actions)
block_sound count before actions none sound =
    let xs = action_causes count 0 actions in
    sym (ap (λ o. first_fault 0 (o ∷ xs)) none ∙ ap (first_fault 1) (sym (append-nil xs)) ∙ behind_sound 1 0 xs [] (sym sound))
