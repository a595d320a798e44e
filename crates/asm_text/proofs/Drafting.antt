-- Lines one after another: a well-formed script is put together of its own lines, and what is put together has them.
use Rattle.std.proofs.Common.{◌≡◌, ℕ, suc, ◌+◌, ◌-◌, ◌<◌, ◌≤◌, ◌||◌, Bool, true, false, List, [], ◌∷◌, ◌++◌, length, map, Option, Some, None, refl, sym, ap, subst, ◌∙◌, append_assoc, arith, nat_lt, nat_le, option_and_then, append-nil, length-append}
use Rattle.std.specs.{Prelude.⊤, List.list_all, List.AllByRecursion}
use Rattle.std.proofs.{lemmas.Bool.and_parts, lemmas.Bool.and_from, lemmas.Bool.Decides.nat_tests}
use Rattle.pi_base.specs.declared.phase.Phase.{Phase}
use Rattle.act_code.specs.{declared.action.Action.Action, declared.script.Script.Script, ScriptReading.ends_in_ret}
use Rattle.act_code.specs.declared.action.Action.TheVariants as action
use Rattle.act_code.specs.Index.{has_room, is_ret, names_below}
use Rattle.asm_text.specs.{ActionText.action_text, ReadScript.IsWellFormed, ScriptText.block_text, Walk.split_last}
use Rattle.asm_text.specs.Drafts.{have_room, may_end, may_stand, with_line, is_whole}
use Rattle.asm_text.proofs.{Fronts.itself, ActionLines.IsGoodAction, ActionLines.action_there, ByteLists.below, WordLaws.is_most}
use Rattle.asm_text.proofs.Paths.{split_push, split_is, split_none}
use Rattle.asm_text.proofs.Blocks.{at, IsClosedBlock, well_made}
use Rattle.asm_text.proofs.ScriptLines.{body_lines, no_block}

-- lines one after another
abbrev pub with_lines : Script → List (List ℕ) → Option Script
with_lines draft [] = Some draft
with_lines draft (line ∷ lines) = option_and_then (λ next. with_lines next lines) (with_line draft line)

pub with_more : (draft : Script) (lines others : List (List ℕ)) → with_lines draft (lines ++ others) ≡ option_and_then (λ next. with_lines next others) (with_lines draft lines)
with_more draft [] others = refl
with_more draft (line ∷ lines) others = after (with_line draft line) (λ next. with_more next lines others)
  where
    after : (next : Option Script) → ((n : Script) → with_lines n (lines ++ others) ≡ option_and_then (λ m. with_lines m others) (with_lines n lines))
        → option_and_then (λ n. with_lines n (lines ++ others)) next ≡ option_and_then (λ n. with_lines n others) (option_and_then (λ n. with_lines n lines) next)
    after None each = refl
    after (Some next) each = each next

-- tests of actions
more_room : (a : Action) (m n : ℕ) → m ≤ n → has_room m a ≡ true → has_room n a ≡ true
more_room (action.SkipIf condition k) m n more room = let here = is_most (k + 2) m room in room_for (k + 2) n (omega arith)
  where
    room_for : (k n : ℕ) → k ≤ n → nat_le k n ≡ true
    room_for k n few = grind (arith, nat_tests)
more_room _ m n more room = refl

or_true : (a : Bool) → (a || true) ≡ true
or_true true = refl
or_true false = refl

-- what is behind an open block: the last one is ret
abbrev Ends : List Action → Type 0
Ends [] = ⊤
Ends (a ∷ actions) = ends_in_ret (a ∷ actions) ≡ true

pub ends_one : (a : Action) → ends_in_ret (a ∷ []) ≡ is_ret a
ends_one a = refl

pub ends_more : (a b : Action) (actions : List Action) → ends_in_ret (a ∷ (b ∷ actions)) ≡ ends_in_ret (b ∷ actions)
ends_more a b actions = let place : suc (length (b ∷ actions)) - 1 ≡ suc (length (b ∷ actions) - 1) = omega arith in rw place refl

stands_last : (a : Action) (others : List Action) (left : ℕ) → length (a ∷ others) ≤ left → has_room (length (a ∷ others)) a ≡ true → Ends (a ∷ others) → may_stand left a ≡ true
stands_last a [] left few room ends =
    and_from (has_room left a) (nat_lt 1 left || is_ret a) (more_room a 1 left few room) (rw ends (or_true (nat_lt 1 left)))
stands_last a (b ∷ others) left few room ends =
    let many : nat_lt 1 left ≡ true = below 1 left (omega arith) in
    and_from (has_room left a) (nat_lt 1 left || is_ret a) (more_room a (length (a ∷ (b ∷ others))) left few room) (rw many refl)

ends_behind : (a : Action) (others : List Action) → Ends (a ∷ others) → Ends others
ends_behind a [] ends = tt
ends_behind a (b ∷ others) ends = sym (ends_more a b others) ∙ ends

-- the line of an action
action_step : (p : Phase) (done : List (List Action)) (last : List Action) (a : Action) → IsGoodAction p a → length last < 1024 → may_stand (1024 - length last) a ≡ true
    → with_line (at p (done ++ last ∷ [])) (action_text a) ≡ Some (at p (done ++ (last ++ a ∷ []) ∷ []))
unfolding with_line
action_step p done last a good few stands =
    rw (no_block a, split_push done last, action_there p a good, below (length last) 1024 few, stands) refl

pub actions_step : (p : Phase) (done : List (List Action)) (last actions : List Action) (lines : List (List ℕ)) → AllByRecursion (IsGoodAction p) actions → length last + length actions ≤ 1024 → have_room (length actions) actions ≡ true
    → Ends actions → with_lines (at p (done ++ last ∷ [])) (map action_text actions ++ lines) ≡ with_lines (at p (done ++ (last ++ actions) ∷ [])) lines
actions_step p done last [] lines good few room ends = rw (append-nil last) refl
actions_step p done last (a ∷ actions) lines good few room ends =
    let rooms = and_parts (has_room (length (a ∷ actions)) a) (have_room (length (a ∷ actions) - 1) actions) room in
    let stands = stands_last a actions (1024 - length last) (omega arith) rooms.0 ends in
    let step = action_step p done last a good.0 (omega arith) stands in
    let less : suc (length actions) - 1 ≡ length actions = omega arith in
    let others : have_room (length actions) actions ≡ true = subst (λ n. have_room n actions ≡ true) less rooms.1 in
    let next = actions_step p done (last ++ a ∷ []) actions lines good.1 (omega (arith, length-append last (a ∷ []))) others (ends_behind a actions ends) in
    ap (option_and_then (λ n. with_lines n (map action_text actions ++ lines))) step ∙ next ∙ ap (λ l. with_lines (at p (done ++ l ∷ [])) lines) (append_assoc last (a ∷ []) actions)

-- the line of a block
block_step : (p : Phase) (done : List (List Action)) → length done < 64 → may_end true (split_last done) ≡ true → with_line (at p done) block_text ≡ Some (at p (done ++ [] ∷ []))
unfolding with_line
block_step p done few closed = rw (itself block_text, below (length done) 64 few, closed) refl

ends_all : (actions : List Action) → ends_in_ret actions ≡ true → Ends actions
ends_all [] ret = tt
ends_all (a ∷ actions) ret = ret

blocks_step : (p : Phase) (done blocks : List (List Action)) → AllByRecursion (IsClosedBlock p) blocks → length done + length blocks ≤ 64 → may_end true (split_last done) ≡ true
    → with_lines (at p done) (body_lines blocks) ≡ Some (at p (done ++ blocks))
blocks_step p done [] closed few ends = rw (append-nil done) refl
blocks_step p done (b ∷ blocks) closed few ends =
    let tests = and_parts (ends_in_ret b) (have_room (length b) b) closed.0.closed in
    let first = block_step p done (omega arith) ends in
    let inside = actions_step p done [] b (body_lines blocks) closed.0.good (omega (arith, closed.0.few)) tests.1 (ends_all b tests.0) in
    let shut : may_end true (split_last (done ++ b ∷ [])) ≡ true = rw (split_push done b) closed.0.closed in
    let others = blocks_step p (done ++ b ∷ []) blocks closed.1 (omega (arith, length-append done (b ∷ []))) shut in
    ap (option_and_then (λ n. with_lines n (map action_text b ++ body_lines blocks))) first ∙ inside ∙ others ∙ ap (λ l. Some (at p l)) (append_assoc done (b ∷ []) blocks)

pub well_reached : (script : Script) → IsWellFormed script → with_lines (at script.phase []) (body_lines script.blocks) ≡ Some script
well_reached script well =
    let made = well_made script well in
    blocks_step script.phase [] script.blocks made.closed (omega (arith, made.few)) refl

-- the last of closed blocks is closed
closed_by : (p : Phase) (none : Bool) (blocks : List (List Action)) (parts : Option (List (List Action) × List Action)) → split_last blocks ≡ parts → AllByRecursion (IsClosedBlock p) blocks → (blocks ≡ [] → none ≡ true) → may_end none parts ≡ true
closed_by p none blocks None is closed empty = empty (split_none blocks is)
closed_by p none blocks (Some parts) is closed empty = (last_of parts.0 parts.1 (subst (AllByRecursion (IsClosedBlock p)) (split_is blocks parts is) closed)).closed
  where
    last_of : (others : List (List Action)) (last : List Action) → AllByRecursion (IsClosedBlock p) (others ++ last ∷ []) → IsClosedBlock p last
    last_of [] last all = all.0
    last_of (b ∷ others) last all = last_of others last all.1

pub well_whole : (script : Script) → IsWellFormed script → is_whole script ≡ true
well_whole script well =
    let made = well_made script well in
    and_from (may_end false (split_last script.blocks)) (list_all (list_all (names_below (length script.blocks))) script.blocks)
    (closed_by script.phase false script.blocks (split_last script.blocks) refl made.closed (λ none. absurd (omega (arith, ap length none, made.some)))) made.named
