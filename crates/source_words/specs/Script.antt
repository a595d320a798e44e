-- Scripts whose lines are read one by one: a draft with the actions that the lines say, and what is wrong at each of its lines (own).
use Rattle.std.specs.Prelude.{◌≡◌, ℕ, ◌+◌, ◌-◌, ◌<◌, ⊤, Bool, nat_le, ◌==◌, not, true, if◌then◌else◌, List, [], ◌∷◌, ◌++◌, length, slice_get, Option, Some, None, All}
use Rattle.std.specs.Option.{option_map_or}
use Rattle.pi_base.specs.declared.phase.Phase.{Phase}
use Rattle.act_code.specs.{declared.action.Action.Action, declared.script.Script.Script, ScriptReading.ends_in_ret}
use Rattle.act_code.specs.Index.{is_indexed, names_below, has_room}
use Rattle.act_code.specs.Script.{IsAction, IsInGrammar, IsScript, script_bytes}
use Rattle.source_words.specs.{declared.script.script.ScriptCause.ScriptCause, declared.script.script.ScriptFault.ScriptFault}
use Rattle.source_words.specs.declared.script.script.ScriptCause.TheVariants.{NoBlock, NoRet, Jump, NoSuchBlock, Full}
use Rattle.source_words.specs.declared.script.script.ScriptFault.TheVariants.{Bad, TooLong, Memory}

-- an action that a line can say: of the phase, its operands in their ranges, registers below 16 and blocks below 64
pub record IsSaid (phase : Phase) (action : Action) : Type 0 where
  pub is : IsAction phase action
  pub indexed : is_indexed 64 action ≡ true

-- so are all actions of a draft
abbrev pub AreSaid : Script → Type 0
AreSaid draft = All (All (IsSaid draft.phase)) draft.blocks

-- what is wrong with an action of a script of so many blocks that stands behind so many others of its block, where so many are left with itself
abbrev pub action_cause : ℕ → ℕ → ℕ → Action → Option ScriptCause
action_cause count before left action =
    if nat_le 1024 before then Some Full else if not (has_room left action) then Some Jump else if not (names_below count action) then Some NoSuchBlock else None

-- the same at each line of actions
abbrev pub action_causes : ℕ → ℕ → List Action → List (Option ScriptCause)
action_causes count before [] = []
action_causes count before (action ∷ actions) = action_cause count before (length actions + 1) action ∷ action_causes count (before + 1) actions

-- the last of the blocks, where there is one, has `ret` as its last action
abbrev pub may_end : List (List Action) → Bool
may_end blocks = option_map_or ends_in_ret (slice_get blocks (length blocks - 1)) true

-- what is wrong with a line `block` behind these blocks
abbrev pub block_cause : List (List Action) → Option ScriptCause
block_cause before = if not (may_end before) then Some NoRet else if nat_le 64 (length before) then Some Full else None

-- what is wrong with the end of a script of these blocks
abbrev pub end_cause : List (List Action) → Option ScriptCause
end_cause blocks = if length blocks == 0 then Some NoBlock else if not (may_end blocks) then Some NoRet else None

-- what is wrong at each line of a block behind these, in a script of so many blocks: at its own line and at those of its actions
abbrev pub block_causes : ℕ → List (List Action) → List Action → List (Option ScriptCause)
block_causes count before actions = block_cause before ∷ action_causes count 0 actions

-- what is wrong at each line of blocks behind others, and last at the script's end
abbrev pub causes_behind : ℕ → List (List Action) → List (List Action) → List (Option ScriptCause)
causes_behind count before [] = end_cause before ∷ []
causes_behind count before (actions ∷ blocks) = block_causes count before actions ++ causes_behind count (before ++ actions ∷ []) blocks

-- what is wrong at each line of a draft, and at its end
abbrev pub line_causes : Script → List (Option ScriptCause)
line_causes draft = causes_behind (length draft.blocks) [] draft.blocks

-- the first line at which something is wrong, where the first line has this place
abbrev pub first_fault : ℕ → List (Option ScriptCause) → Option (ℕ × ScriptCause)
first_fault place [] = None
first_fault place (None ∷ causes) = first_fault (place + 1) causes
first_fault place (Some cause ∷ causes) = Some (place, cause)

-- nothing is wrong with a draft but maybe its length
abbrev pub HasNoFault : Script → Type 0
HasNoFault draft = first_fault 0 (line_causes draft) ≡ None

-- the bytes are those of a draft with which nothing is wrong
abbrev pub IsWhole : Script → List ℕ → Type 0
IsWhole draft bytes = HasNoFault draft × IsScript bytes draft

-- why a draft is no script
abbrev pub IsUnfit : Script → ScriptFault → Type 0
IsUnfit draft (Bad place cause) = first_fault 0 (line_causes draft) ≡ Some (place, cause)
IsUnfit draft TooLong = HasNoFault draft × IsInGrammar draft × (65536 < length (script_bytes draft))
IsUnfit draft Memory = ⊤
