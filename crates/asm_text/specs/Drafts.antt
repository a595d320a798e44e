-- A script of which some lines are read: its last block may continue (own).
use Rattle.std.specs.Prelude.{ℕ, ◌-◌, Bool, true, false, ◌&&◌, ◌||◌, nat_lt, bytes_eq, if◌then◌else◌, List, [], ◌∷◌, ◌++◌, length, Option, Some, None}
use Rattle.std.specs.List.{list_all}
use Rattle.pi_base.specs.{declared.phase.Phase.Phase, declared.phase.Phase.TheVariants.Pei, declared.phase.Phase.TheVariants.Dxe}
use Rattle.act_code.specs.{declared.action.Action.Action, declared.script.Script.Script, Reading.◌>>=◌, Reading.only_if}
use Rattle.act_code.specs.Index.{names_below, has_room, is_ret}
use Rattle.act_code.specs.ScriptReading.{ends_in_ret}
use Rattle.asm_text.specs.{ScriptText.phase_text, ScriptText.block_text, LineReading.action_of, Walk.split_last}

-- each action that skips others has them and one more after it, if so many are left with the first
abbrev pub have_room : ℕ → List Action → Bool
have_room left [] = true
have_room left (action ∷ actions) = has_room left action && have_room (left - 1) actions

-- a block may end after these actions
abbrev pub is_closed : List Action → Bool
is_closed actions = ends_in_ret actions && have_room (length actions) actions

-- the last block may end, or the given answer if there is no block
abbrev pub may_end : Bool → Option (List (List Action) × List Action) → Bool
may_end none None = none
may_end none (Some parts) = is_closed parts.1

-- the script with one more block
abbrev pub with_block : Script → Option Script
with_block draft =
    only_if (nat_lt (length draft.blocks) 64 && may_end true (split_last draft.blocks)) (record { phase = draft.phase; blocks = draft.blocks ++ [] ∷ [] })

-- an action is valid with so many actions left, itself included
abbrev pub may_stand : ℕ → Action → Bool
may_stand left action = has_room left action && (nat_lt 1 left || is_ret action)

-- the last block with one more action
abbrev pub pushed : Phase → List (List Action) → List Action → Action → Option Script
pushed phase others last action =
    only_if (nat_lt (length last) 1024 && may_stand (1024 - length last) action) (record { phase = phase; blocks = others ++ (last ++ action ∷ []) ∷ [] })

abbrev pub with_action : Phase → List ℕ → List (List Action) × List Action → Option Script
with_action phase line parts = action_of phase line >>= pushed phase parts.0 parts.1

-- the script with one more action in its last block
abbrev pub extended : Script → List ℕ → Option Script
extended draft line = split_last draft.blocks >>= with_action draft.phase line

-- the script with one more line, if that line may follow
unfoldable pub with_line : Script → List ℕ → Option Script
with_line draft line = if bytes_eq line block_text then with_block draft else extended draft line

-- the lines are all that the script has
abbrev pub is_whole : Script → Bool
is_whole draft = may_end false (split_last draft.blocks) && list_all (list_all (names_below (length draft.blocks))) draft.blocks

-- the phase of a first line
unfoldable pub phase_of : List ℕ → Option Phase
phase_of line = if bytes_eq line (phase_text Pei) then Some Pei else if bytes_eq line (phase_text Dxe) then Some Dxe else None
