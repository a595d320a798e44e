-- Scripts as text (own): a line with the phase, and for each block the line `block` and a line for each action. Each line ends with a line feed.
use Rattle.std.specs.Prelude.{ℕ, List, [], ◌∷◌, ◌++◌, codes, flat_map}
use Rattle.pi_base.specs.{declared.phase.Phase.Phase, declared.phase.Phase.TheVariants.Pei, declared.phase.Phase.TheVariants.Dxe}
use Rattle.act_code.specs.{declared.action.Action.Action, declared.script.Script.Script}
use Rattle.asm_text.specs.ActionText.{action_text}

unfoldable pub phase_text : Phase → List ℕ
phase_text Pei = codes "phase pei"
phase_text Dxe = codes "phase dxe"

-- the line that begins a block
unfoldable pub block_text : List ℕ
block_text = codes "block"

-- the line of a text
abbrev pub line : List ℕ → List ℕ
line text = text ++ 10 ∷ []

abbrev pub action_line : Action → List ℕ
action_line action = line (action_text action)

abbrev pub block_lines : List Action → List ℕ
block_lines actions = line block_text ++ flat_map action_line actions

abbrev pub script_text : Script → List ℕ
script_text script = line (phase_text script.phase) ++ flat_map block_lines script.blocks
