-- The block of a part, and the action of a block.
use Rattle.std.proofs.Common.{ℕ, List, Option, slice_get, option_and_then}
use Rattle.act_code.specs.declared.action.Action.{Action}
use Rattle.mod_catalog.specs.declared.catalogue.Part.{Part}

abbrev pub blocks_in : Part → List (List Action)
blocks_in part = part.script.blocks

abbrev pub block_in : ℕ → Option Part → Option (List Action)
block_in block part = option_and_then (λ p. slice_get (blocks_in p) block) part

abbrev pub action_in : ℕ → Option (List Action) → Option Action
action_in position block = option_and_then (λ actions. slice_get actions position) block
