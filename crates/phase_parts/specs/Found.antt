-- The next action of a frame.
-- Own.
use Rattle.std.specs.Prelude.{ℕ, Bool, true, false, List, [], ◌∷◌, Option, option_map, slice_get, unwrap_or, option_and_then}
use Rattle.pi_base.specs.{declared.phase.Phase.Phase, declared.word.Word.TheVariants.Success}
use Rattle.act_code.specs.{declared.action.Action.Action, declared.action.Action.TheVariants.Ret}
use Rattle.mod_catalog.specs.{declared.catalogue.Catalog.Catalog, Parts.part_at}
use Rattle.boot_model.specs.declared.frame.Frame.{Frame}

-- its block, and the action there, if there is one
abbrev pub found_block : {W : Type 0} → Phase → Catalog → Frame W → Option (List Action)
found_block phase catalog frame = option_and_then (λ part. slice_get part.script.blocks frame.block) (part_at phase catalog frame.module_number)

abbrev pub found_action : {W : Type 0} → Phase → Catalog → Frame W → Option Action
found_action phase catalog frame = option_and_then (λ block. slice_get block frame.position) (found_block phase catalog frame)

-- after the end of a block a script returns
abbrev pub action_at : {W : Type 0} → Phase → Catalog → Frame W → Action
action_at phase catalog frame = unwrap_or (found_action phase catalog frame) (Ret Success)

-- the blocks of a module's script; a script without blocks does not run
abbrev pub blocks_of : Phase → Catalog → ℕ → List (List Action)
blocks_of phase catalog number = unwrap_or (option_map (λ part. part.script.blocks) (part_at phase catalog number)) []

abbrev pub has_block : List (List Action) → Bool
has_block [] = false
has_block (block ∷ blocks) = true
