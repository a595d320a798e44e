-- A script begins where it has a block.
use Rattle.std.proofs.Common.{◌≡◌, ℕ, true, false, List, [], ◌∷◌}
use Rattle.act_code.specs.declared.action.Action.{Action}
use Rattle.boot_model.specs.{PeiMachine.no_registers, declared.frame.Frame.Frame}
use Rattle.phase_parts.specs.{Found.has_block, Frames.frame_at, Frames.start_frames}

pub begin : {W : Type 0} (number : ℕ) (blocks : List (List Action)) (frames : List (Frame W)) → has_block blocks ≡ true → frames ≡ frame_at number 0 no_registers ∷ [] → frames ≡ start_frames number blocks
begin number [] frames e h = cc
begin number (block ∷ blocks) frames e h = h

pub stay : {W : Type 0} (number : ℕ) (blocks : List (List Action)) (frames : List (Frame W)) → has_block blocks ≡ false → frames ≡ [] → frames ≡ start_frames number blocks
stay number [] frames e h = h
stay number (block ∷ blocks) frames e h = cc
