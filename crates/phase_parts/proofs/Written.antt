-- An action on a number prints nothing and leaves the frame.
use Rattle.std.proofs.Common.{◌≡◌, ℕ, List, [], ◌∷◌, Option, Some, None, refl}
use Rattle.boot_model.specs.{declared.frame.Register.Register, declared.frame.Frame.Frame}
use Rattle.phase_parts.specs.Deed.{number_written, lines_of, frame_after, frames_after}

pub prints_nothing : (registers : List Register) (r : ℕ) (n : Option ℕ) → lines_of (number_written registers r n) ≡ []
prints_nothing registers r None = refl
prints_nothing registers r (Some n) = refl

pub leaves_the_frame : {W : Type 0} (frame : Frame W) (below : List (Frame W)) (registers : List Register) (r : ℕ) (n : Option ℕ)
    → frame_after frame (number_written registers r n) ∷ below ≡ frames_after frame below (number_written registers r n)
leaves_the_frame frame below registers r None = refl
leaves_the_frame frame below registers r (Some n) = refl
