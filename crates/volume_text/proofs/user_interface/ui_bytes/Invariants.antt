use Rattle.std.proofs.Common.{◌≡◌, ◌++◌, length, flat_map}
use Rattle.volume_text.specs.UserInterface.{wide}
use Rattle.volume_text.proofs.user_interface.ui_bytes.Given as goal

-- the characters so far, and those that are left, are all
abbrev pub invariant-characters : goal.invariant-characters
invariant-characters l = l.body ++ flat_map wide l.rest ≡ flat_map wide l.name

abbrev pub decreases-characters : goal.decreases-characters
decreases-characters l = length l.rest
