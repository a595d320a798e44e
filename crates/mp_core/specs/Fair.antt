-- No processor starts before its last job is done, as the table sees to.
-- Own.
use Rattle.std.specs.Prelude.{◌≡◌, ℕ, ◌≤◌, ◌==◌, ◌||◌, Bool, true, false, List, [], ◌∷◌, length, ⊤}
use Rattle.mp_core.specs.Schedule.{Step, Starts, Turns, turns}

-- whether a processor starts
abbrev pub starts : ℕ → List Step → Bool
starts p [] = false
starts p (Turns on ∷ later) = starts p later
starts p (Starts on job ∷ later) = (on == p) || starts p later

-- if a processor starts again, its last job is done
abbrev pub IsFair : List Step → Type 0
IsFair [] = ⊤
IsFair (Turns on ∷ later) = IsFair later
IsFair (Starts on job ∷ later) = (starts on later ≡ true → length job ≤ turns on later) × IsFair later

-- each start is on a processor that exists, and after its last job is done
pub record AreOrderly (processors : ℕ) (steps : List Step) : Type 0 where
  pub fair : IsFair steps
  pub below : (p : ℕ) → processors ≤ p → starts p steps ≡ false
