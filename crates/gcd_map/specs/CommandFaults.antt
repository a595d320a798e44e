-- Why a text has no commands.
use Rattle.std.specs.Prelude.{◌≡◌, ℕ, List, [], ◌∷◌, ◌++◌, map, Some, Result, Ok, Err}
use Rattle.gcd_map.specs.{declared.command.Command.Command, declared.commands.CommandFault.CommandFault}
use Rattle.gcd_map.specs.declared.commands.CommandFault.TheVariants.{Bad, Memory}
use Rattle.gcd_map.specs.CommandText.{spelled, IsBad, IsFirstBad}

-- the fault is that of the text's first bad line, unless memory runs out
abbrev pub IsCommandFault : List ℕ → CommandFault → Type 0
IsCommandFault text (Bad number) = IsFirstBad text number
IsCommandFault text Memory = Unit {0}

-- what taking a line with its number leaves: the commands with its own, if it spells one
abbrev pub TakesLine : List Command → ℕ → List ℕ → Result (Unit {0}) CommandFault → List Command → Type 0
TakesLine old number line (Ok _) new =
    (IsBad line → ⊥) × (map (λ command. Some command) new ≡ map (λ command. Some command) old ++ spelled (line ∷ []))
TakesLine old number line (Err (Bad at)) new = (at ≡ number) × IsBad line
TakesLine old number line (Err Memory) new = Unit {0}
