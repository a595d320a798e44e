-- The words of a command line: what is asked for, and the name of a plan's file, or the number of modules of a generated volume.
use Rattle.std.specs.Prelude.{◌≡◌, ◌≢◌, ◌≤◌, ℕ, List, [], ◌∷◌, codes, decimal}
use Rattle.fv_volume.specs.declared.build.generated.TheConstants.{MOST_MODULES}
use Rattle.boot_core.specs.declared.command_line.Command.{Command}
use Rattle.boot_core.specs.declared.command_line.Command.TheVariants.{Boot, Audit}

-- the word that asks for it
abbrev pub verb_of : Command → List ℕ
verb_of Boot = codes "boot"
verb_of Audit = codes "audit"

-- the words ask for this of the plan of this name
abbrev pub AskFor : List (List ℕ) → Command → List ℕ → Type 0
AskFor words command plan = (words ≡ verb_of command ∷ plan ∷ []) × (plan ≢ [])

-- a word is the number of modules of a generated volume, in shortest decimal digits
pub record IsCount (word : List ℕ) (n : ℕ) : Type 0 where
  pub word_is : word ≡ decimal n
  pub some : 1 ≤ n
  pub most : n ≤ MOST_MODULES

-- the words ask for the generated volume of so many modules
abbrev pub AskForGenerated : List (List ℕ) → ℕ → Type 0
AskForGenerated words n = (word : List ℕ) × (words ≡ codes "generate" ∷ word ∷ []) × IsCount word n

-- they name no plan
abbrev pub NameNoPlan : List (List ℕ) → Type 0
NameNoPlan words = (command : Command) (plan : List ℕ) → AskFor words command plan → ⊥

-- they ask for nothing that there is
pub record AskForNothing (words : List (List ℕ)) : Type 0 where
  pub no_plan : NameNoPlan words
  pub no_number : (n : ℕ) → AskForGenerated words n → ⊥

-- they ask for a boot
abbrev pub AskForBoot : List (List ℕ) → Type 0
AskForBoot words = (plan : List ℕ) × AskFor words Boot plan
