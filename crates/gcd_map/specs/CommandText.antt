-- The lines of commands (own): `add KIND BASE LEN`, `allocate KIND BASE LEN`, `top KIND ALIGN LEN`, `free BASE LEN` and `remove BASE LEN`. Lines, words and numbers are those of `line_words`.
use Rattle.std.specs.Prelude.{◌≡◌, ℕ, ◌+◌, ◌<◌, not, nat_lt, if◌then◌else◌, false, List, [], ◌∷◌, length, map, filter, slice_index_or, Option, Some, None, codes, find, bytes_eq}
use Rattle.line_words.specs.{Line.lines, Line.is_passed_over, Words.words, Words.is_plain, Number.number_of}
use Rattle.gcd_map.specs.{declared.state.GcdKind.GcdKind, declared.command.Command.Command, declared.command.TheConstants.ALIGN_END}
use Rattle.gcd_map.specs.declared.state.GcdKind.TheVariants.{NonExistent, Reserved, System, Mmio}
use Rattle.gcd_map.specs.declared.command.Command.TheVariants.{Add, Allocate, Top, Free, Remove}
use Rattle.gcd_map.specs.MapText.{kind_text}

-- the kind whose text a word is
abbrev pub kind_named : List ℕ → Option GcdKind
kind_named word = find (λ kind. bytes_eq word (kind_text kind)) (NonExistent ∷ Reserved ∷ System ∷ Mmio ∷ [])

abbrev pub align_in : Option ℕ → Option ℕ
align_in None = None
align_in (Some align) = if nat_lt align ALIGN_END then Some align else None

-- an alignment below 256
abbrev pub align_of : List ℕ → Option ℕ
align_of word = align_in (number_of word)

-- a command, if each of its words is read
abbrev pub of_two : (ℕ → ℕ → Command) → Option ℕ → Option ℕ → Option Command
of_two command None len = None
of_two command (Some base) None = None
of_two command (Some base) (Some len) = Some (command base len)

abbrev pub of_three : (GcdKind → ℕ → ℕ → Command) → Option GcdKind → Option ℕ → Option ℕ → Option Command
of_three command None second len = None
of_three command (Some kind) second len = of_two (command kind) second len

-- the command of three words
abbrev pub short_command : List ℕ → List ℕ → List ℕ → Option Command
short_command name base len =
    if bytes_eq name (codes "free") then of_two (λ base len. Free base len) (number_of base) (number_of len)
    else if bytes_eq name (codes "remove") then of_two (λ base len. Remove base len) (number_of base) (number_of len)
    else None

-- the command of four words
abbrev pub long_command : List ℕ → List ℕ → List ℕ → List ℕ → Option Command
long_command name kind second len =
    if bytes_eq name (codes "add") then of_three (λ kind base len. Add kind base len) (kind_named kind) (number_of second) (number_of len)
    else if bytes_eq name (codes "allocate") then of_three (λ kind base len. Allocate kind base len) (kind_named kind) (number_of second) (number_of len)
    else if bytes_eq name (codes "top") then of_three (λ kind align len. Top kind align len) (kind_named kind) (align_of second) (number_of len)
    else None

abbrev pub command_of_words : List (List ℕ) → Option Command
command_of_words [] = None
command_of_words (name ∷ []) = None
command_of_words (name ∷ first ∷ []) = None
command_of_words (name ∷ first ∷ second ∷ []) = short_command name first second
command_of_words (name ∷ first ∷ second ∷ third ∷ []) = long_command name first second third
command_of_words (name ∷ first ∷ second ∷ third ∷ more ∷ words) = None

-- the command that a line spells
abbrev pub command_of : List ℕ → Option Command
command_of line = if is_plain line then command_of_words (words line) else None

-- what the lines spell that are not skipped
abbrev pub spelled : List (List ℕ) → List (Option Command)
spelled lines = map command_of (filter (λ line. not (is_passed_over line)) lines)

-- the commands of a text: each line that is not skipped spells one
abbrev pub AreCommands : List ℕ → List Command → Type 0
AreCommands text commands = spelled (lines text) ≡ map (λ command. Some command) commands

-- the line is not skipped, and spells no command
abbrev pub IsBad : List ℕ → Type 0
IsBad line = (is_passed_over line ≡ false) × (command_of line ≡ None)

-- the first such line of a text has this number, counted from 1
pub record IsFirstBad (text : List ℕ) (number : ℕ) : Type 0 where
  pub place : ℕ
  pub within : place < length (lines text)
  pub number_is : number ≡ place + 1
  pub bad : IsBad (slice_index_or (lines text) place [])
  pub first : (before : ℕ) → before < place → IsBad (slice_index_or (lines text) before []) → ⊥
