-- Runs of commands: each is answered over the memory space that those before it left.
use Rattle.std.specs.Prelude.{◌≡◌, ◌≢◌, ℕ, List, [], ◌∷◌, Result, Ok, Err}
use Rattle.gcd_map.specs.{declared.word.GcdWord.GcdWord, declared.word.GcdWord.TheVariants.Memory, declared.command.Command.Command}
use Rattle.gcd_map.specs.declared.command.Command.TheVariants.{Add, Allocate, Top, Free, Remove}
use Rattle.gcd_map.specs.{declared.perform.Answer.Answer, AddressSpace.MemorySpace}
use Rattle.gcd_map.specs.declared.perform.Answer.TheVariants.{Done, At, Refused}
use Rattle.gcd_map.specs.Commands.{AddRow, AllocateRow, TopRow, FreeRow, RemoveRow}

-- the answer of a service that answers no base
abbrev pub PlainRow : (Result (Unit {0}) GcdWord → MemorySpace → Type 0) → Answer → MemorySpace → Type 0
PlainRow Row Done new = Row (Ok tt) new
PlainRow Row (At base) new = ⊥
PlainRow Row (Refused word) new = Row (Err word) new

-- that of one that does
abbrev pub BaseRow : (Result ℕ GcdWord → MemorySpace → Type 0) → Answer → MemorySpace → Type 0
BaseRow Row Done new = ⊥
BaseRow Row (At base) new = Row (Ok base) new
BaseRow Row (Refused word) new = Row (Err word) new

-- a command's answer, and the space after it
abbrev pub CommandRow : Command → MemorySpace → Answer → MemorySpace → Type 0
CommandRow (Add kind base len) old = PlainRow (AddRow kind base len old)
CommandRow (Allocate kind base len) old = PlainRow (AllocateRow kind base len old)
CommandRow (Top kind align len) old = BaseRow (TopRow kind align len old)
CommandRow (Free base len) old = PlainRow (FreeRow base len old)
CommandRow (Remove base len) old = PlainRow (RemoveRow base len old)

-- commands with their answers lead from one space to another, and memory never ran out
abbrev pub IsRun : MemorySpace → List (Command × Answer) → MemorySpace → Type 0
IsRun old [] new = new ≡ old
IsRun old (step ∷ steps) new =
    (step.1 ≢ Refused Memory) × ((middle : MemorySpace) × CommandRow step.0 old step.1 middle × IsRun middle steps new)
