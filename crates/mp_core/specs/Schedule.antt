-- What processors did and left in memory, from the starts of their jobs and their turns, in order. A turn does one operation of the job
-- that its processor has.
-- Own.
use Rattle.std.specs.Prelude.{ℕ, suc, ◌^◌, ◌%◌, ◌==◌, nat_lt, Bool, false, if◌then◌else◌, List, [], ◌∷◌, length, take, drop, map, flat_map, sum_by, Option, Some, None}
use Rattle.std.specs.Option.{option_or}
use Rattle.pi_base.specs.Lists.{numbers}
use Rattle.mp_core.specs.{declared.op.Op.Op, declared.op.Op.TheVariants.Add, declared.op.Op.TheVariants.Put}

-- a processor starts a job, or has a turn
pub data Step : Type 0 where
  Starts : (on : ℕ) (job : List Op) → Step
  Turns : (on : ℕ) → Step

-- how many turns a processor has before its next start
abbrev pub turns : ℕ → List Step → ℕ
turns p [] = 0
turns p (Turns on ∷ later) = if on == p then suc (turns p later) else turns p later
turns p (Starts on job ∷ later) = if on == p then 0 else turns p later

-- a processor's last start: the job, and how many turns the processor had after it
abbrev pub last_start : ℕ → List Step → Option (List Op × ℕ)
last_start p [] = None
last_start p (Turns on ∷ later) = last_start p later
last_start p (Starts on job ∷ later) =
    option_or (last_start p later) (if on == p then Some (job, turns p later) else None)

-- a processor is busy if its last start's job is longer than the number of its turns after that start
abbrev pub is_busy : ℕ → List Step → Bool
is_busy p steps = elim (last_start p steps) [ Some start ↦ nat_lt start.1 (length start.0) | None ↦ false ]

-- operations, and the processor that they are for
pub record Part : Type 0 where
  pub on : ℕ
  pub ops : List Op

-- the whole job of each start
abbrev pub jobs : List Step → List Part
jobs [] = []
jobs (Turns on ∷ later) = jobs later
jobs (Starts on job ∷ later) = record { on = on; ops = job } ∷ jobs later

-- the part of each start's job that is done: an operation for each turn of the processor before its next start, and no more than there are
abbrev pub done : List Step → List Part
done [] = []
done (Turns on ∷ later) = done later
done (Starts on job ∷ later) = record { on = on; ops = take (turns on later) job } ∷ done later

-- the part of each start's job that is not yet done
abbrev pub undone : List Step → List Part
undone [] = []
undone (Turns on ∷ later) = undone later
undone (Starts on job ∷ later) = record { on = on; ops = drop (turns on later) job } ∷ undone later

-- what an operation adds to a cell
abbrev pub added : ℕ → Op → ℕ
added c (Add cell n) = if cell == c then n else 0
added c (Put n) = 0

-- the numbers that an operation puts
abbrev pub put : Op → List ℕ
put (Add cell n) = []
put (Put n) = n ∷ []

-- the sum of the Adds to a cell
abbrev pub adds : ℕ → List Part → ℕ
adds c parts = sum_by (λ part. sum_by (added c) part.ops) parts

-- a processor's operations, in order
abbrev pub ops_of : ℕ → List Part → List Op
ops_of p parts = flat_map (λ part. if part.on == p then part.ops else []) parts

-- the Puts of a processor, in order
abbrev pub puts : ℕ → List Part → List ℕ
puts p parts = flat_map put (ops_of p parts)

-- each cell is the sum of its Adds in all done parts, modulo 2^64
abbrev pub cells_after : ℕ → List Step → List ℕ
cells_after cells steps = map (λ c. adds c (done steps) % 2 ^ 64) (numbers 0 cells)

-- each processor's record is the Puts of its done parts in order
abbrev pub records_after : ℕ → List Step → List (List ℕ)
records_after processors steps = map (λ p. puts p (done steps)) (numbers 0 processors)

-- which processors are busy
abbrev pub busy_after : ℕ → List Step → List Bool
busy_after processors steps = map (λ p. is_busy p steps) (numbers 0 processors)
