-- The jobs one after another: each start takes its whole job at once, on its processors in ascending order.
-- Own.
use Rattle.std.specs.Prelude.{◌≡◌, ℕ, ◌+◌, ◌^◌, ◌%◌, ◌<◌, ◌==◌, false, if◌then◌else◌, List, [], ◌∷◌, ◌++◌, map, fold, slice_index, slice_index_or}
use Rattle.std.specs.List.{list_any}
use Rattle.pi_base.specs.Lists.{numbers}
use Rattle.mp_core.specs.{declared.event.MpEvent.MpEvent, declared.op.Op.Op, declared.op.Op.TheVariants.Add, declared.op.Op.TheVariants.Put}
use Rattle.mp_core.specs.{declared.reply.MpOutcome.MpOutcome, Past.schedule}
use Rattle.mp_core.specs.Schedule.{Step, Part, jobs, done, undone, adds, puts, cells_after, records_after, busy_after}

-- what each cell and each processor's record has
pub record Contents : Type 0 where
  pub cell : ℕ → ℕ
  pub record_of : ℕ → List ℕ

-- before the first job cells are 0, and records empty
abbrev pub blank : Contents
blank = record { cell = λ c. 0; record_of = λ p. [] }

-- a processor does an operation
abbrev pub does : ℕ → Contents → Op → Contents
does on contents (Add cell n) = record contents { cell = λ c. if cell == c then (contents.cell c + n) % 2 ^ 64 else contents.cell c }
does on contents (Put n) = record contents { record_of = λ p. if on == p then contents.record_of p ++ n ∷ [] else contents.record_of p }

-- a processor does all operations
abbrev pub does_all : Contents → Part → Contents
does_all contents part = fold (does part.on) contents part.ops

-- what the jobs of the accepted starts leave, one after another
abbrev pub one_after_another : List Step → Contents
one_after_another steps = fold does_all blank (jobs steps)

abbrev pub cells_of : ℕ → Contents → List ℕ
cells_of cells contents = map contents.cell (numbers 0 cells)

abbrev pub records_of : ℕ → Contents → List (List ℕ)
records_of processors contents = map contents.record_of (numbers 0 processors)

-- no processor is busy
abbrev pub IsIdle : MpOutcome → Type 0
IsIdle outcome = list_any (λ busy. busy) outcome.busy ≡ false

-- the cells and records are those of the jobs one after another
abbrev pub IsInOrder : ℕ → ℕ → List Step → MpOutcome → Type 0
IsInOrder processors cells steps outcome =
    (outcome.cells ≡ cells_of cells (one_after_another steps)) × (outcome.records ≡ records_of processors (one_after_another steps))

-- each cell with the Adds that are still to come, and each record with the Puts that are still to come, is that of the jobs one after another
pub record Completes (processors cells : ℕ) (steps : List Step) (outcome : MpOutcome) : Type 0 where
  pub adds_to_come : (c : ℕ) → c < cells → (slice_index outcome.cells c + adds c (undone steps)) % 2 ^ 64 ≡ (one_after_another steps).cell c
  pub puts_to_come : (p : ℕ) → p < processors
      → slice_index_or outcome.records p [] ++ puts p (undone steps) ≡ (one_after_another steps).record_of p

-- after any list of events, each cell and each record with what is to come are those of the jobs one after another
abbrev pub CompletesInOrder : Type 0
CompletesInOrder = (processors : ℕ) (events : List MpEvent) → let steps : List Step = schedule processors events in
    ((c : ℕ) → (adds c (done steps) % 2 ^ 64 + adds c (undone steps)) % 2 ^ 64 ≡ (one_after_another steps).cell c)
    × ((p : ℕ) → puts p (done steps) ++ puts p (undone steps) ≡ (one_after_another steps).record_of p)

-- after any list of events that leaves no processor busy, cells and records are those of the jobs one after another
abbrev pub IdlesInOrder : Type 0
IdlesInOrder = (processors cells : ℕ) (events : List MpEvent) → let steps : List Step = schedule processors events in
    list_any (λ busy. busy) (busy_after processors steps) ≡ false
    → (cells_after cells steps ≡ cells_of cells (one_after_another steps))
    × (records_after processors steps ≡ records_of processors (one_after_another steps))
