-- What is kept of EDK2's queue, if somebody wants to know whose turn it is.
-- Own; PI 1.8, volume 2, "DXE Dispatcher".
use Rattle.std.specs.Prelude.{◌≡◌, ◌≢◌, ℕ, Bool, true, if◌then◌else◌, List, [], ◌++◌, drop, flat_map, Option, None}
use Rattle.mod_catalog.specs.declared.catalogue.Catalog.{Catalog}
use Rattle.boot_model.specs.{DriverLicence.numbers_of, DxeChoice.a_priori_drivers, DxeMachine.DxeMachine}
use Rattle.dxe_core.specs.{Order.Drivers, Standing.DxeCore}
use Rattle.dxe_dispatch.specs.Passes.{first_in, in_types, or_pass, pass_of}
use Rattle.dxe_dispatch.specs.{Queue.IsSeen, Queue.Queue, declared.answer.Turn.Turn}
use Rattle.dxe_dispatch.specs.declared.answer.Turn.TheVariants as T

-- whether it is wanted; the drivers of the discovered volumes, as EDK2 goes over them; and what is left of the queue
pub record PassList : Type 0 where
  pub wanted : Bool
  pub drivers : List ℕ
  pub left : List ℕ

-- the driver whose turn it is. None if that is not wanted
abbrev pub turn_kept : PassList → Option ℕ
turn_kept kept = if kept.wanted then first_in kept.left else None

-- if it is wanted, the queue of a machine is kept
pub record IsPassListOf (catalog : Catalog) (wants : Bool) (m : DxeMachine) (queue : List ℕ) (kept : PassList) : Type 0 where
  pub wanted : kept.wanted ≡ wants
  pub drivers : wants ≡ true → kept.drivers ≡ flat_map (in_types catalog) m.discovered
  pub left : wants ≡ true → kept.left ≡ queue

-- the next pass is taken, if it is wanted and the queue is empty
pub record Refills (catalog : Catalog) (queue : Queue) (order : Drivers) (old new : PassList) : Type 0 where
  pub wanted : new.wanted ≡ old.wanted
  pub drivers : new.drivers ≡ old.drivers
  pub left : (m : DxeMachine) → IsSeen catalog m queue order → old.wanted ≡ true → new.left ≡ or_pass old.left (pass_of catalog m old.drivers)

-- these volumes come, if it is wanted
pub record GetsVolumes (catalog : Catalog) (volumes : List ℕ) (old new : PassList) : Type 0 where
  pub wanted : new.wanted ≡ old.wanted
  pub drivers : old.wanted ≡ true → new.drivers ≡ old.drivers ++ flat_map (in_types catalog) volumes
  pub left : old.wanted ≡ true → new.left ≡ old.left ++ numbers_of (a_priori_drivers catalog volumes)

-- so many leave it
pub record Leave (count : ℕ) (old new : PassList) : Type 0 where
  pub wanted : new.wanted ≡ old.wanted
  pub drivers : new.drivers ≡ old.drivers
  pub left : new.left ≡ drop count old.left

-- so many leave it, and then these volumes come
abbrev pub Follows : Catalog → ℕ → List ℕ → PassList → PassList → Type 0
Follows catalog count volumes old new = (mid : PassList) × Leave count old mid × GetsVolumes catalog volumes mid new

-- the next pass is taken only if no script runs
abbrev pub RefillsIdle : Catalog → DxeCore → Queue → PassList → PassList → Type 0
RefillsIdle catalog core queue old new =
    (core.frames ≡ [] → Refills catalog queue core.services.order old new) × (core.frames ≢ [] → new ≡ old)

-- after a step so many have left, and these volumes have come; else nothing changes
abbrev pub FollowsTurn : Catalog → ℕ → List ℕ → Turn → PassList → PassList → Type 0
FollowsTurn catalog count volumes (T.Took step) old new = Follows catalog count volumes old new
FollowsTurn catalog count volumes (T.Reached reached) old new = new ≡ old
