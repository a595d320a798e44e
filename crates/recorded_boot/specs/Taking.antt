-- How the names of a catalogue are taken one by one. Own.
use Rattle.std.specs.Prelude.{◌≡◌, ℕ, ◌==◌, ◌&&◌, true, if◌then◌else◌, List, [], Some, None, is_some, Result, Ok, Err, length, ⊤}
use Rattle.pi_base.specs.{declared.guid.Guid.Guid, Guids.same_guid, Lists.Each}
use Rattle.recorded_boot.specs.declared.order.names.NamesFault.{NamesFault}
use Rattle.recorded_boot.specs.declared.order.names.NamesFault.TheVariants.{Twins, Memory}
use Rattle.recorded_boot.specs.Named.{number_in}

-- so many maps, in which nothing is kept
pub record NoneIsKept (count : ℕ) (maps : List (List (Guid × ℕ))) : Type 0 where
  pub volumes : length maps ≡ count
  pub none : Each (λ map. map ≡ []) maps

-- this number is kept for this volume and name, and for each other one what was
pub record IsKept (volume : ℕ) (name : Guid) (number : ℕ) (old new : List (List (Guid × ℕ))) : Type 0 where
  pub fresh : number_in old volume name ≡ None
  pub volumes : length new ≡ length old
  pub kept : (other : ℕ) (guid : Guid) → number_in new other guid ≡ (if (other == volume) && same_guid name guid then Some number else number_in old other guid)

-- by the answer; a volume that has the name already has twins
abbrev pub Keeps : ℕ → Guid → ℕ → List (List (Guid × ℕ)) → List (List (Guid × ℕ)) → Result (Unit {0}) NamesFault → Type 0
Keeps volume name number old new (Ok _) = IsKept volume name number old new
Keeps volume name number old new (Err (Twins twins)) = (twins ≡ volume) × (is_some (number_in old volume name) ≡ true)
Keeps volume name number old new (Err Memory) = ⊤

-- a volume that is refused for its twins is such a one
abbrev pub Fails : {A : Type 0} → (ℕ → Type 0) → Result A NamesFault → Type 0
Fails Is (Ok _) = ⊤
Fails Is (Err (Twins volume)) = Is volume
Fails Is (Err Memory) = ⊤
