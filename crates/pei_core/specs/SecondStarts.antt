-- The parts that await their second start, and those of them that an event of the machine allows to start again. PI 1.8, volume 1, `RegisterForShadow()`; the
-- form of an event is own.
use Rattle.std.specs.Prelude.{◌≡◌, ℕ, Bool, true, false, ◌&&◌, ◌||◌, ◌==◌, not}
use Rattle.mod_catalog.specs.Parts.{has_number}
use Rattle.boot_model.specs.{Eligible.may_start_again, PeiMachine.PeiMachine, declared.peim_state.PeimState.PeimState}
use Rattle.boot_model.specs.declared.peim_state.PeimState.TheVariants.{NotDispatched, Dispatched, RegisteredForShadow, Done}
use Rattle.pei_core.specs.{Guids.no_changes, declared.event.Again.Again, declared.event.Event.Event}
use Rattle.pei_core.specs.declared.event.Again.TheVariants.{Nobody, One, All}

-- whether a part registered for shadow and has not started again
abbrev pub awaits_second : PeiMachine → ℕ → Bool
awaits_second m number = has_number m.shadows number && not (has_number m.again number)

-- whether an event that leads to a machine allows a part to start again: none, one, or all that await their second start
abbrev pub lets_again : PeiMachine → Again → ℕ → Bool
lets_again later Nobody number = false
lets_again later (One first) number = first == number
lets_again later All number = awaits_second later number

-- the parts that may start again after an event are those that might before it and those that the event allows
abbrev pub IsAgain : PeiMachine → PeiMachine → Again → Type 0
IsAgain m later again = (number : ℕ) → may_start_again later number ≡ (may_start_again m number || lets_again later again number)

-- a module in a state registers for shadow: the first time, and once memory has moved, it may start again
abbrev pub registered_again : PeimState → Bool → ℕ → Again
registered_again NotDispatched moved number = Nobody
registered_again Dispatched true number = One number
registered_again Dispatched false number = Nobody
registered_again RegisteredForShadow moved number = Nobody
registered_again Done moved number = Nobody

-- an event that changes no PPI and reports no volume, and allows these parts to start again
abbrev pub event_letting : Again → Event
event_letting again = record { changes = no_changes; again = again; volumes = 0 }
