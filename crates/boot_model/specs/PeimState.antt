-- How far a module has come in PEI, by the machine's lists of those that have started, that registered for shadow and that have started a second time.
-- Only a module that has started registers, and only one that registered starts again: so the lists know four states.
-- PI 1.8, volume 1, "PEI Dispatcher" and `RegisterForShadow()`; the states are those of EDK2's dispatcher.
use Rattle.std.specs.Prelude.{◌≡◌, ℕ, Bool, true, false, if◌then◌else◌, List, slice_get, unwrap_or}
use Rattle.mod_catalog.specs.Parts.{has_number}
use Rattle.boot_model.specs.{PeiMachine.PeiMachine, declared.peim_state.PeimState.PeimState}
use Rattle.boot_model.specs.declared.peim_state.PeimState.TheVariants.{NotDispatched, Dispatched, RegisteredForShadow, Done}

-- the state of a module, by the last of the lists that has it
abbrev pub peim_state : PeiMachine → ℕ → PeimState
peim_state m number =
    if has_number m.again number then Done
    else if has_number m.shadows number then RegisteredForShadow
    else if has_number m.started number then Dispatched
    else NotDispatched

-- whether a module in a state has started
abbrev pub has_started : PeimState → Bool
has_started NotDispatched = false
has_started Dispatched = true
has_started RegisteredForShadow = true
has_started Done = true

-- whether it has registered for shadow
abbrev pub has_registered : PeimState → Bool
has_registered NotDispatched = false
has_registered Dispatched = false
has_registered RegisteredForShadow = true
has_registered Done = true

-- whether it has started a second time
abbrev pub is_done : PeimState → Bool
is_done NotDispatched = false
is_done Dispatched = false
is_done RegisteredForShadow = false
is_done Done = true

-- whether a start of a module in a state is still to come
abbrev pub awaits_start : PeimState → Bool
awaits_start NotDispatched = true
awaits_start Dispatched = false
awaits_start RegisteredForShadow = true
awaits_start Done = false

-- the machine's lists have a module as its state says
pub record IsPeimState (m : PeiMachine) (number : ℕ) (state : PeimState) : Type 0 where
  pub started : has_number m.started number ≡ has_started state
  pub registered : has_number m.shadows number ≡ has_registered state
  pub again : has_number m.again number ≡ is_done state

-- the state of a module, by those of all; one after their end has not started
abbrev pub state_at : List PeimState → ℕ → PeimState
state_at states number = unwrap_or (slice_get states number) NotDispatched

-- these are the states of the modules
abbrev pub ArePeimStates : PeiMachine → List PeimState → Type 0
ArePeimStates m states = (number : ℕ) → IsPeimState m number (state_at states number)
