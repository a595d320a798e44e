-- What has to be known of a machine of PEI so that its next PEIM can be told: the volumes that were reported, the parts that have started and those that may start again, and the GUIDs of the installed PPIs.
-- PI 1.8, volume 1, "PEI Dispatcher"; the record is own.
use Rattle.std.specs.Prelude.{◌≡◌, ℕ, Bool, true, false, ◌||◌, ◌&&◌, ◌==◌, not, List, [], ◌++◌, Option, IfSome, option_to_list}
use Rattle.pi_base.specs.{declared.guid.Guid.Guid, Lists.Each}
use Rattle.mod_catalog.specs.{declared.catalogue.Catalog.Catalog, Parts.has_number}
use Rattle.store_model.specs.Service.Install.{has_ppi}
use Rattle.boot_model.specs.{Eligible.may_start_again, PeiChoice.pei_order, PeiMachine.PeiMachine, PeimState.state_at}
use Rattle.boot_model.specs.declared.peim_state.PeimState.{PeimState}
use Rattle.boot_model.specs.declared.peim_state.PeimState.TheVariants.{NotDispatched, Dispatched, RegisteredForShadow, Done}
use Rattle.boot_laws.specs.ChangedGuids.{is_among}

-- modules and volumes by their numbers; `again` tells of one that has started whether it may start again
pub record View : Type 0 where
  pub reported : List ℕ
  pub started : ℕ → Bool
  pub again : ℕ → Bool
  pub has : Guid → Bool

abbrev pub view_of : PeiMachine → View
view_of m = record { reported = m.reported; started = has_number m.started; again = may_start_again m; has = has_ppi m.store }

-- no volume is reported, no part has started, and nothing is installed
abbrev pub first_view : View
first_view = record { reported = []; started = λ number. false; again = λ number. false; has = λ guid. false }

-- these volumes are reported
abbrev pub with_volumes : List ℕ → View → View
with_volumes volumes view = record view { reported = view.reported ++ volumes }

-- these GUIDs are installed, and no others
abbrev pub with_guids : (Guid → Bool) → View → View
with_guids installed view = record view { has = installed }

-- these parts may start again
abbrev pub with_again : (ℕ → Bool) → View → View
with_again these view = record view { again = λ number. view.again number || these number }

-- whether a module in a state awaits its second start
abbrev pub awaits_again : PeimState → Bool
awaits_again NotDispatched = false
awaits_again Dispatched = false
awaits_again RegisteredForShadow = true
awaits_again Done = false

-- the parts that await their second start, by how far each module has come
abbrev pub awaits_at : List PeimState → ℕ → Bool
awaits_at states number = awaits_again (state_at states number)

-- one part, and one where it awaits its second start
abbrev pub is_number : ℕ → ℕ → Bool
is_number number other = number == other

abbrev pub is_number_by : ℕ → PeimState → ℕ → Bool
is_number_by number state other = (number == other) && awaits_again state

-- a part starts, and may not start again
abbrev pub with_start : ℕ → View → View
with_start part view = record view {
  started = λ number. (part == number) || view.started number;
  again = λ number. not (part == number) && view.again number;
}

-- two views say the same; of one that has not started nobody asks whether it may start again
pub record AreAlike (view other : View) : Type 0 where
  pub volumes : view.reported ≡ other.reported
  pub starts : (number : ℕ) → view.started number ≡ other.started number
  pub allows : (number : ℕ) → view.started number ≡ true → view.again number ≡ other.again number
  pub installs : (guid : Guid) → view.has guid ≡ other.has guid

-- the parts of what was reported, in PEI order
abbrev pub parts_of : Catalog → View → List ℕ
parts_of catalog view = pei_order catalog view.reported

-- the GUIDs of an event: the one that it takes away, and those that it puts in
abbrev pub event_guids : Option Guid → List Guid → List Guid
event_guids gone there = option_to_list gone ++ there

-- The PPIs of GUIDs are installed, and one is taken away, which another PPI may have still: these GUIDs were installed before, and these are behind it.
pub record IsEventOf (before after : Guid → Bool) (gone : Option Guid) (is_still_there : Bool) (guids : List Guid) : Type 0 where
  pub others : (guid : Guid) → is_among guid (event_guids gone guids) ≡ false → after guid ≡ before guid
  pub there : Each (λ guid. after guid ≡ true) guids
  pub taken : IfSome gone (λ guid. after guid ≡ is_still_there)
