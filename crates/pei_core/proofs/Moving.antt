-- The core's own call, behind the move.
use Rattle.std.proofs.Common.{◌≡◌, ℕ, Bool, List, [], ◌∷◌, ◌++◌, refl, ap, ◌∙◌, subst, Some, None, Ok, Err}
use Rattle.pi_base.specs.{declared.word.Word.Word, declared.word.Word.TheVariants.Success}
use Rattle.store_model.specs.{declared.store_handle.Sweep.Sweep, declared.store_handle.StoreFault.StoreFault, StoreState.StoreState}
use Rattle.store_model.specs.declared.store_handle.StoreFault.TheVariants as F
use Rattle.store_model.specs.Service.{Service, Answers, fault_status}
use Rattle.boot_model.specs.{declared.line.Line.Line, PeiAction.status_of, PeiMachine.PeiMachine, PeiMachine.printed}
use Rattle.boot_model.specs.declared.line.Line.TheVariants as L
use Rattle.boot_model.specs.PeiStep.{core_called, moved_to}
use Rattle.boot_laws.proofs.{PeiCases.Migrated, PeiCases.migrated_is, StoreMoved.KeepsMoved, StoreMoved.core_moved}
use Rattle.store_model.specs.{Migration.migration, Service.Install.core_install}
use Rattle.pei_core.specs.{declared.core_state.Core.Core, declared.event.Again.TheVariants.All, declared.event.Again.TheVariants.Nobody}
use Rattle.pei_core.specs.{SecondStarts.IsAgain, Standing.IsCoreOf}
use Rattle.pei_core.proofs.{PeimStates.same_states, SecondStarts.all_again, SecondStarts.nobody}

-- the machine behind a call that installed the PPI, and behind one that was refused
abbrev pub behind : PeiMachine → Sweep → StoreState → PeiMachine
behind m sweep new = record (printed m (L.CoreInstall Success ∷ [])) { store = new; core_sweep = Some sweep }

abbrev pub refused : PeiMachine → Word → PeiMachine
refused m status = record (printed m (L.CoreInstall status ∷ [])) { core_sweep = None }

pub behind_core : (m : PeiMachine) (sweep : Sweep) (new : StoreState) (core : Core) → IsCoreOf core m → IsCoreOf (record core { sweep = Some sweep }) (behind m sweep new)
behind_core m sweep new core of = record {
  frames = of.frames;
  sweep = refl;
  reported = of.reported;
  states = same_states m (behind m sweep new) core.states refl refl refl of.states;
  actions = of.actions;
  starts = of.starts;
  running = of.running;
}

pub refused_core : (m : PeiMachine) (status : Word) (core : Core) → IsCoreOf core m → IsCoreOf (record core { sweep = None }) (refused m status)
refused_core m status core of = record {
  frames = of.frames;
  sweep = refl;
  reported = of.reported;
  states = same_states m (refused m status) core.states refl refl refl of.states;
  actions = of.actions;
  starts = of.starts;
  running = of.running;
}

-- a refusal with a status leaves the state as it was
pub record IsRefused (service : Service Sweep) (old new : StoreState) (fault : StoreFault) (status : Word) : Type 0 where
  pub is : service ≡ Err fault
  pub same : new ≡ old
  pub told : status_of fault ≡ status

pub refusal_is : (takes : Bool) (service : Service Sweep) (old new : StoreState) (fault : StoreFault) (status : Word) → Answers takes service old (Err fault) new → fault_status fault ≡ Some status → IsRefused service old new fault status
refusal_is takes service old new F.Full status a e = record { is = a.0; same = a.1; told = cc }
refusal_is takes service old new F.Bad status a e = record { is = a.0; same = a.1; told = cc }
refusal_is takes service old new F.Missing status a e = record { is = a.0; same = a.1; told = cc }
refusal_is takes service old new F.NotYet status a e = record { is = a.0; same = a.1; told = cc }
refusal_is takes service old new F.Memory status a e = cc

-- what the call prints
pub call_prints : (m : PeiMachine) (service : Service Sweep) → (told : List Line) × ((core_called m service).lines ≡ m.lines ++ told)
call_prints m (Ok pair) = (_, refl)
call_prints m (Err fault) = (_, refl)

-- the move, with its line
abbrev pub moved : PeiMachine → StoreState → PeiMachine
moved m new = record (printed m (L.Migrate m.store.base new.base ∷ [])) { store = new }

pub moved_core : (m : PeiMachine) (new : StoreState) (core : Core) → IsCoreOf core m → IsCoreOf core (moved m new)
moved_core m new core of = record {
  frames = of.frames;
  sweep = of.sweep;
  reported = of.reported;
  states = same_states m (moved m new) core.states refl refl refl of.states;
  actions = of.actions;
  starts = of.starts;
  running = of.running;
}

-- where memory moves, all that await their second start may start again
called_moved : (m : PeiMachine) (service : Service Sweep) → KeepsMoved m.store service → (core_called m service).store.moved ≡ m.store.moved
called_moved m (Ok pair) k = k
called_moved m (Err fault) k = refl

pub called_reported : (m : PeiMachine) (service : Service Sweep) → (core_called m service).reported ≡ m.reported
called_reported m (Ok pair) = refl
called_reported m (Err fault) = refl

called_shadows : (m : PeiMachine) (service : Service Sweep) → (core_called m service).shadows ≡ m.shadows
called_shadows m (Ok pair) = refl
called_shadows m (Err fault) = refl

called_again : (m : PeiMachine) (service : Service Sweep) → (core_called m service).again ≡ m.again
called_again m (Ok pair) = refl
called_again m (Err fault) = refl

pub called_quiet : (m : PeiMachine) (service : Service Sweep) → KeepsMoved m.store service → IsAgain m (core_called m service) Nobody
called_quiet m service keeps = nobody m (core_called m service) (called_shadows m service) (called_again m service) (called_moved m service keeps)

pub moved_lets : (m : PeiMachine) (new : StoreState) → migration m.store ≡ Some new → IsAgain m (moved_to m new) All
moved_lets m new is =
    let k = subst (Migrated m.store) is (migrated_is m.store) in
    all_again m (moved_to m new) k.1 (called_moved (moved m new) (core_install new) (core_moved new) ∙ k.0)

pub migrate_line : (bases : ℕ × ℕ) (s new : StoreState) → bases ≡ (s.base, new.base) → L.Migrate bases.0 bases.1 ≡ L.Migrate s.base new.base
migrate_line bases s new e = ap (λ (b : ℕ × ℕ). L.Migrate b.0 b.1) e
