-- A module that has started registers for shadow.
use Rattle.std.proofs.Common.{◌≡◌, ℕ, ◌<◌, Bool, true, false, cond, List, [], ◌∷◌, ◌++◌, length, refl, sym, ap, ◌∙◌, subst, None, length-set}
use Rattle.pi_base.specs.{declared.word.Word.Word, declared.word.Word.TheVariants.AlreadyStarted}
use Rattle.mod_catalog.specs.{Parts.has_number, declared.catalogue.Catalog.Catalog}
use Rattle.boot_model.specs.{declared.line.Line.Line, declared.peim_state.PeimState.PeimState, PeiStep.past, PeiStep.shadowed}
use Rattle.boot_model.specs.declared.line.Line.TheVariants as L
use Rattle.boot_model.specs.declared.line.CallName.TheVariants as C
use Rattle.boot_model.specs.declared.line.Extra.TheVariants as X
use Rattle.boot_model.specs.declared.peim_state.PeimState.TheVariants.{NotDispatched, Dispatched, RegisteredForShadow, Done}
use Rattle.boot_model.specs.PeiMachine.{Frame, PeiMachine, printed}
use Rattle.boot_model.specs.PeimState.{ArePeimStates, IsPeimState, state_at}
use Rattle.phase_parts.specs.Frames.{answered}
use Rattle.pei_core.specs.{Cores.register_status, Cores.with_registered, declared.core_state.Core.Core, declared.event.Again.Again}
use Rattle.pei_core.specs.{SecondStarts.IsAgain, SecondStarts.registered_again, Standing.IsCoreFor, Standing.IsCoreOf}
use Rattle.pei_core.proofs.{PeimStates.registered_states, PeimStates.same_states, SecondStarts.nobody, SecondStarts.one_registers}

-- the list of those that registered, behind it
abbrev shadows_of : PeimState → List ℕ → ℕ → List ℕ
shadows_of NotDispatched shadows number = shadows
shadows_of Dispatched shadows number = shadows ++ number ∷ []
shadows_of RegisteredForShadow shadows number = shadows
shadows_of Done shadows number = shadows

abbrev pub told : PeimState → Line
told state = L.Call C.Shadow (register_status state) X.Nothing

-- the machine behind the call, by the module's state
abbrev pub behind : PeiMachine → Frame → List Frame → PeimState → PeiMachine
behind m frame below state = record (printed m (told state ∷ [])) {
  frames = record (past frame 0) { last = register_status state } ∷ below;
  shadows = shadows_of state m.shadows frame.module_number;
}

by : (m : PeiMachine) (frame : Frame) (below : List Frame) (b : Bool) → has_number m.shadows frame.module_number ≡ b
    → shadowed m frame below ≡ cond b (behind m frame below RegisteredForShadow) (behind m frame below Dispatched)
by m frame below b e = ap (λ t. cond t (behind m frame below RegisteredForShadow) (behind m frame below Dispatched)) e

pub shadowed_is : (state : PeimState) (m : PeiMachine) (frame : Frame) (below : List Frame) → IsPeimState m frame.module_number state → has_number m.started frame.module_number ≡ true
    → shadowed m frame below ≡ behind m frame below state
shadowed_is NotDispatched m frame below is started = let other : false ≡ true = sym is.started ∙ started in cc
shadowed_is Dispatched m frame below is started = by m frame below false is.registered
shadowed_is RegisteredForShadow m frame below is started = by m frame below true is.registered
shadowed_is Done m frame below is started = by m frame below true is.registered

-- the parts that it lets start again
registered_lets : (state : PeimState) (m : PeiMachine) (frame : Frame) (below : List Frame) → IsPeimState m frame.module_number state
    → IsAgain m (behind m frame below state) (registered_again state m.store.moved frame.module_number)
registered_lets NotDispatched m frame below is = nobody m (behind m frame below NotDispatched) refl refl refl
registered_lets Dispatched m frame below is = one_registers m (behind m frame below Dispatched) frame.module_number is.again refl refl refl
registered_lets RegisteredForShadow m frame below is = nobody m (behind m frame below RegisteredForShadow) refl refl refl
registered_lets Done m frame below is = nobody m (behind m frame below Done) refl refl refl

pub shadowed_lets : (m : PeiMachine) (frame : Frame) (below : List Frame) (states : List PeimState) (state : PeimState) (moved : Bool) (number : ℕ) (again : Again) → ArePeimStates m states → has_number m.started frame.module_number ≡ true
    → frame.module_number ≡ number → state ≡ state_at states number → moved ≡ m.store.moved → again ≡ registered_again state moved number → IsAgain m (shadowed m frame below) again
shadowed_lets m frame below states state moved number again are started same at is told =
    let own = state_at states frame.module_number in
    let all : again ≡ registered_again own m.store.moved frame.module_number =
    told ∙ ap (λ s. registered_again s moved number) at ∙ ap (λ b. registered_again (state_at states number) b number) is
    ∙ ap (λ n. registered_again (state_at states n) m.store.moved n) (sym same) in
    subst (λ x. IsAgain m (shadowed m frame below) x) (sym all)
    (subst (λ x. IsAgain m x (registered_again own m.store.moved frame.module_number)) (sym (shadowed_is own m frame below (are frame.module_number) started))
    (registered_lets own m frame below (are frame.module_number)))

-- the core behind it
abbrev pub with_shadow : Core → Frame → List Frame → PeimState → Core
with_shadow core frame below state = record (with_registered state frame.module_number core) { frames = answered frame frame.registers (register_status state) None ∷ below }

-- where nothing but the frame is another
same_core : (m : PeiMachine) (frame : Frame) (below : List Frame) (core : Core) → IsCoreOf core m
    → IsCoreOf (record core { frames = answered frame frame.registers AlreadyStarted None ∷ below }) (behind m frame below Done)
same_core m frame below core of = record {
  frames = refl;
  sweep = of.sweep;
  reported = of.reported;
  states = same_states m (behind m frame below Done) core.states refl refl refl of.states;
  actions = of.actions;
  starts = of.starts;
  running = of.running;
}

pub shadowed_core : (state : PeimState) (m : PeiMachine) (frame : Frame) (below : List Frame) (core : Core) → IsCoreOf core m → frame.module_number < length core.states
    → state_at core.states frame.module_number ≡ state → IsCoreOf (with_shadow core frame below state) (behind m frame below state)
shadowed_core NotDispatched m frame below core of inside e = same_core m frame below core of
shadowed_core Dispatched m frame below core of inside e =
    let own : IsPeimState m frame.module_number Dispatched = subst (IsPeimState m frame.module_number) e (of.states frame.module_number) in
    record {
      frames = refl;
      sweep = of.sweep;
      reported = of.reported;
      states = registered_states m (behind m frame below Dispatched) core.states frame.module_number inside of.states e refl refl refl;
      actions = of.actions;
      starts = of.starts;
      running = of.running;
    }
shadowed_core RegisteredForShadow m frame below core of inside e = same_core m frame below core of
shadowed_core Done m frame below core of inside e = same_core m frame below core of

-- a module that registers leaves the frames, and the rest of what the core keeps
pub same_frames : (state : PeimState) (number : ℕ) (core : Core) → (with_registered state number core).frames ≡ core.frames
same_frames NotDispatched number core = refl
same_frames Dispatched number core = refl
same_frames RegisteredForShadow number core = refl
same_frames Done number core = refl

pub same_start : (state : PeimState) (number : ℕ) (core : Core) → (with_registered state number core).last_start ≡ core.last_start
same_start NotDispatched number core = refl
same_start Dispatched number core = refl
same_start RegisteredForShadow number core = refl
same_start Done number core = refl

pub registered_for : (state : PeimState) (catalog : Catalog) (fuel number : ℕ) (core : Core) → number < length core.states → state_at core.states number ≡ state → IsCoreFor catalog fuel core → IsCoreFor catalog fuel (with_registered state number core)
registered_for NotDispatched catalog fuel number core inside e for = for
registered_for Dispatched catalog fuel number core inside e for = record {
  states = length-set core.states number RegisteredForShadow ∙ for.states;
  known = for.known;
  fuelled = for.fuelled;
}
registered_for RegisteredForShadow catalog fuel number core inside e for = for
registered_for Done catalog fuel number core inside e for = for

-- the core that the call leaves, as it was found
pub shadow_core : (state : PeimState) (m : PeiMachine) (frame : Frame) (below : List Frame) (core later : Core) (frames : List Frame) (status : Word) (number : ℕ)
    → IsCoreOf core m → frame.module_number ≡ number → number < length core.states → state_at core.states number ≡ state
    → later ≡ with_registered state number core → status ≡ register_status state → frames ≡ answered frame frame.registers status None ∷ below
    → IsCoreOf (record later { frames = frames }) (behind m frame below state)
shadow_core state m frame below core later frames status number of e inside at is told top =
    let same : record later { frames = frames } ≡ with_shadow core frame below state =
    ap (λ (x : Core). record x { frames = frames }) is
    ∙ ap (λ xs. record (with_registered state number core) { frames = xs }) top
    ∙ ap (λ w. record (with_registered state number core) { frames = answered frame frame.registers w None ∷ below }) told
    ∙ ap (λ n. record (with_registered state n core) { frames = answered frame frame.registers (register_status state) None ∷ below }) (sym e) in
    subst (λ x. IsCoreOf x (behind m frame below state)) (sym same)
    (shadowed_core state m frame below core of (subst (λ n. n < length core.states) (sym e) inside) (ap (λ n. state_at core.states n) e ∙ at))
