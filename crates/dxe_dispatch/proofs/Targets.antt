-- The machine from which a turn goes on: the choice is aimed at the driver to which the one leads that is named, or the machine chooses by itself where that one may not be scheduled.
use Rattle.std.proofs.Common.{◌≡◌, ℕ, Bool, true, false, ◌&&◌, cond, List, [], ◌∷◌, Option, Some, None, refl, sym, ap, ◌∙◌, subst, option_and_then}
use Rattle.pi_base.specs.declared.phase.Phase.TheVariants.{Dxe}
use Rattle.mod_catalog.specs.{declared.catalogue.Catalog.Catalog, declared.catalogue.Part.Part, Parts.has_number, Parts.part_at}
use Rattle.store_model.specs.StoreState.{StoreState}
use Rattle.boot_model.specs.{declared.driver.ProtocolNote.ProtocolNote, declared.driver.ProtocolSweep.ProtocolSweep}
use Rattle.boot_model.specs.{declared.driver.Scheduled.Scheduled, DxeMachine.DriverFrame, DxeMachine.DxeMachine, FreeRun.MaySchedule}
use Rattle.boot_model.specs.DxeChoice.{driver_queue, first_eligible, group_scheduled, head_of, is_eligible_driver, queue_from, waiting}
use Rattle.boot_model.specs.DxeStep.{DxeActs, DxeCase, DxeFires, DxeStarts, dxe_case_in, dxe_case_of, dxe_step, driver_started, in_dxe_case, next_note, queue_case}
use Rattle.dxe_dispatch.specs.Aim.{aimed as aimed_if, is_free, may_be_next}
use Rattle.dxe_core.specs.Standing.{DxeCore, IsCoreOf, StandsFor}
use Rattle.boot_laws.specs.DxeAim.{FirstEligibleMayStart, GroupsAreAimed, IsChoosing, aimed}
use Rattle.boot_laws.specs.DxeFree.{IsOwnCase}
use Rattle.dxe_dispatch.specs.{Queue.Queue, Turns.IsLeft}
use Rattle.dxe_dispatch.specs.Choices.{IsAimedBy, aimed_at, root_of}

-- a driver is chosen that may be scheduled, and of which this is so
pub record IsChosen (catalog : Catalog) (m : DxeMachine) (Leads : ℕ → Type 0) (root : ℕ) : Type 0 where
  pub choosing : IsChoosing m
  pub may : MaySchedule catalog m root
  pub leads : Leads root

-- the machine from which the turn goes on, and what the turn then is: the machine's own step, or the choice of a driver
pub data IsTarget (catalog : Catalog) (m : DxeMachine) (Leads : ℕ → Type 0) : DxeMachine → Type 0 where
  Own : IsOwnCase (dxe_case_of catalog m) m.scheduled → IsTarget catalog m Leads m
  First : (root : ℕ) → first_eligible catalog m ≡ Some root → IsChosen catalog m Leads root → IsTarget catalog m Leads m
  Aimed : (root : ℕ) → IsChosen catalog m Leads root → IsTarget catalog m Leads (aimed catalog m root)

-- what is so of the driver to which the one leads that is named, if it may be scheduled; and of each that may, where none is named or that one may not
pub record Leading (catalog : Catalog) (m : DxeMachine) (Leads : ℕ → Type 0) (named : Option ℕ) : Type 0 where
  pub some : (number : ℕ) → named ≡ Some number → MaySchedule catalog m (root_of catalog m number) → Leads (root_of catalog m number)
  pub none : ((number : ℕ) → named ≡ Some number → MaySchedule catalog m (root_of catalog m number) → ⊥) → (other : ℕ) → MaySchedule catalog m other → Leads other

-- where a script runs there is no choice
note_owns : (o : Option (ProtocolNote × ProtocolSweep)) (frame : DriverFrame) (below : List DriverFrame) (scheduled : List Scheduled)
    → IsOwnCase (elim o as (λ _. DxeCase) [ None ↦ DxeActs frame below | Some pair ↦ DxeFires pair.0 pair.1 frame below ]) scheduled
note_owns None frame below scheduled = tt
note_owns (Some pair) frame below scheduled = tt

pub busy_owns : (catalog : Catalog) (m : DxeMachine) (frame : DriverFrame) (below : List DriverFrame) → m.frames ≡ frame ∷ below → IsOwnCase (dxe_case_of catalog m) m.scheduled
busy_owns catalog m frame below is = subst (λ c. IsOwnCase c m.scheduled) (ap (dxe_case_in catalog m) (sym is)) (note_owns (option_and_then (next_note m) frame.sweep) frame below m.scheduled)

-- nor where a driver is scheduled
pub scheduled_owns : (catalog : Catalog) (m : DxeMachine) (first : Scheduled) (rest : List Scheduled) → m.frames ≡ [] → m.scheduled ≡ first ∷ rest → IsOwnCase (dxe_case_of catalog m) m.scheduled
scheduled_owns catalog m first rest idle is =
    let queue : driver_queue catalog m ≡ first ∷ rest = ap (λ xs. queue_from xs (group_scheduled catalog m (first_eligible catalog m))) is in
    let case_is : dxe_case_of catalog m ≡ DxeStarts first rest = ap (dxe_case_in catalog m) idle ∙ ap (λ q. queue_case (head_of q)) queue in
    subst (λ c. IsOwnCase c m.scheduled) (sym case_is) (λ none. absurd (never (sym is ∙ none)))
  where
    never : first ∷ rest ≡ [] → ⊥
    never e = cc

-- whether a driver may be scheduled
may_by : (catalog : Catalog) (m : DxeMachine) (root : ℕ) → may_be_next catalog m root ≡ true → MaySchedule catalog m root
may_by catalog m root h = both (has_number (waiting catalog m) root) (is_eligible_driver catalog m root) h
  where
    both : (a b : Bool) → (a && b) ≡ true → (a ≡ true) × (b ≡ true)
    both true b e = (refl, e)
    both false b e = cc

is_may : (catalog : Catalog) (m : DxeMachine) (root : ℕ) → MaySchedule catalog m root → may_be_next catalog m root ≡ true
is_may catalog m root may = ap (λ b. b && is_eligible_driver catalog m root) may.0 ∙ may.1

aim_is : (catalog : Catalog) (m : DxeMachine) (root : ℕ) (b : Bool) → (is_free m.scheduled && may_be_next catalog m root) ≡ b → aimed_if catalog m root ≡ cond b (aimed catalog m root) m
aim_is catalog m root b e = ap (λ t. cond t (aimed catalog m root) m) e

-- the machine chooses by itself
self_chosen : (catalog : Catalog) (m : DxeMachine) (Leads : ℕ → Type 0) → FirstEligibleMayStart → IsChoosing m → ((other : ℕ) → MaySchedule catalog m other → Leads other) → IsTarget catalog m Leads m
self_chosen catalog m Leads law choosing each = by (first_eligible catalog m) refl
  where
    by : (found : Option ℕ) → first_eligible catalog m ≡ found → IsTarget catalog m Leads m
    by None e = Own (subst (λ c. IsOwnCase c m.scheduled) (sym ((law catalog m).stops choosing e)) tt)
    by (Some root) e =
        let may = (law catalog m).found root e in
        First root e (record { choosing = choosing; may = may; leads = each root may })

no_number : (n : ℕ) → None ≡ Some n → ⊥
no_number n e = cc

one_number : (a b : ℕ) → Some a ≡ Some b → a ≡ b
one_number a b e = cc

false_true : false ≡ true → ⊥
false_true e = cc

-- nothing runs and nothing is scheduled
chosen_target : (catalog : Catalog) (m : DxeMachine) (Leads : ℕ → Type 0) (named : Option ℕ) → FirstEligibleMayStart → IsChoosing m → Leading catalog m Leads named → IsTarget catalog m Leads (aimed_at catalog m named)
chosen_target catalog m Leads None law choosing leads = self_chosen catalog m Leads law choosing (leads.none (λ number is may. no_number number is))
chosen_target catalog m Leads (Some number) law choosing leads = by (may_be_next catalog m (root_of catalog m number)) refl
  where
    root : ℕ
    root = root_of catalog m number

    test : (b : Bool) → may_be_next catalog m root ≡ b → (is_free m.scheduled && may_be_next catalog m root) ≡ b
    test b e = ap (λ xs. is_free xs && may_be_next catalog m root) choosing.scheduled ∙ e

    by : (b : Bool) → may_be_next catalog m root ≡ b → IsTarget catalog m Leads (aimed_if catalog m root)
    by true e =
        let may = may_by catalog m root e in
        subst (IsTarget catalog m Leads) (sym (aim_is catalog m root true (test true e))) (Aimed root (record { choosing = choosing; may = may; leads = leads.some number refl may }))
    by false e =
        let never : (other : ℕ) → Some number ≡ Some other → MaySchedule catalog m (root_of catalog m other) → ⊥ = λ other is may.
        let same = one_number number other is in
        false_true (sym e ∙ ap (λ n. may_be_next catalog m (root_of catalog m n)) same ∙ is_may catalog m (root_of catalog m other) may) in
        subst (IsTarget catalog m Leads) (sym (aim_is catalog m root false (test false e))) (self_chosen catalog m Leads law choosing (leads.none never))

-- where a driver is scheduled the choice is aimed at none
kept : (catalog : Catalog) (m : DxeMachine) (named : Option ℕ) (first : Scheduled) (rest : List Scheduled) → m.scheduled ≡ first ∷ rest → aimed_at catalog m named ≡ m
kept catalog m None first rest is = refl
kept catalog m (Some number) first rest is = let root = root_of catalog m number in aim_is catalog m root false (ap (λ xs. is_free xs && may_be_next catalog m root) is)

-- a script runs, a driver is scheduled, or one is to be chosen
pub data Doing (m : DxeMachine) : Type 0 where
  RunsScript : (frame : DriverFrame) (below : List DriverFrame) → m.frames ≡ frame ∷ below → Doing m
  HasScheduled : (first : Scheduled) (rest : List Scheduled) → m.frames ≡ [] → m.scheduled ≡ first ∷ rest → Doing m
  MayChoose : IsChoosing m → Doing m

pub doing : (m : DxeMachine) → m.ended ≡ None → Doing m
doing m going = by m.frames m.scheduled refl refl
  where
    by : (frames : List DriverFrame) (scheduled : List Scheduled) → m.frames ≡ frames → m.scheduled ≡ scheduled → Doing m
    by (frame ∷ below) scheduled e f = RunsScript frame below e
    by [] (first ∷ rest) e f = HasScheduled first rest e f
    by [] [] e f = MayChoose (record { going = going; frames = e; scheduled = f })

-- where a script runs none is named
pub none_named : (Names : DxeMachine → Option ℕ → Type 0) (catalog : Catalog) (m target : DxeMachine) (frame : DriverFrame) (below : List DriverFrame) → m.frames ≡ frame ∷ below → IsAimedBy Names catalog m target → target ≡ m
none_named Names catalog m target frame below runs by = by.is ∙ ap (aimed_at catalog m) (by.busy (λ choosing. not_empty frame below (sym runs ∙ choosing.frames)))
  where
    not_empty : (x : DriverFrame) (xs : List DriverFrame) → x ∷ xs ≡ [] → ⊥
    not_empty x xs h = cc

pub none_aimed : (Names : DxeMachine → Option ℕ → Type 0) (catalog : Catalog) (m target : DxeMachine) (first : Scheduled) (rest : List Scheduled) → m.scheduled ≡ first ∷ rest → IsAimedBy Names catalog m target → target ≡ m
none_aimed Names catalog m target first rest is by = by.is ∙ kept catalog m by.named first rest is

-- the machine at which the choice was aimed
pub target_is : (Names : DxeMachine → Option ℕ → Type 0) (catalog : Catalog) (m target : DxeMachine) (Leads : ℕ → Type 0) → FirstEligibleMayStart → m.ended ≡ None → (by : IsAimedBy Names catalog m target)
    → (IsChoosing m → Leading catalog m Leads by.named) → IsTarget catalog m Leads target
target_is Names catalog m target Leads law going by leads = by_doing (doing m going)
  where
    by_doing : Doing m → IsTarget catalog m Leads target
    by_doing (RunsScript frame below e) = subst (IsTarget catalog m Leads) (sym (none_named Names catalog m target frame below e by)) (Own (busy_owns catalog m frame below e))
    by_doing (HasScheduled first rest e f) = subst (IsTarget catalog m Leads) (sym (none_aimed Names catalog m target first rest f by)) (Own (scheduled_owns catalog m first rest e f))
    by_doing (MayChoose choosing) = subst (IsTarget catalog m Leads) (sym by.is) (chosen_target catalog m Leads by.named law choosing (leads choosing))

-- what is scheduled is no part of what the core stands for
core_aimed : (catalog : Catalog) (core : DxeCore) (m : DxeMachine) (scheduled : List Scheduled) → IsCoreOf catalog core m → IsCoreOf catalog core (record m { scheduled = scheduled })
core_aimed catalog core m scheduled is = record {
  frames = is.frames;
  services = record { handles = is.services.handles; notes = is.services.notes; order = is.services.order; requested = is.services.requested };
  actions = is.actions;
  running = is.running;
}

pub target_stands : {M : Type 0} (stands : M → StoreState → Type 0) (store : M) (catalog : Catalog) (core : DxeCore) (m target : DxeMachine) (Leads : ℕ → Type 0) → IsTarget catalog m Leads target → StandsFor stands store catalog core m → StandsFor stands store catalog core target
target_stands stands store catalog core m target Leads (Own own) s = s
target_stands stands store catalog core m target Leads (First root found chosen) s = s
target_stands stands store catalog core m target Leads (Aimed root chosen) s = record { store = s.store; core = core_aimed catalog core m (group_scheduled catalog m (Some root)) s.core }

-- and back
core_before : (catalog : Catalog) (core : DxeCore) (m : DxeMachine) (scheduled : List Scheduled) → IsCoreOf catalog core (record m { scheduled = scheduled }) → IsCoreOf catalog core m
core_before catalog core m scheduled is = record {
  frames = is.frames;
  services = record { handles = is.services.handles; notes = is.services.notes; order = is.services.order; requested = is.services.requested };
  actions = is.actions;
  running = is.running;
}

pub left_before : {M : Type 0} (stands : M → StoreState → Type 0) (store : M) (catalog : Catalog) (core : DxeCore) (queue : Queue) (m target : DxeMachine) (Leads : ℕ → Type 0) → IsTarget catalog m Leads target → IsLeft stands store catalog core queue target
    → IsLeft stands store catalog core queue m
left_before stands store catalog core queue m target Leads (Own own) s = s
left_before stands store catalog core queue m target Leads (First root found chosen) s = s
left_before stands store catalog core queue m target Leads (Aimed root chosen) s =
    record { machine = record { store = s.machine.store; core = core_before catalog core m (group_scheduled catalog m (Some root)) s.machine.core }; left = s.left }

-- the first eligible driver starts as if the choice were aimed at it
start_same : (catalog : Catalog) (m : DxeMachine) (scheduled : List Scheduled) (next : Scheduled) (queue : List Scheduled) (part : Option Part)
    → driver_started catalog m next queue part ≡ driver_started catalog (record m { scheduled = scheduled }) next queue part
start_same catalog m scheduled next queue None = refl
start_same catalog m scheduled next queue (Some part) = refl

pub first_step : (catalog : Catalog) (fuel : ℕ) (m : DxeMachine) (root : ℕ) → GroupsAreAimed → IsChoosing m → MaySchedule catalog m root → first_eligible catalog m ≡ Some root → dxe_step catalog fuel m ≡ dxe_step catalog fuel (aimed catalog m root)
first_step catalog fuel m root law choosing may found =
    let is = law catalog m root choosing may in
    let first : Scheduled = is.starts.first in
    let rest : List Scheduled = is.starts.queue in
    let queue : driver_queue catalog m ≡ first ∷ rest =
    ap (λ xs. queue_from xs (group_scheduled catalog m (first_eligible catalog m))) choosing.scheduled ∙ ap (group_scheduled catalog m) found ∙ is.starts.group in
    let case_is : dxe_case_of catalog m ≡ DxeStarts first rest = ap (dxe_case_in catalog m) choosing.frames ∙ ap (λ q. queue_case (head_of q)) queue in
    ap (in_dxe_case catalog fuel m) case_is ∙ start_same catalog m (group_scheduled catalog m (Some root)) first rest (part_at Dxe catalog first.module_number)
    ∙ ap (in_dxe_case catalog fuel (aimed catalog m root)) (sym is.starts.starts)
