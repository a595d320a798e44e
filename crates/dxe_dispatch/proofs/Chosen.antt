-- A turn by choices, from the machine's own step.
use Rattle.std.proofs.Common.{◌≡◌, ◌≤◌, ◌<◌, ℕ, ◌+◌, arith, Bool, true, false, true≢false, List, [], length, Option, None, Err, Result, refl, sym, ap, ◌∙◌, subst, ◌↔◌, IsTrue, OnOk}
use Rattle.boot_io.specs.declared.halt.Halt.{Halt}
use Rattle.mod_catalog.specs.{declared.catalogue.Catalog.Catalog, Parts.part_of, WellFormed.IsWellFormed}
use Rattle.pi_base.specs.declared.phase.Phase.TheVariants.{Dxe}
use Rattle.store_model.specs.StoreState.{StoreState}
use Rattle.boot_model.specs.{DxeMachine.DxeMachine, DxeStep.dxe_step}
use Rattle.boot_laws.specs.{UnrequestedDrivers.WaitForRequest, DxeFree.OwnDxeStepsAreFree}
use Rattle.boot_laws.proofs.EachDriver.{has_each_once}
use Rattle.boot_model.proofs.{Distinct.all_differ, Distinct.few_below, ListFacts.each_more, ListFacts.within}
use Rattle.boot_trace.specs.Printing.{Texts}
use Rattle.dxe_core.specs.{Order.Drivers, Order.IsOrderOf, Standing.DxeCore}
use Rattle.dxe_dispatch.specs.Queue.{IsQueueOf, IsSeen, Queue}
use Rattle.boot_laws.specs.DxeAim.{FirstEligibleMayStart, GroupsAreAimed, aimed}
use Rattle.boot_laws.specs.DxeUnderWay.{DxeStepsRunOut, IsDriverOf, IsNearerEnd, IsUnderWay}
use Rattle.dxe_dispatch.specs.{declared.answer.Turn.Turn, Ends.IsNow}
use Rattle.dxe_dispatch.specs.Choices.{Asks, IsAimedBy, IsOnWay, TurnsBy, aimed_at}
use Rattle.dxe_dispatch.specs.Turns.{AreKeptFor, IsLeft, IsAtTurn, EvaluatesWithin, TurnsDxeTo}
use Rattle.dxe_dispatch.proofs.{FirstStarts.aimed_owns, FirstStarts.starts_first, Growing.step_grew}
use Rattle.dxe_dispatch.proofs.{Requests.aim_waits, Requests.step_waits, Turning.none_put}
use Rattle.dxe_dispatch.proofs.Targets.{Aimed, First, IsChosen, IsTarget, Own, first_step, target_is, target_stands}

-- the laws of free steps on which a turn stands
pub record StepLaws : Type 0 where
  pub nearer : DxeStepsRunOut
  pub own : OwnDxeStepsAreFree
  pub first : FirstEligibleMayStart
  pub groups : GroupsAreAimed

-- of whatever driver
abbrev pub Any : ℕ → Type 0
Any root = Unit {0}

-- the machine at which a choice is aimed
pub target_at : (Names : DxeMachine → Option ℕ → Type 0) (catalog : Catalog) (m target : DxeMachine) → FirstEligibleMayStart → m.ended ≡ None → IsAimedBy Names catalog m target → IsTarget catalog m Any target
target_at Names catalog m target law going by = target_is Names catalog m target Any law going by (λ choosing. record { some = λ number is may. tt; none = λ no other may. tt })

-- it is nearer to its end
pub nearer_by : (laws : StepLaws) (catalog : Catalog) (fuel : ℕ) (m target : DxeMachine) (Leads : ℕ → Type 0) → IsWellFormed catalog → m.ended ≡ None → IsUnderWay catalog m → IsTarget catalog m Leads target
    → IsNearerEnd catalog fuel m (dxe_step catalog fuel target)
nearer_by laws catalog fuel m target Leads well going way (Own own) = laws.nearer catalog fuel m (dxe_step catalog fuel m) well.parents going way (laws.own catalog fuel m)
nearer_by laws catalog fuel m target Leads well going way (First root found c) = laws.nearer catalog fuel m (dxe_step catalog fuel m) well.parents going way (laws.own catalog fuel m)
nearer_by laws catalog fuel m target Leads well going way (Aimed root c) =
    laws.nearer catalog fuel m (dxe_step catalog fuel (aimed catalog m root)) well.parents going way ((laws.groups catalog m root c.choosing c.may).step fuel)

-- in it drivers wait for their request, and in the machine before
pub waits_before : (catalog : Catalog) (m target : DxeMachine) (Leads : ℕ → Type 0) → WaitForRequest catalog m → IsTarget catalog m Leads target → WaitForRequest catalog target
waits_before catalog m target Leads waits (Own own) = waits
waits_before catalog m target Leads waits (First root found c) = waits
waits_before catalog m target Leads waits (Aimed root c) = aim_waits catalog m root c.choosing.scheduled c.may waits

aimed_step_waits : (groups : GroupsAreAimed) (catalog : Catalog) (fuel : ℕ) (m : DxeMachine) (root : ℕ) (Leads : ℕ → Type 0) → IsWellFormed catalog → IsUnderWay catalog m → WaitForRequest catalog m → IsChosen catalog m Leads root
    → WaitForRequest catalog (dxe_step catalog fuel (aimed catalog m root))
aimed_step_waits groups catalog fuel m root Leads well way waits c =
    let is = groups catalog m root c.choosing c.may in
    let s = starts_first catalog fuel m root groups c.choosing c.may way in
    step_waits catalog fuel (aimed catalog m root) well (is.way way) (aimed_owns catalog fuel m root s) (aim_waits catalog m root c.choosing.scheduled c.may waits)

pub waits_behind : (groups : GroupsAreAimed) (catalog : Catalog) (fuel : ℕ) (m target : DxeMachine) (Leads : ℕ → Type 0) → IsWellFormed catalog → IsUnderWay catalog m → WaitForRequest catalog m → IsTarget catalog m Leads target
    → WaitForRequest catalog (dxe_step catalog fuel target)
waits_behind groups catalog fuel m target Leads well way waits (Own own) = step_waits catalog fuel m well way own waits
waits_behind groups catalog fuel m target Leads well way waits (First root found c) =
    subst (WaitForRequest catalog) (sym (first_step catalog fuel m root groups c.choosing c.may found)) (aimed_step_waits groups catalog fuel m root Leads well way waits c)
waits_behind groups catalog fuel m target Leads well way waits (Aimed root c) = aimed_step_waits groups catalog fuel m root Leads well way waits c

pub same_lines : (catalog : Catalog) (m target : DxeMachine) (Leads : ℕ → Type 0) → IsTarget catalog m Leads target → target.lines ≡ m.lines
same_lines catalog m target Leads (Own own) = refl
same_lines catalog m target Leads (First root found c) = refl
same_lines catalog m target Leads (Aimed root c) = refl

pub same_started : (catalog : Catalog) (m target : DxeMachine) (Leads : ℕ → Type 0) → IsTarget catalog m Leads target → target.started ≡ m.started
same_started catalog m target Leads (Own own) = refl
same_started catalog m target Leads (First root found c) = refl
same_started catalog m target Leads (Aimed root c) = refl

same_actions : (catalog : Catalog) (m target : DxeMachine) (Leads : ℕ → Type 0) → IsTarget catalog m Leads target → target.actions ≡ m.actions
same_actions catalog m target Leads (Own own) = refl
same_actions catalog m target Leads (First root found c) = refl
same_actions catalog m target Leads (Aimed root c) = refl

pub same_discovered : (catalog : Catalog) (m target : DxeMachine) (Leads : ℕ → Type 0) → IsTarget catalog m Leads target → target.discovered ≡ m.discovered
same_discovered catalog m target Leads (Own own) = refl
same_discovered catalog m target Leads (First root found c) = refl
same_discovered catalog m target Leads (Aimed root c) = refl

-- no more actions were taken than the fuel lets, or than before
abbrev pub TakesFew : ℕ → DxeMachine → DxeMachine → Type 0
TakesFew fuel m later = (most : ℕ) → fuel < most → m.actions < most → later.actions < most

pub few_by : (catalog : Catalog) (fuel : ℕ) (m target : DxeMachine) (Leads : ℕ → Type 0) → IsTarget catalog m Leads target → TakesFew fuel m (dxe_step catalog fuel target)
few_by catalog fuel m target Leads is most bound few = (step_grew catalog fuel most target bound (subst (λ n. n < most) (sym (same_actions catalog m target Leads is)) few)).actions

-- the machine is ready for its own step
pub target_ready : {M : Type 0} (laws : StepLaws) (stands : M → StoreState → Type 0) (store : M) (catalog : Catalog) (fuel : ℕ) (core : DxeCore) (kept aim : Queue) (m target : DxeMachine) → IsWellFormed catalog
    → IsOnWay stands store catalog core kept m → IsTarget catalog m Any target → IsQueueOf catalog target aim → IsAtTurn stands store catalog fuel core aim target
target_ready laws stands store catalog fuel core kept aim m target well on is queue = record {
  now = record { machine = target_stands stands store catalog core m target Any is on.now.machine; queue = queue };
  waits = waits_before catalog m target Any on.waits is;
  once = (has_each_once catalog (dxe_step catalog fuel target) (nearer_by laws catalog fuel m target Any well on.now.machine.core.running on.way is).way.volumes_differ).once;
}

-- the machine at which the choice is aimed, and its queue
pub record HasAimed {M : Type 0} (Names : DxeMachine → Option ℕ → Type 0) (stands : M → StoreState → Type 0) (store : M) (catalog : Catalog) (fuel : ℕ) (core : DxeCore) (aim : Queue) (m : DxeMachine) : Type 0 where
  pub target : DxeMachine
  pub aimed : IsAimedBy Names catalog m target
  pub is : IsTarget catalog m Any target
  pub ready : IsAtTurn stands store catalog fuel core aim target

pub has_aimed : {M : Type 0} (laws : StepLaws) (Names : DxeMachine → Option ℕ → Type 0) (stands : M → StoreState → Type 0) (store : M) (catalog : Catalog) (fuel : ℕ) (core : DxeCore) (kept aim : Queue) (m target : DxeMachine) → IsWellFormed catalog
    → IsOnWay stands store catalog core kept m → IsAimedBy Names catalog m target → IsQueueOf catalog target aim → HasAimed Names stands store catalog fuel core aim m
has_aimed laws Names stands store catalog fuel core kept aim m target well on by queue =
    let is = target_at Names catalog m target laws.first on.now.machine.core.running by in
    record { target = target; aimed = by; is = is; ready = target_ready laws stands store catalog fuel core kept aim m target well on is queue }

-- the turn that the machine took from there
pub turned_by : {M : Type 0} (Names : DxeMachine → Option ℕ → Type 0) (Lets : DxeMachine → ℕ → Bool) (stands : M → StoreState → Type 0) (store : M) (catalog : Catalog) (fuel : ℕ) (core later : DxeCore) (aim grown : Queue) (m : DxeMachine) (t : Texts) (before now : ℕ) (result : Result Turn Halt)
    → (has : HasAimed Names stands store catalog fuel core aim m) → TurnsDxeTo (Lets has.target) (IsNow stands store catalog later grown) (IsLeft stands store catalog later grown) catalog fuel has.target t result
    → OnOk result (EvaluatesWithin catalog fuel has.target before now) → TurnsBy Names Lets (IsNow stands store catalog later grown) (IsLeft stands store catalog later grown) catalog fuel m t before now result
turned_by Names Lets stands store catalog fuel core later aim grown m t before now result has turned few = record { target = has.target; aimed = has.aimed; turned = turned; few = few }

-- memory was wanting before it
pub not_aimed : (Names : DxeMachine → Option ℕ → Type 0) (Lets : DxeMachine → ℕ → Bool) (Now Left : DxeMachine → Type 0) (catalog : Catalog) (fuel : ℕ) (m target : DxeMachine) (text : Option (List ℕ)) (before now : ℕ) (halt : Halt) → IsAimedBy Names catalog m target
    → TurnsBy Names Lets Now Left catalog fuel m (record { old = text; new = text }) before now (Err halt)
not_aimed Names Lets Now Left catalog fuel m target text before now halt by =
    record { target = target; aimed = by; turned = none_put (Lets target) catalog target (dxe_step catalog fuel target) text; few = tt }

-- how many starts there were
pub starts_are : (in_pei : ℕ) (catalog : Catalog) (m target : DxeMachine) (Leads : ℕ → Type 0) (queue : Queue) (starts : ℕ) → starts ≡ in_pei + queue.left → IsQueueOf catalog m queue → IsTarget catalog m Leads target → starts ≡ in_pei + length target.started
starts_are in_pei catalog m target Leads queue starts counted is aim =
    counted ∙ ap (λ n. in_pei + n) (is.left ∙ sym (ap length (same_started catalog m target Leads aim)))

-- no more than there are modules
pub few_started : (catalog : Catalog) (m : DxeMachine) → IsUnderWay catalog m → length m.started ≤ length catalog.modules
few_started catalog m way =
    few_below m.started (length catalog.modules) (all_differ m.started way.started_differ)
    (each_more (IsDriverOf catalog m.discovered) (λ n. n < length catalog.modules) m.started (λ n is. within (part_of Dxe) catalog.modules n is.0) way.started_known)

-- by the order of the core
pub order_of : (catalog : Catalog) (core : DxeCore) (queue : Queue) (m : DxeMachine) (order : Drivers) → order ≡ core.services.order → AreKeptFor catalog core queue m → IsOrderOf catalog m.discovered order
order_of catalog core queue m order is are = let P : Drivers → Type 0 = λ drivers. IsOrderOf catalog m.discovered drivers in subst P (sym is) are.core.services.order

pub seen_of : (catalog : Catalog) (core : DxeCore) (queue : Queue) (m : DxeMachine) (order : Drivers) → order ≡ core.services.order → AreKeptFor catalog core queue m → IsSeen catalog m queue order
seen_of catalog core queue m order is are = record { queue = are.queue; order = order_of catalog core queue m order is are }

-- a driver is to be chosen
pub asked : (names : Option ℕ → Type 0) (catalog : Catalog) (core : DxeCore) (queue : Queue) (free : Bool) (found : Option ℕ) → IsTrue free ↔ ((core.frames ≡ []) × (queue.scheduled ≡ [])) → free ≡ true → names found → Asks names catalog core queue found
asked names catalog core queue free found is chosen may m are = record {
  allowed = λ choosing. may;
  busy = λ never. absurd (never (record { going = are.core.running; frames = are.core.frames ∙ (is.0 chosen).0; scheduled = are.queue.scheduled ∙ (is.0 chosen).1 }));
}

-- or none is
pub not_asked : (names : Option ℕ → Type 0) (catalog : Catalog) (core : DxeCore) (queue : Queue) (free : Bool) → IsTrue free ↔ ((core.frames ≡ []) × (queue.scheduled ≡ [])) → free ≡ false → Asks names catalog core queue None
not_asked names catalog core queue free is busy m are = record {
  allowed = λ choosing. absurd (true≢false (sym (is.1 (sym are.core.frames ∙ choosing.frames, sym are.queue.scheduled ∙ choosing.scheduled)) ∙ busy));
  busy = λ never. refl;
}

-- the choice is aimed at the driver that is named
pub aim_by : (Names : DxeMachine → Option ℕ → Type 0) (names : Option ℕ → Type 0) (catalog : Catalog) (core : DxeCore) (queue : Queue) (m : DxeMachine) (named : Option ℕ) → Asks names catalog core queue named → AreKeptFor catalog core queue m → (names named → Names m named)
    → IsAimedBy Names catalog m (aimed_at catalog m named)
aim_by Names names catalog core queue m named asks are may =
    let asked = asks m are in
    record { named = named; allowed = λ choosing. may (asked.allowed choosing); busy = asked.busy; is = refl }

pub within_less : (catalog : Catalog) (fuel : ℕ) (m : DxeMachine) (more before now : ℕ) → before ≤ more → EvaluatesWithin catalog fuel m before now → EvaluatesWithin catalog fuel m more now
within_less catalog fuel m more before now few within = sums more before now _ _ few within
  where
    sums : (more before now here there : ℕ) → before ≤ more → now + here ≤ before + there → now + here ≤ more + there
    sums more before now here there few within = omega (arith, few, within)
