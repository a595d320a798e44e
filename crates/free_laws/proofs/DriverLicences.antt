-- Along a free run of DXE each driver that is scheduled has had its licence.
use Rattle.std.proofs.Common.{◌≡◌, ◌⊎◌, ℕ, List, [], ◌∷◌, Option, Some, None, refl, sym, subst, inl, inr}
use Rattle.pi_base.specs.{declared.phase.Phase.TheVariants.Dxe, Lists.Each}
use Rattle.mod_catalog.specs.{declared.catalogue.Catalog.Catalog, declared.catalogue.Part.Part, Parts.part_at}
use Rattle.store_model.specs.Service.Reading.{fv_bases}
use Rattle.boot_model.specs.{DxeMachine.DxeMachine, declared.driver.Scheduled.Scheduled, Discovery.discoveries, DxeRun.dxe_opening}
use Rattle.boot_model.specs.{DriverLicence.IsMember, DxeChoice.a_priori_drivers, DxeChoice.group_scheduled}
use Rattle.boot_model.specs.{DxeStep.driver_started, DxeStep.dxe_case_of, FreeRun.IsFreeDxeRun, FreeRun.MaySchedule}
use Rattle.boot_model.proofs.ListFacts.{each_append, each_both, each_more}
use Rattle.boot_laws.specs.DriverLicences.{IsApriori, OneOf}
use Rattle.free_laws.specs.FreeDxe.{EachStepAfter, FreeDriversStartLicensed, HasStarted, IsScheduledFrom, StartsLicensed, WasLicensed}
use Rattle.free_laws.proofs.FreeGroups.{group_licensed}
use Rattle.free_laws.proofs.QueueSteps.{Heads, Joins, all_apriori, step_does, wider}

-- the drivers that are scheduled in a machine were licensed before it
abbrev QueueWas : Catalog → List DxeMachine → DxeMachine → Type 0
QueueWas catalog past m = Each (WasLicensed catalog past m.discovered) m.scheduled

later_was : (catalog : Catalog) (past : List DxeMachine) (m : DxeMachine) (volumes : List ℕ) (next : Scheduled) → WasLicensed catalog past volumes next → WasLicensed catalog (m ∷ past) volumes next
later_was catalog past m volumes next (inl h) = inl h
later_was catalog past m volumes next (inr h) = inr (inr h)

-- each of a group is scheduled from its machine
each_later : {A : Type 0} (x : A) (xs ys : List A) → Each (λ y. OneOf (λ other. other ≡ y) xs) ys → Each (λ y. OneOf (λ other. other ≡ y) (x ∷ xs)) ys
each_later x xs [] e = tt
each_later x xs (y ∷ ys) e = (inr e.0, each_later x xs ys e.1)

all_in : {A : Type 0} (xs : List A) → Each (λ x. OneOf (λ other. other ≡ x) xs) xs
all_in [] = tt
all_in (x ∷ xs) = (inl refl, each_later x xs xs (all_in xs))

group_from : (catalog : Catalog) (m : DxeMachine) (root : ℕ) → m.frames ≡ [] → m.scheduled ≡ [] → MaySchedule catalog m root → Each (λ next. IsScheduledFrom catalog next m) (group_scheduled catalog m (Some root))
group_from catalog m root idle empty may =
    let group = group_scheduled catalog m (Some root) in
    each_more (λ next. OneOf (λ other. other ≡ next) group × IsMember catalog m group next) (λ next. IsScheduledFrom catalog next m) group
    (λ next h. record { idle = idle; empty = empty; root = root; may = may; member = h.0; licensed = h.1 })
    (each_both (λ next. OneOf (λ other. other ≡ next) group) (IsMember catalog m group) group (all_in group) (group_licensed catalog m root may.1))

-- what is due was licensed
due_was : (catalog : Catalog) (past : List DxeMachine) (m later : DxeMachine) → QueueWas catalog past m → (h : Heads catalog m later) → Each (WasLicensed catalog (m ∷ past) m.discovered) (h.next ∷ h.queue)
due_was catalog past m later was h = by h.due
  where
    Was : Scheduled → Type 0
    Was = WasLicensed catalog (m ∷ past) m.discovered

    by : (m.scheduled ≡ h.next ∷ h.queue) ⊎ ((m.scheduled ≡ []) × (root : ℕ) × MaySchedule catalog m root × (group_scheduled catalog m (Some root) ≡ h.next ∷ h.queue)) → Each Was (h.next ∷ h.queue)
    by (inl same) = subst (Each Was) same (each_more (WasLicensed catalog past m.discovered) Was m.scheduled (later_was catalog past m m.discovered) was)
    by (inr from) =
        subst (Each Was) from.3
        (each_more (λ next. IsScheduledFrom catalog next m) Was (group_scheduled catalog m (Some from.1)) (λ next k. inr (inl k)) (group_from catalog m from.1 h.idle from.0 from.2))

-- so it is with what is scheduled later
joined_was : (catalog : Catalog) (past : List DxeMachine) (m later : DxeMachine) → QueueWas catalog past m → Joins catalog m later → QueueWas catalog (m ∷ past) later
joined_was catalog past m later was h =
    let Was : Scheduled → Type 0 = WasLicensed catalog (m ∷ past) later.discovered in
    let wide : (next : Scheduled) → WasLicensed catalog past m.discovered next → Was next = λ next k. widen next k in
    subst (Each Was) (sym h.queue)
    (each_append Was m.scheduled h.more (each_more (WasLicensed catalog past m.discovered) Was m.scheduled wide was) (each_more (IsApriori catalog later.discovered) Was h.more (λ next k. inl k) h.apriori))
  where
    widen : (next : Scheduled) → WasLicensed catalog past m.discovered next → WasLicensed catalog (m ∷ past) later.discovered next
    widen next (inl k) = inl (wider catalog m.discovered later.discovered next h.volumes k)
    widen next (inr k) = inr (inr k)

part_was : (catalog : Catalog) (past : List DxeMachine) (m : DxeMachine) (next : Scheduled) (queue : List Scheduled) (part : Option Part) → Each (WasLicensed catalog past m.discovered) queue → QueueWas catalog past (driver_started catalog m next queue part)
part_was catalog past m next queue None h = h
part_was catalog past m next queue (Some part) h = h

step_was : (catalog : Catalog) (past : List DxeMachine) (m later : DxeMachine) → QueueWas catalog past m → Joins catalog m later ⊎ Heads catalog m later → QueueWas catalog (m ∷ past) later
step_was catalog past m later was (inl h) = joined_was catalog past m later was h
step_was catalog past m later was (inr h) =
    subst (QueueWas catalog (m ∷ past)) (sym h.later_is) (part_was catalog (m ∷ past) m h.next h.queue (part_at Dxe catalog h.next.module_number) (due_was catalog past m later was h).1)

-- a driver with a licence is one of the catalogue
one_member : (catalog : Catalog) (next : Scheduled) (past : List DxeMachine) → OneOf (IsScheduledFrom catalog next) past → (part : Part) × (part_at Dxe catalog next.module_number ≡ Some part)
one_member catalog next [] h = absurd h
one_member catalog next (m ∷ past) (inl h) = (h.licensed.0, h.licensed.1)
one_member catalog next (m ∷ past) (inr h) = one_member catalog next past h

has_part : (catalog : Catalog) (past : List DxeMachine) (volumes : List ℕ) (next : Scheduled) → WasLicensed catalog past volumes next → (part : Part) × (part_at Dxe catalog next.module_number ≡ Some part)
has_part catalog past volumes next (inl h) = (h.part, h.is)
has_part catalog past volumes next (inr h) = one_member catalog next past h

head_started : (catalog : Catalog) (past : List DxeMachine) (m later : DxeMachine) → QueueWas catalog past m → Heads catalog m later → HasStarted catalog past m later
head_started catalog past m later was h =
    let licensed = (due_was catalog past m later was h).0 in
    let part = has_part catalog (m ∷ past) m.discovered h.next licensed in
    let starts : Option Part → Type 0 = λ o. later ≡ driver_started catalog m h.next h.queue o in
    record { next = h.next; queue = h.queue; part = part.0; part_is = part.1; licensed = licensed; later_is = subst starts part.1 h.later_is }

step_licensed : (catalog : Catalog) (past : List DxeMachine) (m later : DxeMachine) → QueueWas catalog past m → Joins catalog m later ⊎ Heads catalog m later → StartsLicensed catalog past m later
step_licensed catalog past m later was (inl h) = inl h.started
step_licensed catalog past m later was (inr h) = inr (head_started catalog past m later was h)

run_licensed : (catalog : Catalog) (fuel : ℕ) (past : List DxeMachine) (m : DxeMachine) (run : List DxeMachine) → QueueWas catalog past m → IsFreeDxeRun catalog fuel m run → EachStepAfter (StartsLicensed catalog) past m run
run_licensed catalog fuel past m [] was goes = tt
run_licensed catalog fuel past m (later ∷ rest) was goes =
    let does = step_does catalog fuel m later (dxe_case_of catalog m) refl goes.1 in
    (step_licensed catalog past m later was does, run_licensed catalog fuel (m ∷ past) later rest (step_was catalog past m later was does) goes.2)

pub start_licensed : FreeDriversStartLicensed
start_licensed catalog fuel s actions run goes =
    let volumes = discoveries catalog [] (fv_bases s) in
    run_licensed catalog fuel [] (dxe_opening catalog s actions) run (each_more (IsApriori catalog volumes) (WasLicensed catalog [] volumes) (a_priori_drivers catalog volumes) (λ next h. inl h) (all_apriori catalog volumes)) goes
