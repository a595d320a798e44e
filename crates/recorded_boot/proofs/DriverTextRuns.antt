-- A run of DXE by the choices of a text: as far as the text has its lines, the free boots that begin so go on from it; and where the text has them no more, no free boot goes on as the text does.
use Rattle.std.proofs.Common.{◌≡◌, ◌≤◌, ◌<◌, Bool, true, ℕ, ◌+◌, List, [], ◌∷◌, ◌++◌, Option, Some, None, refl, sym, ap, ◌∙◌, subst, length, arith, inl, inr, ◌⊎◌, take-append-drop}
use Rattle.std.proofs.lemmas.Bool.{cases_lt}
use Rattle.boot_io.specs.Faults.{IsPrefix}
use Rattle.pi_base.specs.{declared.guid.Guid.Guid, declared.phase.Phase.TheVariants.Dxe}
use Rattle.mod_catalog.specs.{declared.catalogue.Catalog.Catalog, WellFormed.IsWellFormed}
use Rattle.store_model.specs.StoreState.{StoreState}
use Rattle.boot_model.specs.{declared.line.Line.Line, DxeMachine.DxeMachine, DxeRun.dxe_opening, DxeStep.dxe_step, FreeRun.AreFreeDxeLines}
use Rattle.boot_model.specs.{PeiMachine.PeiMachine, Text.text_of}
use Rattle.boot_model.proofs.Texts.{text_of-append}
use Rattle.boot_laws.specs.DxeAim.{AimIsFree, DxeStartsFreely, NamesLeadToRoot}
use Rattle.boot_laws.specs.DxeFree.{DxeEndsFreely, DxeGoesOn, DxeLinesGrow}
use Rattle.boot_laws.specs.DxeUnderWay.{DxeOpensUnderWay, FewDriversWait, IsUnderWay}
use Rattle.boot_laws.specs.Naming.{HasPut}
use Rattle.recorded_boot.specs.{declared.trace.spelled.Spelled.Spelled, Fronts.Tracks, Named.AreGuids, Named.AreNames, Starting.NamesNext}
use Rattle.recorded_boot.specs.Putting.{HasParted, IsOffHere, PutsGoOn, PutsPart}
use Rattle.recorded_boot.specs.Spelled.{IsHeld, IsRight, faults_of, left, met, spoken, told, whole}
use Rattle.recorded_boot.proofs.{TextFronts.prefix_then, TextFronts.shorter_front, TextRuns.by_text, TextRuns.told_by}
use Rattle.recorded_boot.proofs.Telling.{held_on, met_begins, off, tracks_on}
use Rattle.pei_dispatch.specs.Ends.{pei_starts}
use Rattle.dxe_dispatch.specs.Choices.{IsAimedBy, IsRunBy, came}
use Rattle.dxe_dispatch.proofs.Chosen.{Any, StepLaws, nearer_by, same_lines, target_at}
use Rattle.dxe_dispatch.proofs.Growing.{step_grew}
use Rattle.dxe_dispatch.proofs.Targets.{Aimed, Doing, First, HasScheduled, IsTarget, MayChoose, Own, RunsScript, busy_owns, doing, first_step, none_aimed, none_named, scheduled_owns, target_is}
use Rattle.boot_core.specs.Choices.{NamesBehind, told_behind}
use Rattle.recorded_boot.specs.{DxeAim.LeadsTo, DxeFollowed.printed_by}
use Rattle.recorded_boot.proofs.FreeSteps.{IsByText, all_print, begins_printed, by_aimed_step, by_own_step, printed_more, tracks_by}
use Rattle.recorded_boot.proofs.Leading.{LeadLaws, leading_by, starts_readable}

-- A run by a text: what is known of it.
pub record DriverRun : Type 0 where
  pub steps : StepLaws
  pub on : DxeGoesOn
  pub starts : DxeStartsFreely
  pub aims : AimIsFree
  pub grow : DxeLinesGrow
  pub ends : DxeEndsFreely
  pub opens : DxeOpensUnderWay
  pub roots : NamesLeadToRoot
  pub few : FewDriversWait
  pub puts : PutsGoOn
  pub parts : PutsPart
  pub catalog : Catalog
  pub fuel : ℕ
  pub s : StoreState
  pub actions : ℕ
  pub pei : PeiMachine
  pub names : List (List (Guid × ℕ))
  pub first : Spelled
  pub text : List ℕ
  pub well : IsWellFormed catalog
  pub guids : AreGuids catalog
  pub are : AreNames catalog (length catalog.modules) names
  pub held : IsHeld first text []

abbrev pub TextNames : DriverRun → List DxeMachine → DxeMachine → Option ℕ → Type 0
TextNames r = NamesBehind (by_text r.names) (told_behind (by_text r.names) r.catalog r.fuel r.pei) r.first r.pei

-- a text lets each driver
abbrev pub TextLets : List DxeMachine → DxeMachine → ℕ → Bool
TextLets earlier m number = true

abbrev pub opening : DriverRun → DxeMachine
opening r = dxe_opening r.catalog r.s r.actions

abbrev pub come : DriverRun → List DxeMachine → DxeMachine
come r earlier = came r.catalog r.fuel (opening r) earlier

abbrev pub Here : DriverRun → DxeMachine → List Line → Type 0
Here r m = AreFreeDxeLines r.catalog r.fuel r.pei m

abbrev pub IsRun : DriverRun → List DxeMachine → Type 0
IsRun r earlier = IsRunBy (TextNames r) TextLets r.catalog r.fuel (opening r) earlier

both : (r : DriverRun) (m : DxeMachine) → printed_by r.pei m ≡ text_of r.pei.lines ++ text_of m.lines
both r m = text_of-append r.pei.lines m.lines

-- a sink that has the lines of a machine has met them
held_at : (r : DriverRun) (m : DxeMachine) (s : Spelled) → HasPut told_by faults_of r.first (r.pei.lines ++ m.lines) s → IsHeld s r.text (printed_by r.pei m)
held_at r m s has =
    let still : IsRight s = has.right ∙ r.held.right in
    held_on r.first s r.text [] (printed_by r.pei m) r.held (r.puts r.first s (printed_by r.pei m) has.put r.held.right still) still

-- what was met stands in the text, and then what is left
held_whole : (text printed : List ℕ) (s : Spelled) → IsHeld s text printed → text ≡ printed ++ left s
held_whole text printed s held = sym held.whole_is ∙ sym (take-append-drop s.at (whole s)) ∙ ap (λ xs. xs ++ left s) held.met_is

-- each machine of the run is under way
way_at : (r : DriverRun) (earlier : List DxeMachine) → IsRun r earlier → IsUnderWay r.catalog (come r earlier)
way_at r [] run = (r.opens r.catalog r.fuel r.s r.actions r.well.parents).way
way_at r (target ∷ earlier) run =
    let m = come r earlier in
    (nearer_by r.steps r.catalog r.fuel m target Any r.well run.2 (way_at r earlier run.3) (target_at (TextNames r earlier) r.catalog m target r.steps.first run.2 run.0)).way

-- the free boots over a step at which the choice is aimed
aimed_by_text : (r : DriverRun) (m target : DxeMachine) (rest : List ℕ) → m.ended ≡ None → IsUnderWay r.catalog m → r.text ≡ printed_by r.pei m ++ rest → IsTarget r.catalog m (λ root. LeadsTo r.catalog m rest (Some root)) target
    → IsByText r.catalog r.fuel r.pei m (dxe_step r.catalog r.fuel target) r.text
aimed_by_text r m target rest going way is (Own own) = by_own_step r.catalog r.fuel r.pei m r.text r.on going own
aimed_by_text r m target rest going way is (First root found c) =
    subst (λ later. IsByText r.catalog r.fuel r.pei m later r.text) (sym (first_step r.catalog r.fuel m root r.steps.groups c.choosing c.may found))
    (by_aimed_step r.catalog r.fuel r.pei m root r.text rest r.on r.starts r.aims r.steps.first r.steps.groups r.grow (starts_readable r.catalog r.well r.guids) c.choosing c.may way is c.leads)
aimed_by_text r m target rest going way is (Aimed root c) =
    by_aimed_step r.catalog r.fuel r.pei m root r.text rest r.on r.starts r.aims r.steps.first r.steps.groups r.grow (starts_readable r.catalog r.well r.guids) c.choosing c.may way is c.leads

-- over each step of the run
by_step : (r : DriverRun) (earlier : List DxeMachine) (m target : DxeMachine) → m.ended ≡ None → IsUnderWay r.catalog m → IsAimedBy (TextNames r earlier) r.catalog m target → IsByText r.catalog r.fuel r.pei m (dxe_step r.catalog r.fuel target) r.text
by_step r earlier m target going way by = by_doing (doing m going)
  where
    own : target ≡ m → IsByText r.catalog r.fuel r.pei m (dxe_step r.catalog r.fuel m) r.text → IsByText r.catalog r.fuel r.pei m (dxe_step r.catalog r.fuel target) r.text
    own same is = subst (λ x. IsByText r.catalog r.fuel r.pei m (dxe_step r.catalog r.fuel x) r.text) (sym same) is

    by_doing : Doing m → IsByText r.catalog r.fuel r.pei m (dxe_step r.catalog r.fuel target) r.text
    by_doing (RunsScript frame below e) = own (none_named (TextNames r earlier) r.catalog m target frame below e by) (by_own_step r.catalog r.fuel r.pei m r.text r.on going (busy_owns r.catalog m frame below e))
    by_doing (HasScheduled first rest e f) = own (none_aimed (TextNames r earlier) r.catalog m target first rest f by) (by_own_step r.catalog r.fuel r.pei m r.text r.on going (scheduled_owns r.catalog m first rest e f))
    by_doing (MayChoose choosing) =
        let may = by.allowed choosing in
        let held = held_at r m may.sink may.has in
        let laws : LeadLaws = record { roots = r.roots; few = r.few; groups = r.steps.groups } in
        let leads = leading_by laws r.catalog m r.names may.sink by.named may.is r.well r.are r.guids way choosing held.right in
        aimed_by_text r m target (left may.sink) going way (held_whole r.text (printed_by r.pei m) may.sink held)
        (target_is (TextNames r earlier) r.catalog m target (λ root. LeadsTo r.catalog m (left may.sink) (Some root)) r.steps.first going by (λ chooses. leads))

-- What a step printed, and how the free boots go on over it.
record Leads (r : DriverRun) (m target : DxeMachine) : Type 0 where
  pub told : List Line
  pub lines : (dxe_step r.catalog r.fuel target).lines ≡ m.lines ++ told
  pub by : IsByText r.catalog r.fuel r.pei m (dxe_step r.catalog r.fuel target) r.text

step_leads : (r : DriverRun) (earlier : List DxeMachine) (m target : DxeMachine) → m.ended ≡ None → IsUnderWay r.catalog m → IsAimedBy (TextNames r earlier) r.catalog m target → Leads r m target
step_leads r earlier m target going way by =
    let most : ℕ = r.fuel + target.actions + 1 in
    let grew = step_grew r.catalog r.fuel most target (omega arith) (omega arith) in
    let same = same_lines r.catalog m target Any (target_at (TextNames r earlier) r.catalog m target r.steps.first going by) in
    record { told = grew.told; lines = grew.lines ∙ ap (λ xs. xs ++ grew.told) same; by = by_step r earlier m target going way by }

-- As far as the text has the lines of the run, the free boots from the opening whose text begins so are those from here.
pub tracks_at : (r : DriverRun) (earlier : List DxeMachine) → IsRun r earlier → IsPrefix (printed_by r.pei (come r earlier)) r.text → Tracks (Here r (opening r)) (Here r (come r earlier)) (printed_by r.pei (come r earlier))
tracks_at r [] run there = record { back = λ lines are. are; on = λ lines are begins. are }
tracks_at r (target ∷ earlier) run there =
    let m = come r earlier in
    let later = dxe_step r.catalog r.fuel target in
    let k = step_leads r earlier m target run.2 (way_at r earlier run.3) run.0 in
    let is = printed_more r.pei m later k.told k.lines in
    let before : IsPrefix (printed_by r.pei m) r.text = prefix_then (printed_by r.pei m) (printed_by r.pei later) r.text (text_of k.told, is) there in
    let on = tracks_by r.catalog r.fuel r.pei m later r.text k.told k.lines k.by there in
    subst (Tracks (Here r (opening r)) (Here r later)) (sym is)
    (tracks_on (Here r (opening r)) (Here r m) (Here r later) (printed_by r.pei m) (text_of k.told) (tracks_at r earlier run.3 before) k.by.back
    (λ lines are begins. on.on lines are (subst (λ t. IsPrefix t (text_of lines)) (sym is) begins)))

-- the text parts from the lines of a machine
abbrev pub Parts : DriverRun → Spelled → DxeMachine → Type 0
Parts r s m = HasParted s r.text (text_of r.pei.lines) (text_of m.lines)

-- it is off in the last step, or was before it
off_by : (r : DriverRun) (s : Spelled) (target : DxeMachine) (earlier : List DxeMachine) → IsRun r (target ∷ earlier) → Parts r s (dxe_step r.catalog r.fuel target)
    → (length (met s) < length (printed_by r.pei (come r earlier))) ⊎ (length (printed_by r.pei (come r earlier)) ≤ length (met s))
    → (Parts r s (come r earlier) → IsOffHere (Here r (opening r)) r.text s) → IsOffHere (Here r (opening r)) r.text s
off_by r s target earlier run parted (inr far) was =
    let m = come r earlier in
    let later = dxe_step r.catalog r.fuel target in
    let k = step_leads r earlier m target run.2 (way_at r earlier run.3) run.0 in
    let printed = printed_by r.pei m in
    let is = printed_more r.pei m later k.told k.lines in
    let long = parted.told_long in
    let begins : IsPrefix (told s) (printed ++ text_of k.told) = subst (λ t. IsPrefix (told s) t) (sym (both r later) ∙ is) parted.told_begins in
    let in_told : IsPrefix printed (told s) = shorter_front printed (told s) (printed ++ text_of k.told) (text_of k.told, refl) begins (omega (arith, far, long)) in
    let in_met : IsPrefix printed (met s) = shorter_front printed (met s) (told s) in_told parted.begins far in
    let there : IsPrefix printed r.text = prefix_then printed (met s) r.text in_met (subst (λ t. IsPrefix (met s) t) parted.whole_is (met_begins s)) in
    let here : HasParted s r.text printed (text_of k.told) = record {
      whole_is = parted.whole_is;
      begins = parted.begins;
      told_long = parted.told_long;
      told_begins = begins;
      apart = parted.apart;
      printed_there = there;
      longer = far;
    } in
    let some = r.ends r.catalog r.fuel r.pei later r.well.parents (way_at r (target ∷ earlier) run) in
    off (Here r (opening r)) (Here r m) s r.text printed (text_of k.told) here (tracks_at r earlier run.3 there) (all_print r.catalog r.fuel r.pei m later r.text k.told r.grow k.lines k.by some)
off_by r s target earlier run parted (inl short) was =
    let m = come r earlier in
    let later = dxe_step r.catalog r.fuel target in
    let k = step_leads r earlier m target run.2 (way_at r earlier run.3) run.0 in
    let printed = printed_by r.pei m in
    let is = printed_more r.pei m later k.told k.lines in
    let long = parted.told_long in
    let begins : IsPrefix (told s) (printed ++ text_of k.told) = subst (λ t. IsPrefix (told s) t) (sym (both r later) ∙ is) parted.told_begins in
    let within : IsPrefix (told s) printed = shorter_front (told s) printed (printed ++ text_of k.told) begins (text_of k.told, refl) (omega (arith, short, long)) in
    was (record {
      whole_is = parted.whole_is;
      begins = parted.begins;
      told_long = parted.told_long;
      told_begins = subst (λ t. IsPrefix (told s) t) (both r m) within;
      apart = parted.apart;
      printed_there = parted.printed_there;
      longer = parted.longer;
    })

-- Where the text has the lines of the run no more, no free boot goes on as the text does: it is off in the step in which they part.
pub off_at : (r : DriverRun) (s : Spelled) (earlier : List DxeMachine) → IsRun r earlier → Parts r s (come r earlier) → IsOffHere (Here r (opening r)) r.text s
off_at r s [] run parted =
    let o = opening r in
    let some = r.ends r.catalog r.fuel r.pei o r.well.parents (way_at r [] run) in
    let prints : (lines : List Line) → Here r o lines → IsPrefix (text_of r.pei.lines ++ text_of o.lines) (text_of lines) = λ lines are. subst (λ t. IsPrefix t (text_of lines)) (both r o) (begins_printed r.catalog r.fuel r.pei o lines r.grow are) in
    off (Here r o) (Here r o) s r.text (text_of r.pei.lines) (text_of o.lines) parted (record { back = λ lines are. are; on = λ lines are begins. are })
    (record { some = (some.0, some.1, prints some.0 some.1); each = λ lines are. inl (prints lines are) })
off_at r s (target ∷ earlier) run parted = off_by r s target earlier run parted (cases_lt (length (met s)) (length (printed_by r.pei (come r earlier)))) (off_at r s earlier run.3)
