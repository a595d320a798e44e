-- The free boots that start what was started up to a machine go on from it.
use Rattle.std.proofs.Common.{◌≡◌, ℕ, List, [], ◌∷◌, ◌++◌, None, sym, ap, ◌∙◌, subst, append_assoc}
use Rattle.mod_catalog.specs.{declared.catalogue.Catalog.Catalog, WellFormed.AreNumbered}
use Rattle.store_model.specs.StoreState.{StoreState}
use Rattle.boot_model.specs.{declared.line.Line.Line, PeiMachine.PeiMachine, PeiRun.last_machine, PeiStep.case_of, DxeMachine.DxeMachine}
use Rattle.boot_model.specs.FreeRun.{AreFreePeiLines, AreFreeDxeLines, AreFreeLinesAfter, IsFreePeiRun, IsFreePeiStep}
use Rattle.boot_model.specs.DxeRun.{dxe_opening}
use Rattle.boot_laws.specs.DxeUnderWay.{IsUnderWay}
use Rattle.boot_laws.proofs.{Begun.going_not, PeiGrowing.free_told, DxeWays.opens_under_way, DxeWays.steps_run_out}
use Rattle.boot_laws.proofs.PeiRuns as Pei
use Rattle.boot_laws.proofs.DxeRuns as Dxe
use Rattle.recorded_boot.specs.{Named.HasNoTwins, declared.order.line.Start.Start, Starts.ComeFirst, Starts.starts, OneStep.IsFreeDxeStep}
use Rattle.recorded_boot.specs.Leading.{DxeComesTo, PeiStartsLead, DxeStartsLead}
use Rattle.recorded_boot.proofs.Fronts.{behind_front, first_of_first, starts-append}
use Rattle.recorded_boot.proofs.PeiSteps as PeiSteps
use Rattle.recorded_boot.proofs.DxeSteps as DxeSteps

-- lines that begin with others have their starts first
come_first : (printed lines rest : List Line) → lines ≡ printed ++ rest → ComeFirst (starts printed) (starts lines)
come_first printed lines rest is = (starts rest, ap starts is ∙ starts-append printed rest)

-- a step, and what goes on from there
went_on : (catalog : Catalog) (fuel : ℕ) (m : PeiMachine) (lines : List Line) → m.ended ≡ None → AreFreePeiLines catalog fuel m lines
    → (later : PeiMachine) × IsFreePeiStep catalog fuel m later × AreFreePeiLines catalog fuel later lines
went_on catalog fuel m lines going h = by h.0 h.1 h.2
  where
    by : (run : List PeiMachine) → IsFreePeiRun catalog fuel m run → AreFreeLinesAfter catalog fuel (last_machine m run) (last_machine m run).ended lines
        → (later : PeiMachine) × IsFreePeiStep catalog fuel m later × AreFreePeiLines catalog fuel later lines
    by [] run after = going_not m.ended going run
    by (later ∷ rest) run after = (later, run.1, (rest, run.2, after))

-- a boot from a machine whose starts are those of a step goes on over that step
pei_over : (catalog : Catalog) (fuel : ℕ) (m later : PeiMachine) (lines : List Line) → HasNoTwins catalog → m.ended ≡ None → IsFreePeiStep catalog fuel m later
    → AreFreePeiLines catalog fuel m lines → ComeFirst (starts later.lines) (starts lines) → AreFreePeiLines catalog fuel later lines
pei_over catalog fuel m later lines none going step free first =
    let on = went_on catalog fuel m lines going free in
    let behind = Pei.lines_grow catalog fuel on.0 lines on.2 in
    let same = PeiSteps.one_step catalog fuel m on.0 later (starts lines) none on.1 step (come_first (on.0).lines lines behind.rest behind.printed_first) first in
    subst (λ x. AreFreePeiLines catalog fuel x lines) same on.2

pub pei_leads : PeiStartsLead
pei_leads board catalog fuel [] m none comes lines = (λ free first. subst (λ x. AreFreePeiLines catalog fuel x lines) (sym comes) free, λ free. subst (λ x. AreFreePeiLines catalog fuel x lines) comes free)
pei_leads board catalog fuel (before ∷ earlier) m none comes lines =
    let way = pei_leads board catalog fuel earlier before none comes.2 lines in (
      λ free first.
          let told = free_told catalog fuel before m (case_of catalog before) comes.1 in
          let here = way.0 free (first_of_first (starts before.lines) (starts m.lines) (starts lines) (come_first before.lines m.lines told.0 told.1) first) in
          pei_over catalog fuel before m lines none comes.0 comes.1 here first,
      λ free. way.1 (m ∷ free.0, (comes.0, comes.1, free.1), free.2),
    )

-- the starts of both phases so far
abbrev both : PeiMachine → DxeMachine → List Start
both pei m = starts (pei.lines ++ m.lines)

dxe_over : (catalog : Catalog) (fuel : ℕ) (pei : PeiMachine) (m later : DxeMachine) (lines : List Line) → HasNoTwins catalog → IsUnderWay catalog m → m.ended ≡ None → IsFreeDxeStep catalog fuel m later
    → AreFreeDxeLines catalog fuel pei m lines → ComeFirst (both pei later) (starts lines) → AreFreeDxeLines catalog fuel pei later lines
dxe_over catalog fuel pei m later lines none way going step free first =
    let on = Dxe.went_on catalog fuel pei m lines going free in
    let next = on.0 in
    let behind = Dxe.lines_grow catalog fuel pei next lines on.2 in
    let is : ComeFirst (both pei next) (starts lines) = come_first (pei.lines ++ next.lines) lines behind.rest behind.printed_first in
    let here : ComeFirst (starts pei.lines ++ starts next.lines) (starts lines) = subst (λ x. ComeFirst x (starts lines)) (starts-append pei.lines next.lines) is in
    let there : ComeFirst (starts pei.lines ++ starts later.lines) (starts lines) = subst (λ x. ComeFirst x (starts lines)) (starts-append pei.lines later.lines) first in
    let fronts = behind_front (starts pei.lines) (starts next.lines) (starts later.lines) (starts lines) here there in
    let same = DxeSteps.one_step catalog fuel m next later fronts.0 none going way on.1 step fronts.1 fronts.2 in
    subst (λ x. AreFreeDxeLines catalog fuel pei x lines) same on.2

-- each machine on the way is under way
dxe_way : (catalog : Catalog) (fuel : ℕ) (s : StoreState) (actions : ℕ) (earlier : List DxeMachine) (m : DxeMachine) → AreNumbered 0 catalog.volumes
    → DxeComesTo catalog fuel (dxe_opening catalog s actions) earlier m → IsUnderWay catalog m
dxe_way catalog fuel s actions [] m numbered comes = subst (IsUnderWay catalog) (sym comes) (opens_under_way catalog fuel s actions numbered).way
dxe_way catalog fuel s actions (before ∷ earlier) m numbered comes =
    (steps_run_out catalog fuel before m numbered comes.0 (dxe_way catalog fuel s actions earlier before numbered comes.2) comes.1).way

pub dxe_leads : DxeStartsLead
dxe_leads catalog fuel pei s actions [] m none numbered comes lines = (λ free first. subst (λ x. AreFreeDxeLines catalog fuel pei x lines) (sym comes) free, λ free. subst (λ x. AreFreeDxeLines catalog fuel pei x lines) comes free)
dxe_leads catalog fuel pei s actions (before ∷ earlier) m none numbered comes lines =
    let lead = dxe_leads catalog fuel pei s actions earlier before none numbered comes.2 lines in
    let way = dxe_way catalog fuel s actions earlier before numbered comes.2 in (
      λ free first.
          let told = DxeSteps.step_told catalog fuel before m comes.1 in
          let more : pei.lines ++ m.lines ≡ (pei.lines ++ before.lines) ++ told.0 = ap (λ xs. pei.lines ++ xs) told.1 ∙ sym (append_assoc pei.lines before.lines told.0) in
          let here = lead.0 free (first_of_first (both pei before) (both pei m) (starts lines) (come_first (pei.lines ++ before.lines) (pei.lines ++ m.lines) told.0 more) first) in
          dxe_over catalog fuel pei before m lines none way comes.0 comes.1 here first,
      λ free. lead.1 (m ∷ free.0, (comes.0, comes.1, free.1), free.2),
    )
