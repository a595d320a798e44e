-- Boots by choices are free ones.
use Rattle.std.proofs.Common.{◌≡◌, ℕ, Bool, List, [], ◌∷◌, ◌++◌, Option, Some, is_some, refl, sym, ap, ◌∙◌, subst}
use Rattle.mod_catalog.specs.declared.catalogue.Catalog.{Catalog}
use Rattle.store_model.specs.{HandleState.HandleState, StoreState.Board, StoreState.StoreState}
use Rattle.boot_model.specs.{declared.line.Line.Line, declared.line.RunEnd.RunEnd, declared.phase_end.PeiEnd.PeiEnd}
use Rattle.boot_model.specs.declared.line.RunEnd.TheVariants as E
use Rattle.boot_model.specs.declared.phase_end.PeiEnd.TheVariants.{Handoff, NoMemory, NoIpl, Spent, Deep}
use Rattle.boot_model.specs.{BootRun.both_lines, BootRun.dxe_result, DxeMachine.DxeMachine, DxeRun.dxe_opening}
use Rattle.boot_model.specs.{DxeStep.dxe_case_of, DxeStep.dxe_step, PeiMachine.PeiMachine, PeiRun.pei_opening}
use Rattle.boot_model.specs.FreeRun.{AreFreeDxeLines, AreFreeLines, AreFreeLinesAfter, AreFreePeiLines, IsFreeInDxe}
use Rattle.boot_laws.specs.{DxeAim.FirstEligibleMayStart, DxeAim.GroupsAreAimed, DxeFree.OwnDxeStepsAreFree, PeiAim.CursorAims}
use Rattle.boot_laws.specs.PeiFree.{OwnPeiStepsAreFree}
use Rattle.pei_dispatch.specs.Choices as P
use Rattle.pei_dispatch.proofs.Chosen.{step_is_free}
use Rattle.dxe_dispatch.specs.Choices as D
use Rattle.dxe_dispatch.proofs.Chosen.{Any, target_at}
use Rattle.dxe_dispatch.proofs.Targets.{Aimed, First, IsTarget, Own}
use Rattle.boot_core.specs.{declared.whole.boot.Booted.Booted, Choices.Choices, Closing.closing}
use Rattle.boot_core.specs.declared.whole.boot.Booted.TheVariants as B
use Rattle.boot_core.specs.ByChoice.{BootBy, EndsAfter, EndsInDxe, HasCome, all_lines}
use Rattle.boot_core.specs.FreeWay.{AreFree, DxeComesTo, GoesFreely, PeiComesTo, came_over}
use Rattle.boot_core.proofs.BootLines.{same_whole, whole_of_pei}

-- the laws of free steps
pub record Laws : Type 0 where
  pub aims : CursorAims
  pub pei : OwnPeiStepsAreFree
  pub dxe : OwnDxeStepsAreFree
  pub first : FirstEligibleMayStart
  pub groups : GroupsAreAimed

-- each step of a run is a free one
pei_leads : (laws : Laws) (Names : PeiMachine → Option ℕ → Type 0) (Lets : PeiMachine → ℕ → Bool) (catalog : Catalog) (fuel : ℕ) (opening m : PeiMachine) (earlier : List PeiMachine) → P.IsRunBy Names Lets catalog fuel opening earlier m → PeiComesTo catalog fuel opening earlier m
pei_leads laws Names Lets catalog fuel opening m [] run = run
pei_leads laws Names Lets catalog fuel opening m (before ∷ earlier) run =
    (run.0, step_is_free laws.aims laws.pei Names Lets catalog fuel before m run.1, pei_leads laws Names Lets catalog fuel opening before earlier run.2)

-- the lines of a free boot from a machine to which free steps lead are those of one from the first
pei_free : (catalog : Catalog) (fuel : ℕ) (opening m : PeiMachine) (earlier : List PeiMachine) (lines : List Line) → PeiComesTo catalog fuel opening earlier m → AreFreePeiLines catalog fuel m lines → AreFreePeiLines catalog fuel opening lines
pei_free catalog fuel opening m [] lines comes free = subst (λ x. AreFreePeiLines catalog fuel x lines) comes free
pei_free catalog fuel opening m (before ∷ earlier) lines comes free =
    pei_free catalog fuel opening before earlier lines comes.2 (m ∷ free.0, (comes.0, comes.1, free.1), free.2)

step_free : (laws : Laws) (catalog : Catalog) (fuel : ℕ) (m target : DxeMachine) → IsTarget catalog m Any target → IsFreeInDxe catalog fuel m (dxe_case_of catalog m) (dxe_step catalog fuel target)
step_free laws catalog fuel m target (Own own) = laws.dxe catalog fuel m
step_free laws catalog fuel m target (First root found c) = laws.dxe catalog fuel m
step_free laws catalog fuel m target (Aimed root c) = (laws.groups catalog m root c.choosing c.may).step fuel

dxe_leads : (laws : Laws) (Names : List DxeMachine → DxeMachine → Option ℕ → Type 0) (Lets : List DxeMachine → DxeMachine → ℕ → Bool) (catalog : Catalog) (fuel : ℕ) (opening : DxeMachine) (earlier : List DxeMachine) → D.IsRunBy Names Lets catalog fuel opening earlier
    → DxeComesTo catalog fuel opening (came_over catalog fuel opening earlier) (D.came catalog fuel opening earlier)
dxe_leads laws Names Lets catalog fuel opening [] run = refl
dxe_leads laws Names Lets catalog fuel opening (target ∷ earlier) run =
    let m = D.came catalog fuel opening earlier in
    (run.2, step_free laws catalog fuel m target (target_at (Names earlier) catalog m target laws.first run.2 run.0), dxe_leads laws Names Lets catalog fuel opening earlier run.3)

dxe_free : (catalog : Catalog) (fuel : ℕ) (pei : PeiMachine) (opening m : DxeMachine) (earlier : List DxeMachine) (lines : List Line) → DxeComesTo catalog fuel opening earlier m
    → AreFreeDxeLines catalog fuel pei m lines → AreFreeDxeLines catalog fuel pei opening lines
dxe_free catalog fuel pei opening m [] lines comes free = subst (λ x. AreFreeDxeLines catalog fuel pei x lines) comes free
dxe_free catalog fuel pei opening m (before ∷ earlier) lines comes free =
    dxe_free catalog fuel pei opening before earlier lines comes.2 (m ∷ free.0, (comes.0, comes.1, free.1), free.2)

-- what follows PEI
drivers_free : (laws : Laws) (choices : Choices) (catalog : Catalog) (fuel : ℕ) (pei : PeiMachine) (lines : List Line) (handles : HandleState) (end : RunEnd) → (ends : EndsInDxe choices catalog fuel pei lines handles end)
    → AreFreeDxeLines catalog fuel pei (dxe_opening catalog pei.store pei.actions) (lines ++ closing pei.store handles end)
drivers_free laws choices catalog fuel pei lines handles end ends =
    let opening = dxe_opening catalog pei.store pei.actions in
    let dxe = ends.dxe in
    let all = lines ++ closing pei.store handles end in
    let whole : all ≡ both_lines pei dxe dxe.ended = same_whole pei.store lines (pei.lines ++ dxe.lines) handles dxe.handles end (dxe_result ends.how) ends.lines_are ends.handles_are ends.end_is ∙ sym (ap (both_lines pei dxe) ends.ended) in
    let last : AreFreeDxeLines catalog fuel pei dxe all = ([], ap is_some ends.ended, whole) in
    let comes = dxe_leads laws (choices.drivers pei) (choices.lets_driver pei) catalog fuel opening ends.comes.earlier ends.comes.run in
    dxe_free catalog fuel pei opening dxe (came_over catalog fuel opening ends.comes.earlier) all (subst (DxeComesTo catalog fuel opening (came_over catalog fuel opening ends.comes.earlier)) (sym ends.comes.is) comes) last

behind_free : (laws : Laws) (choices : Choices) (catalog : Catalog) (fuel : ℕ) (pei : PeiMachine) (how : PeiEnd) (lines : List Line) (handles : HandleState) (end : RunEnd) → EndsAfter choices catalog fuel pei how lines handles end
    → AreFreeLinesAfter catalog fuel pei (Some how) (lines ++ closing pei.store handles end)
behind_free laws choices catalog fuel pei Handoff lines handles end ends = drivers_free laws choices catalog fuel pei lines handles end ends
behind_free laws choices catalog fuel pei NoMemory lines handles end ends = whole_of_pei E.NoMemory pei lines handles end ends
behind_free laws choices catalog fuel pei NoIpl lines handles end ends = whole_of_pei E.NoIpl pei lines handles end ends
behind_free laws choices catalog fuel pei Spent lines handles end ends = whole_of_pei E.Spent pei lines handles end ends
behind_free laws choices catalog fuel pei Deep lines handles end ends = whole_of_pei E.Deep pei lines handles end ends

-- whatever the choices may name
boots_free : Laws → (choices : Choices) (board : Board) (catalog : Catalog) (fuel : ℕ) (boot : BootBy choices board catalog fuel) → AreFreeLines board catalog fuel (all_lines boot)
boots_free laws choices board catalog fuel boot =
    let all = all_lines boot in
    let after = subst (λ o. AreFreeLinesAfter catalog fuel boot.pei o all) (sym boot.ended) (behind_free laws choices catalog fuel boot.pei boot.how boot.lines boot.handles boot.result boot.ends) in
    let comes = pei_leads laws choices.peims choices.lets_peim catalog fuel (pei_opening board catalog) boot.pei boot.comes.earlier boot.comes.run in
    pei_free catalog fuel (pei_opening board catalog) boot.pei boot.comes.earlier all comes ([], ap is_some boot.ended, after)

-- so they are free
pub are_free : (laws : Laws) (choices : Choices) → AreFree choices
are_free laws choices = record {
  pei = pei_leads laws choices.peims choices.lets_peim;
  dxe = λ catalog fuel pei. dxe_leads laws (choices.drivers pei) (choices.lets_driver pei) catalog fuel;
  boots = boots_free laws choices;
}

-- what was put is what a free boot puts
pub goes_freely : {M : Type 0} (choices : Choices) (stands : M → StoreState → Type 0) (board : Board) (catalog : Catalog) (fuel : ℕ) (old new : Option (List ℕ)) (booted : Booted M) → AreFree choices
    → HasCome choices stands board catalog fuel old new booted → GoesFreely board catalog fuel (record { old = old; new = new }) booted
goes_freely choices stands board catalog fuel old new (B.Ended ran) free by = (all_lines by.boot, free.boots board catalog fuel by.boot, by.text)
goes_freely choices stands board catalog fuel old new (B.BarredInPei barred) free by =
    record { m = by.m; earlier = by.comes.earlier; way = free.pei catalog fuel (pei_opening board catalog) by.m by.comes.earlier by.comes.run; text = by.bars.text }
goes_freely choices stands board catalog fuel old new (B.BarredInDxe pei barred) free by =
    let opening = dxe_opening catalog by.pei.store by.pei.actions in
    let comes = by.bars.comes in
    let over = came_over catalog fuel opening comes.earlier in
    record {
      pei = by.pei;
      earlier = by.comes.earlier;
      way = free.pei catalog fuel (pei_opening board catalog) by.pei by.comes.earlier by.comes.run;
      handed = by.ended;
      dxe = by.bars.dxe;
      over = over;
      way_in_dxe = subst (DxeComesTo catalog fuel opening over) (sym comes.is) (free.dxe catalog fuel by.pei opening comes.earlier comes.run);
      text = by.bars.text;
    }
