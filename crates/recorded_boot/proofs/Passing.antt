-- The boot in the order of EDK2's dispatchers, from what the boot by that choice came to.
use Rattle.std.proofs.Common.{◌≡◌, ℕ, true≢false, List, Option, Some, Result, Ok, Err, IfOk, refl, sym, ap, ◌∙◌, subst, inl, inr}
use Rattle.pi_base.specs.declared.memory.OutOfMemory.{OutOfMemory}
use Rattle.boot_trace.specs.Printing.{Texts}
use Rattle.mod_catalog.specs.declared.catalogue.Catalog.{Catalog}
use Rattle.store_model.specs.{HandleState.HandleState, StoreCall.Anything, StoreState.Board, StoreState.StoreState}
use Rattle.store_model.specs.Service.{OfEach, Present}
use Rattle.boot_model.specs.{declared.line.Line.Line, declared.line.RunEnd.RunEnd, declared.phase_end.PeiEnd.PeiEnd, DxeMachine.DxeMachine}
use Rattle.boot_model.specs.declared.phase_end.PeiEnd.TheVariants.{Handoff, NoMemory, NoIpl, Spent, Deep}
use Rattle.boot_model.specs.{DxeRun.dxe_opening, PeiMachine.PeiMachine, PeiRun.pei_opening}
use Rattle.boot_laws.specs.{declared.choice.Before.Before, PeiAim.CursorAims}
use Rattle.pei_dispatch.specs.{Choices.ComesTo, declared.boot.Ended.Ended as EndedPei}
use Rattle.pei_dispatch.proofs.InTurns.{due_in_turn}
use Rattle.boot_core.specs.{declared.whole.boot.Booted.Booted, declared.whole.boot.Ran.Ran, Choices.Choices, Choices.choices_of}
use Rattle.boot_core.specs.FreeWay.{AreFree}
use Rattle.boot_core.specs.declared.whole.boot.Booted.TheVariants as B
use Rattle.boot_core.specs.ByChoice.{BootBy, ComesInDxe, EndsAfter, HasCome, HasRun, IsBarredInDxe, before_by}
use Rattle.dxe_dispatch.specs.declared.boot.Barred.{Barred}
use Rattle.recorded_boot.specs.{declared.passes.Passed.Passed, Leaving.store_of}
use Rattle.recorded_boot.specs.declared.passes.Passed.TheVariants.{Ended, No}
use Rattle.boot_core.specs.declared.handing_on.HandOff.{HandOff}
use Rattle.recorded_boot.specs.HandOff.{HandsOnInTurns, LeavesHandOff}
use Rattle.recorded_boot.specs.Passes.{HasEnded, IsNotLeftInPei, IsTurnOf, LeavesBoot, PassesTo, is_short, pass_choices, turn_at_end, turn_rules}
use Rattle.recorded_boot.proofs.OrderRuns.{aimed_of, dxe_run_of, run_of}

-- a boot by the choice in that order, over a sink
pub record TurnBoot (S : Type 0) : Type 0 where
  pub text : S → Option (List ℕ)
  pub faults : S → ℕ
  pub first : S
  pub board : Board
  pub catalog : Catalog
  pub fuel : ℕ

abbrev pub choices : {S : Type 0} → TurnBoot S → Choices
choices b = choices_of (record { rules = turn_rules; text = b.text; faults = b.faults }) b.catalog b.fuel b.first

-- what it comes to in DXE, by the choices of the order alone
in_dxe : {S : Type 0} (b : TurnBoot S) (pei : PeiMachine) (m : DxeMachine) → ComesInDxe (choices b) b.catalog b.fuel pei m → ComesInDxe (pass_choices b.catalog b.fuel) b.catalog b.fuel pei m
in_dxe b pei m comes = record {
  earlier = comes.earlier;
  run = dxe_run_of ((choices b).drivers pei) ((pass_choices b.catalog b.fuel).drivers pei) ((choices b).lets_driver pei) ((pass_choices b.catalog b.fuel).lets_driver pei) b.catalog b.fuel (dxe_opening b.catalog pei.store pei.actions) comes.earlier (λ earlier named may. may.is) (λ over target number going aimed. refl) comes.run;
  is = comes.is;
}

-- and behind PEI
behind : {S : Type 0} (b : TurnBoot S) (pei : PeiMachine) (how : PeiEnd) (lines : List Line) (handles : HandleState) (end : RunEnd) → EndsAfter (choices b) b.catalog b.fuel pei how lines handles end
    → EndsAfter (pass_choices b.catalog b.fuel) b.catalog b.fuel pei how lines handles end
behind b pei Handoff lines handles end ends =
    record { dxe = ends.dxe; comes = in_dxe b pei ends.dxe ends.comes; how = ends.how; ended = ends.ended; lines_are = ends.lines_are; handles_are = ends.handles_are; end_is = ends.end_is }
behind b pei NoMemory lines handles end ends = ends
behind b pei NoIpl lines handles end ends = ends
behind b pei Spent lines handles end ends = ends
behind b pei Deep lines handles end ends = ends

-- whose turn it is behind that
same_turn : {S : Type 0} (b : TurnBoot S) (pei : PeiMachine) (how : PeiEnd) (lines : List Line) (handles : HandleState) (end : RunEnd) → (ends : EndsAfter (choices b) b.catalog b.fuel pei how lines handles end)
    → (before_by (record { by = choices b; catalog = b.catalog; fuel = b.fuel; pei = pei; lines = lines; handles = handles; result = end }) how ends).turn
    ≡ (before_by (record { by = pass_choices b.catalog b.fuel; catalog = b.catalog; fuel = b.fuel; pei = pei; lines = lines; handles = handles; result = end }) how (behind b pei how lines handles end ends)).turn
unfolding behind in_dxe
same_turn b pei Handoff lines handles end ends = refl
same_turn b pei NoMemory lines handles end ends = refl
same_turn b pei NoIpl lines handles end ends = refl
same_turn b pei Spent lines handles end ends = refl
same_turn b pei Deep lines handles end ends = refl

-- the run of PEI
abbrev pei_run : {S : Type 0} (b : TurnBoot S) (m : PeiMachine) → ComesTo (choices b).peims (choices b).lets_peim b.catalog b.fuel (pei_opening b.board b.catalog) m
    → ComesTo (pass_choices b.catalog b.fuel).peims (pass_choices b.catalog b.fuel).lets_peim b.catalog b.fuel (pei_opening b.board b.catalog) m
pei_run b m comes = record {
  earlier = comes.earlier;
  run = run_of (choices b).peims (pass_choices b.catalog b.fuel).peims (choices b).lets_peim b.catalog b.fuel (pei_opening b.board b.catalog) comes.earlier m (λ n named may. may.is) comes.run;
}

-- the whole boot
abbrev in_turns : {S : Type 0} (b : TurnBoot S) → BootBy (choices b) b.board b.catalog b.fuel → BootBy (pass_choices b.catalog b.fuel) b.board b.catalog b.fuel
in_turns b boot = record {
  pei = boot.pei;
  comes = pei_run b boot.pei boot.comes;
  how = boot.how;
  ended = boot.ended;
  lines = boot.lines;
  handles = boot.handles;
  result = boot.result;
  ends = behind b boot.pei boot.how boot.lines boot.handles boot.result boot.ends;
}

-- it has come to its end
ran_passes : {M S : Type 0} (b : TurnBoot S) (stands : M → StoreState → Type 0) (ran : Ran M) (t : Texts) (passed : Passed) → AreFree (choices b) → HasRun (choices b) stands b.board b.catalog b.fuel ran t.old t.new
    → ((s : StoreState) → stands ran.pei.store s → LeavesBoot b.catalog s (B.Ended ran) passed) → PassesTo b.board b.catalog b.fuel t passed
ran_passes b stands ran t passed free by leaves = stage passed (leaves by.boot.pei.store by.left.store_is)
  where
    boot : BootBy (pass_choices b.catalog b.fuel) b.board b.catalog b.fuel
    boot = in_turns b by.boot

    ended : HasEnded b.board b.catalog b.fuel t
    ended = record { boot = boot; text = by.text; free = free.boots b.board b.catalog b.fuel by.boot }

    turn_is : ran.before.turn ≡ turn_at_end boot
    turn_is = ap (λ (x : Before). x.turn) by.before_is ∙ same_turn b by.boot.pei by.boot.how by.boot.lines by.boot.handles by.boot.result by.boot.ends

    short_is : is_short ran.«end» ran.before.turn ≡ is_short by.boot.result (turn_at_end boot)
    short_is = ap (λ (x : RunEnd). is_short x ran.before.turn) by.end_is ∙ ap (is_short by.boot.result) turn_is

    stage : (passed : Passed) → LeavesBoot b.catalog by.boot.pei.store (B.Ended ran) passed → PassesTo b.board b.catalog b.fuel t passed
    stage (Ended end) so = (ended, sym by.end_is ∙ so.1, sym short_is ∙ so.0)
    stage (No turn) so =
        let Is : HandleState → Option ℕ → Type 0 = λ handles number. IsTurnOf b.catalog by.boot.pei.store handles number turn in
        inl (record {
          ended = ended;
          short = sym short_is ∙ so.0;
          is = subst (Is by.boot.handles) turn_is (subst (λ h. Is h ran.before.turn) by.handles_are so.1);
        })

-- it was left in DXE
left_passes : {M S : Type 0} (b : TurnBoot S) (stands : M → StoreState → Type 0) (left : EndedPei M) (barred : Barred) (t : Texts) (passed : Passed) → IsBarredInDxe (choices b) stands b.board b.catalog b.fuel left barred t.old t.new
    → ((s : StoreState) → stands left.store s → LeavesBoot b.catalog s (B.BarredInDxe left barred) passed) → PassesTo b.board b.catalog b.fuel t passed
unfolding in_dxe
left_passes b stands left barred t (Ended end) by leaves = absurd (leaves by.pei.store by.left_is.store_is)
left_passes b stands left barred t (No turn) by leaves =
    let pei = by.pei in
    let bars = by.bars in
    let over = bars.comes.earlier in
    let due = bars.due in
    let Is : HandleState → Option ℕ → Type 0 = λ handles number. IsTurnOf b.catalog pei.store handles number turn in
    inr (record {
      pei = pei;
      comes = pei_run b pei by.comes;
      handed = by.ended;
      dxe = bars.dxe;
      behind = in_dxe b pei bars.dxe bars.comes;
      running = bars.running;
      number = barred.number;
      due = record {
        target = due.target;
        aimed = aimed_of ((choices b).drivers pei over) ((pass_choices b.catalog b.fuel).drivers pei over) b.catalog bars.dxe due.target (λ named may. may.is) due.aimed;
        starting = due.starting;
      };
      other = bars.bars;
      text = bars.text;
      is = subst (Is bars.dxe.handles) (ap (λ (x : Before). x.turn) bars.before_is) (subst (λ h. Is h barred.before.turn) bars.handles_are (leaves pei.store by.left_is.store_is));
    })

-- what the boot in that order comes to, by what the boot by the choice has come to
pub passes_to : {M S : Type 0} (b : TurnBoot S) (stands : M → StoreState → Type 0) (booted : Booted M) (t : Texts) (passed : Passed) → AreFree (choices b) → HasCome (choices b) stands b.board b.catalog b.fuel t.old t.new booted
    → OfEach (stands (store_of booted)) Anything (λ s. LeavesBoot b.catalog s booted passed) → PassesTo b.board b.catalog b.fuel t passed
passes_to b stands (B.Ended ran) t passed free by leaves = ran_passes b stands ran t passed free by (λ s here. leaves s here tt)
passes_to b stands (B.BarredInPei barred) t passed free by leaves = absurd (leaves by.m.store by.store_is tt)
passes_to b stands (B.BarredInDxe left barred) t passed free by leaves = left_passes b stands left barred t passed by (λ s here. leaves s here tt)

-- it is not left in PEI
pub not_in_pei : {M S : Type 0} (b : TurnBoot S) (stands : M → StoreState → Type 0) (booted : Booted M) (t : Texts) → CursorAims → HasCome (choices b) stands b.board b.catalog b.fuel t.old t.new booted → IsNotLeftInPei booted
not_in_pei b stands (B.Ended ran) t aims by = tt
not_in_pei b stands (B.BarredInPei barred) t aims by =
    absurd (true≢false (sym (due_in_turn aims (choices b).peims b.catalog (λ m named may. may.is) by.m barred.number by.bars.due) ∙ by.bars.barred))
not_in_pei b stands (B.BarredInDxe left barred) t aims by = tt

-- its store stands for a state
pub stands_there : {M S : Type 0} (b : TurnBoot S) (stands : M → StoreState → Type 0) (booted : Booted M) (t : Texts) → HasCome (choices b) stands b.board b.catalog b.fuel t.old t.new booted → Present (stands (store_of booted)) Anything
stands_there b stands (B.Ended ran) t by = (by.boot.pei.store, by.left.store_is, tt)
stands_there b stands (B.BarredInPei barred) t by = (by.m.store, by.store_is, tt)
stands_there b stands (B.BarredInDxe left barred) t by = (by.pei.store, by.left_is.store_is, tt)

-- its PEI hands on what its store does
hands_on : {M S : Type 0} (b : TurnBoot S) (stands : M → StoreState → Type 0) (booted : Booted M) (t : Texts) (handed : HandOff) → HasCome (choices b) stands b.board b.catalog b.fuel t.old t.new booted
    → LeavesHandOff stands booted handed → HandsOnInTurns b.board b.catalog b.fuel handed
hands_on b stands (B.Ended ran) t handed by leaves =
    record { pei = by.boot.pei; comes = pei_run b by.boot.pei by.boot.comes; is = leaves by.boot.pei by.left.store_is (by.boot.ended ∙ ap Some (sym by.how_is)) }
hands_on b stands (B.BarredInPei barred) t handed by leaves = absurd leaves
hands_on b stands (B.BarredInDxe left barred) t handed by leaves =
    record { pei = by.pei; comes = pei_run b by.pei by.comes; is = leaves by.pei by.left_is.store_is (by.ended ∙ ap Some (sym by.how_is)) }

pub all_hands_on : {M S : Type 0} (b : TurnBoot S) (stands : M → StoreState → Type 0) (booted : Booted M) (t : Texts) (handed : Result HandOff OutOfMemory) → HasCome (choices b) stands b.board b.catalog b.fuel t.old t.new booted
    → IfOk handed (LeavesHandOff stands booted) → IfOk handed (HandsOnInTurns b.board b.catalog b.fuel)
all_hands_on b stands booted t (Ok handed) by leaves = hands_on b stands booted t handed by leaves
all_hands_on b stands booted t (Err e) by leaves = tt
