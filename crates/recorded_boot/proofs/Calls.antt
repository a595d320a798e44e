-- What a boot in an order has come to is what the order makes of it.
use Rattle.std.proofs.Common.{◌≡◌, ◌+◌, ℕ, Bool, List, ◌++◌, length, Option, Some, None, Ok, refl, sym, ap, ◌∙◌, subst}
use Rattle.std.specs.Io.KnownBytes.{Appends}
use Rattle.pi_base.specs.declared.phase.Phase.TheVariants.{Pei, Dxe}
use Rattle.store_model.specs.{HandleState.HandleState, HandleState.no_handles, StoreCall.Anything, StoreState.StoreState}
use Rattle.store_model.specs.Service.{OfEach, Present}
use Rattle.boot_model.specs.{declared.line.Line.Line, declared.line.RunEnd.RunEnd, declared.phase_end.PeiEnd.PeiEnd, BootRun.dxe_result}
use Rattle.boot_model.specs.{DxeMachine.DxeMachine, DxeRun.dxe_opening, PeiMachine.PeiMachine, Text.text_of}
use Rattle.boot_model.specs.declared.line.RunEnd.TheVariants as E
use Rattle.boot_model.specs.declared.phase_end.PeiEnd.TheVariants.{Handoff, NoMemory, NoIpl, Spent, Deep}
use Rattle.boot_trace.specs.Printing.{Texts}
use Rattle.boot_laws.specs.declared.choice.Before.{Before}
use Rattle.pei_dispatch.specs.{Ends.pei_starts, declared.boot.Barred.Barred, Choices.IsHeldBack, Choices.IsRunBy, declared.boot.Ended.Ended}
use Rattle.boot_core.specs.{declared.whole.boot.Booted.Booted, Choices.Choices, Choices.starts_of, Closing.closing, HandOff.result_of}
use Rattle.boot_core.specs.declared.whole.boot.Booted.TheVariants as B
use Rattle.boot_core.specs.ByChoice.{EndsAfter, EndsInPei, HasCome, HasRun, IsBarredInDxe, before_by}
use Rattle.dxe_dispatch.specs.declared.boot.Barred.{Barred as BarredDriver}
use Rattle.dxe_dispatch.specs.Choices as D
use Rattle.dxe_dispatch.proofs.Chosen.{Any, same_started, target_at}
use Rattle.boot_laws.proofs.DxeWays as Ways
use Rattle.boot_core.specs.declared.whole.boot.Ran.{Ran}
use Rattle.recorded_boot.specs.{declared.follow.followed.Followed.Followed, Answer.FollowsTo, ByOrder.NamesAsked, ByOrder.lets_by}
use Rattle.recorded_boot.specs.InOrder.{order_choices}
use Rattle.recorded_boot.specs.Leaving.{ComesTo, LeavesBoot, store_of}
use Rattle.recorded_boot.proofs.PeiOrder.{IsRun, OrderBoot, PeiBar, along, comes, lets_peim, peims}
use Rattle.recorded_boot.proofs.PeiOrder as P
use Rattle.recorded_boot.proofs.DxeOrder.{DxeBar, DxeCome, Handed, IsDxeRun, came, comes_in_dxe, drivers, lets_driver, opening}
use Rattle.recorded_boot.proofs.OrderRuns.{aimed_of, due_of, dxe_run_of, run_of}
use Rattle.recorded_boot.proofs.Reaching.{dxe_bars, dxe_ends, pei_bars, pei_ends}

-- the choices of a boot that lets what an order lets
abbrev pub by_order : OrderBoot → (PeiMachine → Option ℕ → Type 0) → (PeiMachine → List DxeMachine → DxeMachine → Option ℕ → Type 0) → (PeiMachine → List DxeMachine → DxeMachine → ℕ → Bool) → Choices
by_order b Peims Drivers Lets = record (order_choices b.catalog b.fuel b.order) { peims = Peims; drivers = Drivers; lets_driver = Lets }

-- the machine of its DXE behind steps from these
abbrev pub came_in : OrderBoot → PeiMachine → List DxeMachine → DxeMachine
came_in b pei earlier = D.came b.catalog b.fuel (dxe_opening b.catalog pei.store pei.actions) earlier

-- and whom it names the order names
pub record NamesAlike (b : OrderBoot) (Peims : PeiMachine → Option ℕ → Type 0) (Drivers : PeiMachine → List DxeMachine → DxeMachine → Option ℕ → Type 0) (Lets : PeiMachine → List DxeMachine → DxeMachine → ℕ → Bool) : Type 0 where
  pub in_pei : (m : PeiMachine) (named : Option ℕ) → Peims m named → peims b m named
  pub in_dxe : (pei : PeiMachine) (earlier : List DxeMachine) (named : Option ℕ) → Drivers pei earlier (came_in b pei earlier) named → NamesAsked b.catalog Dxe b.order (starts_of pei (came_in b pei earlier)) named
  pub lets : (pei : PeiMachine) (earlier : List DxeMachine) (m : DxeMachine) (number : ℕ) → Lets pei earlier m number ≡ lets_by b.catalog b.order Dxe (starts_of pei (came_in b pei earlier)) number

-- the machines of a whole boot, by other words
same_end : (P : List Line → HandleState → RunEnd → Type 0) (a b : List Line) (h k : HandleState) (e f : RunEnd) → a ≡ b → h ≡ k → e ≡ f → P a h e → P b k f
same_end P a b h k e f same_lines same_handles same_result p =
    subst (λ x. P b k x) same_result (subst (λ x. P b x e) same_handles (subst (λ x. P x h e) same_lines p))

same_place : (P : ℕ → HandleState → Type 0) (a b : ℕ) (h k : HandleState) → a ≡ b → h ≡ k → P a h → P b k
same_place P a b h k same_starts same_handles p = subst (λ x. P b x) same_handles (subst (λ x. P x h) same_starts p)

-- a boot that has handed off
abbrev handed : (b : OrderBoot) (earlier : List PeiMachine) (m : PeiMachine) → IsRun b earlier m → m.ended ≡ Some Handoff → Handed b
handed b earlier m run over = record { pei = m; earlier = earlier; run = run; come = comes b earlier m run; far = along b earlier m run; ended = over }

-- before a step it lets what the order does
lets_same : (b : OrderBoot) (Peims : PeiMachine → Option ℕ → Type 0) (Drivers : PeiMachine → List DxeMachine → DxeMachine → Option ℕ → Type 0) (Lets : PeiMachine → List DxeMachine → DxeMachine → ℕ → Bool) (h : Handed b) (over : List DxeMachine) (target : DxeMachine) (number : ℕ)
    → NamesAlike b Peims Drivers Lets → (came b h over).ended ≡ None → D.IsAimedBy (Drivers h.pei over) b.catalog (came b h over) target → lets_driver b h target number ≡ Lets h.pei over target number
lets_same b Peims Drivers Lets h over target number names going aimed =
    let m = came b h over in
    let same : target.started ≡ m.started = same_started b.catalog m target Any (target_at (Drivers h.pei over) b.catalog m target Ways.first_may_start going aimed) in
    ap (λ (xs : List ℕ). lets_by b.catalog b.order Dxe (pei_starts h.pei + length xs) number) same ∙ sym (names.lets h.pei over target number)

-- PEI ended the boot
ends_in_pei : (b : OrderBoot) (earlier : List PeiMachine) (m : PeiMachine) (how : PeiEnd) (so end : RunEnd) (lines : List Line) (handles : HandleState) (starts : ℕ) (t : Texts) (followed : Followed) → IsRun b earlier m → m.ended ≡ Some how → result_of how ≡ Some so
    → EndsInPei so m lines handles end → starts ≡ pei_starts m → Appends t.old t.new (text_of (lines ++ closing m.store handles end)) → ComesTo b.catalog b.order starts m.store handles (Some end) followed → FollowsTo b.board b.catalog b.fuel b.order t (Ok followed)
ends_in_pei b earlier m how so end lines handles starts t followed run ended is ends counted text leaves =
    let Puts : List Line → HandleState → RunEnd → Type 0 = λ all h e. Appends t.old t.new (text_of (all ++ closing m.store h e)) in
    let Leaves : List Line → HandleState → RunEnd → Type 0 = λ all h e. ComesTo b.catalog b.order (pei_starts m) m.store h (Some e) followed in
    let here = subst (λ n. ComesTo b.catalog b.order n m.store handles (Some end) followed) counted leaves in
    pei_ends b earlier m how so t followed run ended is (same_end Puts lines m.lines handles no_handles end so ends.lines_are ends.handles_are ends.end_is text)
    (same_end Leaves lines m.lines handles no_handles end so ends.lines_are ends.handles_are ends.end_is here)

-- a boot that has come to its end
ends_by : (b : OrderBoot) (Peims : PeiMachine → Option ℕ → Type 0) (Drivers : PeiMachine → List DxeMachine → DxeMachine → Option ℕ → Type 0) (Lets : PeiMachine → List DxeMachine → DxeMachine → ℕ → Bool) (earlier : List PeiMachine) (m : PeiMachine) (how : PeiEnd) (lines : List Line) (handles : HandleState) (end : RunEnd) (starts : ℕ) (t : Texts) (followed : Followed)
    → NamesAlike b Peims Drivers Lets → IsRun b earlier m → m.ended ≡ Some how → (ends : EndsAfter (by_order b Peims Drivers Lets) b.catalog b.fuel m how lines handles end)
    → starts ≡ (before_by (record { by = by_order b Peims Drivers Lets; catalog = b.catalog; fuel = b.fuel; pei = m; lines = lines; handles = handles; result = end }) how ends).starts
    → Appends t.old t.new (text_of (lines ++ closing m.store handles end)) → ComesTo b.catalog b.order starts m.store handles (Some end) followed → FollowsTo b.board b.catalog b.fuel b.order t (Ok followed)
ends_by b Peims Drivers Lets earlier m Handoff lines handles end starts t followed names run ended ends counted text leaves =
    let h = handed b earlier m run ended in
    let over = ends.comes.earlier in
    let last = came b h over in
    let is : ends.dxe ≡ last = ends.comes.is in
    let on : IsDxeRun b h over = dxe_run_of (Drivers m) (λ earlier. drivers b h) (Lets m) (λ earlier. lets_driver b h) b.catalog b.fuel (opening h) over (names.in_dxe m) (λ xs target number. lets_same b Peims Drivers Lets h xs target number names) ends.comes.run in
    let lines_are = ends.lines_are ∙ ap (λ (x : DxeMachine). m.lines ++ x.lines) is in
    let handles_are = ends.handles_are ∙ ap (λ (x : DxeMachine). x.handles) is in
    let Puts : List Line → HandleState → RunEnd → Type 0 = λ all k e. Appends t.old t.new (text_of (all ++ closing m.store k e)) in
    let Leaves : List Line → HandleState → RunEnd → Type 0 = λ all k e. ComesTo b.catalog b.order (starts_of m last) m.store k (Some e) followed in
    let here = subst (λ n. ComesTo b.catalog b.order n m.store handles (Some end) followed) counted leaves in
    dxe_ends b h over ends.how t followed on (ap (λ (x : DxeMachine). x.ended) (sym is) ∙ ends.ended)
    (same_end Puts lines (m.lines ++ last.lines) handles last.handles end (dxe_result ends.how) lines_are handles_are ends.end_is text)
    (same_end Leaves lines (m.lines ++ last.lines) handles last.handles end (dxe_result ends.how) lines_are handles_are ends.end_is here)
ends_by b Peims Drivers Lets earlier m NoMemory lines handles end starts t followed names run ended ends counted text leaves =
    ends_in_pei b earlier m NoMemory E.NoMemory end lines handles starts t followed run ended refl ends counted text leaves
ends_by b Peims Drivers Lets earlier m NoIpl lines handles end starts t followed names run ended ends counted text leaves =
    ends_in_pei b earlier m NoIpl E.NoIpl end lines handles starts t followed run ended refl ends counted text leaves
ends_by b Peims Drivers Lets earlier m Spent lines handles end starts t followed names run ended ends counted text leaves =
    ends_in_pei b earlier m Spent E.Spent end lines handles starts t followed run ended refl ends counted text leaves
ends_by b Peims Drivers Lets earlier m Deep lines handles end starts t followed names run ended ends counted text leaves =
    ends_in_pei b earlier m Deep E.Deep end lines handles starts t followed run ended refl ends counted text leaves

-- the order's run of PEI
runs : (b : OrderBoot) (Peims : PeiMachine → Option ℕ → Type 0) (Drivers : PeiMachine → List DxeMachine → DxeMachine → Option ℕ → Type 0) (Lets : PeiMachine → List DxeMachine → DxeMachine → ℕ → Bool) (earlier : List PeiMachine) (m : PeiMachine) → NamesAlike b Peims Drivers Lets
    → IsRunBy Peims (lets_peim b) b.catalog b.fuel (P.opening b) earlier m → IsRun b earlier m
runs b Peims Drivers Lets earlier m names run = run_of Peims (peims b) (lets_peim b) b.catalog b.fuel (P.opening b) earlier m names.in_pei run

ran_follows : {M : Type 0} (b : OrderBoot) (Peims : PeiMachine → Option ℕ → Type 0) (Drivers : PeiMachine → List DxeMachine → DxeMachine → Option ℕ → Type 0) (Lets : PeiMachine → List DxeMachine → DxeMachine → ℕ → Bool) (stands : M → StoreState → Type 0) (ran : Ran M) (t : Texts) (followed : Followed) → NamesAlike b Peims Drivers Lets
    → HasRun (by_order b Peims Drivers Lets) stands b.board b.catalog b.fuel ran t.old t.new → OfEach (stands ran.pei.store) Anything (λ s. ComesTo b.catalog b.order ran.before.starts s ran.handles (Some ran.«end») followed)
    → FollowsTo b.board b.catalog b.fuel b.order t (Ok followed)
ran_follows b Peims Drivers Lets stands ran t followed names by leaves =
    let boot = by.boot in
    let m = boot.pei in
    let here = leaves m.store by.left.store_is tt in
    let P : HandleState → RunEnd → Type 0 = λ h e. ComesTo b.catalog b.order ran.before.starts m.store h (Some e) followed in
    ends_by b Peims Drivers Lets boot.comes.earlier m boot.how boot.lines boot.handles boot.result ran.before.starts t followed names (runs b Peims Drivers Lets boot.comes.earlier m names boot.comes.run) boot.ended boot.ends (ap (λ (x : Before). x.starts) by.before_is) by.text
    (subst (P boot.handles) by.end_is (subst (λ h. P h ran.«end») by.handles_are here))

-- a boot that was left in PEI
stays_in_pei : {M : Type 0} (b : OrderBoot) (Peims : PeiMachine → Option ℕ → Type 0) (Drivers : PeiMachine → List DxeMachine → DxeMachine → Option ℕ → Type 0) (Lets : PeiMachine → List DxeMachine → DxeMachine → ℕ → Bool) (stands : M → StoreState → Type 0) (barred : Barred M) (t : Texts) (followed : Followed) → NamesAlike b Peims Drivers Lets
    → IsHeldBack Peims (lets_peim b) stands b.catalog b.fuel (P.opening b) barred t.old t.new → OfEach (stands barred.store) Anything (λ s. ComesTo b.catalog b.order barred.starts s no_handles None followed)
    → FollowsTo b.board b.catalog b.fuel b.order t (Ok followed)
stays_in_pei b Peims Drivers Lets stands barred t followed names by leaves =
    let m = by.m in
    let due = due_of Peims (peims b) b.catalog m barred.number names.in_pei by.bars.due in
    let bar : PeiBar b m barred.number = record { earlier = by.comes.earlier; run = runs b Peims Drivers Lets by.comes.earlier m names by.comes.run; going = by.bars.running; due = due; barred = by.bars.barred } in
    pei_bars b m barred.number bar t followed by.bars.text (subst (λ n. ComesTo b.catalog b.order n m.store no_handles None followed) by.starts_are (leaves m.store by.store_is tt))

-- and one that was left in DXE
stays_in_dxe : {M : Type 0} (b : OrderBoot) (Peims : PeiMachine → Option ℕ → Type 0) (Drivers : PeiMachine → List DxeMachine → DxeMachine → Option ℕ → Type 0) (Lets : PeiMachine → List DxeMachine → DxeMachine → ℕ → Bool) (stands : M → StoreState → Type 0) (left : Ended M) (barred : BarredDriver) (t : Texts) (followed : Followed) → NamesAlike b Peims Drivers Lets
    → IsBarredInDxe (by_order b Peims Drivers Lets) stands b.board b.catalog b.fuel left barred t.old t.new → OfEach (stands left.store) Anything (λ s. ComesTo b.catalog b.order barred.before.starts s barred.handles None followed)
    → FollowsTo b.board b.catalog b.fuel b.order t (Ok followed)
stays_in_dxe b Peims Drivers Lets stands left barred t followed names by leaves =
    let pei = by.pei in
    let bars = by.bars in
    let h = handed b by.comes.earlier pei (runs b Peims Drivers Lets by.comes.earlier pei names by.comes.run) by.ended in
    let over = bars.comes.earlier in
    let last = came b h over in
    let is : bars.dxe ≡ last = bars.comes.is in
    let on : IsDxeRun b h over = dxe_run_of (Drivers pei) (λ earlier. drivers b h) (Lets pei) (λ earlier. lets_driver b h) b.catalog b.fuel (opening h) over (names.in_dxe pei) (λ xs target number. lets_same b Peims Drivers Lets h xs target number names) bars.comes.run in
    let going : last.ended ≡ None = ap (λ (x : DxeMachine). x.ended) (sym is) ∙ bars.running in
    let here : D.IsAimedBy (Drivers pei over) b.catalog last bars.due.target = subst (λ x. D.IsAimedBy (Drivers pei over) b.catalog x bars.due.target) is bars.due.aimed in
    let bar : DxeBar b h last barred.number = record {
      come = comes_in_dxe b h over on;
      going = going;
      due = record { target = bars.due.target; aimed = aimed_of (Drivers pei over) (drivers b h) b.catalog last bars.due.target (names.in_dxe pei over) here; starting = bars.due.starting };
      barred = lets_same b Peims Drivers Lets h over bars.due.target barred.number names going here ∙ bars.bars;
    } in
    let Puts : DxeMachine → Type 0 = λ x. Appends t.old t.new (text_of (pei.lines ++ x.lines)) in
    let Leaves : ℕ → HandleState → Type 0 = λ n k. ComesTo b.catalog b.order n pei.store k None followed in
    let left = same_place Leaves barred.before.starts (starts_of pei last) barred.handles last.handles (ap (λ (x : Before). x.starts) bars.before_is) (bars.handles_are ∙ ap (λ (x : DxeMachine). x.handles) is) (leaves pei.store by.left_is.store_is tt) in
    dxe_bars b h over barred.number on bar t followed (subst Puts is bars.text) left

-- what a boot along an order is, by what it has come to
pub follows : {M : Type 0} (b : OrderBoot) (Peims : PeiMachine → Option ℕ → Type 0) (Drivers : PeiMachine → List DxeMachine → DxeMachine → Option ℕ → Type 0) (Lets : PeiMachine → List DxeMachine → DxeMachine → ℕ → Bool) (stands : M → StoreState → Type 0) (booted : Booted M) (t : Texts) (followed : Followed) → NamesAlike b Peims Drivers Lets
    → HasCome (by_order b Peims Drivers Lets) stands b.board b.catalog b.fuel t.old t.new booted → OfEach (stands (store_of booted)) Anything (λ s. LeavesBoot b.catalog b.order s booted followed) → FollowsTo b.board b.catalog b.fuel b.order t (Ok followed)
follows b Peims Drivers Lets stands (B.Ended ran) t followed names by leaves = ran_follows b Peims Drivers Lets stands ran t followed names by leaves
follows b Peims Drivers Lets stands (B.BarredInPei barred) t followed names by leaves = stays_in_pei b Peims Drivers Lets stands barred t followed names by leaves
follows b Peims Drivers Lets stands (B.BarredInDxe left barred) t followed names by leaves = stays_in_dxe b Peims Drivers Lets stands left barred t followed names by leaves

-- its store stands for a state
pub stands_there : {M : Type 0} (choices : Choices) (stands : M → StoreState → Type 0) (b : OrderBoot) (old new : Option (List ℕ)) (booted : Booted M) → HasCome choices stands b.board b.catalog b.fuel old new booted → Present (stands (store_of booted)) Anything
stands_there choices stands b old new (B.Ended ran) by = (by.boot.pei.store, by.left.store_is, tt)
stands_there choices stands b old new (B.BarredInPei barred) by = (by.m.store, by.store_is, tt)
stands_there choices stands b old new (B.BarredInDxe left barred) by = (by.pei.store, by.left_is.store_is, tt)
