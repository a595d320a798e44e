-- PEI along an order.
use Rattle.std.proofs.Common.{◌≡◌, ℕ, ◌+◌, ◌-◌, ◌^◌, ◌<◌, ◌≤◌, min, Bool, true, false, true≢false, List, [], ◌∷◌, ◌++◌, length, Option, Some, None, refl, sym, ap, ◌∙◌, subst, inl, inr, arith, append_assoc, ◌⊎◌, slice_get, append-nil}
use Rattle.std.proofs.lemmas.Bool.{cases_lt}
use Rattle.pi_base.specs.declared.phase.Phase.TheVariants.{Pei}
use Rattle.mod_catalog.specs.{declared.catalogue.Catalog.Catalog, Parts.part_of, WellFormed.IsWellFormed}
use Rattle.store_model.specs.StoreState.{Board}
use Rattle.boot_model.specs.{declared.line.Line.Line, Eligible.licence_at, PeiChoice.pei_order, PeiMachine.PeiMachine, PeiRun.pei_opening}
use Rattle.boot_model.specs.FreeRun.{AreFreeLines, AreFreePeiLines, IsFreePeiStep, MayStart}
use Rattle.boot_model.specs.PeiStep.{Starts, case_of, start_line, started}
use Rattle.boot_model.proofs.ListFacts.{within}
use Rattle.boot_laws.specs.PeiUnderWay.{IsUnderWay}
use Rattle.boot_laws.proofs.Cursors as Cursors
use Rattle.boot_laws.proofs.PeiRuns as Runs
use Rattle.boot_laws.proofs.PeiWays as Ways
use Rattle.boot_laws.proofs.Starts.{pei_prints}
use Rattle.recorded_boot.specs.{Named.HasNoTwins, declared.order.line.AskedStart.AskedStart, declared.order.lines.StartOrder.StartOrder}
use Rattle.recorded_boot.specs.Starts.{ComeFirst, module_start, starts}
use Rattle.recorded_boot.specs.{Leading.PeiComesTo, Following.IsBeforeStart, Along.IsAlong, Along.IsIndex}
use Rattle.recorded_boot.proofs.Fronts.{first_of_first, next_of_fronts, starts-append}
use Rattle.recorded_boot.proofs.PeiCounts.{case_adds, opening_quiet, started_adds, starts_count}
use Rattle.recorded_boot.proofs.Runs.{pei_leads}
use Rattle.pei_dispatch.specs.Choices as P
use Rattle.pei_dispatch.specs.Ends.{pei_starts}
use Rattle.pei_dispatch.proofs.Chosen.{idle_starts, some_first, start_is_free, step_is_free}
use Rattle.recorded_boot.specs.ByOrder.{NamesAsked, lets_asked, lets_by}
use Rattle.recorded_boot.proofs.Along.{is_start, let_goes_on, named_is}

-- A boot along an order: what is known of it.
pub record OrderBoot : Type 0 where
  pub board : Board
  pub catalog : Catalog
  pub fuel : ℕ
  pub order : StartOrder
  pub well : IsWellFormed catalog
  pub apart : HasNoTwins catalog
  pub few : length order.starts ≤ 2 ^ 32 - 1

abbrev pub opening : OrderBoot → PeiMachine
opening b = pei_opening b.board b.catalog

-- whom it names in PEI, and what it lets
abbrev pub peims : OrderBoot → PeiMachine → Option ℕ → Type 0
peims b m named = NamesAsked b.catalog Pei b.order (pei_starts m) named

abbrev pub lets_peim : OrderBoot → PeiMachine → ℕ → Bool
lets_peim b m number = lets_by b.catalog b.order Pei (pei_starts m) number

abbrev pub Comes : OrderBoot → List PeiMachine → PeiMachine → Type 0
Comes b earlier m = PeiComesTo b.catalog b.fuel (opening b) earlier m

abbrev pub IsRun : OrderBoot → List PeiMachine → PeiMachine → Type 0
IsRun b earlier m = P.IsRunBy (peims b) (lets_peim b) b.catalog b.fuel (opening b) earlier m

-- its steps are free ones
pub comes : (b : OrderBoot) (earlier : List PeiMachine) (m : PeiMachine) → IsRun b earlier m → Comes b earlier m
comes b [] m run = run
comes b (before ∷ earlier) m run =
    (run.0, step_is_free Cursors.aims Runs.own_steps_are_free (peims b) (lets_peim b) b.catalog b.fuel before m run.1, comes b earlier before run.2)

-- how many starts there were, as far as the core counts them
at_most : (asked made counted most : ℕ) → made ≡ counted → asked ≤ most → (min counted most ≡ made) ⊎ ((asked ≤ min counted most) × (asked ≤ made))
at_most asked made counted most is few = elim (cases_lt counted most) [
  | inl less ↦ inl (omega (arith, is, less))
  | inr more ↦ inr (omega (arith, few, more), omega (arith, is, few, more))
]

pub index : (b : OrderBoot) (earlier : List PeiMachine) (m : PeiMachine) → Comes b earlier m → IsIndex b.order (starts m.lines) (pei_starts m)
index b earlier m come =
    at_most (length b.order.starts) (length (starts m.lines)) (length m.started + length m.again) (2 ^ 32 - 1) (starts_count b.board b.catalog b.fuel earlier m come) b.few

-- the starts are made as the order asks
step_along : (b : OrderBoot) (earlier : List PeiMachine) (before m : PeiMachine) → Comes b earlier before → IsAlong b.order (starts before.lines) → P.IsStepBy (peims b) (lets_peim b) b.catalog b.fuel before m
    → IsAlong b.order (starts m.lines)
step_along b earlier before m come far (inl own) =
    let adds = case_adds b.catalog b.fuel before (case_of b.catalog before) own.own in
    let same : starts m.lines ≡ starts before.lines = ap (λ (x : PeiMachine). starts x.lines) own.is ∙ adds.lines ∙ append-nil (starts before.lines) in
    subst (IsAlong b.order) (sym same) far
step_along b earlier before m come far (inr start) =
    let may = (Cursors.aims b.catalog before start.due.cursor).chosen start.number start.due.next in
    let adds = started_adds b.catalog before start.number may in
    let same : starts m.lines ≡ starts before.lines ++ module_start Pei b.catalog start.number ∷ [] = ap (λ (x : PeiMachine). starts x.lines) start.is ∙ adds.lines in
    subst (IsAlong b.order) (sym same) (let_goes_on b.catalog b.order Pei (starts before.lines) (pei_starts before) start.number far (index b earlier before come) start.passes)

pub along : (b : OrderBoot) (earlier : List PeiMachine) (m : PeiMachine) → IsRun b earlier m → IsAlong b.order (starts m.lines)
along b [] m run =
    let none : starts m.lines ≡ [] = ap (λ (x : PeiMachine). starts x.lines) run ∙ opening_quiet b.board b.catalog in
    subst (IsAlong b.order) (sym none) (inl (_, refl))
along b (before ∷ earlier) m run = step_along b earlier before m (comes b earlier before run.2) (along b earlier before run.2) run.1

-- each machine on the way is under way
pub way : (b : OrderBoot) (earlier : List PeiMachine) (m : PeiMachine) → Comes b earlier m → IsUnderWay b.catalog m
way b [] m come = subst (IsUnderWay b.catalog) (sym come) (Ways.opens_under_way b.board b.catalog b.fuel).way
way b (before ∷ earlier) m come = (Ways.steps_run_out b.catalog b.fuel before m come.0 (way b earlier before come.2) come.1).way

-- A machine of PEI in which a module is due that is not let.
pub record PeiBar (b : OrderBoot) (m : PeiMachine) (number : ℕ) : Type 0 where
  pub earlier : List PeiMachine
  pub run : IsRun b earlier m
  pub going : m.ended ≡ None
  pub due : P.IsDue (peims b) b.catalog m number
  pub barred : lets_peim b m number ≡ false

-- where a module is due the machine starts one
pub case_is : (b : OrderBoot) (m : PeiMachine) (number : ℕ) → P.IsDue (peims b) b.catalog m number → (first : ℕ) × (case_of b.catalog m ≡ Starts first)
case_is b m number due =
    let aim = Cursors.aims b.catalog m due.cursor in
    let first = some_first b.catalog m due.cursor number aim.none due.next in
    (first.0, idle_starts b.catalog m first.0 due.idle first.1)

one_number : (a b : ℕ) → Some a ≡ Some b → a ≡ b
one_number a b e = cc

-- what the order asks for, where it may start, is due
pub due_is : (b : OrderBoot) (m : PeiMachine) (number other : ℕ) (asked : AskedStart) → (due : P.IsDue (peims b) b.catalog m number) → MayStart b.catalog m other
    → slice_get b.order.starts (pei_starts m) ≡ Some asked → asked.start ≡ module_start Pei b.catalog other → number ≡ other
due_is b m number other asked due may asks is =
    let below : other < length b.catalog.modules = within (part_of Pei) b.catalog.modules other (Ways.may_has_part b.catalog m other may) in
    let named : due.named ≡ Some other = named_is b.catalog Pei b.order (pei_starts m) due.named other asked b.apart due.allowed below asks is in
    let place = subst (λ o. P.IsPlaceFor (pei_order b.catalog m.reported) m.cursor o due.cursor) named due.place in
    let aimed = (Cursors.aims b.catalog m due.cursor).aimed other (place.0 may.0) may.1 in
    one_number number other (sym due.next ∙ aimed)

-- so no free boot makes the start that the order asks for
pub none_starts : (b : OrderBoot) (m : PeiMachine) (number : ℕ) (asked : AskedStart) → (bar : PeiBar b m number) → slice_get b.order.starts (pei_starts m) ≡ Some asked
    → (lines : List Line) → AreFreeLines b.board b.catalog b.fuel lines → ComeFirst (starts m.lines ++ asked.start ∷ []) (starts lines) → ⊥
none_starts b m number asked bar asks lines free first =
    let come = comes b bar.earlier m bar.run in
    let made = starts m.lines in
    let here : AreFreePeiLines b.catalog b.fuel m lines = (pei_leads b.board b.catalog b.fuel bar.earlier m b.apart come lines).0 free (first_of_first made (made ++ asked.start ∷ []) (starts lines) (asked.start ∷ [], refl) first) in
    let case = case_is b m number bar.due in
    let one = (Runs.starts_freely b.catalog b.fuel m case.0 bar.going case.1 lines).0 here in
    let other : ℕ = one.0 in
    let may : MayStart b.catalog m other = one.1 in
    let next = module_start Pei b.catalog other in
    let behind = Runs.lines_grow b.catalog b.fuel (started b.catalog m other) lines one.2 in
    let adds = started_adds b.catalog m other may in
    let there : ComeFirst (made ++ next ∷ []) (starts lines) = (starts behind.rest, ap starts behind.printed_first ∙ starts-append (started b.catalog m other).lines behind.rest ∙ ap (λ x. x ++ starts behind.rest) adds.lines) in
    let same : asked.start ≡ next = next_of_fronts made (made ++ asked.start ∷ []) (made ++ next ∷ []) (starts lines) asked.start next [] [] refl refl first there in
    let due = due_is b m number other asked bar.due may asks same in
    let below : number < length b.catalog.modules = subst (λ n. n < length b.catalog.modules) (sym due) (within (part_of Pei) b.catalog.modules other (Ways.may_has_part b.catalog m other may)) in
    let lets : lets_peim b m number ≡ true = ap (λ o. lets_asked b.catalog Pei b.order.stop o number) asks ∙ is_start b.catalog Pei number asked.start below (same ∙ ap (module_start Pei b.catalog) (sym due)) in
    true≢false (sym lets ∙ bar.barred)

-- a free boot goes on from there with the start of the module that is due
pub before_start : (b : OrderBoot) (m : PeiMachine) (number : ℕ) → PeiBar b m number → IsBeforeStart b.board b.catalog b.fuel m.lines
before_start b m number bar =
    let come = comes b bar.earlier m bar.run in
    let may = (Cursors.aims b.catalog m bar.due.cursor).chosen number bar.due.next in
    let case = case_is b m number bar.due in
    let step : IsFreePeiStep b.catalog b.fuel m (started b.catalog m number) = start_is_free b.catalog b.fuel m case.0 number case.1 may in
    let later = (Ways.steps_run_out b.catalog b.fuel m (started b.catalog m number) bar.going (way b bar.earlier m come) step).way in
    let free = Runs.ends_freely b.catalog b.fuel (started b.catalog m number) b.well.parents later in
    let here : AreFreePeiLines b.catalog b.fuel m free.0 = (Runs.starts_freely b.catalog b.fuel m case.0 bar.going case.1 free.0).1 (number, may, free.1) in
    let prints = pei_prints b.catalog m number may in
    let line = start_line b.catalog m number (licence_at m number prints.part) in
    let behind = Runs.lines_grow b.catalog b.fuel (started b.catalog m number) free.0 free.1 in
    record {
      lines = free.0;
      boots = (pei_leads b.board b.catalog b.fuel bar.earlier m b.apart come free.0).1 here;
      line = line;
      start = module_start Pei b.catalog number;
      tells = refl;
      rest = prints.rest ++ behind.rest;
      are = behind.printed_first ∙ ap (λ x. x ++ behind.rest) prints.lines ∙ append_assoc m.lines (line ∷ prints.rest) behind.rest;
    }
