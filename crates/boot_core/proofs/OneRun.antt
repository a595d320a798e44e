-- Choices that name one module at most lead to one place: from each machine they lead on by one step, or stop there.
use Rattle.std.proofs.Common.{◌≡◌, ℕ, zero, suc, ◌<◌, ◌≤◌, Bool, true, false, true≢false, ◌||◌, List, [], ◌∷◌, length, Option, Some, None, refl, sym, ap, ◌∙◌, subst, inl, inr, arith, ◌==◌, slice_get}
use Rattle.std.proofs.{lemmas.Bool.cases_lt, lemmas.Bool.Decides.eqb_tells}
use Rattle.boot_laws.specs.{PeiOrder.OrderIsOfModules, declared.choice.Reached.Reached, PeiAim.CursorAims, PeiAim.with_cursor}
use Rattle.mod_catalog.specs.{declared.catalogue.Catalog.Catalog, Parts.has_number, WellFormed.IsWellFormed}
use Rattle.store_model.specs.StoreState.{Board}
use Rattle.boot_model.specs.{declared.phase_end.DxeEnd.DxeEnd, declared.phase_end.PeiEnd.PeiEnd, declared.driver.Scheduled.Scheduled}
use Rattle.boot_model.specs.declared.phase_end.PeiEnd.TheVariants.{Handoff, NoMemory, NoIpl, Spent, Deep}
use Rattle.boot_model.specs.{DxeMachine.DxeMachine, DxeRun.dxe_opening, DxeStep.DxeStarts, DxeStep.dxe_case_of, Licence.AllDiffer}
use Rattle.boot_model.specs.{PeiChoice.next_peim, PeiChoice.pei_order, PeiMachine.PeiMachine, PeiRun.pei_opening}
use Rattle.boot_model.specs.PeiStep.{Starts, case_of, started}
use Rattle.boot_model.proofs.Distinct.{Distinct, all_differ}
use Rattle.boot_laws.specs.declared.choice.Reached.TheVariants as R
use Rattle.boot_laws.specs.PeiFree.{IsOwnCase}
use Rattle.pei_dispatch.specs.Choices as P
use Rattle.pei_dispatch.proofs.Chosen.{idle_starts, some_first}
use Rattle.dxe_dispatch.specs.Choices as D
use Rattle.dxe_dispatch.specs.Turns.{PassesStart}
use Rattle.dxe_dispatch.proofs.Targets.{Doing, HasScheduled, MayChoose, RunsScript, doing, none_aimed, none_named}
use Rattle.boot_core.specs.Choices.{Choices, NameOne}
use Rattle.boot_core.proofs.Reported.{run_differs}

-- laws on which it stands
pub record RunLaws : Type 0 where
  pub aims : CursorAims
  pub orders : OrderIsOfModules

-- a boot by choices, and what is known of it
pub record Boot : Type 1 where
  pub by : Choices
  pub board : Board
  pub catalog : Catalog
  pub fuel : ℕ
  pub well : IsWellFormed catalog
  pub names : NameOne by
  pub laws : RunLaws

abbrev pub opening : Boot → PeiMachine
opening b = pei_opening b.board b.catalog

abbrev pub IsRun : Boot → List PeiMachine → PeiMachine → Type 0
IsRun b earlier m = P.IsRunBy b.by.peims b.by.lets_peim b.catalog b.fuel (opening b) earlier m

abbrev IsStep : Boot → PeiMachine → PeiMachine → Type 0
IsStep b m later = P.IsStepBy b.by.peims b.by.lets_peim b.catalog b.fuel m later

abbrev pub IsDue : Boot → PeiMachine → ℕ → Type 0
IsDue b m number = P.IsDue b.by.peims b.catalog m number

one_number : (a b : ℕ) → Some a ≡ Some b → a ≡ b
one_number a b e = cc

has_placed : (xs : List ℕ) (n place : ℕ) → slice_get xs place ≡ Some n → has_number xs n ≡ true
has_placed [] n place h = absurd (cc)
has_placed (x ∷ xs) n zero h = elim (eqb_tells x n) [
  | inl same ↦ ap (λ b. b || has_number xs n) same.0
  | inr other ↦ let is : x ≡ n = cc in absurd (other.1 is)
]
has_placed (x ∷ xs) n (suc place) h = or_later (x == n) (has_number xs n) (has_placed xs n place h)
  where
    or_later : (a b : Bool) → b ≡ true → (a || b) ≡ true
    or_later true b e = refl
    or_later false b e = e

-- where no number stands twice, one stands in one place
one_place : (xs : List ℕ) (n p q : ℕ) → AllDiffer xs → slice_get xs p ≡ Some n → slice_get xs q ≡ Some n → p ≡ q
one_place [] n p q d e f = absurd (cc)
one_place (x ∷ xs) n zero zero d e f = refl
one_place (x ∷ xs) n zero (suc q) d e f =
    let is : x ≡ n = cc in
    absurd (true≢false (sym (has_placed xs n q f) ∙ ap (has_number xs) (sym is) ∙ d.0))
one_place (x ∷ xs) n (suc p) zero d e f =
    let is : x ≡ n = cc in
    absurd (true≢false (sym (has_placed xs n p e) ∙ ap (has_number xs) (sym is) ∙ d.0))
one_place (x ∷ xs) n (suc p) (suc q) d e f = let rest = one_place xs n p q d.1 e f in omega (arith, rest)

-- the place from which the next PEIM is looked for
one_cursor : (order : List ℕ) (cursor one other : ℕ) (named : Option ℕ) → AllDiffer order → P.IsPlaceFor order cursor named one → P.IsPlaceFor order cursor named other → one ≡ other
one_cursor order cursor one other None differ p q = p ∙ sym q
one_cursor order cursor one other (Some number) differ p q = by (has_number order number) refl
  where
    by : (b : Bool) → has_number order number ≡ b → one ≡ other
    by true e = one_place order number one other differ (p.0 e) (q.0 e)
    by false e = p.1 e ∙ sym (q.1 e)

-- one PEIM is due
pub one_due : (b : Boot) (m : PeiMachine) (one other : ℕ) → Distinct m.reported → IsDue b m one → IsDue b m other → other ≡ one
one_due b m one other distinct d e =
    let order = pei_order b.catalog m.reported in
    let named : e.named ≡ d.named = b.names.peims m e.named d.named e.allowed d.allowed in
    let place : P.IsPlaceFor order m.cursor d.named e.cursor = subst (λ o. P.IsPlaceFor order m.cursor o e.cursor) named e.place in
    let cursor : e.cursor ≡ d.cursor = one_cursor order m.cursor e.cursor d.cursor d.named (b.laws.orders b.catalog m.reported (all_differ m.reported distinct)).differ place d.place in
    one_number other one (sym e.next ∙ ap (λ c. next_peim b.catalog (with_cursor m c)) cursor ∙ d.next)

-- where one is due the machine takes no step of its own
not_own : (b : Boot) (m : PeiMachine) (number : ℕ) → IsDue b m number → IsOwnCase (case_of b.catalog m) → ⊥
not_own b m number due own =
    let aim = b.laws.aims b.catalog m due.cursor in
    let first = some_first b.catalog m due.cursor number aim.none due.next in
    let gone : IsOwnCase (Starts first.0) = subst IsOwnCase (idle_starts b.catalog m first.0 due.idle first.1) own in
    gone

one_step : (b : Boot) (m later other : PeiMachine) → Distinct m.reported → IsStep b m later → IsStep b m other → later ≡ other
one_step b m later other distinct (inl own) (inl too) = own.is ∙ sym too.is
one_step b m later other distinct (inl own) (inr start) = absurd (not_own b m start.number start.due own.own)
one_step b m later other distinct (inr start) (inl own) = absurd (not_own b m start.number start.due own.own)
one_step b m later other distinct (inr start) (inr next) =
    start.is ∙ ap (started b.catalog m) (sym (one_due b m start.number next.number distinct start.due next.due)) ∙ sym next.is

no_step : (b : Boot) (m later : PeiMachine) (number : ℕ) → Distinct m.reported → IsDue b m number → b.by.lets_peim m number ≡ false → IsStep b m later → ⊥
no_step b m later number distinct due barred (inl own) = not_own b m number due own.own
no_step b m later number distinct due barred (inr start) =
    let same : number ≡ start.number = one_due b m start.number number distinct start.due due in
    true≢false (sym start.passes ∙ ap (b.by.lets_peim m) (sym same) ∙ barred)

-- the volumes that it has reported differ
pub differ : (b : Boot) (earlier : List PeiMachine) (m : PeiMachine) → IsRun b earlier m → Distinct m.reported
differ b earlier m run = run_differs b.by.peims b.by.lets_peim b.board b.catalog b.fuel earlier m b.well.parents run

-- runs of as many steps are one
same_run : (b : Boot) (e f : List PeiMachine) (m k : PeiMachine) → IsRun b e m → IsRun b f k → length e ≡ length f → (e ≡ f) × (m ≡ k)
same_run b [] [] m k r s l = (refl, r ∙ sym s)
same_run b [] (y ∷ f) m k r s l = cc
same_run b (x ∷ e) [] m k r s l = cc
same_run b (x ∷ e) (y ∷ f) m k r s l =
    let same = same_run b e f x y r.2 s.2 (omega (arith, l)) in (
      ap (λ z. z ∷ e) same.1 ∙ ap (λ zs. y ∷ zs) same.0,
      one_step b x m k (differ b e x r.2) r.1 (subst (λ z. IsStep b z k) (sym same.1) s.1),
    )

-- the machine of a longer run behind so many steps, and its next
record Passed (b : Boot) (n : ℕ) : Type 0 where
  earlier : List PeiMachine
  m : PeiMachine
  later : PeiMachine
  many : length earlier ≡ n
  run : IsRun b earlier m
  going : m.ended ≡ None
  step : IsStep b m later

passes : (b : Boot) (e : List PeiMachine) (m : PeiMachine) (n : ℕ) → IsRun b e m → n < length e → Passed b n
passes b [] m n r less = absurd (omega (arith, less))
passes b (x ∷ e) m n r less = elim (cases_lt n (length e)) [
  | inl on ↦ passes b e x n r.2 on
  | inr here ↦ record { earlier = e; m = x; later = m; many = omega (arith, less, here); run = r.2; going = r.0; step = r.1 }
]

-- a machine from which they lead no further
pub data Stands (b : Boot) (m : PeiMachine) : Type 0 where
  over : (how : PeiEnd) → m.ended ≡ Some how → Stands b m
  barred : (number : ℕ) → IsDue b m number → b.by.lets_peim m number ≡ false → Stands b m

goes_no_further : (b : Boot) (m later : PeiMachine) → Distinct m.reported → Stands b m → m.ended ≡ None → IsStep b m later → ⊥
goes_no_further b m later distinct (over how is) going step = let gone : None ≡ Some how = sym going ∙ is in cc
goes_no_further b m later distinct (barred number due never) going step = no_step b m later number distinct due never step

no_longer : (b : Boot) (e f : List PeiMachine) (m k : PeiMachine) → IsRun b e m → Stands b m → IsRun b f k → length f ≤ length e
no_longer b e f m k r stands s = elim (cases_lt (length e) (length f)) [
  | inr fine ↦ fine
  | inl less ↦
      let p = passes b f k (length e) s less in
      let same = same_run b e p.earlier m p.m r p.run (sym p.many) in
      absurd (goes_no_further b p.m p.later (differ b p.earlier p.m p.run) (subst (Stands b) same.1 stands) p.going p.step)
]

pub one_run : (b : Boot) (e f : List PeiMachine) (m k : PeiMachine) → IsRun b e m → Stands b m → IsRun b f k → Stands b k → (e ≡ f) × (m ≡ k)
one_run b e f m k r here s there =
    let few = no_longer b e f m k r here s in
    let many = no_longer b f e k m s there r in
    same_run b e f m k r s (omega (arith, few, many))

-- DXE behind one machine of PEI.
abbrev pub came : Boot → PeiMachine → List DxeMachine → DxeMachine
came b pei earlier = D.came b.catalog b.fuel (dxe_opening b.catalog pei.store pei.actions) earlier

abbrev pub Runs : Boot → PeiMachine → List DxeMachine → Type 0
Runs b pei earlier = D.IsRunBy (b.by.drivers pei) (b.by.lets_driver pei) b.catalog b.fuel (dxe_opening b.catalog pei.store pei.actions) earlier

abbrev pub IsAimed : Boot → PeiMachine → List DxeMachine → DxeMachine → DxeMachine → Type 0
IsAimed b pei earlier m target = D.IsAimedBy (b.by.drivers pei earlier) b.catalog m target

pub one_target : (b : Boot) (pei : PeiMachine) (earlier : List DxeMachine) (m target other : DxeMachine) → m.ended ≡ None → IsAimed b pei earlier m target → IsAimed b pei earlier m other → target ≡ other
one_target b pei earlier m target other going one two = by (doing m going)
  where
    by : Doing m → target ≡ other
    by (RunsScript frame below e) = none_named (b.by.drivers pei earlier) b.catalog m target frame below e one ∙ sym (none_named (b.by.drivers pei earlier) b.catalog m other frame below e two)
    by (HasScheduled first rest e f) = none_aimed (b.by.drivers pei earlier) b.catalog m target first rest f one ∙ sym (none_aimed (b.by.drivers pei earlier) b.catalog m other first rest f two)
    by (MayChoose choosing) =
        let same : one.named ≡ two.named = b.names.drivers pei earlier m one.named two.named (one.allowed choosing) (two.allowed choosing) in
        one.is ∙ ap (D.aimed_at b.catalog m) same ∙ sym two.is

same_dxe : (b : Boot) (pei : PeiMachine) (e f : List DxeMachine) → Runs b pei e → Runs b pei f → length e ≡ length f → e ≡ f
same_dxe b pei [] [] r s l = refl
same_dxe b pei [] (u ∷ f) r s l = cc
same_dxe b pei (t ∷ e) [] r s l = cc
same_dxe b pei (t ∷ e) (u ∷ f) r s l =
    let same : e ≡ f = same_dxe b pei e f r.3 s.3 (omega (arith, l)) in
    let there : IsAimed b pei e (came b pei e) u = subst (λ x. IsAimed b pei x (came b pei x) u) (sym same) s.0 in
    ap (λ x. x ∷ e) (one_target b pei e (came b pei e) t u r.2 r.0 there) ∙ ap (λ xs. u ∷ xs) same

record DxePassed (b : Boot) (pei : PeiMachine) (n : ℕ) : Type 0 where
  earlier : List DxeMachine
  target : DxeMachine
  many : length earlier ≡ n
  run : Runs b pei earlier
  going : (came b pei earlier).ended ≡ None
  aimed : IsAimed b pei earlier (came b pei earlier) target
  let_on : PassesStart (b.by.lets_driver pei earlier target) b.catalog target

passes_dxe : (b : Boot) (pei : PeiMachine) (e : List DxeMachine) (n : ℕ) → Runs b pei e → n < length e → DxePassed b pei n
passes_dxe b pei [] n r less = absurd (omega (arith, less))
passes_dxe b pei (t ∷ e) n r less = elim (cases_lt n (length e)) [
  | inl on ↦ passes_dxe b pei e n r.3 on
  | inr here ↦ record { earlier = e; target = t; many = omega (arith, less, here); run = r.3; going = r.2; aimed = r.0; let_on = r.1 }
]

pub data DxeStands (b : Boot) (pei : PeiMachine) (earlier : List DxeMachine) (m : DxeMachine) : Type 0 where
  dxe_over : (how : DxeEnd) → m.ended ≡ Some how → DxeStands b pei earlier m
  dxe_barred : (number : ℕ) (due : D.IsDue (b.by.drivers pei earlier) b.catalog m number) → b.by.lets_driver pei earlier due.target number ≡ false → DxeStands b pei earlier m

dxe_no_further : (b : Boot) (pei : PeiMachine) (earlier : List DxeMachine) (m target : DxeMachine) → DxeStands b pei earlier m → m.ended ≡ None → IsAimed b pei earlier m target → PassesStart (b.by.lets_driver pei earlier target) b.catalog target → ⊥
dxe_no_further b pei earlier m target (dxe_over how is) going aimed let_on = let gone : None ≡ Some how = sym going ∙ is in cc
dxe_no_further b pei earlier m target (dxe_barred number due never) going aimed let_on =
    let same : due.target ≡ target = one_target b pei earlier m due.target target going due.aimed aimed in
    let on : PassesStart (b.by.lets_driver pei earlier due.target) b.catalog due.target = subst (λ x. PassesStart (b.by.lets_driver pei earlier x) b.catalog x) (sym same) let_on in
    true≢false (sym (on number due.starting) ∙ never)

no_longer_dxe : (b : Boot) (pei : PeiMachine) (e f : List DxeMachine) → Runs b pei e → DxeStands b pei e (came b pei e) → Runs b pei f → length f ≤ length e
no_longer_dxe b pei e f r stands s = elim (cases_lt (length e) (length f)) [
  | inr fine ↦ fine
  | inl less ↦
      let p = passes_dxe b pei f (length e) s less in
      let same : e ≡ p.earlier = same_dxe b pei e p.earlier r p.run (sym p.many) in
      absurd (dxe_no_further b pei p.earlier (came b pei p.earlier) p.target (subst (λ x. DxeStands b pei x (came b pei x)) same stands) p.going p.aimed p.let_on)
]

pub one_dxe_run : (b : Boot) (pei : PeiMachine) (e f : List DxeMachine) → Runs b pei e → DxeStands b pei e (came b pei e) → Runs b pei f → DxeStands b pei f (came b pei f) → e ≡ f
one_dxe_run b pei e f r here s there =
    let few = no_longer_dxe b pei e f r here s in
    let many = no_longer_dxe b pei f e s there r in
    same_dxe b pei e f r s (omega (arith, few, many))
