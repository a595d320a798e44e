-- An order leads to one place: from each machine it leads on by one step, or stops there.
use Rattle.std.proofs.Common.{◌≡◌, ℕ, ◌+◌, ◌<◌, ◌≤◌, Bool, true, false, true≢false, List, [], ◌∷◌, length, Option, Some, None, refl, sym, ap, ◌∙◌, subst, inl, inr, arith, slice_get}
use Rattle.std.proofs.lemmas.Bool.{cases_lt}
use Rattle.pi_base.specs.declared.phase.Phase.TheVariants.{Pei, Dxe}
use Rattle.boot_model.specs.{declared.phase_end.DxeEnd.DxeEnd, declared.phase_end.PeiEnd.PeiEnd, DxeMachine.DxeMachine, DxeRun.dxe_opening}
use Rattle.boot_model.specs.declared.phase_end.PeiEnd.TheVariants.{Handoff, NoMemory, NoIpl, Spent, Deep}
use Rattle.boot_model.specs.{DxeStep.dxe_step, PeiChoice.next_peim, PeiChoice.pei_order, PeiMachine.PeiMachine}
use Rattle.boot_model.specs.PeiStep.{Starts, case_of, started}
use Rattle.boot_laws.specs.{PeiAim.with_cursor, PeiFree.IsOwnCase}
use Rattle.boot_laws.proofs.Cursors as Cursors
use Rattle.recorded_boot.specs.declared.order.line.AskedStart.{AskedStart}
use Rattle.recorded_boot.specs.ByOrder.{NamesAsked, is_start_of, lets_asked, lets_by}
use Rattle.pei_dispatch.specs.Choices as P
use Rattle.pei_dispatch.specs.Ends.{pei_starts}
use Rattle.dxe_dispatch.specs.Choices as D
use Rattle.dxe_dispatch.specs.Turns.{PassesStart}
use Rattle.dxe_dispatch.proofs.Targets.{Doing, HasScheduled, MayChoose, RunsScript, doing, none_aimed, none_named}
use Rattle.recorded_boot.specs.InOrder.{BarsInDxe, BarsInPei, IsDxePlace, IsPeiPlace, LeadsTo, Place, StandsInDxe, order_choices}
use Rattle.recorded_boot.proofs.Along.{none_asked, one_named, start_is}
use Rattle.recorded_boot.proofs.PeiOrder.{IsRun, OrderBoot, case_is, due_is, lets_peim, peims}

one_number : (a b : ℕ) → Some a ≡ Some b → a ≡ b
one_number a b e = cc

-- where the order asks for nothing, what is due is what the machine itself would start
pub own_next : (b : OrderBoot) (m : PeiMachine) (number : ℕ) → P.IsDue (peims b) b.catalog m number → slice_get b.order.starts (pei_starts m) ≡ None → next_peim b.catalog m ≡ Some number
own_next b m number d none =
    let named : d.named ≡ None = none_asked b.catalog Pei b.order (pei_starts m) d.named d.allowed none in
    let here : d.cursor ≡ m.cursor = subst (λ o. P.IsPlaceFor (pei_order b.catalog m.reported) m.cursor o d.cursor) named d.place in
    ap (λ c. next_peim b.catalog (with_cursor m c)) (sym here) ∙ d.next

-- where one is due that is let, no other is
one_due : (b : OrderBoot) (m : PeiMachine) (one other : ℕ) → P.IsDue (peims b) b.catalog m one → P.IsDue (peims b) b.catalog m other → lets_peim b m one ≡ true → other ≡ one
one_due b m one other d e passes = by (slice_get b.order.starts (pei_starts m)) refl
  where
    by : (o : Option AskedStart) → slice_get b.order.starts (pei_starts m) ≡ o → other ≡ one
    by None none = one_number other one (sym (own_next b m other e none) ∙ own_next b m one d none)
    by (Some asked) asks =
        let lets : is_start_of b.catalog Pei one asked.start ≡ true = sym (ap (λ o. lets_asked b.catalog Pei b.order.stop o one) asks) ∙ passes in
        let may = (Cursors.aims b.catalog m d.cursor).chosen one d.next in
        due_is b m other one asked e may asks (start_is b.catalog Pei one asked.start lets)

-- where one is due the machine takes no step of its own
not_own : (b : OrderBoot) (m : PeiMachine) (number : ℕ) → P.IsDue (peims b) b.catalog m number → IsOwnCase (case_of b.catalog m) → ⊥
not_own b m number due own = let case = case_is b m number due in let gone : IsOwnCase (Starts case.0) = subst IsOwnCase case.1 own in gone

one_step : (b : OrderBoot) (m later other : PeiMachine) → P.IsStepBy (peims b) (lets_peim b) b.catalog b.fuel m later → P.IsStepBy (peims b) (lets_peim b) b.catalog b.fuel m other → later ≡ other
one_step b m later other (inl own) (inl too) = own.is ∙ sym too.is
one_step b m later other (inl own) (inr start) = absurd (not_own b m start.number start.due own.own)
one_step b m later other (inr start) (inl own) = absurd (not_own b m start.number start.due own.own)
one_step b m later other (inr start) (inr next) = start.is ∙ ap (started b.catalog m) (sym (one_due b m start.number next.number start.due next.due start.passes)) ∙ sym next.is

no_step : (b : OrderBoot) (m later : PeiMachine) (number : ℕ) → P.IsDue (peims b) b.catalog m number → lets_peim b m number ≡ false → P.IsStepBy (peims b) (lets_peim b) b.catalog b.fuel m later → ⊥
no_step b m later number due barred (inl own) = not_own b m number due own.own
no_step b m later number due barred (inr start) =
    let same : number ≡ start.number = one_due b m start.number number start.due due start.passes in
    true≢false (sym start.passes ∙ ap (lets_peim b m) (sym same) ∙ barred)

-- runs of as many steps come to one machine
same_length : (b : OrderBoot) (e f : List PeiMachine) (m k : PeiMachine) → IsRun b e m → IsRun b f k → length e ≡ length f → m ≡ k
same_length b [] [] m k r s l = r ∙ sym s
same_length b [] (y ∷ f) m k r s l = cc
same_length b (x ∷ e) [] m k r s l = cc
same_length b (x ∷ e) (y ∷ f) m k r s l =
    let same : x ≡ y = same_length b e f x y r.2 s.2 (omega (arith, l)) in
    one_step b x m k r.1 (subst (λ z. P.IsStepBy (peims b) (lets_peim b) b.catalog b.fuel z k) (sym same) s.1)

-- the machine of a longer run behind so many steps, and its next
record Passed (b : OrderBoot) (n : ℕ) : Type 0 where
  earlier : List PeiMachine
  m : PeiMachine
  later : PeiMachine
  many : length earlier ≡ n
  run : IsRun b earlier m
  going : m.ended ≡ None
  step : P.IsStepBy (peims b) (lets_peim b) b.catalog b.fuel m later

passes : (b : OrderBoot) (e : List PeiMachine) (m : PeiMachine) (n : ℕ) → IsRun b e m → n < length e → Passed b n
passes b [] m n r less = absurd (omega (arith, less))
passes b (x ∷ e) m n r less = elim (cases_lt n (length e)) [
  | inl on ↦ passes b e x n r.2 on
  | inr here ↦ record { earlier = e; m = x; later = m; many = omega (arith, less, here); run = r.2; going = r.0; step = r.1 }
]

-- a machine from which the order leads no further
data Stands (b : OrderBoot) (m : PeiMachine) : Type 0 where
  over : (how : PeiEnd) → m.ended ≡ Some how → Stands b m
  barred : (number : ℕ) → P.IsDue (peims b) b.catalog m number → lets_peim b m number ≡ false → Stands b m

goes_no_further : (b : OrderBoot) (m later : PeiMachine) → Stands b m → m.ended ≡ None → P.IsStepBy (peims b) (lets_peim b) b.catalog b.fuel m later → ⊥
goes_no_further b m later (over how is) going step = let gone : None ≡ Some how = sym going ∙ is in cc
goes_no_further b m later (barred number due never) going step = no_step b m later number due never step

no_longer : (b : OrderBoot) (e f : List PeiMachine) (m k : PeiMachine) → IsRun b e m → Stands b m → IsRun b f k → length f ≤ length e
no_longer b e f m k r stands s = elim (cases_lt (length e) (length f)) [
  | inr fine ↦ fine
  | inl less ↦
      let p = passes b f k (length e) s less in
      let same : m ≡ p.m = same_length b e p.earlier m p.m r p.run (sym p.many) in
      absurd (goes_no_further b p.m p.later (subst (Stands b) same stands) p.going p.step)
]

one_end : (b : OrderBoot) (e f : List PeiMachine) (m k : PeiMachine) → IsRun b e m → Stands b m → IsRun b f k → Stands b k → m ≡ k
one_end b e f m k r here s there =
    let few = no_longer b e f m k r here s in
    let many = no_longer b f e k m s there r in
    same_length b e f m k r s (omega (arith, few, many))

-- DXE behind one machine of PEI.
abbrev named : OrderBoot → PeiMachine → DxeMachine → Option ℕ → Type 0
named b pei m one = NamesAsked b.catalog Dxe b.order (pei_starts pei + length m.started) one

abbrev lets : OrderBoot → PeiMachine → DxeMachine → ℕ → Bool
lets b pei m number = lets_by b.catalog b.order Dxe (pei_starts pei + length m.started) number

abbrev came : OrderBoot → PeiMachine → List DxeMachine → DxeMachine
came b pei earlier = D.came b.catalog b.fuel (dxe_opening b.catalog pei.store pei.actions) earlier

abbrev Runs : OrderBoot → PeiMachine → List DxeMachine → Type 0
Runs b pei earlier = D.IsRunBy (λ earlier. named b pei) (λ earlier. lets b pei) b.catalog b.fuel (dxe_opening b.catalog pei.store pei.actions) earlier

one_target : (b : OrderBoot) (pei : PeiMachine) (m target other : DxeMachine) → m.ended ≡ None → D.IsAimedBy (named b pei) b.catalog m target → D.IsAimedBy (named b pei) b.catalog m other → target ≡ other
one_target b pei m target other going one two = by (doing m going)
  where
    by : Doing m → target ≡ other
    by (RunsScript frame below e) = none_named (named b pei) b.catalog m target frame below e one ∙ sym (none_named (named b pei) b.catalog m other frame below e two)
    by (HasScheduled first rest e f) = none_aimed (named b pei) b.catalog m target first rest f one ∙ sym (none_aimed (named b pei) b.catalog m other first rest f two)
    by (MayChoose choosing) =
        let same : one.named ≡ two.named = one_named b.catalog Dxe b.order (pei_starts pei + length m.started) one.named two.named b.apart (one.allowed choosing) (two.allowed choosing) in
        one.is ∙ ap (D.aimed_at b.catalog m) same ∙ sym two.is

same_dxe : (b : OrderBoot) (pei : PeiMachine) (e f : List DxeMachine) → Runs b pei e → Runs b pei f → length e ≡ length f → came b pei e ≡ came b pei f
same_dxe b pei [] [] r s l = refl
same_dxe b pei [] (u ∷ f) r s l = cc
same_dxe b pei (t ∷ e) [] r s l = cc
same_dxe b pei (t ∷ e) (u ∷ f) r s l =
    let same : came b pei e ≡ came b pei f = same_dxe b pei e f r.3 s.3 (omega (arith, l)) in
    let there : D.IsAimedBy (named b pei) b.catalog (came b pei e) u = subst (λ m. D.IsAimedBy (named b pei) b.catalog m u) (sym same) s.0 in
    ap (dxe_step b.catalog b.fuel) (one_target b pei (came b pei e) t u r.2 r.0 there)

record DxePassed (b : OrderBoot) (pei : PeiMachine) (n : ℕ) : Type 0 where
  earlier : List DxeMachine
  target : DxeMachine
  many : length earlier ≡ n
  run : Runs b pei earlier
  going : (came b pei earlier).ended ≡ None
  aimed : D.IsAimedBy (named b pei) b.catalog (came b pei earlier) target
  let_on : PassesStart (lets b pei target) b.catalog target

passes_dxe : (b : OrderBoot) (pei : PeiMachine) (e : List DxeMachine) (n : ℕ) → Runs b pei e → n < length e → DxePassed b pei n
passes_dxe b pei [] n r less = absurd (omega (arith, less))
passes_dxe b pei (t ∷ e) n r less = elim (cases_lt n (length e)) [
  | inl on ↦ passes_dxe b pei e n r.3 on
  | inr here ↦ record { earlier = e; target = t; many = omega (arith, less, here); run = r.3; going = r.2; aimed = r.0; let_on = r.1 }
]

data DxeStands (b : OrderBoot) (pei : PeiMachine) (m : DxeMachine) : Type 0 where
  dxe_over : (how : DxeEnd) → m.ended ≡ Some how → DxeStands b pei m
  dxe_barred : (number : ℕ) (due : D.IsDue (named b pei) b.catalog m number) → lets b pei due.target number ≡ false → DxeStands b pei m

dxe_no_further : (b : OrderBoot) (pei : PeiMachine) (m target : DxeMachine) → DxeStands b pei m → m.ended ≡ None → D.IsAimedBy (named b pei) b.catalog m target → PassesStart (lets b pei target) b.catalog target → ⊥
dxe_no_further b pei m target (dxe_over how is) going aimed let_on = let gone : None ≡ Some how = sym going ∙ is in cc
dxe_no_further b pei m target (dxe_barred number due never) going aimed let_on =
    let same : due.target ≡ target = one_target b pei m due.target target going due.aimed aimed in
    let on : PassesStart (lets b pei due.target) b.catalog due.target = subst (λ x. PassesStart (lets b pei x) b.catalog x) (sym same) let_on in
    true≢false (sym (on number due.starting) ∙ never)

no_longer_dxe : (b : OrderBoot) (pei : PeiMachine) (e f : List DxeMachine) → Runs b pei e → DxeStands b pei (came b pei e) → Runs b pei f → length f ≤ length e
no_longer_dxe b pei e f r stands s = elim (cases_lt (length e) (length f)) [
  | inr fine ↦ fine
  | inl less ↦
      let p = passes_dxe b pei f (length e) s less in
      let same : came b pei e ≡ came b pei p.earlier = same_dxe b pei e p.earlier r p.run (sym p.many) in
      absurd (dxe_no_further b pei (came b pei p.earlier) p.target (subst (DxeStands b pei) same stands) p.going p.aimed p.let_on)
]

one_dxe_end : (b : OrderBoot) (pei : PeiMachine) (e f : List DxeMachine) → Runs b pei e → DxeStands b pei (came b pei e) → Runs b pei f → DxeStands b pei (came b pei f) → came b pei e ≡ came b pei f
one_dxe_end b pei e f r here s there =
    let few = no_longer_dxe b pei e f r here s in
    let many = no_longer_dxe b pei f e s there r in
    same_dxe b pei e f r s (omega (arith, few, many))

-- Places.
dxe_stands : (b : OrderBoot) (pei : PeiMachine) (earlier : List DxeMachine) (m : DxeMachine) (how : Option DxeEnd) (place : Place) → m.ended ≡ how → IsDxePlace (order_choices b.catalog b.fuel b.order) b.catalog pei earlier m how place → DxeStands b pei m
dxe_stands b pei earlier m None place is at = let bars : BarsInDxe (order_choices b.catalog b.fuel b.order) b.catalog pei earlier m = at.0 in dxe_barred bars.number bars.due bars.barred
dxe_stands b pei earlier m (Some how) place is at = dxe_over how is

dxe_place_is : (b : OrderBoot) (pei : PeiMachine) (e f : List DxeMachine) (m : DxeMachine) (how : Option DxeEnd) (one other : Place) → IsDxePlace (order_choices b.catalog b.fuel b.order) b.catalog pei e m how one
    → IsDxePlace (order_choices b.catalog b.fuel b.order) b.catalog pei f m how other → one ≡ other
dxe_place_is b pei e f m None one other p q = p.1 ∙ sym q.1
dxe_place_is b pei e f m (Some how) one other p q = p ∙ sym q

one_in_dxe : (b : OrderBoot) (pei : PeiMachine) (one other : Place) → StandsInDxe (order_choices b.catalog b.fuel b.order) b.catalog b.fuel pei one → StandsInDxe (order_choices b.catalog b.fuel b.order) b.catalog b.fuel pei other → one ≡ other
one_in_dxe b pei one other p q =
    let By = order_choices b.catalog b.fuel b.order in
    let here : DxeStands b pei (came b pei p.comes.earlier) = subst (DxeStands b pei) p.comes.is (dxe_stands b pei p.comes.earlier p.m p.m.ended one refl p.stands) in
    let there : DxeStands b pei (came b pei q.comes.earlier) = subst (DxeStands b pei) q.comes.is (dxe_stands b pei q.comes.earlier q.m q.m.ended other refl q.stands) in
    let same : p.m ≡ q.m = p.comes.is ∙ one_dxe_end b pei p.comes.earlier q.comes.earlier p.comes.run here q.comes.run there ∙ sym q.comes.is in
    dxe_place_is b pei p.comes.earlier q.comes.earlier q.m q.m.ended one other (subst (λ (m : DxeMachine). IsDxePlace By b.catalog pei p.comes.earlier m m.ended one) same p.stands) q.stands

stands : (b : OrderBoot) (m : PeiMachine) (how : Option PeiEnd) (place : Place) → m.ended ≡ how → IsPeiPlace (order_choices b.catalog b.fuel b.order) b.catalog b.fuel m how place → Stands b m
stands b m None place is at = let bars : BarsInPei (order_choices b.catalog b.fuel b.order) b.catalog m = at.0 in barred bars.number bars.due bars.barred
stands b m (Some how) place is at = over how is

place_is : (b : OrderBoot) (m : PeiMachine) (how : Option PeiEnd) (one other : Place) → IsPeiPlace (order_choices b.catalog b.fuel b.order) b.catalog b.fuel m how one → IsPeiPlace (order_choices b.catalog b.fuel b.order) b.catalog b.fuel m how other → one ≡ other
place_is b m None one other p q = p.1 ∙ sym q.1
place_is b m (Some Handoff) one other p q = one_in_dxe b m one other p q
place_is b m (Some NoMemory) one other p q = p ∙ sym q
place_is b m (Some NoIpl) one other p q = p ∙ sym q
place_is b m (Some Spent) one other p q = p ∙ sym q
place_is b m (Some Deep) one other p q = p ∙ sym q

pub one_place : (b : OrderBoot) (one other : Place) → LeadsTo b.board b.catalog b.fuel b.order one → LeadsTo b.board b.catalog b.fuel b.order other → one ≡ other
one_place b one other p q =
    let By = order_choices b.catalog b.fuel b.order in
    let same : p.m ≡ q.m = one_end b p.earlier q.earlier p.m q.m p.runs (stands b p.m p.m.ended one refl p.stands) q.runs (stands b q.m q.m.ended other refl q.stands) in
    place_is b q.m q.m.ended one other (subst (λ (m : PeiMachine). IsPeiPlace By b.catalog b.fuel m m.ended one) same p.stands) q.stands
