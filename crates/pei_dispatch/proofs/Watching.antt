-- What is known of a run that was watched.
use Rattle.std.proofs.Common.{◌≡◌, ℕ, Bool, List, ◌∷◌, Option, None, Ok, Err, refl, sym, ap, ◌∙◌, subst, Result}
use Rattle.boot_io.specs.declared.halt.Halt.{Halt}
use Rattle.mod_catalog.specs.declared.catalogue.Catalog.{Catalog}
use Rattle.store_model.specs.StoreState.{StoreState}
use Rattle.boot_model.specs.{declared.phase_end.PeiEnd.PeiEnd, PeiMachine.PeiMachine, PeiStep.started}
use Rattle.boot_laws.specs.declared.choice.Reached.{Reached}
use Rattle.boot_laws.specs.declared.choice.Reached.TheVariants as R
use Rattle.pei_dispatch.specs.{declared.answer.Step.Step, declared.boot.Left.Left, declared.queue.PeiQueue.PeiQueue}
use Rattle.pei_dispatch.specs.declared.answer.Turn.TheVariants as T
use Rattle.pei_core.specs.{declared.pei.Pei.Pei, Standing.StandsFor}
use Rattle.pei_dispatch.specs.Choices.{TurnsBy, IsTaken}
use Rattle.pei_dispatch.specs.{declared.answer.Step.TheVariants.Acted, declared.answer.Step.TheVariants.Started, Turns.TurnCall}
use Rattle.pei_dispatch.specs.Watched.{BootsAlong, BootsKnown, PeiBoot, PeiCourse, RunsAlong, RunsKnown, StandsLeft, WasLast, WasStep}
use Rattle.pei_dispatch.proofs.ChosenWays.{IsOnWay, comes_on, way_barred, way_over, way_reached}

-- a step by choices is this step, whoever chose
pub was_step : (Names : PeiMachine → Option ℕ → Type 0) (Lets : PeiMachine → ℕ → Bool) (catalog : Catalog) (fuel : ℕ) (m later : PeiMachine) (step : Step) → IsTaken Names Lets catalog fuel m later step → WasStep catalog fuel m later step
was_step Names Lets catalog fuel m later (Acted event) taken = taken
was_step Names Lets catalog fuel m later (Started number) taken = (taken.0.due.idle, taken.0.is ∙ ap (started catalog m) taken.1)

-- how a turn has reached what it did: the last machine and all before it, what the last turn was, and what stands now
pub record HasReached {M : Type 0} (stands : M → StoreState → Type 0) (catalog : Catalog) (fuel : ℕ) (earlier : List PeiMachine) (m : PeiMachine) (later : Pei M) (grown : PeiQueue) (reached : Reached PeiEnd) : Type 0 where
  pub all : List PeiMachine
  pub last : PeiMachine
  pub was : WasLast catalog fuel earlier m all last reached
  pub left : StandsLeft stands catalog later grown last reached

unfoldable pub has_reached : {M : Type 0} (Names : PeiMachine → Option ℕ → Type 0) (Lets : PeiMachine → ℕ → Bool) (stands : M → StoreState → Type 0) (catalog : Catalog) (fuel : ℕ) (earlier : List PeiMachine) (m : PeiMachine) (call : TurnCall M) (reached : Reached PeiEnd)
    → TurnsBy Names Lets stands catalog fuel call m (Ok (T.Reached reached)) → HasReached stands catalog fuel earlier m call.later call.grown reached
has_reached Names Lets stands catalog fuel earlier m call (R.End how) over = record {
  all = m ∷ earlier;
  last = over.«end»;
  was = (refl, over.step, over.ended);
  left = record { sweep = over.sweep; machine = over.machine; parts = over.parts };
}
has_reached Names Lets stands catalog fuel earlier m call (R.Barred number) at = record {
  all = earlier;
  last = m;
  was = (refl, refl, record { idle = at.due.idle; cursor = at.due.cursor; next = at.due.next });
  left = record { machine = at.machine; parts = at.parts };
}

-- the core stands for a machine there
pub stands_there : {M : Type 0} (stands : M → StoreState → Type 0) (catalog : Catalog) (fuel : ℕ) (earlier : List PeiMachine) (m : PeiMachine) (later : Pei M) (grown : PeiQueue) (reached : Reached PeiEnd)
    → HasReached stands catalog fuel earlier m later grown reached → (now : PeiMachine) × StandsFor stands later now
stands_there stands catalog fuel earlier m later grown (R.End how) has = (record has.last { ended = None; core_sweep = has.left.sweep }, has.left.machine)
stands_there stands catalog fuel earlier m later grown (R.Barred number) has = (has.last, has.left.machine)

-- a run that was given up, of which nothing is said
pub halts_watched : {M : Type 0} (c : PeiCourse M) (Known : List PeiMachine → PeiMachine → Reached PeiEnd → Type 0) (result : Result (Reached PeiEnd) Halt) (given halt : Halt) → result ≡ Err given → given ≡ halt → RunsAlong c (Err halt) → RunsKnown c Known result
halts_watched c Known result given halt e f by =
    let P : Result (Reached PeiEnd) Halt → Type 0 = λ r. RunsKnown c Known r in
    subst P (sym (e ∙ ap (λ (h : Halt). Err h) f)) (record { by = by; known = tt })

-- one behind whose last turn no other comes
pub reached_watched : {M S : Type 0} (Names : PeiMachine → Option ℕ → Type 0) (Lets : PeiMachine → ℕ → Bool) (text : S → Option (List ℕ)) (faults : S → ℕ) (stands : M → StoreState → Type 0) (catalog : Catalog) (fuel : ℕ)
    (opening : PeiMachine) (first_pei : Pei M) (first : S) (turns : ℕ) (pei later : Pei M) (queue grown : PeiQueue) (sink shown : S) (Known : List PeiMachine → PeiMachine → Reached PeiEnd → Type 0) (reached : Reached PeiEnd) (before b : ℕ)
    → (way : IsOnWay Names Lets text faults stands catalog fuel opening first_pei first turns pei queue sink before b)
    → (turned : TurnsBy Names Lets stands catalog fuel (record { pei = pei; queue = queue; later = later; grown = grown; texts = record { old = text sink; new = text shown } }) way.m (Ok (T.Reached reached)))
    → (let has = has_reached Names Lets stands catalog fuel way.comes.earlier way.m (record { pei = pei; queue = queue; later = later; grown = grown; texts = record { old = text sink; new = text shown } }) reached turned in Known has.all has.last reached)
    → RunsKnown (record { names = Names; lets = Lets; stands = stands; catalog = catalog; fuel = fuel; opening = opening; call = record { pei = first_pei; later = later; texts = record { old = text first; new = text shown } } }) Known (Ok reached)
unfolding has_reached way_reached way_over way_barred comes_on
reached_watched Names Lets text faults stands catalog fuel opening first_pei first turns pei later queue grown sink shown Known (R.End how) before b way turned known =
    record { by = way_reached Names Lets text faults stands catalog fuel opening first_pei first turns pei later queue grown sink shown (R.End how) before b way turned; known = known }
reached_watched Names Lets text faults stands catalog fuel opening first_pei first turns pei later queue grown sink shown Known (R.Barred number) before b way turned known =
    record { by = way_reached Names Lets text faults stands catalog fuel opening first_pei first turns pei later queue grown sink shown (R.Barred number) before b way turned; known = known }

-- the same of a whole run
pub boot_halts_watched : {M : Type 0} (b : PeiBoot M) (Known : List PeiMachine → PeiMachine → Reached PeiEnd → Type 0) (result : Result (Left M) Halt) (given halt : Halt) → result ≡ Err given → given ≡ halt → BootsAlong b (Err halt) → BootsKnown b Known result
boot_halts_watched {M = M} b Known result given halt e f by =
    let P : Result (Left M) Halt → Type 0 = λ r. BootsKnown b Known r in
    subst P (sym (e ∙ ap (λ (h : Halt). Err h) f)) (record { by = by; known = tt })
