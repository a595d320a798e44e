-- What is told of both phases explains the boot.
use Rattle.std.proofs.Common.{◌≡◌, ℕ, IfOk, Some, None, Result, Ok, Err, true≢false, refl, sym, ap, ◌∙◌, subst}
use Rattle.mod_catalog.specs.declared.catalogue.Catalog.{Catalog}
use Rattle.store_model.specs.{Service.OfEach, StoreCall.Anything, StoreState.Board, StoreState.StoreState}
use Rattle.boot_model.specs.{declared.phase_end.PeiEnd.TheVariants.Handoff, PeiMachine.PeiMachine}
use Rattle.boot_laws.specs.{declared.choice.Reached.Reached, Naming.Rules}
use Rattle.boot_laws.specs.declared.choice.Reached.TheVariants as R
use Rattle.pei_core.specs.{declared.pei.Pei.Pei, Standing.StandsFor}
use Rattle.pei_dispatch.specs.Ends.{pei_starts}
use Rattle.boot_reasons.specs.{declared.dxe.DxeExplained.DxeExplained, declared.nowhere.Nowhere.Nowhere}
use Rattle.boot_reasons.specs.{declared.pei.PeiExplained.PeiExplained, Joining.together, Unseen.choices_of}
use Rattle.explain_text.specs.declared.reasons.Explained.{Explained}
use Rattle.boot_reasons.specs.DxeTelling as D
use Rattle.boot_reasons.specs.Explained.{ExplainsBehind, IsExplainedAfter, IsLeftBefore, left_in_dxe, left_in_pei, own_choices}

-- what follows from what a call that went well answers
pub if_ok : {A E : Type 0} (result : Result A E) (P Q : A → Type 0) → ((a : A) → P a → Q a) → IfOk result P → IfOk result Q
if_ok (Ok a) P Q f p = f a p
if_ok (Err e) P Q f p = tt

-- what the core tells of the last machine of PEI
pub record Hands {M : Type 0} (stands : M → StoreState → Type 0) (pei : Pei M) (store : M) (taken in_pei : ℕ) : Type 0 where
  pub store_is : (m : PeiMachine) → StandsFor stands pei m → stands store m.store
  pub taken_is : (m : PeiMachine) → StandsFor stands pei m → taken ≡ m.actions
  pub starts_are : (m : PeiMachine) → StandsFor stands pei m → in_pei ≡ pei_starts m

-- what DXE came to behind a hand-off
abbrev pub Drives : {M : Type 0} → Rules Nowhere → (M → StoreState → Type 0) → M → Catalog → ℕ → ℕ → ℕ → Reached DxeExplained → Type 0
Drives rules stands store catalog fuel taken in_pei reached = OfEach (stands store) Anything (D.ExplainsBehind rules in_pei catalog fuel taken reached)

-- so from the last machine of PEI
driven : {M : Type 0} (rules : Rules Nowhere) (stands : M → StoreState → Type 0) (board : Board) (catalog : Catalog) (fuel : ℕ) (pei : Pei M) (store : M) (taken in_pei : ℕ) (reached : Reached DxeExplained) (last : PeiMachine) (m : PeiMachine) → Hands stands pei store taken in_pei
    → Drives rules stands store catalog fuel taken in_pei reached → StandsFor stands pei m → m.store ≡ last.store → m.actions ≡ last.actions → pei_starts m ≡ pei_starts last
    → D.ExplainsBehind rules (pei_starts last) catalog fuel last.actions reached last.store
driven rules stands board catalog fuel pei store taken in_pei reached last m hands drives at same_store same_actions same_starts =
    let P : StoreState → Type 0 = λ x. stands store x in
    let here : P last.store = subst P same_store (hands.store_is m at) in
    let row = drives last.store here tt in
    let taken_is : taken ≡ last.actions = hands.taken_is m at ∙ same_actions in
    let starts_are : in_pei ≡ pei_starts last = hands.starts_are m at ∙ same_starts in
    subst (λ n. D.ExplainsBehind rules n catalog fuel last.actions reached last.store) starts_are
    (subst (λ n. D.ExplainsBehind rules in_pei catalog fuel n reached last.store) taken_is row)

pub both_phases : {M : Type 0} (rules : Rules Nowhere) (stands : M → StoreState → Type 0) (catalog : Catalog) (fuel : ℕ) (pei : Pei M) (store : M) (taken in_pei : ℕ) (p : PeiExplained) (d : DxeExplained) (all : Explained) → Hands stands pei store taken in_pei → p.«end» ≡ Handoff
    → Drives rules stands store catalog fuel taken in_pei (R.End d) → all ≡ together p d
    → ExplainsBehind (choices_of rules catalog fuel) stands catalog fuel pei p (R.End all)
both_phases rules stands catalog fuel pei store taken in_pei p d all hands handed drives is board run =
    let by = choices_of rules catalog fuel in
    let row = driven rules stands board catalog fuel pei store taken in_pei (R.End d) run.«end» (record run.«end» { ended = None; core_sweep = run.sweep }) hands drives run.machine refl refl refl in
    record {
      earlier = run.earlier;
      pei = run.«end»;
      run = run.run;
      first = p;
      peims = run.explained;
      ends = subst (λ how. IsExplainedAfter by catalog fuel run.«end» p how all) (sym handed) (record { second = d; drivers = row; is = is });
    }

pub barred_behind : {M : Type 0} (rules : Rules Nowhere) (stands : M → StoreState → Type 0) (catalog : Catalog) (fuel : ℕ) (pei : Pei M) (store : M) (taken in_pei : ℕ) (p : PeiExplained) (number : ℕ) → Hands stands pei store taken in_pei → p.«end» ≡ Handoff
    → Drives rules stands store catalog fuel taken in_pei (R.Barred number)
    → ExplainsBehind (choices_of rules catalog fuel) stands catalog fuel pei p (R.Barred number)
barred_behind rules stands catalog fuel pei store taken in_pei p number hands handed drives board run =
    let row = driven rules stands board catalog fuel pei store taken in_pei (R.Barred number) run.«end» (record run.«end» { ended = None; core_sweep = run.sweep }) hands drives run.machine refl refl refl in
    left_in_dxe run.earlier run.«end» run.run (run.explained.ended ∙ ap Some handed) row.0 row.1

-- the machine's own choices let each module start
pub own_goes_on : (board : Board) (catalog : Catalog) (fuel number : ℕ) → IsLeftBefore (own_choices catalog fuel) board catalog fuel number → ⊥
own_goes_on board catalog fuel number (left_in_pei earlier m bars) = true≢false bars.barred
own_goes_on board catalog fuel number (left_in_dxe earlier pei run handed over bars) = true≢false bars.barred
