-- A run by the choices of a text: as far as the text has its lines, the free boots that begin so go on from it; and where the text has them no more, no free boot goes on as the text does.
use Rattle.std.proofs.Common.{◌≡◌, ◌≤◌, ◌<◌, Bool, true, ℕ, zero, suc, List, [], ◌∷◌, ◌++◌, Option, Some, None, refl, sym, ap, ◌∙◌, subst, length, arith, inl, inr, ◌⊎◌}
use Rattle.boot_io.specs.Faults.{IsPrefix}
use Rattle.pi_base.specs.{declared.guid.Guid.Guid, declared.phase.Phase.TheVariants.Pei as InPei}
use Rattle.mod_catalog.specs.{declared.catalogue.Catalog.Catalog, WellFormed.IsWellFormed}
use Rattle.store_model.specs.StoreState.{Board}
use Rattle.boot_model.specs.{declared.line.Line.Line, Eligible.licence_at, FreeRun.AreFreeLines, FreeRun.AreFreePeiLines}
use Rattle.boot_model.specs.{PeiChoice.pei_order, PeiMachine.PeiMachine, PeiRun.pei_opening, PeiStep.pei_step, PeiStep.started}
use Rattle.boot_model.specs.Text.{text_of}
use Rattle.boot_model.proofs.Texts.{text_of-append}
use Rattle.boot_laws.specs.{Naming.Chooser, Naming.HasPut, PeiAim.CursorAims, PeiFree.AreLinesBehind, PeiFree.PeiStartsFreely}
use Rattle.boot_laws.specs.PeiUnderWay.{IsUnderWay, PeiOpensUnderWay, PeiStepsRunOut}
use Rattle.recorded_boot.specs.{declared.trace.spelled.Spelled.Spelled, Fronts.Tracks, Named.AreGuids, Named.AreNames}
use Rattle.recorded_boot.specs.Putting.{AllPrint, HasParted, IsOffHere, PartsByLine}
use Rattle.recorded_boot.specs.Spelled.{IsHeld, IsRight, faults_of, met, spoken, told, whole}
use Rattle.recorded_boot.proofs.TextFronts.{prefix_then, shorter_front}
use Rattle.recorded_boot.proofs.Telling.{held_on, met_begins, off, tracks_on}
use Rattle.pei_dispatch.specs.Choices.{NamesPeims, IsRunBy, IsStepBy}
use Rattle.pei_dispatch.proofs.Chosen.{idle_starts, some_first, step_is_free}
use Rattle.pei_dispatch.proofs.Growing.{step_grew}
use Rattle.recorded_boot.specs.Starting.{start_of, text_rules}
use Rattle.recorded_boot.proofs.Choosing.{Choice, IsChoice, aimed_at, each_start, prints_start}
use Rattle.recorded_boot.proofs.Going.{GoOnFrom, Laws, LeadsOn, go_on_by_lines, own_leads, prints_on}

-- A run by a text: what is known of it.
pub record TextRun : Type 0 where
  pub laws : Laws
  pub aims : CursorAims
  pub starts : PeiStartsFreely
  pub opens : PeiOpensUnderWay
  pub nearer : PeiStepsRunOut
  pub board : Board
  pub catalog : Catalog
  pub fuel : ℕ
  pub names : List (List (Guid × ℕ))
  pub first : Spelled
  pub well : IsWellFormed catalog
  pub guids : AreGuids catalog
  pub are : AreNames catalog (length catalog.modules) names
  pub none : met first ≡ []
  pub right : IsRight first

abbrev pub told_by : Spelled → Option (List ℕ)
told_by s = Some (spoken s)

-- the choice by a text, over such a sink
abbrev pub by_text : List (List (Guid × ℕ)) → Chooser Spelled
by_text names = record { rules = text_rules names; text = told_by; faults = faults_of }

abbrev pub TextNames : TextRun → PeiMachine → Option ℕ → Type 0
TextNames r = NamesPeims (by_text r.names) r.catalog r.first

-- a text lets each module
abbrev pub TextLets : PeiMachine → ℕ → Bool
TextLets m number = true

abbrev pub Start : TextRun → List Line → Type 0
Start r = AreFreeLines r.board r.catalog r.fuel

abbrev pub Here : TextRun → PeiMachine → List Line → Type 0
Here r m = AreFreePeiLines r.catalog r.fuel m

abbrev opening : TextRun → PeiMachine
opening r = pei_opening r.board r.catalog

pub held_first : (r : TextRun) → IsHeld r.first (whole r.first) []
held_first r = record { whole_is = refl; met_is = r.none; right = r.right }

-- a sink that has the lines of a machine has met them
pub held_at : (r : TextRun) (m : PeiMachine) (s : Spelled) → HasPut told_by faults_of r.first m.lines s → IsHeld s (whole r.first) (text_of m.lines)
held_at r m s has =
    let still : IsRight s = has.right ∙ r.right in
    held_on r.first s (whole r.first) [] (text_of m.lines) (held_first r) (r.laws.puts r.first s (text_of m.lines) has.put r.right still) still

-- each machine of the run is under way
pub way_at : (r : TextRun) (m : PeiMachine) (earlier : List PeiMachine) → IsRunBy (TextNames r) TextLets r.catalog r.fuel (opening r) earlier m → IsUnderWay r.catalog m
way_at r m [] run = subst (λ x. IsUnderWay r.catalog x) (sym run) (r.opens r.board r.catalog r.fuel).way
way_at r m (before ∷ earlier) run =
    (r.nearer r.catalog r.fuel before m run.0 (way_at r before earlier run.2) (step_is_free r.aims r.laws.own (TextNames r) TextLets r.catalog r.fuel before m run.1)).way

-- What a step printed, and how the free boots go on over it.
pub record Leads (r : TextRun) (m later : PeiMachine) : Type 0 where
  pub told : List Line
  pub leads : LeadsOn r.catalog r.fuel (whole r.first) m later told
  pub onward : GoOnFrom r.catalog r.fuel (whole r.first) m later told

pub step_leads : (r : TextRun) (m later : PeiMachine) → m.ended ≡ None → IsUnderWay r.catalog m → IsStepBy (TextNames r) TextLets r.catalog r.fuel m later → Leads r m later
step_leads r m later running way (inl step) =
    let grew = step_grew r.catalog r.fuel m in
    let same = r.laws.goes r.catalog r.fuel m running step.own in
    let all : Leads r m (pei_step r.catalog r.fuel m) = record {
      told = grew.told;
      leads = own_leads r.laws r.catalog r.fuel (whole r.first) m grew.told running step.own grew.printed;
      onward = λ stands all free begins. (same all).0 free;
    } in
    subst (λ x. Leads r m x) (sym step.is) all
step_leads r m later running way (inr step) =
    let due = step.due in
    let aim = r.aims r.catalog m due.cursor in
    let found = due.next in
    let may = aim.chosen step.number found in
    let first = some_first r.catalog m due.cursor step.number aim.none found in
    let starts = r.starts r.catalog r.fuel m first.0 running (idle_starts r.catalog m first.0 due.idle first.1) in
    let held = held_at r m due.allowed.sink due.allowed.has in
    let c : Choice = record { catalog = r.catalog; fuel = r.fuel; m = m; cursor = due.cursor; s = due.allowed.sink; text = whole r.first; number = step.number } in
    let is : IsChoice c = record {
      well = r.well;
      guids = r.guids;
      way = way;
      held = held;
      aimed = aimed_at r.catalog r.names due.allowed.sink (pei_order r.catalog m.reported) m.cursor due.cursor due.named due.allowed.is held.right r.are due.place;
      aims = aim;
      found = found;
    } in
    let prints = prints_start r.catalog m step.number r.well r.guids way may in
    let line = start_of InPei r.catalog step.number (licence_at m step.number prints.part.part) in
    let next = started r.catalog m step.number in
    let leads : LeadsOn r.catalog r.fuel (whole r.first) m next (line ∷ prints.more) = record {
      lines = prints.lines;
      back = λ all free. (starts all).1 (step.number, may, free);
      on = λ all free. each_start c all is (λ xs. (starts xs).0) (r.laws.grow r.catalog r.fuel) free;
    } in
    let all : Leads r m next = record {
      told = line ∷ prints.more;
      leads = leads;
      onward = go_on_by_lines r.catalog r.fuel (whole r.first) m next line prints.more leads;
    } in
    subst (λ x. Leads r m x) (sym step.is) all

printed_is : (r : TextRun) (m later : PeiMachine) (k : Leads r m later) → text_of later.lines ≡ text_of m.lines ++ text_of k.told
printed_is r m later k = ap text_of k.leads.lines ∙ text_of-append m.lines k.told

-- As far as the text has the lines of the run, the free boots from the opening whose text begins so are those from here.
pub tracks_at : (r : TextRun) (m : PeiMachine) (earlier : List PeiMachine) → IsRunBy (TextNames r) TextLets r.catalog r.fuel (opening r) earlier m → IsPrefix (text_of m.lines) (whole r.first) → Tracks (Start r) (Here r m) (text_of m.lines)
tracks_at r m [] run there =
    let all : Tracks (Start r) (Here r (opening r)) (text_of (opening r).lines) = record { back = λ lines start. start; on = λ lines start begins. start } in
    subst (λ x. Tracks (Start r) (Here r x) (text_of x.lines)) (sym run) all
tracks_at r m (before ∷ earlier) run there =
    let k = step_leads r before m run.0 (way_at r before earlier run.2) run.1 in
    let printed = text_of before.lines in
    let is = printed_is r before m k in
    let both : IsPrefix (printed ++ text_of k.told) (whole r.first) = subst (λ t. IsPrefix t (whole r.first)) is there in
    let tracks = tracks_at r before earlier run.2 (prefix_then printed (printed ++ text_of k.told) (whole r.first) (text_of k.told, refl) both) in
    subst (λ t. Tracks (Start r) (Here r m) t) (sym is) (tracks_on (Start r) (Here r before) (Here r m) printed (text_of k.told) tracks k.leads.back (k.onward both))

le_or : (a b : ℕ) → (a ≤ b) ⊎ (b < a)
le_or zero b = inl (omega arith)
le_or (suc a) zero = inr (omega arith)
le_or (suc a) (suc b) = elim (le_or a b) [
  | inl h ↦ inl (omega (arith, h))
  | inr h ↦ inr (omega (arith, h))
]

first_lines : (printed lines : List Line) → AreLinesBehind printed lines → IsPrefix (text_of printed) (text_of lines)
first_lines printed lines behind = (text_of behind.rest, ap text_of behind.printed_first ∙ text_of-append printed behind.rest)

-- each free boot from here prints what the step did, or a line that is not the text's
all_print : (r : TextRun) (m later : PeiMachine) (k : Leads r m later) → IsUnderWay r.catalog later → AllPrint (Here r m) (whole r.first) (text_of m.lines) (text_of k.told)
all_print r m later k way =
    let some = r.laws.ends r.catalog r.fuel later r.well.parents way in
    let grow = r.laws.grow r.catalog r.fuel in
    record {
      some = (some.0, k.leads.back some.0 some.1, prints_on m later k.told some.0 k.leads.lines (grow later some.0 some.1));
      each = λ lines free. by lines (k.leads.on lines free);
    }
  where
    by : (lines : List Line) → AreFreePeiLines r.catalog r.fuel later lines ⊎ PartsByLine (whole r.first) (text_of m.lines) lines → IsPrefix (text_of m.lines ++ text_of k.told) (text_of lines) ⊎ PartsByLine (whole r.first) (text_of m.lines) lines
    by lines (inl free) = inl (prints_on m later k.told lines k.leads.lines (r.laws.grow r.catalog r.fuel later lines free))
    by lines (inr parts) = inr parts

-- the text is off in the last step, or was before it
off_by : (r : TextRun) (s : Spelled) (m before : PeiMachine) (earlier : List PeiMachine) → IsRunBy (TextNames r) TextLets r.catalog r.fuel (opening r) (before ∷ earlier) m → HasParted s (whole r.first) [] (text_of m.lines)
    → (length (text_of before.lines) ≤ length (met s)) ⊎ (length (met s) < length (text_of before.lines))
    → (HasParted s (whole r.first) [] (text_of before.lines) → IsOffHere (Start r) (whole r.first) s) → IsOffHere (Start r) (whole r.first) s
off_by r s m before earlier run parted (inl far) was =
    let text = whole r.first in
    let k = step_leads r before m run.0 (way_at r before earlier run.2) run.1 in
    let printed = text_of before.lines in
    let is = printed_is r before m k in
    let long = parted.told_long in
    let begins : IsPrefix (told s) (printed ++ text_of k.told) = subst (λ t. IsPrefix (told s) t) is parted.told_begins in
    let in_told : IsPrefix printed (told s) = shorter_front printed (told s) (printed ++ text_of k.told) (text_of k.told, refl) begins (omega (arith, far, long)) in
    let in_met : IsPrefix printed (met s) = shorter_front printed (met s) (told s) in_told parted.begins far in
    let there : IsPrefix printed text = prefix_then printed (met s) text in_met (subst (λ t. IsPrefix (met s) t) parted.whole_is (met_begins s)) in
    let here : HasParted s text printed (text_of k.told) = record {
      whole_is = parted.whole_is;
      begins = parted.begins;
      told_long = parted.told_long;
      told_begins = begins;
      apart = parted.apart;
      printed_there = there;
      longer = far;
    } in
    off (Start r) (Here r before) s text printed (text_of k.told) here (tracks_at r before earlier run.2 there) (all_print r before m k (way_at r m (before ∷ earlier) run))
off_by r s m before earlier run parted (inr short) was =
    let k = step_leads r before m run.0 (way_at r before earlier run.2) run.1 in
    let printed = text_of before.lines in
    let is = printed_is r before m k in
    let long = parted.told_long in
    let begins : IsPrefix (told s) (printed ++ text_of k.told) = subst (λ t. IsPrefix (told s) t) is parted.told_begins in
    let within : IsPrefix (told s) printed = shorter_front (told s) printed (printed ++ text_of k.told) begins (text_of k.told, refl) (omega (arith, short, long)) in
    was (record {
      whole_is = parted.whole_is;
      begins = parted.begins;
      told_long = parted.told_long;
      told_begins = within;
      apart = parted.apart;
      printed_there = parted.printed_there;
      longer = parted.longer;
    })

-- Where the text has the lines of the run no more, no free boot goes on as the text does: it is off in the step in which they part.
pub off_at : (r : TextRun) (s : Spelled) (m : PeiMachine) (earlier : List PeiMachine) → IsRunBy (TextNames r) TextLets r.catalog r.fuel (opening r) earlier m → HasParted s (whole r.first) [] (text_of m.lines) → IsOffHere (Start r) (whole r.first) s
off_at r s m [] run parted =
    let o = opening r in
    let text = whole r.first in
    let grow = r.laws.grow r.catalog r.fuel in
    let some = r.laws.ends r.catalog r.fuel o r.well.parents (r.opens r.board r.catalog r.fuel).way in
    let prints : (lines : List Line) → Start r lines → IsPrefix (text_of o.lines) (text_of lines) = λ lines start. first_lines o.lines lines (grow o lines start) in
    let all : AllPrint (Start r) text [] (text_of o.lines) = record { some = (some.0, some.1, prints some.0 some.1); each = λ lines start. inl (prints lines start) } in
    off (Start r) (Start r) s text [] (text_of o.lines) (subst (λ (x : PeiMachine). HasParted s text [] (text_of x.lines)) run parted) (record { back = λ lines start. start; on = λ lines start begins. start }) all
off_at r s m (before ∷ earlier) run parted = off_by r s m before earlier run parted (le_or (length (text_of before.lines)) (length (met s))) (off_at r s before earlier run.2)
