-- What follows PEI in a boot by choices, from what its parts leave.
use Rattle.std.proofs.Common.{◌≡◌, ℕ, Bool, List, [], ◌∷◌, ◌++◌, Option, Result, Ok, Err, refl, sym, ◌∙◌, subst}
use Rattle.std.specs.Io.KnownBytes.{Appends}
use Rattle.boot_io.proofs.PutsLaws.{appends_then}
use Rattle.boot_io.specs.{declared.halt.Halt.Halt, Sink.AppendsPart}
use Rattle.mod_catalog.specs.declared.catalogue.Catalog.{Catalog}
use Rattle.boot_model.specs.{declared.line.Line.Line, declared.line.RunEnd.RunEnd, declared.phase_end.PeiEnd.PeiEnd}
use Rattle.boot_model.specs.{declared.phase_end.PeiEnd.TheVariants.Handoff, BootRun.dxe_result, DxeMachine.DxeMachine, DxeRun.dxe_opening}
use Rattle.boot_model.specs.{PeiMachine.PeiMachine, Text.text_of}
use Rattle.boot_model.proofs.Texts.{text_of-append}
use Rattle.boot_laws.specs.{declared.choice.Before.Before, Naming.Chooser, Naming.HasPut}
use Rattle.boot_laws.specs.declared.choice.Reached.TheVariants as R
use Rattle.dxe_dispatch.specs.Choices as D
use Rattle.pei_dispatch.specs.Ends.{pei_starts}
use Rattle.dxe_dispatch.specs.{declared.boot.Barred.Barred, declared.boot.Ended.Ended}
use Rattle.boot_core.specs.{declared.whole.behind.Behind.Behind, declared.whole.behind.Behind.TheVariants.Closed}
use Rattle.boot_core.specs.{declared.whole.behind.Last.Last, Behind.HasClosed, Behind.ending_at, Closing.closing, Closing.closing_text}
use Rattle.boot_core.specs.declared.whole.behind.Behind.TheVariants as V
use Rattle.boot_core.specs.ByChoice.{ComesInDxe, EndsAfter, before_by, stops_at_last, stops_in_dxe}
use Rattle.boot_core.specs.Choices.{Choices, NamesBehind, choices_of, told_behind}
use Rattle.boot_core.specs.FirstBoot.{Tells}
use Rattle.boot_core.specs.Watched.{BootCall, ComesKnown, KnowsAfter, OfDxe, knows_dxe}
use Rattle.boot_core.proofs.ClosingTexts.{closing_is}

-- lines that were put without a failure, and then others
pub has_then : {S : Type 0} (text : S → Option (List ℕ)) (faults : S → ℕ) (first mid shown : S) (a b : List Line) → HasPut text faults first a mid → HasPut text faults mid b shown → HasPut text faults first (a ++ b) shown
has_then text faults first mid shown a b f g =
    let P : List ℕ → Type 0 = λ t. Appends (text first) (text shown) t in
    record { put = subst P (sym (text_of-append a b)) (appends_then (text first) (text mid) (text shown) (text_of a) (text_of b) f.put g.put); right = g.right ∙ f.right }

-- the same run of DXE, where the choices may name more
abbrev pub MayNameMore : (List DxeMachine → DxeMachine → Option ℕ → Type 0) → (List DxeMachine → DxeMachine → Option ℕ → Type 0) → Type 0
MayNameMore Names Others = (earlier : List DxeMachine) (m : DxeMachine) (named : Option ℕ) → Names earlier m named → Others earlier m named

pub renamed_aim : (Names Others : List DxeMachine → DxeMachine → Option ℕ → Type 0) (catalog : Catalog) (earlier : List DxeMachine) (m target : DxeMachine) → MayNameMore Names Others → D.IsAimedBy (Names earlier) catalog m target
    → D.IsAimedBy (Others earlier) catalog m target
renamed_aim Names Others catalog earlier m target more by = record { named = by.named; allowed = λ choosing. more earlier m by.named (by.allowed choosing); busy = by.busy; is = by.is }

pub renamed : (Names Others : List DxeMachine → DxeMachine → Option ℕ → Type 0) (Lets : List DxeMachine → DxeMachine → ℕ → Bool) (catalog : Catalog) (fuel : ℕ) (opening : DxeMachine) (earlier : List DxeMachine) → MayNameMore Names Others
    → D.IsRunBy Names Lets catalog fuel opening earlier → D.IsRunBy Others Lets catalog fuel opening earlier
renamed Names Others Lets catalog fuel opening [] more run = tt
renamed Names Others Lets catalog fuel opening (target ∷ earlier) more run =
    (renamed_aim Names Others catalog earlier (D.came catalog fuel opening earlier) target more run.0, run.1, run.2, renamed Names Others Lets catalog fuel opening earlier more run.3)

unfoldable pub comes_in_dxe : (choices : Choices) (Names : List DxeMachine → DxeMachine → Option ℕ → Type 0) (catalog : Catalog) (fuel : ℕ) (pei : PeiMachine) (earlier : List DxeMachine) → MayNameMore Names (choices.drivers pei)
    → D.IsRunBy Names (choices.lets_driver pei) catalog fuel (dxe_opening catalog pei.store pei.actions) earlier → ComesInDxe choices catalog fuel pei (D.came catalog fuel (dxe_opening catalog pei.store pei.actions) earlier)
comes_in_dxe choices Names catalog fuel pei earlier more run =
    record { earlier = earlier; run = renamed Names (choices.drivers pei) (choices.lets_driver pei) catalog fuel (dxe_opening catalog pei.store pei.actions) earlier more run; is = refl }

-- what holds with the counts of what PEI left holds with those of its last machine
pub by_counts : (P : ℕ → ℕ → Type 0) (starts actions : ℕ) (pei : PeiMachine) → starts ≡ pei_starts pei → actions ≡ pei.actions → P starts actions → P (pei_starts pei) pei.actions
by_counts P starts actions pei a b holds = subst (P (pei_starts pei)) b (subst (λ n. P n actions) a holds)

-- behind a sink into which the lines of PEI were put a choice may name what it may in the whole boot
pub names_behind : {S : Type 0} (by : Chooser S) (told : List DxeMachine → Before) (pei : PeiMachine) (first sink : S) → HasPut by.text by.faults first pei.lines sink
    → MayNameMore (D.NamesDrivers by told sink) (NamesBehind by told first pei)
names_behind by told pei first sink has earlier m named may =
    record { sink = may.sink; has = has_then by.text by.faults first sink may.sink pei.lines m.lines has may.has; is = may.is }

-- the last lines behind all others
pub closes : {M S : Type 0} (Knows : OfDxe) (call : BootCall M S) (pei : PeiMachine) (how : PeiEnd) (first mid : S) (lines : List Line) (last : Last) (result : Result Behind Halt)
    → (ends : EndsAfter (choices_of call.by call.catalog call.fuel first) call.catalog call.fuel pei how lines last.handles last.«end») → last.before ≡ before_by (ending_at (choices_of call.by call.catalog call.fuel first) call.catalog call.fuel pei lines last) how ends
    → KnowsAfter Knows (ending_at (choices_of call.by call.catalog call.fuel first) call.catalog call.fuel pei lines last) how ends
    → HasPut call.by.text call.by.faults first lines mid
    → Tells (λ behind. behind ≡ Closed last) (closing_text pei.store last.handles last.«end») (record { old = call.by.text mid; new = call.by.text call.shown }) result → ComesKnown Knows call pei how first result
closes Knows call pei how first mid lines last (Ok answer) ends counted known has told =
    let text = call.by.text in
    let printed = closing pei.store last.handles last.«end» in
    let P : List ℕ → Type 0 = λ t. Appends (text mid) (text call.shown) t in
    let Q : List ℕ → Type 0 = λ t. Appends (text first) (text call.shown) t in
    let put : P (text_of printed) = subst P (sym (closing_is pei.store last.handles last.«end»)) told.1 in
    let all : HasClosed (choices_of call.by call.catalog call.fuel first) call.catalog call.fuel pei how last (text first) (text call.shown) = record {
      lines = lines;
      ends = ends;
      before_is = counted;
      text = subst Q (sym (text_of-append lines printed)) (appends_then (text first) (text mid) (text call.shown) (text_of lines) (text_of printed) has.put put);
    } in
    let R : Behind → Type 0 = λ behind. ComesKnown Knows call pei how first (Ok behind) in
    subst R (sym told.0) (record { by = all; known = known })
closes Knows call pei how first mid lines last (Err halt) ends counted known has told =
    let text = call.by.text in
    let P : List ℕ → Type 0 = λ t. AppendsPart (text mid) (text call.shown) t in
    record { by = stops_at_last lines last.handles last.«end» ends (record { sink = mid; has = has; part = subst P (sym (closing_is pei.store last.handles last.«end»)) told }); known = tt }

-- the drivers that a choice may name behind this machine of PEI, by what it finds in this sink
abbrev pub NamesFrom : {M S : Type 0} → BootCall M S → PeiMachine → List DxeMachine → DxeMachine → Option ℕ → Type 0
NamesFrom call pei = D.NamesDrivers call.by (told_behind call.by call.catalog call.fuel pei) call.sink

-- its DXE, up to this sink
abbrev pub dxe_boot : {M S : Type 0} → BootCall M S → PeiMachine → S → D.DxeBoot
dxe_boot call pei mid = record {
  names = NamesFrom call pei;
  lets = D.LetsDrivers call.by.rules (told_behind call.by call.catalog call.fuel pei);
  told = told_behind call.by call.catalog call.fuel pei;
  catalog = call.catalog;
  fuel = call.fuel;
  opening = dxe_opening call.catalog pei.store pei.actions;
  old = call.by.text call.sink;
  new = call.by.text mid;
}

-- behind a DXE that has come to its end
pub drivers_close : {M S : Type 0} (Knows : OfDxe) (call : BootCall M S) (pei : PeiMachine) (first mid : S) (left : Ended) (so : RunEnd) (result : Result Behind Halt)
    → HasPut call.by.text call.by.faults first pei.lines call.sink
    → (by : D.HasBooted (dxe_boot call pei mid) left)
    → knows_dxe Knows call.catalog call.fuel pei by.earlier (R.End left.«end») → call.by.faults mid ≡ call.by.faults call.sink → so ≡ dxe_result left.«end»
    → Tells (λ behind. behind ≡ Closed (record { «end» = so; handles = left.handles; before = left.before })) (closing_text pei.store left.handles so) (record { old = call.by.text mid; new = call.by.text call.shown }) result
    → ComesKnown Knows call pei Handoff first result
unfolding comes_in_dxe
drivers_close Knows call pei first mid left so result has by known same is told =
    let text = call.by.text in
    let faults = call.by.faults in
    let choices = choices_of call.by call.catalog call.fuel first in
    let dxe = D.came call.catalog call.fuel (dxe_opening call.catalog pei.store pei.actions) by.earlier in
    let more = names_behind call.by (told_behind call.by call.catalog call.fuel pei) pei first call.sink has in
    closes Knows call pei Handoff first mid (pei.lines ++ dxe.lines) (record { «end» = so; handles = left.handles; before = left.before }) result (record {
      dxe = dxe;
      comes = comes_in_dxe choices (NamesFrom call pei) call.catalog call.fuel pei by.earlier more by.run;
      how = left.«end»;
      ended = by.ended.ended;
      lines_are = refl;
      handles_are = sym by.has;
      end_is = is;
    }) by.before_is known (has_then text faults first call.sink mid pei.lines dxe.lines has (record { put = by.ended.text; right = same })) told

-- a DXE that was left before the start of a driver
pub drivers_bar : {M S : Type 0} (Knows : OfDxe) (call : BootCall M S) (pei : PeiMachine) (first : S) (barred : Barred) → HasPut call.by.text call.by.faults first pei.lines call.sink
    → (by : D.HasStayed (dxe_boot call pei call.shown) barred)
    → knows_dxe Knows call.catalog call.fuel pei by.earlier (R.Barred barred.number) → ComesKnown Knows call pei Handoff first (Ok (V.Barred barred))
unfolding comes_in_dxe
drivers_bar Knows call pei first barred has by known =
    let text = call.by.text in
    let choices = choices_of call.by call.catalog call.fuel first in
    let Names = NamesFrom call pei in
    let dxe = D.came call.catalog call.fuel (dxe_opening call.catalog pei.store pei.actions) by.earlier in
    let due = by.bars.due in
    let more = names_behind call.by (told_behind call.by call.catalog call.fuel pei) pei first call.sink has in
    let P : List ℕ → Type 0 = λ t. Appends (text first) (text call.shown) t in
    record {
      by = (
        refl,
        record {
          dxe = dxe;
          comes = comes_in_dxe choices Names call.catalog call.fuel pei by.earlier more by.run;
          running = by.bars.running;
          due = record { target = due.target; aimed = renamed_aim Names (choices.drivers pei) call.catalog by.earlier dxe due.target more due.aimed; starting = due.starting };
          bars = by.bars.barred;
          text = subst P (sym (text_of-append pei.lines dxe.lines)) (appends_then (text first) (text call.sink) (text call.shown) (text_of pei.lines) (text_of dxe.lines) has.put by.bars.text);
          handles_are = sym by.has;
          before_is = by.before_is;
        },
      );
      known = known;
    }

-- a DXE that was given up
pub drivers_stop : {M S : Type 0} (Knows : OfDxe) (call : BootCall M S) (pei : PeiMachine) (first : S) (halt : Halt) → HasPut call.by.text call.by.faults first pei.lines call.sink
    → D.StopsShort (NamesFrom call pei) ((choices_of call.by call.catalog call.fuel first).lets_driver pei) call.catalog call.fuel (dxe_opening call.catalog pei.store pei.actions) (call.by.text call.sink) (call.by.text call.shown)
    → ComesKnown Knows call pei Handoff first (Err halt)
drivers_stop Knows call pei first halt has by =
    let more = names_behind call.by (told_behind call.by call.catalog call.fuel pei) pei first call.sink has in
    record {
      by = stops_in_dxe (D.came call.catalog call.fuel (dxe_opening call.catalog pei.store pei.actions) by.earlier) refl (comes_in_dxe (choices_of call.by call.catalog call.fuel first) (NamesFrom call pei) call.catalog call.fuel pei by.earlier more by.run) (record { sink = call.sink; has = has; part = by.part });
      known = tt;
    }
