-- A boot by the choices of a text: where it came to its end the text has all its lines, and where it was given up the text is off.
use Rattle.std.proofs.Common.{◌≡◌, ℕ, Bool, true, true≢false, List, [], ◌++◌, Some, Result, Ok, Err, sym, ap, ◌∙◌, subst, inl, inr, ◌↔◌}
use Rattle.boot_io.specs.{Faults.IsPrefix, Halted.HaltsAfter, declared.halt.Halt.Halt}
use Rattle.boot_io.specs.declared.halt.Halt.TheVariants as H
use Rattle.pi_base.specs.declared.phase.Phase.TheVariants.{Pei, Dxe}
use Rattle.store_model.specs.{HandleState.HandleState, HandleState.no_handles, StoreState.StoreState}
use Rattle.boot_model.specs.{declared.line.Line.Line, declared.line.RunEnd.RunEnd, declared.phase_end.PeiEnd.PeiEnd, DxeMachine.DxeMachine}
use Rattle.boot_model.specs.declared.line.RunEnd.TheVariants as E
use Rattle.boot_model.specs.declared.phase_end.PeiEnd.TheVariants.{Handoff, NoMemory, NoIpl, Spent, Deep}
use Rattle.boot_model.specs.{DxeRun.dxe_opening, FreeRun.AreFreeDxeLines, FreeRun.AreFreeLinesAfter, PeiMachine.PeiMachine}
use Rattle.boot_model.specs.{PeiRun.pei_opening, Text.text_of}
use Rattle.boot_model.proofs.Texts.{text_of-append}
use Rattle.boot_laws.specs.DxeAim.{AimIsFree, DxeStartsFreely, NamesLeadToRoot}
use Rattle.boot_laws.specs.DxeFree.{DxeEndsFreely, DxeEndsSo, DxeGoesOn, DxeLinesGrow}
use Rattle.boot_laws.specs.{DxeUnderWay.DxeOpensUnderWay, DxeUnderWay.FewDriversWait, PeiFree.PeiEndsSo, Naming.HasPut}
use Rattle.recorded_boot.specs.{Parted.parted_by, declared.trace.parted.Parted.Parted, declared.trace.spelled.Spelled.Spelled}
use Rattle.recorded_boot.specs.{Fronts.Tracks, Putting.HasParted, Putting.IsOffHere, DxeFollowed.printed_by, Starting.NamesNext}
use Rattle.recorded_boot.specs.Spelled.{IsHeld, IsRight, faults_of, whole}
use Rattle.recorded_boot.proofs.{TextFronts.prefix_then, Telling.held_begins, Telling.held_on, DriverTextRuns.DriverRun, Going.not_right}
use Rattle.pei_dispatch.specs.Choices.{ComesTo}
use Rattle.dxe_dispatch.proofs.Chosen.{StepLaws}
use Rattle.boot_core.specs.{declared.whole.boot.Booted.Booted, declared.whole.boot.Ran.Ran, Choices.Choices, Choices.choices_of}
use Rattle.boot_core.specs.declared.whole.boot.Booted.TheVariants as B
use Rattle.boot_core.specs.ByChoice.{BootsTo, EndsAfter, HasRun, StopsBehind, StopsBehindPei, all_lines, last_lines, stops_at_last, stops_in_dxe}
use Rattle.boot_core.specs.Closing.{closing}
use Rattle.recorded_boot.specs.FollowingText.{Follows, IsFollowed, IsLast}
use Rattle.recorded_boot.proofs.DriverTextRuns as D
use Rattle.recorded_boot.proofs.HandedOff.{begin_with_pei, ends_so, last_of_dxe, last_of_pei, off_behind}
use Rattle.recorded_boot.proofs.LastLines.{off_by, whole_by}
use Rattle.recorded_boot.proofs.TextRuns as P
use Rattle.recorded_boot.proofs.TextRuns.{TextRun, by_text, held_first, told_by}

-- A boot by a text: what is known of it.
pub record TextBoot : Type 0 where
  pub run : TextRun
  pub pei_ends_so : PeiEndsSo
  pub steps : StepLaws
  pub on : DxeGoesOn
  pub dxe_ends_so : DxeEndsSo
  pub starts : DxeStartsFreely
  pub aims : AimIsFree
  pub grow : DxeLinesGrow
  pub ends : DxeEndsFreely
  pub opens : DxeOpensUnderWay
  pub roots : NamesLeadToRoot
  pub few : FewDriversWait

abbrev text_in : TextBoot → List ℕ
text_in b = whole b.run.first

-- its DXE behind a machine of PEI
abbrev behind : TextBoot → PeiMachine → DriverRun
behind b pei = record {
  steps = b.steps;
  on = b.on;
  starts = b.starts;
  aims = b.aims;
  grow = b.grow;
  ends = b.ends;
  opens = b.opens;
  roots = b.roots;
  few = b.few;
  puts = b.run.laws.puts;
  parts = b.run.laws.parts;
  catalog = b.run.catalog;
  fuel = b.run.fuel;
  s = pei.store;
  actions = pei.actions;
  pei = pei;
  names = b.run.names;
  first = b.run.first;
  text = whole b.run.first;
  well = b.run.well;
  guids = b.run.guids;
  are = b.run.are;
  held = held_first b.run;
}

abbrev pub TextChoices : TextBoot → Choices
TextChoices b = choices_of (by_text b.run.names) b.run.catalog b.run.fuel b.run.first

abbrev Opening : TextBoot → PeiMachine → List Line → Type 0
Opening b pei = AreFreeDxeLines b.run.catalog b.run.fuel pei (dxe_opening b.run.catalog pei.store pei.actions)

-- the run of PEI comes to this machine
abbrev Comes : TextBoot → PeiMachine → Type 0
Comes b pei = ComesTo (P.TextNames b.run) P.TextLets b.run.catalog b.run.fuel (pei_opening b.run.board b.run.catalog) pei

-- a sink that has lines has met them
held_lines : (b : TextBoot) (lines : List Line) (s : Spelled) → HasPut told_by faults_of b.run.first lines s → IsHeld s (text_in b) (text_of lines)
held_lines b lines s has =
    let still : IsRight s = has.right ∙ b.run.right in
    held_on b.run.first s (text_in b) [] (text_of lines) (held_first b.run) (b.run.laws.puts b.run.first s (text_of lines) has.put b.run.right still) still

tracks_pei : (b : TextBoot) (pei : PeiMachine) → Comes b pei → IsPrefix (text_of pei.lines) (text_in b) → Tracks (P.Start b.run) (P.Here b.run pei) (text_of pei.lines)
tracks_pei b pei comes there = P.tracks_at b.run pei comes.earlier comes.run there

ends_pei : (b : TextBoot) (pei : PeiMachine) (how : PeiEnd) → pei.ended ≡ Some how → (lines : List Line) → P.Here b.run pei lines ↔ AreFreeLinesAfter b.run.catalog b.run.fuel pei (Some how) lines
ends_pei b pei how ended lines = ends_so b.pei_ends_so b.run.catalog b.run.fuel pei how ended lines

-- all boots whose text begins with all lines but the last ones go on by the last ones
abbrev IsLastOf : TextBoot → PeiMachine → List Line → HandleState → RunEnd → Type 0
IsLastOf b pei lines handles end = IsLast (P.Start b.run) (text_of lines) (text_of (closing pei.store handles end))

last_in_pei : (b : TextBoot) (pei : PeiMachine) (so : RunEnd) (lines : List Line) (handles : HandleState) (end : RunEnd) → lines ≡ pei.lines → handles ≡ no_handles → end ≡ so → IsLastOf b pei pei.lines no_handles so → IsLastOf b pei lines handles end
last_in_pei b pei so lines handles end a c d is = subst (λ l. IsLastOf b pei l handles end) (sym a) (subst (λ h. IsLastOf b pei pei.lines h end) (sym c) (subst (λ e. IsLastOf b pei pei.lines no_handles e) (sym d) is))

last_of : (b : TextBoot) (pei : PeiMachine) (how : PeiEnd) (lines : List Line) (handles : HandleState) (end : RunEnd) → Comes b pei → pei.ended ≡ Some how → EndsAfter (TextChoices b) b.run.catalog b.run.fuel pei how lines handles end → IsPrefix (text_of lines) (text_in b)
    → IsLastOf b pei lines handles end
last_of b pei Handoff lines handles end comes ended ends there =
    let r = behind b pei in
    let dxe = ends.dxe in
    let both : IsPrefix (printed_by pei dxe) (text_in b) = subst (λ l. IsPrefix (text_of l) (text_in b)) ends.lines_are there in
    let first : IsPrefix (text_of pei.lines) (text_in b) = prefix_then (text_of pei.lines) (printed_by pei dxe) (text_in b) (text_of dxe.lines, text_of-append pei.lines dxe.lines) both in
    let there_too : IsPrefix (printed_by pei (D.come r ends.comes.earlier)) (text_in b) = subst (λ m. IsPrefix (printed_by pei m) (text_in b)) ends.comes.is both in
    let tracks = D.tracks_at r ends.comes.earlier ends.comes.run there_too in
    let followed : Tracks (Opening b pei) (AreFreeDxeLines b.run.catalog b.run.fuel pei dxe) (printed_by pei dxe) =
    subst (λ m. Tracks (Opening b pei) (AreFreeDxeLines b.run.catalog b.run.fuel pei m) (printed_by pei m)) (sym ends.comes.is) tracks in
    let is = last_of_dxe b.dxe_ends_so (P.Start b.run) (P.Here b.run pei) b.run.catalog b.run.fuel pei (dxe_opening b.run.catalog pei.store pei.actions) dxe ends.how (tracks_pei b pei comes first) (ends_pei b pei Handoff ended) followed ends.ended in
    subst (λ l. IsLastOf b pei l handles end) (sym ends.lines_are) (subst (λ h. IsLastOf b pei (pei.lines ++ dxe.lines) h end) (sym ends.handles_are) (subst (λ e. IsLastOf b pei (pei.lines ++ dxe.lines) dxe.handles e) (sym ends.end_is) is))
last_of b pei NoMemory lines handles end comes ended ends there =
    let first = subst (λ l. IsPrefix (text_of l) (text_in b)) ends.lines_are there in
    last_in_pei b pei E.NoMemory lines handles end ends.lines_are ends.handles_are ends.end_is (last_of_pei (P.Start b.run) (P.Here b.run pei) pei E.NoMemory (tracks_pei b pei comes first) (ends_pei b pei NoMemory ended))
last_of b pei NoIpl lines handles end comes ended ends there =
    let first = subst (λ l. IsPrefix (text_of l) (text_in b)) ends.lines_are there in
    last_in_pei b pei E.NoIpl lines handles end ends.lines_are ends.handles_are ends.end_is (last_of_pei (P.Start b.run) (P.Here b.run pei) pei E.NoIpl (tracks_pei b pei comes first) (ends_pei b pei NoIpl ended))
last_of b pei Spent lines handles end comes ended ends there =
    let first = subst (λ l. IsPrefix (text_of l) (text_in b)) ends.lines_are there in
    last_in_pei b pei E.Spent lines handles end ends.lines_are ends.handles_are ends.end_is (last_of_pei (P.Start b.run) (P.Here b.run pei) pei E.Spent (tracks_pei b pei comes first) (ends_pei b pei Spent ended))
last_of b pei Deep lines handles end comes ended ends there =
    let first = subst (λ l. IsPrefix (text_of l) (text_in b)) ends.lines_are there in
    last_in_pei b pei E.Deep lines handles end ends.lines_are ends.handles_are ends.end_is (last_of_pei (P.Start b.run) (P.Here b.run pei) pei E.Deep (tracks_pei b pei comes first) (ends_pei b pei Deep ended))

-- the boot came to its end
text_ran : {M : Type 0} (b : TextBoot) (stands : M → StoreState → Type 0) (ran : Ran M) (s : Spelled) → HasRun (TextChoices b) stands b.run.board b.run.catalog b.run.fuel ran (told_by b.run.first) (told_by s) → faults_of s ≡ faults_of b.run.first
    → Follows (P.Start b.run) (text_in b) s (Ok tt)
text_ran b stands ran s by same =
    let boot = by.boot in
    let held = held_lines b (all_lines boot) s (record { put = by.text; right = same }) in
    let split = text_of-append boot.lines (last_lines boot) in
    let there : IsPrefix (text_of boot.lines) (text_in b) = prefix_then (text_of boot.lines) (text_of (all_lines boot)) (text_in b) (text_of (last_lines boot), split) (held_begins s (text_in b) (text_of (all_lines boot)) held) in
    whole_by (P.Start b.run) s (text_in b) (text_of boot.lines) (text_of (last_lines boot)) (subst (IsHeld s (text_in b)) split held)
    (last_of b boot.pei boot.how boot.lines boot.handles boot.result boot.comes boot.ended boot.ends there)

-- it was given up behind its PEI
off_behind_pei : (b : TextBoot) (s : Spelled) → (IsRight s → ⊥) → StopsBehindPei (TextChoices b) told_by faults_of b.run.board b.run.catalog b.run.fuel b.run.first s → IsOffHere (P.Start b.run) (text_in b) s
off_behind_pei b s wrong by = stage by.stops
  where
    stage : StopsBehind (TextChoices b) told_by faults_of b.run.catalog b.run.fuel by.pei by.how b.run.first s → IsOffHere (P.Start b.run) (text_in b) s
    stage (stops_in_dxe m handed comes put) =
        let r = behind b by.pei in
        let held = held_lines b by.pei.lines put.sink put.has in
        let there = held_begins put.sink (text_in b) (text_of by.pei.lines) held in
        let parted = b.run.laws.parts put.sink s (text_in b) (text_of by.pei.lines) (text_of m.lines) held wrong put.part in
        let here = subst (λ (x : DxeMachine). HasParted s (text_in b) (text_of by.pei.lines) (text_of x.lines)) comes.is parted in
        off_behind (P.Start b.run) (P.Here b.run by.pei) (Opening b by.pei) (text_in b) by.pei.lines s (tracks_pei b by.pei by.comes there) (ends_pei b by.pei Handoff (by.ended ∙ ap Some handed))
        (begin_with_pei b.grow b.run.catalog b.run.fuel by.pei (dxe_opening b.run.catalog by.pei.store by.pei.actions)) there (D.off_at r s comes.earlier comes.run here)
    stage (stops_at_last lines handles end ends put) =
        let held = held_lines b lines put.sink put.has in
        let there = held_begins put.sink (text_in b) (text_of lines) held in
        off_by (P.Start b.run) put.sink s (text_in b) (text_of lines) (text_of (closing by.pei.store handles end)) held (last_of b by.pei by.how lines handles end by.comes by.ended ends there) wrong put.part

-- it was given up
text_stopped : {M : Type 0} (b : TextBoot) (stands : M → StoreState → Type 0) (takes : Bool) (s : Spelled) (halt : Halt) → BootsTo (TextChoices b) told_by faults_of stands takes b.run.board b.run.catalog b.run.fuel b.run.first s (Err halt)
    → HaltsAfter {A = Booted M} (Err halt) (faults_of b.run.first) (faults_of s) → Follows (P.Start b.run) (text_in b) s (Err (parted_by halt))
text_stopped b stands takes s H.Memory by count = tt
text_stopped b stands takes s H.Sink (inl by) count =
    let wrong = not_right (faults_of b.run.first) (faults_of s) b.run.right count.1 in
    P.off_at b.run s by.m by.comes.earlier by.comes.run (b.run.laws.parts b.run.first s (text_in b) [] (text_of by.m.lines) (held_first b.run) wrong by.part)
text_stopped b stands takes s H.Sink (inr by) count = off_behind_pei b s (not_right (faults_of b.run.first) (faults_of s) b.run.right count.1) by

-- what following it comes to; each module is let
pub text_follows : {M : Type 0} (b : TextBoot) (stands : M → StoreState → Type 0) (takes : Bool) (s : Spelled) (booted : Result (Booted M) Halt) (followed : Result (Unit {0}) Parted) → BootsTo (TextChoices b) told_by faults_of stands takes b.run.board b.run.catalog b.run.fuel b.run.first s booted
    → HaltsAfter booted (faults_of b.run.first) (faults_of s) → IsFollowed booted followed → Follows (P.Start b.run) (text_in b) s followed
text_follows b stands takes s (Ok (B.Ended ran)) followed by count is = subst (Follows (P.Start b.run) (text_in b) s) (sym is) (text_ran b stands ran s by count)
text_follows b stands takes s (Ok (B.BarredInPei barred)) followed by count is = absurd (true≢false by.bars.barred)
text_follows b stands takes s (Ok (B.BarredInDxe left barred)) followed by count is = absurd (true≢false by.bars.bars)
text_follows b stands takes s (Err halt) followed by count is = subst (Follows (P.Start b.run) (text_in b) s) (sym is) (text_stopped b stands takes s halt by count)
