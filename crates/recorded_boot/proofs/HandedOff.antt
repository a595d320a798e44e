-- A boot behind its PEI, along a text.
use Rattle.std.proofs.Common.{◌≡◌, ◌≤◌, ◌<◌, ℕ, List, [], ◌∷◌, ◌++◌, Some, is_some, refl, sym, ap, ◌∙◌, subst, append_assoc, arith, inl, inr, length, ◌↔◌, ◌⊎◌}
use Rattle.std.proofs.{lemmas.Bool.cases_lt, lemmas.Grind.flat_map-append}
use Rattle.boot_io.specs.Faults.{IsPrefix}
use Rattle.mod_catalog.specs.declared.catalogue.Catalog.{Catalog}
use Rattle.store_model.specs.HandleState.{no_handles}
use Rattle.boot_core.specs.Closing.{closing}
use Rattle.boot_model.specs.BootRun.{both_lines, dxe_result, pei_lines}
use Rattle.boot_model.specs.{DxeMachine.DxeMachine, PeiMachine.PeiMachine, Text.line_text, Text.text_of, declared.line.Line.Line}
use Rattle.boot_model.specs.FreeRun.{AreFreeDxeLines, AreFreeLinesAfter, AreFreePeiLines}
use Rattle.boot_model.specs.{declared.line.RunEnd.RunEnd, declared.phase_end.DxeEnd.DxeEnd, declared.phase_end.PeiEnd.PeiEnd}
use Rattle.boot_model.proofs.Texts.{text_of-append}
use Rattle.boot_laws.specs.{DxeFree.DxeEndsSo, DxeFree.DxeLinesGrow, PeiFree.PeiEndsSo}
use Rattle.recorded_boot.specs.{declared.trace.spelled.Spelled.Spelled, Putting.IsOffHere, Spelled.met, DxeFollowed.printed_by}
use Rattle.recorded_boot.specs.Fronts.{EndsLine, IsOff, Tracks}
use Rattle.recorded_boot.proofs.{TextFronts.prefix_then, TextFronts.shorter_front, Telling.met_begins, Lines.lines_end}
use Rattle.recorded_boot.specs.FollowingText.{IsLast}

-- of the boots that go on from here, those from the start of what follows
abbrev Same : (List Line → Type 0) → (List Line → Type 0) → Type 0
Same Here Then = (lines : List Line) → Here lines ↔ Then lines

-- where the text is off behind what was printed, more than that was met of it
not_shorter : (Then : List Line → Type 0) (text printed : List ℕ) (s : Spelled) → ((lines : List Line) → Then lines → IsPrefix printed (text_of lines)) → EndsLine printed → IsPrefix printed text → IsOff Then text (met s)
    → (length (met s) < length printed) ⊎ (length printed ≤ length (met s)) → length printed ≤ length (met s)
not_shorter Then text printed s grow ends there off (inr le) = le
not_shorter Then text printed s grow ends there off (inl lt) =
    let lines = off.begins.0 in absurd (off.parted lines printed off.begins.1 there ends lt (grow lines off.begins.1))

printed_in_met : (Then : List Line → Type 0) (text : List ℕ) (lines : List Line) (s : Spelled) → ((others : List Line) → Then others → IsPrefix (text_of lines) (text_of others)) → IsPrefix (text_of lines) text → IsOffHere Then text s
    → IsPrefix (text_of lines) (met s)
printed_in_met Then text [] s grow there off = (met s, refl)
printed_in_met Then text (line ∷ lines) s grow there off =
    let printed = text_of (line ∷ lines) in
    let begins : IsPrefix (met s) text = subst (λ t. IsPrefix (met s) t) off.whole_is (met_begins s) in
    let long = not_shorter Then text printed s grow (lines_end line lines) there off.off (cases_lt (length (met s)) (length printed)) in
    shorter_front printed (met s) text there begins long

-- so it is off for all boots
pub off_behind : (Start Here Then : List Line → Type 0) (text : List ℕ) (lines : List Line) (s : Spelled) → Tracks Start Here (text_of lines) → Same Here Then → ((others : List Line) → Then others → IsPrefix (text_of lines) (text_of others))
    → IsPrefix (text_of lines) text → IsOffHere Then text s → IsOffHere Start text s
off_behind Start Here Then text lines s tracks same grow there off =
    let printed = text_of lines in
    let in_met = printed_in_met Then text lines s grow there off in
    let met_there : IsPrefix (met s) text = subst (λ t. IsPrefix (met s) t) off.whole_is (met_begins s) in
    let parts : IsOff Start text (met s) = record {
      begins = (off.off.begins.0, tracks.back off.off.begins.0 ((same off.off.begins.0).1 off.off.begins.1), off.off.begins.2);
      parted = λ others front boots begins ends longer prints.
          let met_in = shorter_front (met s) front text met_there begins (omega (arith, longer)) in
          let here = tracks.on others boots (prefix_then printed front (text_of others) (prefix_then printed (met s) front in_met met_in) prints) in
          off.off.parted others front ((same others).0 here) begins ends longer prints;
      other = λ others boots is.
          let here = tracks.on others boots (subst (λ t. IsPrefix printed t) (sym is) there) in
          off.off.other others ((same others).0 here) is;
    } in
    record { whole_is = off.whole_is; off = parts }

-- the boots of DXE begin with what PEI printed
pub begin_with_pei : DxeLinesGrow → (catalog : Catalog) (fuel : ℕ) (pei : PeiMachine) (m : DxeMachine) (lines : List Line) → AreFreeDxeLines catalog fuel pei m lines → IsPrefix (text_of pei.lines) (text_of lines)
begin_with_pei law catalog fuel pei m lines boots =
    let behind = law catalog fuel pei m lines boots in
    let rest = m.lines ++ behind.rest in
    (text_of rest, ap text_of (behind.printed_first ∙ append_assoc pei.lines m.lines behind.rest) ∙ flat_map-append line_text pei.lines rest)

-- where PEI has ended so no other lines follow than those behind that end
pub ends_so : PeiEndsSo → (catalog : Catalog) (fuel : ℕ) (pei : PeiMachine) (how : PeiEnd) → pei.ended ≡ Some how → (lines : List Line) → AreFreePeiLines catalog fuel pei lines ↔ AreFreeLinesAfter catalog fuel pei (Some how) lines
ends_so law catalog fuel pei how ended lines = subst (λ o. AreFreePeiLines catalog fuel pei lines ↔ AreFreeLinesAfter catalog fuel pei o lines) ended (law catalog fuel pei (ap is_some ended) lines)

-- behind the lines of PEI come the last ones
pub last_of_pei : (Start Here : List Line → Type 0) (pei : PeiMachine) (end : RunEnd) → Tracks Start Here (text_of pei.lines) → ((lines : List Line) → Here lines ↔ (lines ≡ pei_lines pei end))
    → IsLast Start (text_of pei.lines) (text_of (closing pei.store no_handles end))
last_of_pei Start Here pei end tracks ends = record {
  all = pei_lines pei end;
  boots = tracks.back (pei_lines pei end) ((ends (pei_lines pei end)).1 refl);
  text_is = text_of-append pei.lines (closing pei.store no_handles end);
  only = λ others boots begins. ap text_of ((ends others).0 (tracks.on others boots begins));
}

-- behind the lines of both phases come the last ones
pub last_of_dxe : DxeEndsSo → (Start Here : List Line → Type 0) (catalog : Catalog) (fuel : ℕ) (pei : PeiMachine) (opening end : DxeMachine) (how : DxeEnd)
    → Tracks Start Here (text_of pei.lines) → Same Here (AreFreeDxeLines catalog fuel pei opening) → Tracks (AreFreeDxeLines catalog fuel pei opening) (AreFreeDxeLines catalog fuel pei end) (printed_by pei end)
    → end.ended ≡ Some how → IsLast Start (printed_by pei end) (text_of (closing pei.store end.handles (dxe_result how)))
last_of_dxe law Start Here catalog fuel pei opening end how tracks same followed ended =
    let last = closing pei.store end.handles (dxe_result how) in
    let all : List Line = (pei.lines ++ end.lines) ++ last in
    let whole_is : both_lines pei end end.ended ≡ all = ap (both_lines pei end) ended in
    let ends : (lines : List Line) → AreFreeDxeLines catalog fuel pei end lines ↔ (lines ≡ both_lines pei end end.ended) = law catalog fuel pei end (ap is_some ended) in
    let begins : IsPrefix (text_of pei.lines) (printed_by pei end) = (text_of end.lines, text_of-append pei.lines end.lines) in
    record {
      all = all;
      boots = tracks.back all ((same all).1 (followed.back all ((ends all).1 (sym whole_is))));
      text_is = text_of-append (pei.lines ++ end.lines) last;
      only = λ others boots prints.
          let here = tracks.on others boots (prefix_then (text_of pei.lines) (printed_by pei end) (text_of others) begins prints) in
          ap text_of ((ends others).0 (followed.on others ((same others).0 here) prints) ∙ whole_is);
    }
