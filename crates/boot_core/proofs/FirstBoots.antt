-- A boot by choices that name no module is the boot of the machine.
use Rattle.std.proofs.Common.{◌≡◌, ℕ, Bool, true, List, ◌++◌, Option, Some, None, Ok, Err, option_map, refl, sym, ap, ◌∙◌, append_assoc, subst, inl, inr}
use Rattle.std.specs.Io.KnownBytes.{Appends}
use Rattle.boot_io.proofs.PutsLaws.{appends_then, part_then}
use Rattle.boot_io.specs.{declared.halt.Halt.Halt, Sink.AppendsPart}
use Rattle.boot_io.specs.declared.halt.Halt.TheVariants as H
use Rattle.boot_laws.specs.{declared.choice.Before.Before, Naming.first_eligible_rules, RunsEnd.DxeRunsEnd, RunsEnd.PeiRunsEnd}
use Rattle.boot_trace.proofs.Lines.{part_of_longer}
use Rattle.mod_catalog.specs.{declared.catalogue.Catalog.Catalog, WellFormed.AreNumbered}
use Rattle.store_model.specs.{HandleState.HandleState, StoreState.Board, StoreState.StoreState}
use Rattle.boot_model.specs.{declared.line.Line.Line, declared.line.RunEnd.RunEnd, declared.phase_end.PeiEnd.PeiEnd, DxeMachine.DxeMachine}
use Rattle.boot_model.specs.declared.line.RunEnd.TheVariants as E
use Rattle.boot_model.specs.declared.phase_end.PeiEnd.TheVariants.{Handoff, NoMemory, NoIpl, Spent, Deep}
use Rattle.boot_model.specs.BootRun.{both_lines, boot_lines, dxe_result, lines_after}
use Rattle.boot_model.specs.DxeRun.{dxe_bound, dxe_end, dxe_opening}
use Rattle.boot_model.specs.{PeiMachine.PeiMachine, PeiRun.pei_end, Text.text_of, declared.phase_end.DxeEnd.DxeEnd}
use Rattle.boot_model.proofs.Texts.{text_of-append}
use Rattle.pei_dispatch.specs.Ends.{IsLeft}
use Rattle.pei_dispatch.proofs.FirstRuns as P
use Rattle.dxe_dispatch.proofs.FirstRuns as D
use Rattle.boot_core.specs.{declared.whole.boot.Ran.Ran, Closing.closing, FirstBoot.RunsTo, FirstBoot.WantsOutsidePei}
use Rattle.boot_core.specs.WholeEnd.{IsLeftBehind, boot_text, end_after, end_of}
use Rattle.boot_core.specs.Choices.{Choices, choices_of, starts_of}
use Rattle.dxe_dispatch.specs.Choices.{IsRunBy, came}
use Rattle.boot_core.specs.ByChoice.{BootBy, BootsTo, ComesInDxe, EndsAfter, HasRun, PutsPartBehind, StopsBehind, StopsBehindPei, all_lines, before_by, ending_of, stops_at_last, stops_in_dxe}
use Rattle.boot_core.proofs.BootLines.{begins_with_pei, both_first, pei_first, same_whole, whole_of_pei}

-- the choices of the machine itself
abbrev pub first_choices : {S : Type 0} → (S → Option (List ℕ)) → (S → ℕ) → Catalog → ℕ → S → Choices
first_choices text faults catalog fuel first = choices_of (record { rules = first_eligible_rules; text = text; faults = faults }) catalog fuel first

-- what is known of such a boot
pub record NamesNone (choices : Choices) (catalog : Catalog) (fuel : ℕ) : Type 0 where
  pub peims : P.NamesNone choices.peims
  pub drivers : (pei : PeiMachine) → D.NamesNone (choices.drivers pei)
  pub pei_ends : PeiRunsEnd
  pub dxe_ends : DxeRunsEnd
  pub numbered : AreNumbered 0 catalog.volumes
  pub counts : (pei : PeiMachine) (earlier : List DxeMachine)
      → (choices.told pei earlier).starts ≡ starts_of pei (came catalog fuel (dxe_opening catalog pei.store pei.actions) earlier)

pei_is : (choices : Choices) (board : Board) (catalog : Catalog) (fuel : ℕ) → NamesNone choices catalog fuel → (boot : BootBy choices board catalog fuel) → boot.pei ≡ pei_end board catalog fuel
pei_is choices board catalog fuel own boot = P.first_end own.pei_ends choices.peims choices.lets_peim board catalog fuel boot.pei boot.how own.peims boot.comes boot.ended

dxe_is : (choices : Choices) (catalog : Catalog) (fuel : ℕ) (pei : PeiMachine) (earlier : List DxeMachine) (how : DxeEnd) → NamesNone choices catalog fuel
    → IsRunBy (choices.drivers pei) (choices.lets_driver pei) catalog fuel (dxe_opening catalog pei.store pei.actions) earlier → (came catalog fuel (dxe_opening catalog pei.store pei.actions) earlier).ended ≡ Some how
    → came catalog fuel (dxe_opening catalog pei.store pei.actions) earlier ≡ dxe_end catalog fuel pei.store pei.actions
dxe_is choices catalog fuel pei earlier how own run ended =
    D.first_end (choices.drivers pei) (choices.lets_driver pei) catalog fuel (dxe_bound catalog fuel) (dxe_opening catalog pei.store pei.actions) earlier how (own.drivers pei) (own.dxe_ends catalog own.numbered fuel pei.store pei.actions) run ended

-- all lines of a boot, and its result
record IsWhole (catalog : Catalog) (fuel : ℕ) (all : List Line) (end : RunEnd) (pei : PeiMachine) : Type 0 where
  pub lines : all ≡ lines_after catalog fuel pei pei.ended
  pub end_is : end_after catalog fuel pei pei.ended ≡ Some end

-- its handles, and how many starts there were
left_by : (choices : Choices) (catalog : Catalog) (fuel : ℕ) (pei : PeiMachine) (how : PeiEnd) (lines : List Line) (handles : HandleState) (end : RunEnd) → NamesNone choices catalog fuel
    → (ends : EndsAfter choices catalog fuel pei how lines handles end)
    → IsLeftBehind catalog fuel pei (Some how) handles (before_by (record { by = choices; catalog = catalog; fuel = fuel; pei = pei; lines = lines; handles = handles; result = end }) how ends).starts
left_by choices catalog fuel pei Handoff lines handles end own ends =
    let here = ap (λ (x : DxeMachine). x.ended) (sym ends.comes.is) ∙ ends.ended in
    let is = dxe_is choices catalog fuel pei ends.comes.earlier ends.how own ends.comes.run here in
    (ends.handles_are ∙ ap (λ (x : DxeMachine). x.handles) (ends.comes.is ∙ is), own.counts pei ends.comes.earlier ∙ ap (starts_of pei) is)
left_by choices catalog fuel pei NoMemory lines handles end own ends = (ends.handles_are, refl)
left_by choices catalog fuel pei NoIpl lines handles end own ends = (ends.handles_are, refl)
left_by choices catalog fuel pei Spent lines handles end own ends = (ends.handles_are, refl)
left_by choices catalog fuel pei Deep lines handles end own ends = (ends.handles_are, refl)

whole_by : (choices : Choices) (catalog : Catalog) (fuel : ℕ) (pei : PeiMachine) (how : PeiEnd) (lines : List Line) (handles : HandleState) (end : RunEnd) → NamesNone choices catalog fuel → pei.ended ≡ Some how
    → EndsAfter choices catalog fuel pei how lines handles end → IsWhole catalog fuel (lines ++ closing pei.store handles end) end pei
whole_by choices catalog fuel pei Handoff lines handles end own e ends =
    let opening = dxe_opening catalog pei.store pei.actions in
    let last = dxe_end catalog fuel pei.store pei.actions in
    let here = ap (λ (x : DxeMachine). x.ended) (sym ends.comes.is) ∙ ends.ended in
    let is : ends.dxe ≡ last = ends.comes.is ∙ dxe_is choices catalog fuel pei ends.comes.earlier ends.how own ends.comes.run here in
    let over : last.ended ≡ Some ends.how = ap (λ (x : DxeMachine). x.ended) (sym is) ∙ ends.ended in
    record {
      lines = same_whole pei.store lines (pei.lines ++ last.lines) handles last.handles end (dxe_result ends.how) (ends.lines_are ∙ ap (λ (x : DxeMachine). pei.lines ++ x.lines) is) (ends.handles_are ∙ ap (λ (x : DxeMachine). x.handles) is) ends.end_is
          ∙ sym (ap (both_lines pei last) over) ∙ sym (ap (lines_after catalog fuel pei) e);
      end_is = ap (end_after catalog fuel pei) e ∙ ap (option_map dxe_result) over ∙ ap Some (sym ends.end_is);
    }
whole_by choices catalog fuel pei NoMemory lines handles end own e ends =
    record { lines = whole_of_pei E.NoMemory pei lines handles end ends ∙ sym (ap (lines_after catalog fuel pei) e); end_is = ap (end_after catalog fuel pei) e ∙ ap Some (sym ends.end_is) }
whole_by choices catalog fuel pei NoIpl lines handles end own e ends =
    record { lines = whole_of_pei E.NoIpl pei lines handles end ends ∙ sym (ap (lines_after catalog fuel pei) e); end_is = ap (end_after catalog fuel pei) e ∙ ap Some (sym ends.end_is) }
whole_by choices catalog fuel pei Spent lines handles end own e ends =
    record { lines = whole_of_pei E.Spent pei lines handles end ends ∙ sym (ap (lines_after catalog fuel pei) e); end_is = ap (end_after catalog fuel pei) e ∙ ap Some (sym ends.end_is) }
whole_by choices catalog fuel pei Deep lines handles end own e ends =
    record { lines = whole_of_pei E.Deep pei lines handles end ends ∙ sym (ap (lines_after catalog fuel pei) e); end_is = ap (end_after catalog fuel pei) e ∙ ap Some (sym ends.end_is) }

-- lines with which what is printed behind a machine of PEI begins
abbrev BeginsAfter : Catalog → ℕ → List Line → PeiMachine → Type 0
BeginsAfter catalog fuel lines pei = (rest : List Line) × (lines_after catalog fuel pei pei.ended ≡ lines ++ rest)

-- all lines of PEI were put, and then more
abbrev PutsPei : Option (List ℕ) → Option (List ℕ) → PeiMachine → Type 0
PutsPei old new pei = (part : List ℕ) × Appends old new (text_of pei.lines ++ part)

-- lines with which the boot begins
abbrev BeginBoot : Board → Catalog → ℕ → List Line → Type 0
BeginBoot board catalog fuel lines = (rest : List Line) × (boot_lines board catalog fuel ≡ lines ++ rest)

end_is_of : (board : Board) (catalog : Catalog) (fuel : ℕ) (end : RunEnd) → end_after catalog fuel (pei_end board catalog fuel) (pei_end board catalog fuel).ended ≡ Some end → end_of board catalog fuel ≡ Some end
unfolding end_of
end_is_of board catalog fuel end is = is

text_is : (board : Board) (catalog : Catalog) (fuel : ℕ) (lines : List Line) → lines ≡ boot_lines board catalog fuel → text_of lines ≡ boot_text board catalog fuel
unfolding boot_text
text_is board catalog fuel lines is = ap text_of is

part_of_boot : (board : Board) (catalog : Catalog) (fuel : ℕ) (lines : List Line) (old new : Option (List ℕ)) → BeginBoot board catalog fuel lines → AppendsPart old new (text_of lines) → AppendsPart old new (boot_text board catalog fuel)
part_of_boot board catalog fuel lines old new begins part =
    let P : List ℕ → Type 0 = λ t. AppendsPart old new t in
    subst P (text_is board catalog fuel (lines ++ begins.0) (sym begins.1)) (part_of_longer old new lines begins.0 part)

-- all lines of a boot that handed off begin with those of each machine of its DXE
dxe_begins : (choices : Choices) (catalog : Catalog) (fuel : ℕ) (pei : PeiMachine) (m : DxeMachine) → NamesNone choices catalog fuel → pei.ended ≡ Some Handoff → ComesInDxe choices catalog fuel pei m
    → BeginsAfter catalog fuel (pei.lines ++ m.lines) pei
dxe_begins choices catalog fuel pei m own e comes =
    let opening = dxe_opening catalog pei.store pei.actions in
    let last = dxe_end catalog fuel pei.store pei.actions in
    let more = D.first_lines (choices.drivers pei) (choices.lets_driver pei) catalog fuel (dxe_bound catalog fuel) opening comes.earlier (own.drivers pei) (own.dxe_ends catalog own.numbered fuel pei.store pei.actions) comes.run in
    let here : last.lines ≡ m.lines ++ more.0 = more.1 ∙ ap (λ (x : DxeMachine). x.lines ++ more.0) (sym comes.is) in
    let both = both_first pei last last.ended in
    (more.0 ++ both.0, ap (lines_after catalog fuel pei) e ∙ both.1 ∙ ap (λ x. (pei.lines ++ x) ++ both.0) here ∙ ap (λ x. x ++ both.0) (sym (append_assoc pei.lines m.lines more.0)) ∙ append_assoc (pei.lines ++ m.lines) more.0 both.0)

-- what was put of a boot that was given up behind PEI
puts_part : {S : Type 0} (text : S → Option (List ℕ)) (faults : S → ℕ) (first shown : S) (lines next : List Line) → PutsPartBehind text faults first shown lines next → AppendsPart (text first) (text shown) (text_of (lines ++ next))
puts_part text faults first shown lines next by =
    let P : List ℕ → Type 0 = λ t. AppendsPart (text first) (text shown) t in
    subst P (sym (text_of-append lines next)) (part_then (text first) (text by.sink) (text shown) (text_of lines) (text_of next) by.has.put by.part)

behind_part : {S : Type 0} (choices : Choices) (text : S → Option (List ℕ)) (faults : S → ℕ) (board : Board) (catalog : Catalog) (fuel : ℕ) (first shown : S) → NamesNone choices catalog fuel
    → (by : StopsBehindPei choices text faults board catalog fuel first shown) → AppendsPart (text first) (text shown) (boot_text board catalog fuel)
behind_part {S = S} choices text faults board catalog fuel first shown own by = stage by.stops
  where
    is : by.pei ≡ pei_end board catalog fuel
    is = P.first_end own.pei_ends choices.peims choices.lets_peim board catalog fuel by.pei by.how own.peims by.comes by.ended

    stage : StopsBehind choices text faults catalog fuel by.pei by.how first shown → AppendsPart (text first) (text shown) (boot_text board catalog fuel)
    stage (stops_in_dxe m handed comes put) =
        let begins = dxe_begins choices catalog fuel by.pei m own (by.ended ∙ ap Some handed) comes in
        part_of_boot board catalog fuel (by.pei.lines ++ m.lines) (text first) (text shown) (subst (BeginsAfter catalog fuel (by.pei.lines ++ m.lines)) is begins) (puts_part text faults first shown by.pei.lines m.lines put)
    stage (stops_at_last lines handles end ends put) =
        let last = closing by.pei.store handles end in
        let whole = whole_by choices catalog fuel by.pei by.how lines handles end own by.ended ends in
        let all = subst (IsWhole catalog fuel (lines ++ last) end) is whole in
        let P : List ℕ → Type 0 = λ t. AppendsPart (text first) (text shown) t in
        subst P (text_is board catalog fuel (lines ++ last) all.lines) (puts_part text faults first shown lines last put)

-- its handles and its starts behind the last machine of its PEI
behind_by : {M : Type 0} (choices : Choices) (stands : M → StoreState → Type 0) (board : Board) (catalog : Catalog) (fuel : ℕ) (old new : Option (List ℕ)) (ran : Ran M) → NamesNone choices catalog fuel
    → (by : HasRun choices stands board catalog fuel ran old new) → IsLeftBehind catalog fuel by.boot.pei by.boot.pei.ended ran.handles ran.before.starts
behind_by choices stands board catalog fuel old new ran own by =
    let boot = by.boot in
    let pei = boot.pei in
    let So : HandleState → ℕ → Type 0 = λ handles starts. IsLeftBehind catalog fuel pei (Some boot.how) handles starts in
    let left : So boot.handles (before_by (ending_of boot) boot.how boot.ends).starts = left_by choices catalog fuel pei boot.how boot.lines boot.handles boot.result own boot.ends in
    let same : So ran.handles ran.before.starts = subst (λ (b : Before). So ran.handles b.starts) (sym by.before_is) (subst (λ h. So h (before_by (ending_of boot) boot.how boot.ends).starts) (sym by.handles_are) left) in
    subst (λ o. IsLeftBehind catalog fuel pei o ran.handles ran.before.starts) (sym boot.ended) same

-- what it leaves at its end
pub first_ran : {M : Type 0} (choices : Choices) (stands : M → StoreState → Type 0) (board : Board) (catalog : Catalog) (fuel : ℕ) (old new : Option (List ℕ)) (ran : Ran M) → NamesNone choices catalog fuel
    → HasRun choices stands board catalog fuel ran old new → RunsTo stands board catalog fuel (record { old = old; new = new }) (Ok ran)
first_ran choices stands board catalog fuel old new ran own by =
    let boot = by.boot in
    let is = pei_is choices board catalog fuel own boot in
    let whole = whole_by choices catalog fuel boot.pei boot.how boot.lines boot.handles boot.result own boot.ended boot.ends in
    let all = subst (IsWhole catalog fuel (all_lines boot) boot.result) is whole in
    let P : List ℕ → Type 0 = λ t. Appends old new t in
    let Left : PeiMachine → Type 0 = λ pei. IsLeft stands catalog pei ran.pei in
    let Behind : PeiMachine → Type 0 = λ pei. IsLeftBehind catalog fuel pei pei.ended ran.handles ran.before.starts in
    (record { end_is = end_is_of board catalog fuel boot.result all.end_is ∙ ap Some (sym by.end_is); left = subst Left is by.left; behind = subst Behind is (behind_by choices stands board catalog fuel old new ran own by) }, subst P (text_is board catalog fuel (all_lines boot) all.lines) by.text)

-- or puts, where it is given up
pub first_halts : {M S : Type 0} (choices : Choices) (text : S → Option (List ℕ)) (faults : S → ℕ) (stands : M → StoreState → Type 0) (takes : Bool) (board : Board) (catalog : Catalog) (fuel : ℕ) (sink shown : S) (halt : Halt) → NamesNone choices catalog fuel
    → BootsTo choices text faults stands takes board catalog fuel sink shown (Err halt) → AppendsPart (text sink) (text shown) (boot_text board catalog fuel)
first_halts choices text faults stands takes board catalog fuel sink shown H.Sink own (inl by) =
    let last = pei_end board catalog fuel in
    part_of_boot board catalog fuel last.lines (text sink) (text shown) (pei_first catalog fuel last last.ended) (P.first_short own.pei_ends choices.peims choices.lets_peim board catalog fuel (text sink) (text shown) own.peims by)
first_halts choices text faults stands takes board catalog fuel sink shown H.Sink own (inr by) = behind_part choices text faults board catalog fuel sink shown own by
first_halts choices text faults stands takes board catalog fuel sink shown H.Memory own (inl by) =
    let last = pei_end board catalog fuel in
    part_of_boot board catalog fuel last.lines (text sink) (text shown) (pei_first catalog fuel last last.ended) (P.first_wants own.pei_ends choices.peims choices.lets_peim board catalog fuel (text sink) (text shown) own.peims by.stops)
first_halts choices text faults stands takes board catalog fuel sink shown H.Memory own (inr by) = behind_part choices text faults board catalog fuel sink shown own by

-- all lines of PEI were put, and then a part of what follows
outside_pei : {S : Type 0} (choices : Choices) (text : S → Option (List ℕ)) (faults : S → ℕ) (board : Board) (catalog : Catalog) (fuel : ℕ) (first shown : S) → NamesNone choices catalog fuel
    → (by : StopsBehindPei choices text faults board catalog fuel first shown) → PutsPei (text first) (text shown) (pei_end board catalog fuel)
outside_pei {S = S} choices text faults board catalog fuel first shown own by = subst (PutsPei (text first) (text shown)) is (stage by.stops)
  where
    is : by.pei ≡ pei_end board catalog fuel
    is = P.first_end own.pei_ends choices.peims choices.lets_peim board catalog fuel by.pei by.how own.peims by.comes by.ended

    stage : StopsBehind choices text faults catalog fuel by.pei by.how first shown → PutsPei (text first) (text shown) by.pei
    stage (stops_in_dxe m handed comes put) = (put.part.0, appends_then (text first) (text put.sink) (text shown) (text_of by.pei.lines) put.part.0 put.has.put put.part.2)
    stage (stops_at_last lines handles end ends put) =
        let more = begins_with_pei choices catalog fuel by.pei by.how lines handles end ends in
        let P : List ℕ → Type 0 = λ t. Appends (text first) (text shown) t in
        let split = ap text_of more.1 ∙ text_of-append by.pei.lines more.0 in
        (text_of more.0 ++ put.part.0, subst P (ap (λ t. t ++ put.part.0) split ∙ append_assoc (text_of by.pei.lines) (text_of more.0) put.part.0) (appends_then (text first) (text put.sink) (text shown) (text_of lines) put.part.0 put.has.put put.part.2))

-- where memory is wanting
pub first_wants : {M S : Type 0} (choices : Choices) (text : S → Option (List ℕ)) (faults : S → ℕ) (stands : M → StoreState → Type 0) (takes : Bool) (board : Board) (catalog : Catalog) (fuel : ℕ) (sink shown : S) (halt : Halt) → NamesNone choices catalog fuel
    → BootsTo choices text faults stands takes board catalog fuel sink shown (Err halt) → WantsOutsidePei takes board catalog fuel (record { old = text sink; new = text shown }) halt
first_wants choices text faults stands takes board catalog fuel sink shown H.Sink own by = tt
first_wants choices text faults stands takes board catalog fuel sink shown H.Memory own (inl by) = λ none. inl (by.before none)
first_wants choices text faults stands takes board catalog fuel sink shown H.Memory own (inr by) = λ none. inr (outside_pei choices text faults board catalog fuel sink shown own by)
