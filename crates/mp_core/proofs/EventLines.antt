-- Lines of events, one after another.
use Rattle.std.proofs.Common.{◌≡◌, ℕ, ◌+◌, Bool, true, false, not, cond, List, [], ◌∷◌, ◌++◌, map, append_assoc, append-nil, Option, Some, None, Ok, refl, sym, ap, ◌∙◌, is_none, option_map, find}
use Rattle.std.proofs.{lemmas.List.map-append, lemmas.Option.none-some}
use Rattle.line_words.specs.Line.{is_passed_over}
use Rattle.mp_core.specs.{declared.event.MpEvent.MpEvent, declared.fault.MpFault.MpFault}
use Rattle.mp_core.specs.declared.fault.MpFault.TheVariants.{Bad, Memory}
use Rattle.mp_core.specs.{FileFaults.IsEventFault, FileFaults.TakesLine, LineText.event_of}
use Rattle.mp_core.specs.FileText.{numbered_from, spelled, first_without_event}

abbrev pub somes : List MpEvent → List (Option MpEvent)
somes events = map (λ event. Some event) events

-- the first of the lines, and then the others
pub numbered_first : (number : ℕ) (line : List ℕ) (rest : List (List ℕ)) → numbered_from number (line ∷ rest) ≡ numbered_from number (line ∷ []) ++ numbered_from (number + 1) rest
numbered_first number line rest =
    elim (is_passed_over line) as (λ b. cond (not b) ((number, line) ∷ numbered_from (number + 1) rest) (numbered_from (number + 1) rest)
    ≡ cond (not b) ((number, line) ∷ []) [] ++ numbered_from (number + 1) rest) [
      | true ↦ refl
      | false ↦ refl
    ]

abbrev number_in : Option (ℕ × List ℕ) → Option ℕ
number_in line = option_map (λ l. l.0) line

skipped : (b : Bool) (line : ℕ × List ℕ) (front whole : Option (ℕ × List ℕ)) (rest : Option ℕ) → (number_in front ≡ None → number_in whole ≡ rest)
    → number_in (cond b (Some line) front) ≡ None → number_in (cond b (Some line) whole) ≡ rest
skipped true line front whole rest f e = absurd (none-some line.0 (sym e))
skipped false line front whole rest f e = f e

-- where each line of the front spells an event, the first that spells none is the rest's
pub first_behind : (processors cells : ℕ) (front rest : List (ℕ × List ℕ)) → first_without_event processors cells front ≡ None
    → first_without_event processors cells (front ++ rest) ≡ first_without_event processors cells rest
first_behind processors cells [] rest e = refl
first_behind processors cells (line ∷ front) rest e =
    let test : ℕ × List ℕ → Bool = λ l. is_none (event_of processors cells l.1) in
    skipped (test line) line (find test front) (find test (front ++ rest)) (first_without_event processors cells rest) (first_behind processors cells front rest) e

kept : (b : Bool) (line : ℕ × List ℕ) (front whole : Option (ℕ × List ℕ)) (at : ℕ) → (number_in front ≡ Some at → number_in whole ≡ Some at)
    → number_in (cond b (Some line) front) ≡ Some at → number_in (cond b (Some line) whole) ≡ Some at
kept true line front whole at f e = e
kept false line front whole at f e = f e

-- the first line of the front that spells none is the whole's
found_before : (processors cells : ℕ) (front rest : List (ℕ × List ℕ)) (at : ℕ) → first_without_event processors cells front ≡ Some at
    → first_without_event processors cells (front ++ rest) ≡ Some at
found_before processors cells [] rest at e = absurd (none-some at e)
found_before processors cells (line ∷ front) rest at e =
    let test : ℕ × List ℕ → Bool = λ l. is_none (event_of processors cells l.1) in
    kept (test line) line (find test front) (find test (front ++ rest)) at (found_before processors cells front rest at) e

-- a fault in the first line that is left is the whole's
pub fault_behind : (processors cells number : ℕ) (line : List ℕ) (rest : List (List ℕ)) (fault : MpFault) (whole : List (ℕ × List ℕ))
    → first_without_event processors cells whole ≡ first_without_event processors cells (numbered_from number (line ∷ rest))
    → IsEventFault processors cells (numbered_from number (line ∷ [])) fault → IsEventFault processors cells whole fault
fault_behind processors cells number line rest (Bad at) whole sound here =
    sound ∙ ap (first_without_event processors cells) (numbered_first number line rest)
    ∙ found_before processors cells (numbered_from number (line ∷ [])) (numbered_from (number + 1) rest) at here
fault_behind processors cells number line rest Memory whole sound here = tt

-- what taking one line leaves
pub passed_line : (processors cells number : ℕ) (line : List ℕ) (old : List MpEvent) → is_passed_over line ≡ true → TakesLine processors cells old number line (Ok tt) old
passed_line processors cells number line old passed = rw passed (refl, sym (append-nil (somes old)))

pub taken_line : (processors cells number : ℕ) (line : List ℕ) (old new : List MpEvent) (event : MpEvent) → is_passed_over line ≡ false
    → event_of processors cells line ≡ Some event → new ≡ old ++ event ∷ [] → TakesLine processors cells old number line (Ok tt) new
taken_line processors cells number line old new event passed spells pushed =
    rw (passed, spells, pushed) (refl, map-append (λ event. Some event) old (event ∷ []))

pub unread_line : (processors cells number : ℕ) (line : List ℕ) → is_passed_over line ≡ false → event_of processors cells line ≡ None
    → IsEventFault processors cells (numbered_from number (line ∷ [])) (Bad number)
unread_line processors cells number line passed none = rw (passed, none) refl

-- a line more is taken: the events so far and what is left are the whole
pub taken_more : (processors cells number : ℕ) (line : List ℕ) (rest : List (List ℕ)) (old new : List MpEvent) (whole : List (Option MpEvent))
    → somes new ≡ somes old ++ spelled processors cells (numbered_from number (line ∷ []))
    → somes old ++ spelled processors cells (numbered_from number (line ∷ rest)) ≡ whole
    → somes new ++ spelled processors cells (numbered_from (number + 1) rest) ≡ whole
taken_more processors cells number line rest old new whole more before =
    let spell : ℕ × List ℕ → Option MpEvent = λ l. event_of processors cells l.1 in
    let here = numbered_from number (line ∷ []) in
    let behind = numbered_from (number + 1) rest in
    ap (λ l. l ++ map spell behind) more
    ∙ append_assoc (somes old) (map spell here) (map spell behind)
    ∙ ap (λ l. somes old ++ l) (sym (map-append spell here behind) ∙ ap (map spell) (sym (numbered_first number line rest)))
    ∙ before
