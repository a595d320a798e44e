-- What a part of a step leaves, from what its pieces put.
use Rattle.std.proofs.Common.{◌≡◌, ℕ, Bool, true, List, [], ◌∷◌, ◌++◌, ◌+◌, length, arith, refl, sym, ap, ◌∙◌, subst, append_assoc, Option, None, Result, Ok, Err, IsErrAnd, append-nil}
use Rattle.std.specs.Io.KnownBytes.{Appends}
use Rattle.boot_io.specs.{declared.halt.Halt.Halt, declared.sink.SinkFault.SinkFault, Sink.AppendsPart}
use Rattle.boot_io.specs.declared.halt.Halt.TheVariants as H
use Rattle.boot_io.specs.Sink as Sinks
use Rattle.boot_io.proofs.PutsLaws.{appends_then, appends_none, part_of_more, part_then}
use Rattle.mod_catalog.specs.declared.catalogue.Catalog.{Catalog}
use Rattle.boot_model.specs.{declared.line.Line.Line, PeiMachine.PeiMachine, Text.line_text, Text.text_of, PeiStep.pei_step}
use Rattle.boot_model.proofs.Texts.{text_of-append}
use Rattle.pei_core.specs.{declared.event.Again.Again, declared.event.Event.Event, declared.event.Stepped.Stepped}
use Rattle.pei_core.specs.Parts.{Goal, LeadsThere, LedTo}
use Rattle.pei_core.specs.{SecondStarts.IsAgain, SecondStarts.event_letting, CoreCall.Printed, CoreCall.PrintedPart}
use Rattle.pei_core.specs.Steps.{HasStepped, IsIdle, StartedTo, StepsTo}
use Rattle.boot_trace.specs.Printing.{Texts}

abbrev pub texts : Option (List ℕ) → Option (List ℕ) → Texts
texts old new = record { old = old; new = new }

-- the text of one line, and of lines behind others
pub one_text : (line : Line) → text_of (line ∷ []) ≡ line_text line
one_text line = append-nil (line_text line)

-- lines were put, and the machine is the later one
pub stepped : (Stands : PeiMachine → Type 0) (m later : PeiMachine) (told : List Line) (old new : Option (List ℕ)) → later.lines ≡ m.lines ++ told → Appends old new (text_of told) → Stands later → HasStepped Stands m later (texts old new)
stepped Stands m later told old new lines text machine =
    let printed : Printed m later (texts old new) = record { told = told; lines = lines; text = text } in record { printed = printed; machine = machine }

pub stepped_one : (Stands : PeiMachine → Type 0) (m later : PeiMachine) (line shown : Line) (old new : Option (List ℕ)) → later.lines ≡ m.lines ++ line ∷ [] → shown ≡ line → Appends old new (line_text shown) → Stands later → HasStepped Stands m later (texts old new)
stepped_one Stands m later line shown old new lines same text machine =
    stepped Stands m later (line ∷ []) old new lines (subst (λ x. Appends old new x) (ap line_text same ∙ sym (one_text line)) text) machine

pub stepped_none : (Stands : PeiMachine → Type 0) (m later : PeiMachine) (old : Option (List ℕ)) → later.lines ≡ m.lines → Stands later → HasStepped Stands m later (texts old old)
stepped_none Stands m later old lines machine = stepped Stands m later [] old old (lines ∙ sym (append-nil m.lines)) (appends_none old) machine

-- nothing of the lines was put, or a part of the first
pub none_put : (m later : PeiMachine) (told : List Line) (old : Option (List ℕ)) → later.lines ≡ m.lines ++ told → PrintedPart m later (texts old old)
none_put m later told old lines = record { told = told; lines = lines; text = ([], (text_of told, refl), appends_none old) }

pub first_part : (m later : PeiMachine) (line shown : Line) (told : List Line) (old new : Option (List ℕ)) → later.lines ≡ m.lines ++ line ∷ told → shown ≡ line → AppendsPart old new (line_text shown) → PrintedPart m later (texts old new)
first_part m later line shown told old new lines same part =
    record { told = line ∷ told; lines = lines; text = part_of_more old new (line_text line) (text_of told) (subst (λ x. AppendsPart old new (line_text x)) same part) }

-- behind lines that were put
pub part_after : (m mid later : PeiMachine) (told : List Line) (old now new : Option (List ℕ)) → mid.lines ≡ m.lines ++ told → Appends old now (text_of told) → PrintedPart mid later (texts now new) → PrintedPart m later (texts old new)
part_after m mid later told old now new lines f part = record {
  told = told ++ part.told;
  lines = part.lines ∙ ap (λ x. x ++ part.told) lines ∙ append_assoc m.lines told part.told;
  text = subst (λ x. AppendsPart old new x) (sym (text_of-append told part.told)) (part_then old now new (text_of told) (text_of part.told) f part.text);
}

pub stepped_after : (Stands : PeiMachine → Type 0) (m mid later : PeiMachine) (told : List Line) (old now new : Option (List ℕ)) → mid.lines ≡ m.lines ++ told → Appends old now (text_of told) → HasStepped Stands mid later (texts now new) → HasStepped Stands m later (texts old new)
stepped_after Stands m mid later told old now new lines f h =
    stepped Stands m later (told ++ h.printed.told) old new (h.printed.lines ∙ ap (λ x. x ++ h.printed.told) lines ∙ append_assoc m.lines told h.printed.told)
    (subst (λ x. Appends old new x) (sym (text_of-append told h.printed.told)) (appends_then old now new (text_of told) (text_of h.printed.told) f h.printed.text)) h.machine

-- from a machine with the same lines
pub part_from : (m other later : PeiMachine) (t : Texts) → m.lines ≡ other.lines → PrintedPart m later t → PrintedPart other later t
part_from m other later t e part = record { told = part.told; lines = part.lines ∙ ap (λ x. x ++ part.told) e; text = part.text }

pub stepped_from : (Stands : PeiMachine → Type 0) (m other later : PeiMachine) (t : Texts) → m.lines ≡ other.lines → HasStepped Stands m later t → HasStepped Stands other later t
stepped_from Stands m other later t e h =
    let printed : Printed other later t = record { told = h.printed.told; lines = h.printed.lines ∙ ap (λ x. x ++ h.printed.told) e; text = h.printed.text } in
    record { printed = printed; machine = h.machine }

pub same_err : {A : Type 0} (halt : Halt) (r : Result A Halt) → IsErrAnd r (λ other. other ≡ halt) → r ≡ Err halt
same_err halt (Ok a) h = absurd h
same_err halt (Err other) h = ap Err h

-- a sink that failed
is_sink : {A : Type 0} (r : Result A Halt) → IsErrAnd r (λ halt. halt ≡ H.Sink) → r ≡ Err H.Sink
is_sink (Ok a) h = absurd h
is_sink (Err halt) h = ap Err h

pub steps_fail : (memory : Bool) (Stands : PeiMachine → Type 0) (catalog : Catalog) (fuel : ℕ) (m : PeiMachine) (t : Texts) (r : Result Stepped Halt) → IsErrAnd r (λ halt. halt ≡ H.Sink) → (IsIdle m → ⊥) → PrintedPart m (pei_step catalog fuel m) t → StepsTo memory Stands catalog fuel m t r
steps_fail memory Stands catalog fuel m t r h busy part = subst (λ x. StepsTo memory Stands catalog fuel m t x) (sym (is_sink r h)) (busy, part)

pub leads_fail : (memory : Bool) (Stands : PeiMachine → Type 0) (m : PeiMachine) (goal : Goal) (t : Texts) (r : Result Event Halt) → IsErrAnd r (λ halt. halt ≡ H.Sink) → PrintedPart m goal.to t → LeadsThere memory Stands m goal t r
leads_fail memory Stands m goal t r h part = subst (λ x. LeadsThere memory Stands m goal t x) (sym (is_sink r h)) part

-- memory that was wanting
pub leads_want : (memory : Bool) (Stands : PeiMachine → Type 0) (m : PeiMachine) (goal : Goal) (t : Texts) (r : Result Event Halt) → IsErrAnd r (λ halt. halt ≡ H.Memory) → memory ≡ true → PrintedPart m goal.to t → LeadsThere memory Stands m goal t r
leads_want memory Stands m goal t r h takes part = subst (λ x. LeadsThere memory Stands m goal t x) (sym (same_err H.Memory r h)) (takes, part)

pub none_more : (n : ℕ) → n ≡ n + 0
none_more n = omega arith

-- an event that changed no PPI and reported no volume
abbrev pub quiet_goal : PeiMachine → Goal
quiet_goal later = record { to = later; there = []; gone = None }

pub led_quietly : (Stands : PeiMachine → Type 0) (m later : PeiMachine) (t : Texts) (again : Again) (event : Event) → event ≡ event_letting again → later.reported ≡ m.reported → IsAgain m later again → HasStepped Stands m later t
    → LedTo Stands m (quiet_goal later) t event
led_quietly Stands m later t again event is same lets h =
    subst (λ x. LedTo Stands m (quiet_goal later) t x) (sym is) (record { there = refl; gone = refl; again = lets; volumes = ap length same ∙ none_more (length m.reported); stepped = h })

-- lines that were put, or a part of them, by the sink's answer
pub puts_to : (put : Result (Unit {0}) SinkFault) (Stands : PeiMachine → Type 0) (m later : PeiMachine) (told : List Line) (old new : Option (List ℕ)) → later.lines ≡ m.lines ++ told → Sinks.Puts put old new (text_of told) → Stands later → StartedTo Stands m later (texts old new) put
puts_to (Ok done) Stands m later told old new lines puts machine = stepped Stands m later told old new lines puts machine
puts_to (Err fault) Stands m later told old new lines puts machine = record { told = told; lines = lines; text = puts }

-- a part that failed behind lines that were put
pub goes_on : (halt : Halt) (memory : Bool) (Standing Stands : PeiMachine → Type 0) (catalog : Catalog) (fuel : ℕ) (m mid : PeiMachine) (goal : Goal) (told : List Line) (old now new : Option (List ℕ)) (r : Result Stepped Halt)
    → r ≡ Err halt → (IsIdle m → ⊥) → pei_step catalog fuel m ≡ goal.to → mid.lines ≡ m.lines ++ told → Appends old now (text_of told) → LeadsThere memory Standing mid goal (texts now new) (Err halt) → StepsTo memory Stands catalog fuel m (texts old new) r
goes_on H.Sink memory Standing Stands catalog fuel m mid goal told old now new r e busy to lines f part =
    subst (λ x. StepsTo memory Stands catalog fuel m (texts old new) x) (sym e) (busy, subst (λ x. PrintedPart m x (texts old new)) (sym to) (part_after m mid goal.to told old now new lines f part))
goes_on H.Memory memory Standing Stands catalog fuel m mid goal told old now new r e busy to lines f part =
    subst (λ x. StepsTo memory Stands catalog fuel m (texts old new) x) (sym e) (part.0, subst (λ x. PrintedPart m x (texts old new)) (sym to) (part_after m mid goal.to told old now new lines f part.1))

-- an event that leads elsewhere only in name
pub led_as : (Stands : PeiMachine → Type 0) (m : PeiMachine) (goal other : Goal) (t : Texts) (event : Event) → goal ≡ other → LedTo Stands m other t event → LedTo Stands m goal t event
led_as Stands m goal other t event e h = subst (λ x. LedTo Stands m x t event) (sym e) h

pub part_as : (m : PeiMachine) (goal other : Goal) (t : Texts) → goal ≡ other → PrintedPart m other.to t → PrintedPart m goal.to t
part_as m goal other t e h = subst (λ (x : Goal). PrintedPart m x.to t) (sym e) h

pub leads_as : (r : Result Event Halt) (memory : Bool) (Stands : PeiMachine → Type 0) (m : PeiMachine) (goal other : Goal) (t : Texts) → goal.to ≡ other.to → goal.there ≡ other.there → goal.gone ≡ other.gone
    → LeadsThere memory Stands m goal t r → LeadsThere memory Stands m other t r
leads_as (Ok event) memory Stands m goal other t to there gone h = record {
  there = h.there ∙ there;
  gone = h.gone ∙ gone;
  again = subst (λ x. IsAgain m x event.again) to h.again;
  volumes = sym (ap (λ (x : PeiMachine). length x.reported) to) ∙ h.volumes;
  stepped = subst (λ x. HasStepped Stands m x t) to h.stepped;
}
leads_as (Err H.Sink) memory Stands m goal other t to there gone h = subst (λ x. PrintedPart m x t) to h
leads_as (Err H.Memory) memory Stands m goal other t to there gone h = (h.0, subst (λ x. PrintedPart m x t) to h.1)
