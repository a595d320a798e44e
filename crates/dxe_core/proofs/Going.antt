-- What a part of a step leaves, from what its pieces put.
use Rattle.std.proofs.Common.{◌≡◌, ℕ, List, [], ◌∷◌, ◌++◌, refl, sym, ap, ◌∙◌, subst, Option, Result, Ok, Err, IsErr, append-nil}
use Rattle.std.specs.Io.KnownBytes.{Appends}
use Rattle.boot_io.specs.{declared.halt.Halt.Halt, Sink.AppendsPart}
use Rattle.boot_io.proofs.PutsLaws.{appends_none, part_of_more}
use Rattle.act_code.specs.declared.action.Action.{Action}
use Rattle.mod_catalog.specs.declared.catalogue.Catalog.{Catalog}
use Rattle.boot_model.specs.{declared.line.Line.Line, DxeMachine.DxeMachine, DxeStep.dxe_step, Text.line_text, Text.text_of}
use Rattle.dxe_core.specs.{declared.event.Event.Event, declared.stepped.Stepped.Stepped, Steps.HasStepped, Steps.StepsTo}
use Rattle.dxe_core.specs.Parts.{TakesOwn, TakesTo, acted_to}
use Rattle.dxe_core.specs.Turn.{Printed, PrintedPart}
use Rattle.boot_trace.specs.Printing.{Texts}

abbrev pub texts : Option (List ℕ) → Option (List ℕ) → Texts
texts old new = record { old = old; new = new }

-- the text of one line
one_text : (line : Line) → text_of (line ∷ []) ≡ line_text line
one_text line = append-nil (line_text line)

-- lines were put, and the machine is the later one
pub stepped : (Stands : DxeMachine → Type 0) (m later : DxeMachine) (told : List Line) (old new : Option (List ℕ)) → later.lines ≡ m.lines ++ told → Appends old new (text_of told) → Stands later → HasStepped Stands m later (texts old new)
stepped Stands m later told old new lines text machine =
    let printed : Printed m later (texts old new) = record { told = told; lines = lines; text = text } in record { printed = printed; machine = machine }

pub stepped_one : (Stands : DxeMachine → Type 0) (m later : DxeMachine) (line shown : Line) (old new : Option (List ℕ)) → later.lines ≡ m.lines ++ line ∷ [] → shown ≡ line → Appends old new (line_text shown) → Stands later → HasStepped Stands m later (texts old new)
stepped_one Stands m later line shown old new lines same text machine =
    stepped Stands m later (line ∷ []) old new lines (subst (λ x. Appends old new x) (ap line_text same ∙ sym (one_text line)) text) machine

pub stepped_none : (Stands : DxeMachine → Type 0) (m later : DxeMachine) (old : Option (List ℕ)) → later.lines ≡ m.lines → Stands later → HasStepped Stands m later (texts old old)
stepped_none Stands m later old lines machine = stepped Stands m later [] old old (lines ∙ sym (append-nil m.lines)) (appends_none old) machine

-- nothing of the lines was put, or a part of the first, or of all
pub none_put : (m later : DxeMachine) (told : List Line) (old : Option (List ℕ)) → later.lines ≡ m.lines ++ told → PrintedPart m later (texts old old)
none_put m later told old lines = record { told = told; lines = lines; text = ([], (text_of told, refl), appends_none old) }

pub first_part : (m later : DxeMachine) (line shown : Line) (told : List Line) (old new : Option (List ℕ)) → later.lines ≡ m.lines ++ line ∷ told → shown ≡ line → AppendsPart old new (line_text shown) → PrintedPart m later (texts old new)
first_part m later line shown told old new lines same part =
    record { told = line ∷ told; lines = lines; text = part_of_more old new (line_text line) (text_of told) (subst (λ x. AppendsPart old new (line_text x)) same part) }

pub part_put : (m later : DxeMachine) (told : List Line) (old new : Option (List ℕ)) → later.lines ≡ m.lines ++ told → AppendsPart old new (text_of told) → PrintedPart m later (texts old new)
part_put m later told old new lines text = record { told = told; lines = lines; text = text }

-- from a machine with the same lines
pub part_from : (m other later : DxeMachine) (t : Texts) → m.lines ≡ other.lines → PrintedPart m later t → PrintedPart other later t
part_from m other later t e part = record { told = part.told; lines = part.lines ∙ ap (λ x. x ++ part.told) e; text = part.text }

pub stepped_from : (Stands : DxeMachine → Type 0) (m other later : DxeMachine) (t : Texts) → m.lines ≡ other.lines → HasStepped Stands m later t → HasStepped Stands other later t
stepped_from Stands m other later t e h =
    let printed : Printed other later t = record { told = h.printed.told; lines = h.printed.lines ∙ ap (λ x. x ++ h.printed.told) e; text = h.printed.text } in
    record { printed = printed; machine = h.machine }

-- a part that failed
pub steps_fail : (Stands : DxeMachine → Type 0) (catalog : Catalog) (fuel : ℕ) (m : DxeMachine) (t : Texts) (r : Result Stepped Halt) → IsErr r → PrintedPart m (dxe_step catalog fuel m) t → StepsTo Stands catalog fuel m t r
steps_fail Stands catalog fuel m t (Ok answer) h part = cc
steps_fail Stands catalog fuel m t (Err halt) h part = part

pub takes_fail : (Stands : DxeMachine → Type 0) (catalog : Catalog) (m : DxeMachine) (action : Action) (own : TakesOwn action m) (t : Texts) (r : Result Event Halt) → IsErr r
    → PrintedPart m (acted_to catalog m own.top own.below action) t → TakesTo Stands catalog m action own t r
takes_fail Stands catalog m action own t (Ok event) h part = cc
takes_fail Stands catalog m action own t (Err halt) h part = part
