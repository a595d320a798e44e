-- Texts of lines.
use Rattle.std.proofs.Common.{◌≡◌, ℕ, List, [], ◌∷◌, ◌++◌, sym, ap, ◌∙◌, append_assoc, append-nil, flat_map}
use Rattle.boot_io.specs.{Faults.IsPrefix, Line.spaced}
use Rattle.boot_model.specs.declared.line.Line.{Line}
use Rattle.boot_model.specs.Text.{keyword, words, line_text, text_of}
use Rattle.boot_model.proofs.Texts.{text_of-append}
use Rattle.recorded_boot.specs.Fronts.{EndsLine}

-- a line without its line feed
abbrev pub body : Line → List ℕ
body line = keyword line ++ flat_map spaced (words line)

-- lines end with a line feed
pub lines_end : (line : Line) (lines : List Line) → EndsLine (text_of (line ∷ lines))
lines_end line [] = (body line, append-nil (line_text line))
lines_end line (next ∷ lines) =
    let rest = lines_end next lines in (line_text line ++ rest.0, ap (λ t. line_text line ++ t) rest.1 ∙ sym (append_assoc (line_text line) rest.0 (10 ∷ [])))

pub ends_after : (front text : List ℕ) → EndsLine text → EndsLine (front ++ text)
ends_after front text ends = (front ++ ends.0, ap (λ t. front ++ t) ends.1 ∙ sym (append_assoc front ends.0 (10 ∷ [])))

-- lines that begin with others
pub begins_with : (printed told all : List Line) (rest : List Line) → all ≡ (printed ++ told) ++ rest → IsPrefix (text_of printed ++ text_of told) (text_of all)
begins_with printed told all rest is = (text_of rest, ap text_of is ∙ text_of-append (printed ++ told) rest ∙ ap (λ t. t ++ text_of rest) (text_of-append printed told))

-- and with the first of them
pub begins_with_line : (printed more all : List Line) (line : Line) (rest : List Line) → all ≡ (printed ++ line ∷ more) ++ rest → IsPrefix (text_of printed ++ (body line ++ 10 ∷ [])) (text_of all)
begins_with_line printed more all line rest is =
    let whole = begins_with printed (line ∷ more) all rest is in
    (text_of more ++ whole.0, whole.1 ∙ ap (λ t. t ++ whole.0) (sym (append_assoc (text_of printed) (line_text line) (text_of more))) ∙ append_assoc (text_of printed ++ line_text line) (text_of more) whole.0)
