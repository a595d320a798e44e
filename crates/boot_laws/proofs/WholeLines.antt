-- The text of lines ends with a line feed, as that of its last line does.
use Rattle.std.proofs.Common.{List, [], ◌∷◌, ◌++◌, refl, sym, ap, ◌∙◌, append_assoc, flat_map, append-nil}
use Rattle.boot_io.specs.Line.{spaced}
use Rattle.boot_model.specs.declared.line.Line.{Line}
use Rattle.boot_model.specs.Text.{keyword, words, line_text}
use Rattle.boot_laws.specs.PeiFree.{EndsWithLine, AreLinesBehind}

one_line : (line : Line) → EndsWithLine (line ∷ [])
one_line line = (keyword line ++ flat_map spaced (words line), append-nil (line_text line))

behind_one : (line : Line) (lines : List Line) → EndsWithLine lines → EndsWithLine (line ∷ lines)
behind_one line lines h = (line_text line ++ h.0, ap (λ text. line_text line ++ text) h.1 ∙ sym (append_assoc (line_text line) h.0 (10 ∷ [])))

behind : (first lines : List Line) → EndsWithLine lines → EndsWithLine (first ++ lines)
behind [] lines h = h
behind (line ∷ first) lines h = behind_one line (first ++ lines) (behind first lines h)

-- lines before the last one
pub with_last : (before : List Line) (last : Line) → EndsWithLine (before ++ last ∷ [])
with_last before last = behind before (last ∷ []) (one_line last)

-- printed lines, others, and a last one
pub lines_behind : (printed others : List Line) (last : Line) → AreLinesBehind printed (printed ++ (others ++ last ∷ []))
lines_behind printed others last = record { rest = others ++ last ∷ []; printed_first = refl; ends = behind printed (others ++ last ∷ []) (with_last others last) }

-- what comes behind more lines comes behind fewer
pub fewer_printed : (printed more lines : List Line) → AreLinesBehind (printed ++ more) lines → AreLinesBehind printed lines
fewer_printed printed more lines h = record { rest = more ++ h.rest; printed_first = h.printed_first ∙ append_assoc printed more h.rest; ends = h.ends }
