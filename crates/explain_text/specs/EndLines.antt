-- The last lines: the move of memory, the heap, the actions and the result.
-- Own.
use Rattle.std.specs.Prelude.{ℕ, List, [], ◌∷◌, ◌++◌, decimal, Option, Some, None}
use Rattle.boot_io.specs.Line.{line_of}
use Rattle.boot_model.specs.Text.{end_text}
use Rattle.pi_base.specs.WordText.{hexadecimal}
use Rattle.explain_text.specs.{declared.reasons.Explained.Explained, declared.reasons.Moved.Moved, Words.word_of}
use Rattle.explain_text.specs.declared.keyword.Keyword.TheVariants as K

-- how many bytes the HOB list takes, at a moment
abbrev pub heap_line : List ℕ → ℕ → List ℕ
heap_line moment used = line_of (word_of K.Heap) (moment ∷ decimal used ∷ [])

-- the move, from one base to another
abbrev pub moved_lines : Option Moved → List ℕ
moved_lines None = []
moved_lines (Some moved) =
    line_of (word_of K.Moved) (hexadecimal moved.from ∷ hexadecimal moved.to ∷ []) ++ heap_line (word_of K.Moved) moved.used

abbrev pub end_lines : Explained → List ℕ
end_lines e =
    moved_lines e.moved ++ heap_line (word_of K.End) e.heap
    ++ line_of (word_of K.Fuel) (decimal e.actions ∷ []) ++ line_of (word_of K.Result) (end_text e.result ∷ [])
