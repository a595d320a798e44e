-- The lines of the parts that neither started nor wait at the end: their phase never came to know their volume, or the boot was cut off while they were scheduled.
-- Own.
use Rattle.std.specs.Prelude.{ℕ, ◌+◌, Bool, ◌&&◌, not, if◌then◌else◌, List, [], ◌∷◌, ◌++◌, decimal, is_some}
use Rattle.boot_io.specs.Line.{line_of}
use Rattle.pi_base.specs.{declared.phase.Phase.Phase, declared.phase.Phase.TheVariants.Pei, declared.phase.Phase.TheVariants.Dxe}
use Rattle.mod_catalog.specs.{declared.catalogue.Module.Module, Parts.has_number, Parts.part_of}
use Rattle.explain_text.specs.{Lines.phase_text, declared.keyword.Keyword.Keyword, Words.word_of}
use Rattle.explain_text.specs.declared.keyword.Keyword.TheVariants as K

-- the word where a volume never came to be known: PEI was not reported it, or DXE did not discover it
abbrev pub unknown_word : Phase → Keyword
unknown_word Pei = K.Unreported
unknown_word Dxe = K.Undiscovered

abbrev pub left_word : Phase → List ℕ → Module → Keyword
left_word phase known m = if has_number known m.volume then K.Scheduled else unknown_word phase

-- the line of a part that is not among those that are told
abbrev pub left_line : Phase → (ℕ → Bool) → List ℕ → ℕ → Module → List ℕ
left_line phase told known number m =
    if is_some (part_of phase m) && not (told number) then line_of (word_of K.Waits) (decimal number ∷ phase_text phase ∷ word_of (left_word phase known m) ∷ []) else []

-- those of modules, of which the first has this number
abbrev pub left_lines : Phase → (ℕ → Bool) → List ℕ → ℕ → List Module → List ℕ
left_lines phase told known number [] = []
left_lines phase told known number (m ∷ ms) = left_line phase told known number m ++ left_lines phase told known (number + 1) ms
