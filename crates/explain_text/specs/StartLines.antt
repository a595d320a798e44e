-- The lines of the starts: each start, and behind it what its expression asked for, with who had it installed.
-- Own.
use Rattle.std.specs.Prelude.{ℕ, List, [], ◌∷◌, ◌++◌, decimal, flat_map, Option, Some, None}
use Rattle.boot_io.specs.Line.{line_of}
use Rattle.boot_model.specs.Text.{licence_text}
use Rattle.pi_base.specs.WordText.{guid_text}
use Rattle.explain_text.specs.{declared.reasons.Begun.Begun, declared.reasons.Need.Need, declared.reasons.Giver.Giver, Lines.phase_text}
use Rattle.explain_text.specs.declared.reasons.Giver.TheVariants.{Core, Module, Absent}
use Rattle.explain_text.specs.declared.keyword.Keyword.TheVariants as K
use Rattle.explain_text.specs.Words.{word_of}

-- the driver beside which a driver started
abbrev pub beside_words : Option ℕ → List (List ℕ)
beside_words None = []
beside_words (Some number) = decimal number ∷ []

abbrev pub start_line : Begun → List ℕ
start_line start = line_of (word_of K.Start) (decimal start.number ∷ phase_text start.phase ∷ licence_text start.licence ∷ beside_words start.beside)

-- who has a GUID installed
abbrev pub giver_text : Giver → List ℕ
giver_text Core = word_of K.Core
giver_text (Module number) = decimal number
giver_text Absent = word_of K.Dash

abbrev pub needed_line : ℕ → Need → List ℕ
needed_line number need = line_of (word_of K.Needed) (decimal number ∷ guid_text need.guid ∷ giver_text need.giver ∷ [])

-- a start, and what it needed
abbrev pub start_lines : Begun → List ℕ
start_lines start = start_line start ++ flat_map (needed_line start.number) start.needs
