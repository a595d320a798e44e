-- Mistakes of a plan's text (own): one of a line, or a kind of line that is said to be lacking.
use Rattle.std.specs.Prelude.{◌≡◌, ◌≢◌, ◌⊎◌, ℕ, zero, suc, List, Contains, Option, Some, None, slice_get, slice_index}
use Rattle.boot_plan.specs.{declared.fault.PlanFault.PlanFault, declared.fault.PlanCause.TheVariants.Missing}
use Rattle.line_words.specs.Line.{lines}
use Rattle.program_edge.specs.{declared.kind.Kind.Kind, declared.rule.Rule.TheVariants.Needed, declared.mistake.Mistake.Mistake}
use Rattle.program_edge.specs.Mistake.{IsFirst, IsMistake, keyword}

-- a text has a line
abbrev pub IsLine : List ℕ → List ℕ → Type 0
IsLine text line = Contains (lines text) line

-- the line of a text with a number, from 1
abbrev pub line_of : List ℕ → ℕ → Option (List ℕ)
line_of text zero = None
line_of text (suc place) = slice_get (lines text) place

-- a word is not the first one of a line, unless a space begins that
abbrev pub IsNoFront : List ℕ → List ℕ → Type 0
IsNoFront line word = slice_index line 0 ≢ 32 → IsFirst line word → ⊥

-- it is that of no line of a text
abbrev pub Lacks : List ℕ → List ℕ → Type 0
Lacks text word = (place : ℕ) (line : List ℕ) → slice_get (lines text) place ≡ Some line → IsNoFront line word

-- a kind of line is needed, and is the one that the mistake names
abbrev pub IsNeeded : Mistake → Type 0
IsNeeded mistake = (kind : Kind) × (mistake.rule ≡ Needed kind) × (mistake.word.now ≡ keyword kind)

-- the mistake is one of a line of the text, or names a kind of line
abbrev pub IsMistakeIn : List ℕ → Mistake → Type 0
IsMistakeIn text mistake = ((line : List ℕ) × IsLine text line × IsMistake line mistake) ⊎ IsNeeded mistake

-- the mistake is one of the text's line with a number
abbrev pub IsMistakeAt : List ℕ → ℕ → Mistake → Type 0
IsMistakeAt text number mistake = (line : List ℕ) × (line_of text number ≡ Some line) × IsMistake line mistake

-- it is in the line that is refused, or names a kind of line that is missing in the text
pub record IsMistakeOf (text : List ℕ) (fault : PlanFault) (mistake : Mistake) : Type 0 where
  pub missing : fault.cause ≡ Missing → IsNeeded mistake × Lacks text mistake.word.now
  pub refused : fault.cause ≢ Missing → IsMistakeAt text fault.line mistake
