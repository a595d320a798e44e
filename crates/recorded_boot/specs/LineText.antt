-- The lines of an order of starts (own). Each is `pei V GUID` or `dxe V GUID`, a start in that phase by the number of the volume and the name of the file, or
-- `stop`. Lines and words are those of `line_words`.
use Rattle.std.specs.Prelude.{ℕ, if◌then◌else◌, List, [], ◌∷◌, Option, Some, None, codes, option_and_then, find, bytes_eq}
use Rattle.line_words.specs.Words.{words, is_plain}
use Rattle.pi_base.specs.declared.phase.Phase.{Phase}
use Rattle.pi_base.specs.declared.phase.Phase.TheVariants as P
use Rattle.recorded_boot.specs.{declared.order.keyword.Keyword.Keyword, declared.order.line.Asked.Asked, Words.volume_of, Words.guid_of}
use Rattle.recorded_boot.specs.declared.order.keyword.Keyword.TheVariants.{Pei, Dxe, Stop}
use Rattle.recorded_boot.specs.declared.order.line.Asked.TheVariants as A

-- what a keyword is written as
unfoldable pub keyword_text : Keyword → List ℕ
keyword_text Pei = codes "pei"
keyword_text Dxe = codes "dxe"
keyword_text Stop = codes "stop"

-- the keyword that a word is
abbrev pub keyword_named : List ℕ → Option Keyword
keyword_named word = find (λ keyword. bytes_eq word (keyword_text keyword)) (Pei ∷ Dxe ∷ Stop ∷ [])

-- what is made of two words, if each of them can be read
abbrev pub of_two : {A B C : Type 0} → (A → B → C) → Option A → Option B → Option C
of_two make None b = None
of_two make (Some a) None = None
of_two make (Some a) (Some b) = Some (make a b)

-- the start that the words after a keyword spell
abbrev pub start_by : ℕ → Phase → List (List ℕ) → Option Asked
start_by number phase [] = None
start_by number phase (volume ∷ []) = None
start_by number phase (volume ∷ name ∷ []) =
    of_two (λ v n. A.Start (record { line = number; start = record { phase = phase; volume = v; name = n } })) (volume_of volume) (guid_of name)
start_by number phase (volume ∷ name ∷ more ∷ words) = None

-- no word follows `stop`
abbrev pub stop_by : ℕ → List (List ℕ) → Option Asked
stop_by number [] = Some (A.Stop number)
stop_by number (more ∷ words) = None

abbrev pub asked_by : ℕ → Keyword → List (List ℕ) → Option Asked
asked_by number Pei operands = start_by number P.Pei operands
asked_by number Dxe operands = start_by number P.Dxe operands
asked_by number Stop operands = stop_by number operands

abbrev pub asked_of_words : ℕ → List (List ℕ) → Option Asked
asked_of_words number [] = None
asked_of_words number (name ∷ operands) = option_and_then (λ keyword. asked_by number keyword operands) (keyword_named name)

-- what the line with this number asks for
abbrev pub asked_of : ℕ → List ℕ → Option Asked
asked_of number line = if is_plain line then asked_of_words number (words line) else None
