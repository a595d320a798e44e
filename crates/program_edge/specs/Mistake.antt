-- Mistakes of a plan's lines (own): a word of the line, and the rule that it breaks. What is said of a mistake is true of its line.
use Rattle.std.specs.Prelude.{◌≡◌, ◌≢◌, ◌⊎◌, ◌<◌, ◌+◌, ◌%◌, ℕ, List, [], ◌∷◌, Contains, codes, length, slice_index, Some, None}
use Rattle.pi_base.specs.declared.span.TheConstants.{PAGE_LEN}
use Rattle.boot_plan.specs.declared.limits.TheConstants.{LEAST_ADDRESS, MOST_END, VOLUME_ALIGNMENT, LEAST_TEMP, MOST_TEMP, LEAST_RAM, MOST_RAM, MOST_FUEL, MOST_PAGES, MOST_NAME}
use Rattle.line_words.specs.{Words.words, Number.number_of}
use Rattle.program_edge.specs.{declared.kind.Kind.Kind, declared.rule.Rule.Rule, declared.mistake.Mistake.Mistake}
use Rattle.program_edge.specs.declared.kind.Kind.TheVariants.{Temp, Ram, Volume, Fuel, Pages}
use Rattle.program_edge.specs.declared.rule.Rule.TheVariants as rule

-- the first word of a line of a kind
unfoldable pub keyword : Kind → List ℕ
keyword Temp = codes "temp"
keyword Ram = codes "ram"
keyword Volume = codes "volume"
keyword Fuel = codes "fuel"
keyword Pages = codes "pages"

-- how many words a line of a kind has
abbrev pub word_count : Kind → ℕ
word_count Temp = 3
word_count Ram = 3
word_count Volume = 3
word_count Fuel = 2
word_count Pages = 2

-- a word is the first one of a line
abbrev pub IsFirst : List ℕ → List ℕ → Type 0
IsFirst line word = (rest : List (List ℕ)) × (words line ≡ word ∷ rest)

-- it is after the first one
abbrev pub IsBehind : List ℕ → List ℕ → Type 0
IsBehind line word = (first : List ℕ) × (rest : List (List ℕ)) × (words line ≡ first ∷ rest) × Contains rest word

-- a number breaks a rule; with a base that is too high some size within the limits passes the greatest end
abbrev pub BreaksNumber : ℕ → Rule → Type 0
BreaksNumber number rule.WholePages = number % PAGE_LEN ≢ 0
BreaksNumber number rule.TempSize = (number < LEAST_TEMP) ⊎ (MOST_TEMP < number)
BreaksNumber number rule.RamSize = (number < LEAST_RAM) ⊎ (MOST_RAM < number)
BreaksNumber number rule.VolumeBase = number % VOLUME_ALIGNMENT ≢ 0
BreaksNumber number rule.LeastAddress = number < LEAST_ADDRESS
BreaksNumber number rule.MostEnd = MOST_END < number + MOST_RAM
BreaksNumber number rule.Fuel = (number < 1) ⊎ (MOST_FUEL < number)
BreaksNumber number rule.PageRegion = (number < 1) ⊎ (MOST_PAGES < number)
BreaksNumber number _ = ⊥

-- a word of a line breaks a rule of the line's form
abbrev pub BreaksForm : List ℕ → List ℕ → Rule → Type 0
BreaksForm line word rule.Printable = (byte : ℕ) × (word ≡ byte ∷ []) × ((byte < 0x20) ⊎ (0x7e < byte))
BreaksForm line word rule.NoFrontSpace = slice_index line 0 ≡ 32
BreaksForm line word rule.NoBackSpace = IsFirst line word
BreaksForm line word rule.Keyword = IsFirst line word × ((kind : Kind) → word ≢ keyword kind)
BreaksForm line word (rule.Words kind) = IsFirst line word × (word ≡ keyword kind) × (length (words line) ≢ word_count kind)
BreaksForm line word rule.NameLength = IsBehind line word × (MOST_NAME < length word)
BreaksForm line word rule.Number = IsBehind line word × (number_of word ≡ None)
BreaksForm line word rule.MostVolumes = IsFirst line word × (word ≡ keyword Volume)
BreaksForm line word rule.Once = IsFirst line word
BreaksForm line word rule.Apart = IsFirst line word
BreaksForm line word rule.HeapRoom = IsFirst line word
BreaksForm line word _ = ⊥

-- a word of a line is a number that breaks a rule
abbrev pub HasNumber : List ℕ → List ℕ → Rule → Type 0
HasNumber line word rule = IsBehind line word × ((number : ℕ) × (number_of word ≡ Some number) × BreaksNumber number rule)

-- the mistake is one of the line
abbrev pub IsMistake : List ℕ → Mistake → Type 0
IsMistake line mistake = BreaksForm line mistake.word.now mistake.rule ⊎ HasNumber line mistake.word.now mistake.rule
