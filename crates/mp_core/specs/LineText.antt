-- The lines of an MP file (own). The first is `mp N C`, with how many processors and cells there are. Each later line is one event: `all BY OP..`, `this BY P
-- OP..`, `enable BY P`, `disable BY P`, `switch BY P on` or `off`, `who BY` or `turn P`, with one or more operations `add=CELL:N` or `put=N`. Lines and words
-- are those of `line_words`.
use Rattle.std.specs.Prelude.{ℕ, ◌==◌, nat_le, ◌&&◌, Bool, true, false, if◌then◌else◌, List, [], ◌∷◌, length, Option, Some, None, codes, option_and_then, option_map, find, bytes_eq}
use Rattle.std.specs.List.{before_first, after_first}
use Rattle.line_words.specs.{Words.words, Words.is_plain, Number.number_in}
use Rattle.mp_core.specs.{declared.event.MpEvent.MpEvent, declared.op.Op.Op, declared.op.Op.TheVariants.Add, declared.op.Op.TheVariants.Put}
use Rattle.mp_core.specs.declared.event.MpEvent.TheVariants as E
use Rattle.mp_core.specs.declared.limits.TheConstants.{MOST_PROCESSORS, MOST_CELLS, MOST_OPS}
use Rattle.mp_core.specs.declared.keyword.Keyword.{Keyword}
use Rattle.mp_core.specs.declared.keyword.Keyword.TheVariants.{All, This, Enable, Disable, Switch, Who, Turn}
use Rattle.mp_core.specs.Words.{number_below, processor_of, count_of}

-- what a keyword is written as
unfoldable pub keyword_text : Keyword → List ℕ
keyword_text All = codes "all"
keyword_text This = codes "this"
keyword_text Enable = codes "enable"
keyword_text Disable = codes "disable"
keyword_text Switch = codes "switch"
keyword_text Who = codes "who"
keyword_text Turn = codes "turn"

-- the keyword that a word is
abbrev pub keyword_named : List ℕ → Option Keyword
keyword_named word = find (λ keyword. bytes_eq word (keyword_text keyword)) (All ∷ This ∷ Enable ∷ Disable ∷ Switch ∷ Who ∷ Turn ∷ [])

-- what is made of words, if each of them can be read
abbrev pub of_two : {A B C : Type 0} → (A → B → C) → Option A → Option B → Option C
of_two make None b = None
of_two make (Some a) None = None
of_two make (Some a) (Some b) = Some (make a b)

abbrev pub of_three : {A B C D : Type 0} → (A → B → C → D) → Option A → Option B → Option C → Option D
of_three make None b c = None
of_three make (Some a) b c = of_two (make a) b c

-- the addition of `CELL:N`, if there is such a cell
abbrev pub add_of : ℕ → List ℕ → Option Op
add_of cells operand =
    of_two (λ cell n. Add cell n)
    (number_below cells (before_first (λ byte. byte == 58) operand))
    (number_in 10 (after_first (λ byte. byte == 58) operand))

-- the operation with this name
abbrev pub op_named : ℕ → List ℕ → List ℕ → Option Op
op_named cells name operand =
    if bytes_eq name (codes "add") then add_of cells operand
    else if bytes_eq name (codes "put") then option_map (λ n. Put n) (number_in 10 operand)
    else None

-- the operation that a word spells: `add=CELL:N` or `put=N`
abbrev pub op_of : ℕ → List ℕ → Option Op
op_of cells word = op_named cells (before_first (λ byte. byte == 61) word) (after_first (λ byte. byte == 61) word)

-- the operations that words spell, if each spells one
abbrev pub ops_of : ℕ → List (List ℕ) → Option (List Op)
ops_of cells [] = Some []
ops_of cells (word ∷ words) = of_two (λ op ops. op ∷ ops) (op_of cells word) (ops_of cells words)

-- the job of one or more operations, and not too many
abbrev pub job_of : ℕ → List (List ℕ) → Option (List Op)
job_of cells words = if nat_le 1 (length words) && nat_le (length words) MOST_OPS then ops_of cells words else None

-- whether a processor is to be enabled
abbrev pub enabled_of : List ℕ → Option Bool
enabled_of word = if bytes_eq word (codes "on") then Some true else if bytes_eq word (codes "off") then Some false else None

-- the events of each keyword: by whom, if there is such a processor, and the operands after
abbrev pub all_of : ℕ → Option ℕ → List (List ℕ) → Option MpEvent
all_of cells by ops = of_two (λ by job. E.All by job) by (job_of cells ops)

abbrev pub this_of : ℕ → Option ℕ → List (List ℕ) → Option MpEvent
this_of cells by [] = None
this_of cells by (on ∷ ops) = of_three (λ by on job. E.This by on job) by (processor_of on) (job_of cells ops)

abbrev pub enable_of : Bool → Option ℕ → List (List ℕ) → Option MpEvent
enable_of enabled by [] = None
enable_of enabled by (on ∷ []) = of_two (λ by on. E.Enable by on enabled) by (processor_of on)
enable_of enabled by (on ∷ more ∷ words) = None

abbrev pub switch_of : Option ℕ → List (List ℕ) → Option MpEvent
switch_of by [] = None
switch_of by (on ∷ []) = None
switch_of by (on ∷ enabled ∷ []) = of_three (λ by on enabled. E.Switch by on enabled) by (processor_of on) (enabled_of enabled)
switch_of by (on ∷ enabled ∷ more ∷ words) = None

abbrev pub who_of : Option ℕ → List (List ℕ) → Option MpEvent
who_of by [] = option_map (λ by. E.Who by) by
who_of by (more ∷ words) = None

-- a turn has no caller, but names a processor
abbrev pub turn_of : Option ℕ → List (List ℕ) → Option MpEvent
turn_of on [] = option_map (λ on. E.Turn on) on
turn_of on (more ∷ words) = None

-- the event of a keyword, the word after it, and the operands after that
abbrev pub event_by : ℕ → ℕ → Keyword → List ℕ → List (List ℕ) → Option MpEvent
event_by processors cells All by operands = all_of cells (number_below processors by) operands
event_by processors cells This by operands = this_of cells (number_below processors by) operands
event_by processors cells Enable by operands = enable_of true (number_below processors by) operands
event_by processors cells Disable by operands = enable_of false (number_below processors by) operands
event_by processors cells Switch by operands = switch_of (number_below processors by) operands
event_by processors cells Who by operands = who_of (number_below processors by) operands
event_by processors cells Turn on operands = turn_of (processor_of on) operands

abbrev pub event_of_words : ℕ → ℕ → List (List ℕ) → Option MpEvent
event_of_words processors cells [] = None
event_of_words processors cells (name ∷ []) = None
event_of_words processors cells (name ∷ first ∷ operands) =
    option_and_then (λ keyword. event_by processors cells keyword first operands) (keyword_named name)

-- the event that a line spells, with so many processors and cells
abbrev pub event_of : ℕ → ℕ → List ℕ → Option MpEvent
event_of processors cells line = if is_plain line then event_of_words processors cells (words line) else None

-- the numbers of processors and of cells that the words of the first line spell
abbrev pub head_of_words : List (List ℕ) → Option (ℕ × ℕ)
head_of_words [] = None
head_of_words (name ∷ []) = None
head_of_words (name ∷ processors ∷ []) = None
head_of_words (name ∷ processors ∷ cells ∷ []) =
    if bytes_eq name (codes "mp") then of_two (λ n c. (n, c)) (count_of MOST_PROCESSORS processors) (count_of MOST_CELLS cells) else None
head_of_words (name ∷ processors ∷ cells ∷ more ∷ words) = None

abbrev pub head_of : List ℕ → Option (ℕ × ℕ)
head_of line = if is_plain line then head_of_words (words line) else None
