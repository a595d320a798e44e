-- What is printed of commands and of the map (own): a line is a keyword and words with a space between. Addresses and lengths are hexadecimal, lines and offsets decimal.
use Rattle.std.specs.Prelude.{ℕ, Bool, true, false, List, [], ◌∷◌, codes, decimal, flat_map}
use Rattle.pi_base.specs.WordText.{hexadecimal}
use Rattle.boot_io.specs.Line.{line_of}
use Rattle.gcd_map.specs.{declared.state.GcdKind.GcdKind, declared.range.GcdRange.GcdRange, declared.word.GcdWord.GcdWord}
use Rattle.gcd_map.specs.declared.state.GcdKind.TheVariants.{NonExistent, Reserved, System, Mmio}
use Rattle.gcd_map.specs.declared.word.GcdWord.TheVariants as W
use Rattle.gcd_map.specs.{declared.fault.GcdCause.GcdCause, declared.fault.GcdFault.GcdFault, declared.command.Command.Command}
use Rattle.gcd_map.specs.declared.fault.GcdCause.TheVariants as C
use Rattle.gcd_map.specs.declared.command.Command.TheVariants.{Add, Allocate, Top, Free, Remove}
use Rattle.gcd_map.specs.declared.perform.Answer.{Answer}
use Rattle.gcd_map.specs.declared.perform.Answer.TheVariants.{Done, At, Refused}

unfoldable pub kind_text : GcdKind → List ℕ
kind_text NonExistent = codes "nonexistent"
kind_text Reserved = codes "reserved"
kind_text System = codes "system"
kind_text Mmio = codes "mmio"

-- whether memory is allocated
unfoldable pub state_text : Bool → List ℕ
state_text true = codes "allocated"
state_text false = codes "free"

unfoldable pub refusal_text : GcdWord → List ℕ
refusal_text W.InvalidParameter = codes "InvalidParameter"
refusal_text W.Unsupported = codes "Unsupported"
refusal_text W.AccessDenied = codes "AccessDenied"
refusal_text W.NotFound = codes "NotFound"
refusal_text W.Memory = codes "Memory"

unfoldable pub cause_text : GcdCause → List ℕ
cause_text C.Short = codes "Short"
cause_text C.Length = codes "Length"
cause_text C.Form = codes "Form"
cause_text C.NoEnd = codes "NoEnd"
cause_text C.Memory = codes "Memory"
cause_text C.NoCpu = codes "NoCpu"
cause_text C.Bits = codes "Bits"
cause_text C.Range = codes "Range"
cause_text C.Overlap = codes "Overlap"
cause_text C.Outside = codes "Outside"

-- the name of a command
unfoldable pub name_text : Command → List ℕ
name_text (Add kind base len) = codes "add"
name_text (Allocate kind base len) = codes "allocate"
name_text (Top kind align len) = codes "top"
name_text (Free base len) = codes "free"
name_text (Remove base len) = codes "remove"

unfoldable pub success : List ℕ
success = codes "Success"

-- the words of an answer
abbrev pub answer_words : Answer → List (List ℕ)
answer_words Done = success ∷ []
answer_words (At base) = success ∷ hexadecimal base ∷ []
answer_words (Refused word) = refusal_text word ∷ []

-- the line of a command and its answer
abbrev pub answer_line : Command × Answer → List ℕ
answer_line done = line_of (name_text done.0) (answer_words done.1)

unfoldable pub range_keyword : List ℕ
range_keyword = codes "range"

-- the line of a range
abbrev pub range_line : GcdRange → List ℕ
range_line range = line_of range_keyword (hexadecimal range.base ∷ hexadecimal range.len ∷ kind_text range.kind ∷ state_text range.allocated ∷ [])

-- commands with their answers, in order
abbrev pub answers_text : List (Command × Answer) → List ℕ
answers_text done = flat_map answer_line done

-- the map
abbrev pub map_text : List GcdRange → List ℕ
map_text ranges = flat_map range_line ranges

unfoldable pub refused_hobs : List ℕ
refused_hobs = codes "refused hobs"

-- the line of a HOB list's fault
abbrev pub hobs_refusal : GcdFault → List ℕ
hobs_refusal fault = line_of refused_hobs (cause_text fault.cause ∷ decimal fault.at ∷ [])

unfoldable pub refused_command : List ℕ
refused_command = codes "refused command"

-- the line of a text's first line that is no command's
abbrev pub command_refusal : ℕ → List ℕ
command_refusal number = line_of refused_command (decimal number ∷ [])
