-- What a file is that is handed in for another one, as far as its bytes and the beginnings of its lines show (own).
use Rattle.std.specs.Prelude.{ℕ, Bool, not, ◌&&◌, ◌||◌, nat_le, nat_lt, if◌then◌else◌, List, Option, Some, None, codes, drop, length}
use Rattle.line_words.specs.Line.{lines}
use Rattle.program_edge.specs.BootStory.{count_behind, has_front}
use Rattle.program_edge.specs.declared.file_kind.FileKind.{FileKind}
use Rattle.program_edge.specs.declared.file_kind.FileKind.TheVariants.{Image, Log, VolumeText, Plan, Trace}

-- a line of the text begins so
abbrev pub begins_a_line : List ℕ → List ℕ → Bool
begins_a_line text front = nat_lt 0 (count_behind front (lines text))

-- a line begins in one of two ways
abbrev pub begins_either : List ℕ → List ℕ → List ℕ → Bool
begins_either text one other = begins_a_line text one || begins_a_line text other

-- a firmware volume begins the bytes, alone or as an image's first one
abbrev pub is_image : List ℕ → Bool
is_image bytes = nat_le 44 (length bytes) && has_front (codes "_FVH") (drop 40 bytes)

-- the text says that modules are loaded
abbrev pub has_loading : List ℕ → Bool
has_loading text = begins_either text (codes "Loading PEIM ") (codes "Loading driver ")

-- the text says that something is installed
abbrev pub has_installing : List ℕ → Bool
has_installing text = begins_either text (codes "InstallProtocolInterface: ") (codes "Install PPI: ")

-- the debug log of a boot has lines of one or the other
abbrev pub is_log : List ℕ → Bool
is_log text = has_loading text || has_installing text

-- a plan has temporary RAM and RAM
abbrev pub is_plan : List ℕ → Bool
is_plan text = begins_a_line text (codes "temp ") && begins_a_line text (codes "ram ")

-- the text of a volume has a volume and its end, and is no plan
abbrev pub is_volume_text : List ℕ → Bool
is_volume_text text = begins_a_line text (codes "volume ") && begins_a_line text (codes "end") && not (begins_a_line text (codes "temp "))

-- a trace reports a volume, and then says how PEI goes on
abbrev pub is_trace : List ℕ → Bool
is_trace text = begins_a_line text (codes "report ") && begins_a_line text (codes "pei ")

-- what the bytes show, the first of these; nothing else is known of them
abbrev pub kind_of_file : List ℕ → Option FileKind
kind_of_file bytes =
    if is_image bytes then Some Image
    else if is_log bytes then Some Log
    else if is_plan bytes then Some Plan
    else if is_volume_text bytes then Some VolumeText
    else if is_trace bytes then Some Trace
    else None
