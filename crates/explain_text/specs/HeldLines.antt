-- The lines of the modules that wait at the end of a phase: why, what the expression asks for that is not there and what is, and the GUIDs whose coming and going would make it hold.
-- PI 1.8, volume 1, "Dependency Expressions"; the lines are own.
use Rattle.std.specs.Prelude.{ℕ, Bool, false, if◌then◌else◌, nat_lt, List, [], ◌∷◌, ◌++◌, length, map, take, decimal, flat_map, Option, Some, None}
use Rattle.boot_io.specs.Line.{line_of}
use Rattle.boot_model.specs.Text.{reason_text}
use Rattle.pi_base.specs.{declared.guid.Guid.Guid, declared.known_guid.TheConstants.MEMORY_PPI, declared.phase.Phase.Phase}
use Rattle.pi_base.specs.{declared.phase.Phase.TheVariants.Pei, declared.phase.Phase.TheVariants.Dxe, Guids.same_guid, WordText.guid_text}
use Rattle.mod_catalog.specs.declared.catalogue.Module.{Module as OfModule}
use Rattle.explain_text.specs.{declared.reasons.Begun.Begun, declared.reasons.Held.Held, declared.reasons.Need.Need}
use Rattle.explain_text.specs.{declared.ways.change.Change.Change, declared.reasons.Giver.Giver, Lines.phase_text}
use Rattle.explain_text.specs.{declared.held_lines.TheConstants.MOST_TOLD, Flags.has_started, Givers.givers_from, StartLines.giver_text}
use Rattle.explain_text.specs.declared.reasons.Giver.TheVariants.{Core, Module, Absent}
use Rattle.explain_text.specs.declared.keyword.Keyword.TheVariants as K
use Rattle.explain_text.specs.Words.{word_of}

abbrev pub waits_line : Held → List ℕ
waits_line wait = line_of (word_of K.Waits) (decimal wait.number ∷ phase_text wait.phase ∷ reason_text wait.reason ∷ [])

-- a module that may install a GUID, and whether it started
abbrev pub pair_words : (ℕ → Bool) → ℕ → List (List ℕ)
pair_words started number = decimal number ∷ word_of (if started number then K.Started else K.Waits) ∷ []

-- those modules, and a word in the place of all others where they are many
abbrev pub told_words : (ℕ → Bool) → List ℕ → List (List ℕ)
told_words started numbers =
    flat_map (pair_words started) (take MOST_TOLD numbers) ++ (if nat_lt MOST_TOLD (length numbers) then word_of K.More ∷ [] else [])

-- whether the core may install a GUID: in PEI that of permanent memory, once memory has moved
abbrev pub core_gives : Phase → Guid → Bool
core_gives Pei guid = same_guid guid MEMORY_PPI
core_gives Dxe guid = false

-- the core, which has not done so yet, in front of modules
abbrev pub with_core : List (List ℕ) → List (List ℕ)
with_core words = word_of K.Core ∷ word_of K.Waits ∷ words

-- a dash where there are no words
abbrev pub or_dash : List (List ℕ) → List (List ℕ)
or_dash [] = word_of K.Dash ∷ []
or_dash (word ∷ words) = word ∷ words

-- who may install a GUID that is not there
abbrev pub lacks_words : List Begun → List OfModule → Phase → Guid → List (List ℕ)
lacks_words begun modules phase guid =
    let words = told_words (has_started begun phase) (givers_from phase guid 0 modules) in
    if core_gives phase guid then with_core words else or_dash words

-- a GUID that is not there, and who may install it; and one that somebody has installed
abbrev pub lacks_line : List Begun → List OfModule → Phase → ℕ → Guid → List ℕ
lacks_line begun modules phase number guid = line_of (word_of K.Lacks) (decimal number ∷ guid_text guid ∷ lacks_words begun modules phase guid)

abbrev pub has_line : ℕ → Guid → Giver → List ℕ
has_line number guid giver = line_of (word_of K.Has) (decimal number ∷ guid_text guid ∷ giver_text giver ∷ [])

-- what an expression asks for
abbrev pub asked_line : List Begun → List OfModule → Phase → ℕ → Guid → Giver → List ℕ
asked_line begun modules phase number guid Absent = lacks_line begun modules phase number guid
asked_line begun modules phase number guid Core = has_line number guid Core
asked_line begun modules phase number guid (Module by) = has_line number guid (Module by)

abbrev pub need_line : List Begun → List OfModule → Phase → ℕ → Need → List ℕ
need_line begun modules phase number need = asked_line begun modules phase number need.guid need.giver

-- the GUIDs that have to come: a dash where nothing has to change, and no line where only some have to go
abbrev pub would_line : ℕ → List Guid → List Guid → List ℕ
would_line number [] [] = line_of (word_of K.Would) (decimal number ∷ word_of K.Dash ∷ [])
would_line number [] (gone ∷ others) = []
would_line number (guid ∷ guids) unless = line_of (word_of K.Would) (decimal number ∷ map guid_text (guid ∷ guids))

-- those that have to go
abbrev pub unless_line : ℕ → List Guid → List ℕ
unless_line number [] = []
unless_line number (guid ∷ guids) = line_of (word_of K.Unless) (decimal number ∷ map guid_text (guid ∷ guids))

-- the change that would do, if one is known
abbrev pub change_lines : ℕ → Option Change → List ℕ
change_lines number None = []
change_lines number (Some change) = would_line number change.would change.unless ++ unless_line number change.unless

-- the lines of a module that waits
abbrev pub held_lines : List Begun → List OfModule → Held → List ℕ
held_lines begun modules wait =
    waits_line wait ++ flat_map (need_line begun modules wait.phase wait.number) wait.needs ++ change_lines wait.number wait.change
