-- What is printed of an order of starts that has a line of no form, and after the lines of a boot in an order. Own.
use Rattle.std.specs.Prelude.{ℕ, List, [], ◌∷◌, ◌++◌, Option, Some, None, codes, decimal, flat_map}
use Rattle.boot_io.specs.Line.{line_of, spaced}
use Rattle.pi_base.specs.{declared.guid.Guid.Guid, WordText.guid_text}
use Rattle.recorded_boot.specs.{declared.follow.against.Against.Against, declared.follow.followed.Followed.Followed}
use Rattle.recorded_boot.specs.declared.follow.against.Against.TheVariants.{Unknown, Started, NotEligible}
use Rattle.recorded_boot.specs.declared.follow.followed.Followed.TheVariants.{Ended, Stopped, No}
use Rattle.recorded_boot.specs.{declared.order.line.Start.Start, declared.passes.Passed.Passed}
use Rattle.recorded_boot.specs.declared.passes.Passed.TheVariants as P
use Rattle.tools_core.specs.Refusals.{no_line, no_text}

unfoldable pub refused_order : List ℕ
refused_order = codes "refused order"

unfoldable pub stop_text : List ℕ
stop_text = codes "stop"

unfoldable pub unknown_text : List ℕ
unknown_text = codes "unknown"

unfoldable pub started_text : List ℕ
started_text = codes "started"

unfoldable pub not_eligible_text : List ℕ
not_eligible_text = codes "not eligible"

-- an order whose line of this number has no form
abbrev pub order_line : ℕ → List ℕ
order_line line = line_of refused_order (decimal line ∷ [])

-- a GUID after a space
abbrev pub guid_word : Guid → List ℕ
guid_word guid = spaced (guid_text guid)

-- why a start is not possible
abbrev pub against_line : Against → List ℕ
against_line Unknown = line_of unknown_text []
against_line Started = line_of started_text []
against_line (NotEligible guids) = (not_eligible_text ++ flat_map guid_word guids) ++ 10 ∷ []

-- what is printed after the lines of a boot that ended this way
abbrev pub last_text : Followed → List ℕ
last_text (Ended end) = []
last_text Stopped = line_of stop_text []
last_text (No line against) = no_line line ++ against_line against

-- the driver whose turn it is in the order of EDK2's dispatchers, if it is anybody's
unfoldable pub in_dxe_text : List ℕ
in_dxe_text = codes "dxe"

abbrev pub start_words : Option Start → List (List ℕ)
start_words None = []
start_words (Some start) = in_dxe_text ∷ decimal start.volume ∷ guid_text start.name ∷ []

-- and what is printed behind the lines of a boot in that order
abbrev pub passed_text : Passed → List ℕ
passed_text (P.Ended end) = []
passed_text (P.No turn) = line_of no_text (start_words turn.start) ++ against_line (NotEligible turn.lacks)
