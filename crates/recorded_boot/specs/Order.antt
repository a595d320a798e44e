-- The order of the starts among printed lines.
-- Own.
use Rattle.std.specs.Prelude.{◌≡◌, ℕ, List, None, flat_map, map, option_map, option_to_list}
use Rattle.std.specs.List.{enumerate_from}
use Rattle.boot_model.specs.declared.line.Line.{Line}
use Rattle.recorded_boot.specs.{declared.order.line.AskedStart.AskedStart, declared.order.line.Start.Start}
use Rattle.recorded_boot.specs.{declared.order.lines.StartOrder.StartOrder, Starts.start_of, Starts.starts}

-- a start, as the line with this number asks for it
abbrev pub asked_at : ℕ → Start → AskedStart
asked_at number start = record { line = number; start = start }

-- what the line with its number asks for, if it is a start line
abbrev pub asked_in : ℕ × Line → List AskedStart
asked_in numbered = option_to_list (option_map (asked_at numbered.0) (start_of numbered.1))

-- what lines ask for, of which the first has this number
abbrev pub asked_from : ℕ → List Line → List AskedStart
asked_from number lines = flat_map asked_in (enumerate_from number lines)

-- each start among the lines, with the number of its line, from 1; after the last of them the boot continues
abbrev pub order_of : List Line → StartOrder
order_of lines = record { starts = asked_from 1 lines; stop = None }

-- the order asks for exactly the starts among the lines
abbrev pub OrderIsOfStarts : Type 0
OrderIsOfStarts = (lines : List Line) → map (λ (one : AskedStart). one.start) (order_of lines).starts ≡ starts lines
