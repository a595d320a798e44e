-- The starts that the order of lines asks for are those of which the lines tell.
use Rattle.std.proofs.Common.{◌≡◌, ℕ, ◌+◌, List, [], ◌∷◌, ◌++◌, map, Option, Some, None, refl, ap, option_to_list, option_map}
use Rattle.boot_model.specs.declared.line.Line.{Line}
use Rattle.recorded_boot.specs.{declared.order.line.AskedStart.AskedStart, declared.order.line.Start.Start}
use Rattle.recorded_boot.specs.{Order.asked_at, Order.asked_from, Starts.start_of, Starts.starts}

pub same_starts : (number : ℕ) (lines : List Line) → map (λ (one : AskedStart). one.start) (asked_from number lines) ≡ starts lines
same_starts number [] = refl
same_starts number (line ∷ rest) = by (start_of line) (same_starts (number + 1) rest)
  where
    asks : List AskedStart → List Start
    asks asked = map (λ (one : AskedStart). one.start) asked

    by : (o : Option Start) → asks (asked_from (number + 1) rest) ≡ starts rest → asks (option_to_list (option_map (asked_at number) o) ++ asked_from (number + 1) rest) ≡ option_to_list o ++ starts rest
    by None same = same
    by (Some start) same = ap (λ list. start ∷ list) same
