-- The lines of the stop, driver by driver, and how far they were put.
use Rattle.std.proofs.Common.{◌≡◌, ℕ, Bool, true, false, cond, List, [], ◌∷◌, ◌++◌, Option, refl, ap, ◌∙◌, subst, map, Result, filter, flat_map}
use Rattle.std.specs.Io.KnownBytes.{Appends}
use Rattle.boot_io.proofs.PutsLaws.{part_of_more}
use Rattle.boot_io.specs.{declared.sink.SinkFault.SinkFault, Sink.Puts, Sink.AppendsPart}
use Rattle.mod_catalog.specs.declared.catalogue.Catalog.{Catalog}
use Rattle.boot_model.specs.{declared.line.Line.Line, DxeChoice.is_waiting, DxeChoice.discovered_order, DxeMachine.DxeMachine}
use Rattle.boot_model.specs.declared.line.Line.TheVariants as L
use Rattle.boot_model.specs.{DxeStep.driver_waiting_line, DxeStep.driver_waiting_lines, Text.line_text, Text.text_of}
use Rattle.dxe_dispatch.specs.{Turns.stop_lines, Waiting.line_where, Waiting.waiting_lines_of}
use Rattle.boot_trace.proofs.Lines.{line_then}

one_more : (b : Bool) (line : ℕ → Line) (number : ℕ) (numbers : List ℕ) (rest : List Line) → rest ≡ map line numbers → line_where b (line number) ++ rest ≡ map line (cond b (number ∷ numbers) numbers)
one_more true line number numbers rest e = ap (λ lines. line number ∷ lines) e
one_more false line number numbers rest e = e

-- the lines of those that wait
lines_where : (waits : ℕ → Bool) (line : ℕ → Line) (numbers : List ℕ) → flat_map (λ number. line_where (waits number) (line number)) numbers ≡ map line (filter waits numbers)
lines_where waits line [] = refl
lines_where waits line (number ∷ numbers) =
    one_more (waits number) line number (filter waits numbers) (flat_map (λ n. line_where (waits n) (line n)) numbers) (lines_where waits line numbers)

-- a call that puts the lines of the drivers behind the line of the stop
pub stop_puts : (r : Result (Unit {0}) SinkFault) (old mid new : Option (List ℕ)) (catalog : Catalog) (m : DxeMachine) (numbers : List ℕ) → numbers ≡ discovered_order catalog m
    → Appends old mid (line_text L.DxeStop) → Puts r mid new (text_of (waiting_lines_of catalog m numbers)) → Puts r old new (text_of (stop_lines catalog m))
stop_puts r old mid new catalog m numbers is first puts =
    let P : List Line → Type 0 = λ lines. Puts r mid new (text_of lines) in
    let whole : waiting_lines_of catalog m numbers ≡ driver_waiting_lines catalog m = ap (waiting_lines_of catalog m) is ∙ lines_where (is_waiting m) (driver_waiting_line catalog m) (discovered_order catalog m) in
    line_then r old mid new L.DxeStop (driver_waiting_lines catalog m) first (subst P whole puts)

-- the first line alone fails
pub fails_first : (old new : Option (List ℕ)) (rest : List Line) → AppendsPart old new (line_text L.DxeStop) → AppendsPart old new (text_of (L.DxeStop ∷ rest))
fails_first old new rest p = part_of_more old new (line_text L.DxeStop) (text_of rest) p
