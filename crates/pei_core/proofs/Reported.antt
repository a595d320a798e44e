-- The lines of reports so far, and a part of the next one.
use Rattle.std.proofs.Common.{◌≡◌, ◌<◌, ℕ, zero, suc, List, [], ◌∷◌, ◌++◌, length, sym, ap, refl, subst, take, get_or, flat_map, arith, Option, slice_index_or}
use Rattle.std.specs.Io.KnownBytes.{Appends}
use Rattle.boot_io.specs.Sink.{AppendsPart}
use Rattle.boot_io.proofs.PutsLaws.{part_of_lines}
use Rattle.boot_model.specs.declared.line.Line.TheVariants as L
use Rattle.boot_model.specs.{Text.line_text, Text.text_of, PeiStep.report_lines}

abbrev report_text : ℕ → List ℕ
report_text volume = line_text (L.Report volume)

reports_text : (volumes : List ℕ) → text_of (report_lines volumes) ≡ flat_map report_text volumes
reports_text [] = refl
reports_text (volume ∷ volumes) = ap (λ t. line_text (L.Report volume) ++ t) (reports_text volumes)

at_same : (xs : List ℕ) (i d e : ℕ) → i < length xs → get_or xs i d ≡ get_or xs i e
at_same [] i d e h = absurd (omega (arith, h))
at_same (x ∷ xs) zero d e h = refl
at_same (x ∷ xs) (suc i) d e h = at_same xs i d e (omega (arith, h))

pub part_of_reports : (volumes : List ℕ) (i : ℕ) (old mid new : Option (List ℕ)) → i < length volumes → Appends old mid (text_of (report_lines (take i volumes))) → AppendsPart mid new (line_text (L.Report (slice_index_or volumes i 0))) → AppendsPart old new (text_of (report_lines volumes))
part_of_reports volumes i old mid new inside f part =
    let x : ℕ = slice_index_or volumes i 0 in
    subst (λ t. AppendsPart old new t) (sym (reports_text volumes))
    (part_of_lines report_text volumes i x old mid new inside (at_same volumes i 0 x inside) (subst (λ t. Appends old mid t) (reports_text (take i volumes)) f) part)
