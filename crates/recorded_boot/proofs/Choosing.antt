-- The choice of a PEIM by a text.
use Rattle.std.proofs.Common.{◌≡◌, ℕ, true, List, [], ◌∷◌, ◌++◌, Option, Some, None, refl, sym, ap, ◌∙◌, subst, inl, inr, length, ◌⊎◌, slice_get}
use Rattle.std.proofs.lemmas.Bool.Decides.{eqb_tells}
use Rattle.pi_base.specs.{declared.guid.Guid.Guid, declared.phase.Phase.TheVariants.Pei, declared.word.Word.TheVariants.Success}
use Rattle.mod_catalog.specs.{declared.catalogue.Catalog.Catalog, declared.catalogue.Part.Part, Parts.has_number, Parts.part_at}
use Rattle.mod_catalog.specs.WellFormed.{IsWellFormed}
use Rattle.boot_model.specs.{declared.line.Line.Line, Eligible.licence_at, FreeRun.AreFreePeiLines, FreeRun.MayStart}
use Rattle.boot_model.specs.declared.line.Line.TheVariants as L
use Rattle.boot_model.specs.{PeiChoice.next_peim, PeiChoice.pei_order, PeiMachine.PeiMachine, Text.line_text, Text.text_of}
use Rattle.boot_model.specs.PeiStep.{start_lines, started, started_part}
use Rattle.boot_laws.specs.{PeiAim.IsAimable, PeiAim.with_cursor, PeiFree.AreLinesBehind, PeiFree.AreLinesOfStart, PeiUnderWay.IsUnderWay}
use Rattle.recorded_boot.specs.{declared.trace.spelled.Spelled.Spelled, Putting.PartsByLine, Named.AreGuids, Named.AreNames}
use Rattle.recorded_boot.specs.Spelled.{IsHeld, IsRight, left}
use Rattle.recorded_boot.proofs.{Telling.held_left, Facts.IsPartOfModule, Facts.part_of_module, Lines.begins_with_line, Lines.body}
use Rattle.trace_reader.proofs.LineBodies.{body_lacks}
use Rattle.pei_dispatch.specs.Choices.{IsPlaceFor}
use Rattle.recorded_boot.specs.Starting.{IsAimedAt, NamesNext, StartsNext, start_of}

-- what is printed of a start: its line first
pub record PrintsStart (catalog : Catalog) (m : PeiMachine) (number : ℕ) : Type 0 where
  pub part : IsPartOfModule catalog number
  pub more : List Line
  pub lines : (started catalog m number).lines ≡ m.lines ++ start_of Pei catalog number (licence_at m number part.part) ∷ more

prints_by : (catalog : Catalog) (m : PeiMachine) (number : ℕ) (part : Part) (o : Option Part) → o ≡ Some part → (more : List Line) × ((started_part catalog m number o).lines ≡ m.lines ++ start_of Pei catalog number (licence_at m number part) ∷ more)
prints_by catalog m number part None e = cc
prints_by catalog m number part (Some other) e =
    let same : other ≡ part = cc in
    subst (λ (x : Part). (more : List Line) × ((started_part catalog m number (Some other)).lines ≡ m.lines ++ start_of Pei catalog number (licence_at m number x) ∷ more)) same (by other.script.blocks)
  where
    by : (blocks : _) → (more : List Line) × (m.lines ++ start_lines (start_of Pei catalog number (licence_at m number other)) blocks ≡ m.lines ++ start_of Pei catalog number (licence_at m number other) ∷ more)
    by [] = (L.End Success ∷ [], refl)
    by (block ∷ blocks) = ([], refl)

pub prints_start : (catalog : Catalog) (m : PeiMachine) (number : ℕ) → IsWellFormed catalog → AreGuids catalog → IsUnderWay catalog m → MayStart catalog m number → PrintsStart catalog m number
prints_start catalog m number well guids way may =
    let part = part_of_module catalog m number well guids way may.1 in
    let lines = prints_by catalog m number part.part (part_at Pei catalog number) part.found in
    record { part = part; more = lines.0; lines = lines.1 }

-- the place at which the text aims
pub aimed_at : (catalog : Catalog) (names : List (List (Guid × ℕ))) (text : Spelled) (order : List ℕ) (cursor place : ℕ) (named : Option ℕ) → NamesNext Pei names text named → IsRight text → AreNames catalog (length catalog.modules) names
    → IsPlaceFor order cursor named place → IsAimedAt catalog (left text) order place
aimed_at catalog names text order cursor place named next right are at number starts among = by named (next right catalog are number starts) at
  where
    by : (o : Option ℕ) → o ≡ Some number → IsPlaceFor order cursor o place → slice_get order place ≡ Some number
    by None e is = cc
    by (Some n) e is =
        let same : n ≡ number = cc in
        subst (λ k. slice_get order place ≡ Some k) same (is.0 (subst (λ k. has_number order k ≡ true) (sym same) among))

-- A machine that chooses, with its cursor put by the text.
pub record Choice : Type 0 where
  pub catalog : Catalog
  pub fuel : ℕ
  pub m : PeiMachine
  pub cursor : ℕ
  pub s : Spelled
  pub text : List ℕ
  pub number : ℕ

pub record IsChoice (c : Choice) : Type 0 where
  pub well : IsWellFormed c.catalog
  pub guids : AreGuids c.catalog
  pub way : IsUnderWay c.catalog c.m
  pub held : IsHeld c.s c.text (text_of c.m.lines)
  pub aimed : IsAimedAt c.catalog (left c.s) (pei_order c.catalog c.m.reported) c.cursor
  pub aims : IsAimable c.catalog c.m c.cursor
  pub found : next_peim c.catalog (with_cursor c.m c.cursor) ≡ Some c.number

-- what the text starts next, where it may start, is what is chosen
only_next : (c : Choice) (other : ℕ) → IsChoice c → MayStart c.catalog c.m other → StartsNext Pei c.catalog (left c.s) other → other ≡ c.number
only_next c other is may next =
    let there = is.aimed other next may.0 in
    let chosen : next_peim c.catalog (with_cursor c.m c.cursor) ≡ Some other = is.aims.aimed other there may.1 in
    let both : Some other ≡ Some c.number = sym chosen ∙ is.found in
    cc

-- each boot from here goes on from the start that is chosen, or its next line is not the text's
pub each_start : (c : Choice) (lines : List Line) → IsChoice c → ((lines : List Line) → AreFreePeiLines c.catalog c.fuel c.m lines → AreLinesOfStart c.catalog c.fuel c.m lines)
    → ((m : PeiMachine) (lines : List Line) → AreFreePeiLines c.catalog c.fuel m lines → AreLinesBehind m.lines lines) → AreFreePeiLines c.catalog c.fuel c.m lines
    → AreFreePeiLines c.catalog c.fuel (started c.catalog c.m c.number) lines ⊎ PartsByLine c.text (text_of c.m.lines) lines
each_start c lines is starts grow free =
    let one = starts lines free in
    let other = one.0 in
    let may = one.1 in
    elim (eqb_tells other c.number) [
      | inl same ↦ inl (subst (λ n. AreFreePeiLines c.catalog c.fuel (started c.catalog c.m n) lines) same.1 one.2)
      | inr apart ↦
          let prints = prints_start c.catalog c.m other is.well is.guids is.way may in
          let licence = licence_at c.m other prints.part.part in
          let line = start_of Pei c.catalog other licence in
          let behind = grow (started c.catalog c.m other) lines one.2 in
          let all : lines ≡ (c.m.lines ++ line ∷ prints.more) ++ behind.rest = behind.printed_first ∙ ap (λ xs. xs ++ behind.rest) prints.lines in
          inr (record {
            line = body line;
            lacks = body_lacks line (prints.part.readable licence);
            prints = begins_with_line c.m.lines prints.more lines line behind.rest all;
            other = λ p. apart.1 (only_next c other is may (record { licence = licence; named = prints.part.named; readable = prints.part.readable licence; next = held_left c.s c.text (text_of c.m.lines) (line_text line) is.held p }));
          })
    ]
