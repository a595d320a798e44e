-- What a turn leaves, from what its parts leave.
use Rattle.std.proofs.Common.{◌≡◌, ◌<◌, ℕ, ◌+◌, ◌-◌, ◌^◌, List, [], ◌∷◌, ◌++◌, None, refl, ap, ◌∙◌, length, arith, inl, inr, ◌⊎◌, min, length-append}
use Rattle.boot_io.specs.Faults.{IsPrefix, Rose}
use Rattle.mod_catalog.specs.declared.catalogue.Catalog.{Catalog}
use Rattle.boot_model.specs.{declared.line.Line.Line, FreeRun.AreFreePeiLines, PeiMachine.PeiMachine, PeiStep.case_of, PeiStep.pei_step}
use Rattle.boot_model.specs.Text.{text_of}
use Rattle.boot_laws.specs.PeiFree.{AreLinesBehind, IsOwnCase, OwnPeiStepsAreFree, PeiEndsFreely, PeiGoesOn, PeiLinesGrow}
use Rattle.recorded_boot.specs.Fronts.{EndsLine}
use Rattle.recorded_boot.specs.Putting.{PartsByLine, PutsGoOn, PutsPart}
use Rattle.recorded_boot.proofs.Telling.{not_parted}
use Rattle.recorded_boot.proofs.Lines.{begins_with, ends_after, lines_end}

-- a sink that failed once is not right
pub not_right : (before now : ℕ) → before ≡ 0 → Rose before now → now ≡ 0 → ⊥
not_right before now none rose is =
    let least : min (before + 1) (2 ^ 64 - 1) ≡ 1 = ap (λ n. min (n + 1) (2 ^ 64 - 1)) none in
    omega (arith, least, rose, is)

-- the free boots from a machine are those from a later one, which has printed more
pub record LeadsOn (catalog : Catalog) (fuel : ℕ) (text : List ℕ) (m later : PeiMachine) (told : List Line) : Type 0 where
  pub lines : later.lines ≡ m.lines ++ told
  pub back : (all : List Line) → AreFreePeiLines catalog fuel later all → AreFreePeiLines catalog fuel m all
  pub on : (all : List Line) → AreFreePeiLines catalog fuel m all → AreFreePeiLines catalog fuel later all ⊎ PartsByLine text (text_of m.lines) all

-- each boot from the later machine has printed it
pub prints_on : (m later : PeiMachine) (told all : List Line) → later.lines ≡ m.lines ++ told → AreLinesBehind later.lines all → IsPrefix (text_of m.lines ++ text_of told) (text_of all)
prints_on m later told all lines behind = begins_with m.lines told all behind.rest (behind.printed_first ∙ ap (λ xs. xs ++ behind.rest) lines)

-- of the boots from here those that print this go on from the later machine
abbrev pub GoOnFrom : Catalog → ℕ → List ℕ → PeiMachine → PeiMachine → List Line → Type 0
GoOnFrom catalog fuel text m later told =
    IsPrefix (text_of m.lines ++ text_of told) text → (all : List Line) → AreFreePeiLines catalog fuel m all → IsPrefix (text_of m.lines ++ text_of told) (text_of all) → AreFreePeiLines catalog fuel later all

longer : (front rest : List ℕ) → EndsLine rest → length front < length (front ++ rest)
longer front rest e =
    let all : length (front ++ rest) ≡ length front + length rest = length-append front rest in
    let some : length rest ≡ length e.0 + 1 = ap length e.1 ∙ length-append e.0 (10 ∷ []) in
    omega (arith, all, some)

-- lines that were met are those of no boot that parts from the text by a line
pub go_on_by_lines : (catalog : Catalog) (fuel : ℕ) (text : List ℕ) (m later : PeiMachine) (line : Line) (more : List Line) → LeadsOn catalog fuel text m later (line ∷ more) → GoOnFrom catalog fuel text m later (line ∷ more)
go_on_by_lines catalog fuel text m later line more leads stands all free begins = by (leads.on all free)
  where
    by : AreFreePeiLines catalog fuel later all ⊎ PartsByLine text (text_of m.lines) all → AreFreePeiLines catalog fuel later all
    by (inl there) = there
    by (inr parts) =
        let printed = text_of m.lines in
        let ends = lines_end line more in
        let told = text_of (line ∷ more) in
        absurd (not_parted text printed all (printed ++ told) parts (told, refl) stands (ends_after printed told ends) (longer printed told ends) begins)

-- The laws of free boots that a turn stands on.
pub record Laws : Type 0 where
  pub goes : PeiGoesOn
  pub own : OwnPeiStepsAreFree
  pub grow : PeiLinesGrow
  pub ends : PeiEndsFreely
  pub puts : PutsGoOn
  pub parts : PutsPart

-- a step of the machine's own, where it has no choice
pub own_leads : (laws : Laws) (catalog : Catalog) (fuel : ℕ) (text : List ℕ) (m : PeiMachine) (told : List Line) → m.ended ≡ None → IsOwnCase (case_of catalog m) → (pei_step catalog fuel m).lines ≡ m.lines ++ told → LeadsOn catalog fuel text m (pei_step catalog fuel m) told
own_leads laws catalog fuel text m told running own lines =
    let same = laws.goes catalog fuel m running own in
    record { lines = lines; back = λ all free. (same all).1 free; on = λ all free. inl ((same all).0 free) }
