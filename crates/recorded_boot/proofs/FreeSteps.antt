-- The free boots from a machine and those from its next one, by the line with which the text goes on.
use Rattle.std.proofs.Common.{◌≡◌, ◌⊎◌, ℕ, ◌==◌, Bool, true, false, List, [], ◌∷◌, ◌++◌, Some, None, refl, sym, ap, ◌∙◌, subst, append_assoc, inl, inr, is_some, arith}
use Rattle.pi_base.specs.declared.phase.Phase.TheVariants.{Dxe}
use Rattle.boot_io.specs.Faults.{IsPrefix}
use Rattle.mod_catalog.specs.{declared.catalogue.Catalog.Catalog, Parts.part_at}
use Rattle.boot_model.specs.{declared.driver.Scheduled.Scheduled, declared.line.Line.Line, DxeMachine.DxeMachine}
use Rattle.boot_model.specs.DxeStep.{dxe_case_of, dxe_start_line, dxe_step}
use Rattle.boot_model.specs.{FreeRun.AreFreeDxeLines, FreeRun.MaySchedule, PeiMachine.PeiMachine, Text.line_text, Text.text_of}
use Rattle.boot_model.proofs.Texts.{text_of-append}
use Rattle.std.proofs.lemmas.Bool.Decides.{nat_tests}
use Rattle.boot_laws.proofs.PartLists.{is_equal}
use Rattle.boot_laws.specs.DxeAim.{AimIsFree, DxeStartsFreely, FirstEligibleMayStart, GroupsAreAimed, IsChoosing, aimed}
use Rattle.boot_laws.specs.DxeFree.{DxeGoesOn, DxeLinesGrow, IsOwnCase}
use Rattle.boot_laws.specs.DxeUnderWay.{IsUnderWay}
use Rattle.recorded_boot.specs.{Fronts.Tracks, Putting.AllPrint, Putting.PartsByLine, DxeAim.LeadsTo, DxeFollowed.printed_by}
use Rattle.recorded_boot.proofs.TextFronts.{has_line, prefix_then, same_behind}
use Rattle.trace_reader.specs.Readable.{IsReadable}
use Rattle.trace_reader.proofs.LineBodies.{body_lacks}
use Rattle.dxe_dispatch.proofs.FirstStarts.{StartsFirst, aimed_owns, starts_first}
use Rattle.recorded_boot.proofs.Lines.{body, lines_end}

-- the start of a driver is a readable line
abbrev pub AreReadable : Catalog → Type 0
AreReadable catalog = (next : Scheduled) → is_some (part_at Dxe catalog next.module_number) ≡ true → IsReadable (dxe_start_line catalog next.module_number next.licence)

-- a line was printed, or more
abbrev pub PrintsMore : DxeMachine → DxeMachine → Type 0
PrintsMore m later = (first : Line) × (rest : List Line) × (later.lines ≡ m.lines ++ first ∷ rest)

-- the free boots from the later machine are those from this one that print the text's next line; each other one prints a line that is not the text's
pub record IsByText (catalog : Catalog) (fuel : ℕ) (pei : PeiMachine) (m later : DxeMachine) (text : List ℕ) : Type 0 where
  pub back : (lines : List Line) → AreFreeDxeLines catalog fuel pei later lines → AreFreeDxeLines catalog fuel pei m lines
  pub each : (lines : List Line) → AreFreeDxeLines catalog fuel pei m lines → AreFreeDxeLines catalog fuel pei later lines ⊎ (PartsByLine text (printed_by pei m) lines × PrintsMore m later)

-- the text of more lines
pub printed_more : (pei : PeiMachine) (m later : DxeMachine) (told : List Line) → later.lines ≡ m.lines ++ told → printed_by pei later ≡ printed_by pei m ++ text_of told
printed_more pei m later told is = ap (λ lines. text_of (pei.lines ++ lines)) is ∙ ap text_of (sym (append_assoc pei.lines m.lines told)) ∙ text_of-append (pei.lines ++ m.lines) told

-- the lines of a free boot begin with those that were printed
pub begins_printed : (catalog : Catalog) (fuel : ℕ) (pei : PeiMachine) (m : DxeMachine) (lines : List Line) → DxeLinesGrow → AreFreeDxeLines catalog fuel pei m lines → IsPrefix (printed_by pei m) (text_of lines)
begins_printed catalog fuel pei m lines grow are =
    let behind = grow catalog fuel pei m lines are in (text_of behind.rest, ap text_of behind.printed_first ∙ text_of-append (pei.lines ++ m.lines) behind.rest)

-- where there is no choice
pub by_own_step : (catalog : Catalog) (fuel : ℕ) (pei : PeiMachine) (m : DxeMachine) (text : List ℕ) → DxeGoesOn → m.ended ≡ None → IsOwnCase (dxe_case_of catalog m) m.scheduled → IsByText catalog fuel pei m (dxe_step catalog fuel m) text
by_own_step catalog fuel pei m text on going own = record { back = λ lines are. (on catalog fuel pei m going own lines).1 are; each = λ lines are. inl ((on catalog fuel pei m going own lines).0 are) }

-- A boot that starts the group of another driver prints a start that is not the text's: else the text's next line would have led to that driver.
another_parts : (catalog : Catalog) (fuel : ℕ) (pei : PeiMachine) (m : DxeMachine) (root other : ℕ) (text left : List ℕ) (lines : List Line) → DxeLinesGrow → StartsFirst catalog fuel m other → AreReadable catalog
    → text ≡ printed_by pei m ++ left → LeadsTo catalog m left (Some root) → MaySchedule catalog m other → (root == other) ≡ false → AreFreeDxeLines catalog fuel pei (dxe_step catalog fuel (aimed catalog m other)) lines
    → PartsByLine text (printed_by pei m) lines
another_parts catalog fuel pei m root other text left lines grow s readable whole leads may apart are = record {
  line = body start;
  lacks = body_lacks start (readable s.first s.driver);
  prints = prints;
  other = other_line;
}
  where
    start : Line
    start = dxe_start_line catalog s.first.module_number s.first.licence

    printed : List ℕ
    printed = printed_by pei m

    later : DxeMachine
    later = dxe_step catalog fuel (aimed catalog m other)

    more : printed_by pei later ≡ printed ++ (line_text start ++ text_of s.rest)
    more = printed_more pei m later (start ∷ s.rest) s.lines

    prints : IsPrefix (printed ++ line_text start) (text_of lines)
    prints = prefix_then (printed ++ line_text start) (printed_by pei later) (text_of lines)
        (text_of s.rest, more ∙ sym (append_assoc printed (line_text start) (text_of s.rest))) (begins_printed catalog fuel pei later lines grow are)

    unequal : Some root ≡ Some other → ⊥
    unequal e = let same : root ≡ other = cc in let yes : (other == other) ≡ true = grind (arith, nat_tests) in let no : (other == other) ≡ false = ap (λ n. n == other) (sym same) ∙ apart in cc

    other_line : IsPrefix (printed ++ line_text start) text → ⊥
    other_line p =
        let goes : left ≡ line_text start ++ p.0 = same_behind printed left (line_text start ++ p.0) (sym whole ∙ p.1 ∙ append_assoc printed (line_text start) p.0) in
        unequal (leads other s.first s.others may s.group (record { more = p.0; is = goes }))

-- the choice of a driver to which the text's next line leads, if it leads to any
pub by_aimed_step : (catalog : Catalog) (fuel : ℕ) (pei : PeiMachine) (m : DxeMachine) (root : ℕ) (text left : List ℕ) → DxeGoesOn → DxeStartsFreely → AimIsFree → FirstEligibleMayStart → GroupsAreAimed → DxeLinesGrow
    → AreReadable catalog
    → IsChoosing m → MaySchedule catalog m root → IsUnderWay catalog m → text ≡ printed_by pei m ++ left → LeadsTo catalog m left (Some root) → IsByText catalog fuel pei m (dxe_step catalog fuel (aimed catalog m root)) text
by_aimed_step catalog fuel pei m root text left on starts aims first groups grow readable choosing may way whole leads = record {
  back = λ lines are. aims catalog fuel pei m root choosing may lines ((on catalog fuel pei (aimed catalog m root) choosing.going own lines).1 are);
  each = λ lines are.
      let other = starts catalog fuel pei m choosing (λ none. (first catalog m).none root none may) lines are in
      by lines other.0 other.1 other.2 (root == other.0) refl;
}
  where
    s : StartsFirst catalog fuel m root
    s = starts_first catalog fuel m root groups choosing may way

    own : IsOwnCase (dxe_case_of catalog (aimed catalog m root)) (aimed catalog m root).scheduled
    own = aimed_owns catalog fuel m root s

    by : (lines : List Line) (other : ℕ) → MaySchedule catalog m other → AreFreeDxeLines catalog fuel pei (aimed catalog m other) lines → (b : Bool) → (root == other) ≡ b
        → AreFreeDxeLines catalog fuel pei (dxe_step catalog fuel (aimed catalog m root)) lines ⊎ (PartsByLine text (printed_by pei m) lines × PrintsMore m (dxe_step catalog fuel (aimed catalog m root)))
    by lines other free are true e =
        let same : AreFreeDxeLines catalog fuel pei (aimed catalog m root) lines = subst (λ n. AreFreeDxeLines catalog fuel pei (aimed catalog m n) lines) (sym (is_equal root other e)) are in
        inl ((on catalog fuel pei (aimed catalog m root) choosing.going own lines).0 same)
    by lines other free are false e =
        let t = starts_first catalog fuel m other groups choosing free way in
        let later = (on catalog fuel pei (aimed catalog m other) choosing.going (aimed_owns catalog fuel m other t) lines).0 are in
        inr (another_parts catalog fuel pei m root other text left lines grow t readable whole leads free e later, (_, s.rest, s.lines))

-- where the text goes on with all that the later machine printed, the free boots from there are those whose text begins so
pub tracks_by : (catalog : Catalog) (fuel : ℕ) (pei : PeiMachine) (m later : DxeMachine) (text : List ℕ) (told : List Line) → later.lines ≡ m.lines ++ told → IsByText catalog fuel pei m later text → IsPrefix (printed_by pei later) text
    → Tracks (AreFreeDxeLines catalog fuel pei m) (AreFreeDxeLines catalog fuel pei later) (printed_by pei later)
tracks_by catalog fuel pei m later text told lines_are is stands = record { back = is.back; on = λ lines are begins. by lines begins (is.each lines are) }
  where
    printed : List ℕ
    printed = printed_by pei m

    parted : (lines : List Line) → IsPrefix (printed_by pei later) (text_of lines) → PartsByLine text printed lines → PrintsMore m later → ⊥
    parted lines begins p more =
        let all : printed_by pei later ≡ printed ++ text_of (more.0 ∷ more.1) = printed_more pei m later (more.0 ∷ more.1) more.2 in
        let theirs : p.prints.0 ≡ p.prints.0 = refl in
        let behind : text_of (more.0 ∷ more.1) ++ begins.0 ≡ (p.line ++ 10 ∷ []) ++ p.prints.0 =
        same_behind printed (text_of (more.0 ∷ more.1) ++ begins.0) ((p.line ++ 10 ∷ []) ++ p.prints.0)
        (sym (append_assoc printed (text_of (more.0 ∷ more.1)) begins.0) ∙ ap (λ t. t ++ begins.0) (sym all) ∙ sym begins.1 ∙ p.prints.1 ∙ append_assoc printed (p.line ++ 10 ∷ []) p.prints.0) in
        let line = has_line p.line (text_of (more.0 ∷ more.1)) ((p.line ++ 10 ∷ []) ++ p.prints.0) p.lacks (begins.0, sym behind) (p.prints.0, refl) (lines_end more.0 more.1) in
        let front : IsPrefix (printed ++ (p.line ++ 10 ∷ [])) (printed_by pei later) =
        (line.0, all ∙ ap (λ t. printed ++ t) line.1 ∙ sym (append_assoc printed (p.line ++ 10 ∷ []) line.0)) in
        p.other (prefix_then (printed ++ (p.line ++ 10 ∷ [])) (printed_by pei later) text front stands)

    by : (lines : List Line) → IsPrefix (printed_by pei later) (text_of lines) → AreFreeDxeLines catalog fuel pei later lines ⊎ (PartsByLine text printed lines × PrintsMore m later) → AreFreeDxeLines catalog fuel pei later lines
    by lines begins (inl are) = are
    by lines begins (inr p) = absurd (parted lines begins p.0 p.1)

-- all free boots from a machine print what the later one did, or a line that is not the text's
pub all_print : (catalog : Catalog) (fuel : ℕ) (pei : PeiMachine) (m later : DxeMachine) (text : List ℕ) (told : List Line) → DxeLinesGrow → later.lines ≡ m.lines ++ told → IsByText catalog fuel pei m later text
    → (lines : List Line) × AreFreeDxeLines catalog fuel pei later lines → AllPrint (AreFreeDxeLines catalog fuel pei m) text (printed_by pei m) (text_of told)
all_print catalog fuel pei m later text told grow lines_are is some = record {
  some = (some.0, is.back some.0 some.1, prints some.0 some.1);
  each = λ lines are. by lines (is.each lines are);
}
  where
    prints : (lines : List Line) → AreFreeDxeLines catalog fuel pei later lines → IsPrefix (printed_by pei m ++ text_of told) (text_of lines)
    prints lines are = subst (λ t. IsPrefix t (text_of lines)) (printed_more pei m later told lines_are) (begins_printed catalog fuel pei later lines grow are)

    by : (lines : List Line) → AreFreeDxeLines catalog fuel pei later lines ⊎ (PartsByLine text (printed_by pei m) lines × PrintsMore m later)
        → IsPrefix (printed_by pei m ++ text_of told) (text_of lines) ⊎ PartsByLine text (printed_by pei m) lines
    by lines (inl are) = inl (prints lines are)
    by lines (inr p) = inr p.0
