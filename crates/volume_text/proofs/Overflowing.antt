-- A volume whose files hold more bytes than it has is refused at the line with which they do.
use Rattle.std.proofs.Common.{◌≡◌, ℕ, ◌+◌, ◌-◌, ◌^◌, ◌<◌, ◌≤◌, Bool, true, false, List, [], ◌∷◌, ◌++◌, length, min, nat_le, Option, None, Ok, Err, refl, sym, ap, ◌∙◌, append_assoc, arith}
use Rattle.std.proofs.lemmas.Bool.Decides.{nat_tests}
use Rattle.fv_volume.specs.{declared.build.volume_name.VolumeName.VolumeName, declared.build.volume_header.VolumeForm.VolumeForm}
use Rattle.fv_volume.specs.declared.sections.section_type.TheConstants.{RAW, VOLUME_IMAGE}
use Rattle.fv_volume.specs.{declared.build.new_file.NewFile.NewFile, declared.build.new_file.NewSection.NewSection}
use Rattle.volume_text.specs.{declared.fault.Fault.Fault, declared.volume.OpenVolume.OpenVolume, declared.step.State.State}
use Rattle.volume_text.specs.declared.fault.Cause.TheVariants as cause
use Rattle.volume_text.specs.declared.statement.Statement.TheVariants as said
use Rattle.volume_text.specs.{declared.step.State.TheVariants.Filling, declared.step.State.TheVariants.Writing, Reading.at}
use Rattle.volume_text.specs.Open.{holding, new_file, pad_file, bytes_held}
use Rattle.volume_text.specs.{Script.script_of, Text.Goes, declared.step.TheConstants.MOST_INSIDE}
use Rattle.volume_text.specs.Step.{Steps, section_of, filling}
use Rattle.volume_text.specs.Volume.{SayFiles, no_file, named, padded, file, bodied, section, depex, script, volume}
use Rattle.volume_text.proofs.{Lasts.last_push, Wholeness.none_wrong, Fitting.built_fits, Counting.has_none, Counting.held_push}
use Rattle.volume_text.proofs.Completing.{Lines, bare, parts, one, first, both, blocks_go, opened_with, some_file, one_deeper, files_go}

abbrev pub no_room : ℕ → ℕ → Fault
no_room line need = record { line = line; cause = cause.NoRoom need }

-- one of the lines is refused, with which there is no room
pub record Refuses (from : State) (all : Lines) : Type 0 where
  pub before : Lines
  pub line : ℕ × List ℕ
  pub behind : Lines
  pub open_there : State
  pub need : ℕ
  pub here : all ≡ before ++ line ∷ behind
  pub goes : Goes from before open_there
  pub wrong : Steps open_there line.0 line.1 (Err (no_room line.0 need))

-- and more lines behind
refuses_more : (from : State) (front back all : Lines) → all ≡ front ++ back → Refuses from front → Refuses from all
refuses_more from front back all here r = record {
  before = r.before;
  line = r.line;
  behind = r.behind ++ back;
  open_there = r.open_there;
  need = r.need;
  here = here ∙ ap (λ (ls : Lines). ls ++ back) r.here ∙ append_assoc r.before (r.line ∷ r.behind) back;
  goes = r.goes;
  wrong = r.wrong;
}

before_it : (from : State) (all : Lines) (xs ys : List (List ℕ)) → bare all ≡ xs ++ ys → ((front : Lines) → bare front ≡ xs → Refuses from front) → Refuses from all
before_it from all xs ys is refuses = let p = parts all xs ys is in refuses_more from p.front p.back all p.here (refuses p.front p.front_is)

-- the last of the lines
at_last : (from mid : State) (all : Lines) (xs : List (List ℕ)) (x : List ℕ) (need : ℕ) → bare all ≡ xs ++ x ∷ [] → ((front : Lines) → bare front ≡ xs → Goes from front mid)
    → ((number : ℕ) → Steps mid number x (Err (no_room number need))) → Refuses from all
at_last from mid all xs x need is goes steps =
    let p = parts all xs (x ∷ []) is in
    let o = one p.back x p.back_is in
    record {
      before = p.front;
      line = (o.number, x);
      behind = [];
      open_there = mid;
      need = need;
      here = p.here ∙ ap (λ (ls : Lines). p.front ++ ls) o.here;
      goes = goes p.front p.front_is;
      wrong = steps o.number;
    }

-- what is open behind a line and those inside of it, where its `end` is refused
abbrev Ends : State → List ℕ → List (List ℕ) → List ℕ → ℕ → Type 0
Ends mid line inner end need =
    (number : ℕ) (inside : Lines) → bare inside ≡ inner → (to : State) × Goes mid ((number, line) ∷ inside) to × ((n : ℕ) → Steps to n end (Err (no_room n need)))

at_end : (from mid : State) (all : Lines) (lines : List (List ℕ)) (line : List ℕ) (inner : List (List ℕ)) (end : List ℕ) (need : ℕ) → bare all ≡ lines ++ line ∷ (inner ++ end ∷ [])
    → ((front : Lines) → bare front ≡ lines → Goes from front mid) → Ends mid line inner end need → Refuses from all
at_end from mid all lines line inner end need is goes ends =
    let p = parts all lines (line ∷ (inner ++ end ∷ [])) is in
    let f = first p.back line (inner ++ end ∷ []) p.back_is in
    let q = parts f.back inner (end ∷ []) f.back_is in
    let o = one q.back end q.back_is in
    let t = ends f.number q.front q.front_is in
    let inside : Lines = (f.number, line) ∷ q.front in
    record {
      before = p.front ++ inside;
      line = (o.number, end);
      behind = [];
      open_there = t.0;
      need = need;
      here = p.here ∙ ap (λ (ls : Lines). p.front ++ ls) (f.here ∙ ap (λ (ls : Lines). (f.number, line) ∷ ls) (q.here ∙ ap (λ (ls : Lines). q.front ++ ls) o.here))
          ∙ sym (append_assoc p.front inside ((o.number, end) ∷ []));
      goes = both from mid t.0 p.front inside (goes p.front p.front_is) t.1;
      wrong = t.2 o.number;
    }

-- the files so far have room, or have none already
decided : (from : State) (all : Lines) (held len : ℕ) (test : Bool) → nat_le held len ≡ test → (len < held → Refuses from all) → (held ≤ len → Refuses from all) → Refuses from all
decided from all held len true is over few = few (grind (arith, nat_tests))
decided from all held len false is over few = over (grind (arith, nat_tests))

-- a section more has no room
section_not : (below : List OpenVolume) (form : VolumeForm) (len : ℕ) (called : Option VolumeName) (files : List NewFile) (last next : NewFile) (one : NewSection) → holding one last ≡ Ok next
    → len < bytes_held (files ++ next ∷ [])
    → filling below (opened_with form len called (files ++ last ∷ [])) one ≡ Err (cause.NoRoom (min (bytes_held (files ++ next ∷ [])) (2 ^ 64 - 1)))
section_not below form len called files last next one holds over = rw (last_push files last, holds, has_none (bytes_held (files ++ next ∷ [])) len over) refl

pub files_over : {deep : ℕ} (form : VolumeForm) (lines : List (List ℕ)) (called : Option VolumeName) (files : List NewFile) → SayFiles deep form.header_len lines called files → (below : List OpenVolume) (len : ℕ) (all : Lines)
    → length below + deep ≤ MOST_INSIDE → len < bytes_held files → bare all ≡ lines → Refuses (Filling below (opened_with form len None [])) all
files_over form lines called files no_file below len all room over is = absurd (omega (arith, over))
files_over form _ _ _ (named lines files line name say says placed) below len all room over is =
    before_it (Filling below (opened_with form len None [])) all lines (line ∷ []) is (λ front front_is. files_over form lines None files say below len front room over front_is)
files_over form _ _ _ (padded lines called files line size say says) below len all room over is =
    let from = Filling below (opened_with form len None []) in
    let top = opened_with form len called (files ++ pad_file size ∷ []) in
    decided from all (bytes_held files) len (nat_le (bytes_held files) len) refl
    (λ more. before_it from all lines (line ∷ []) is (λ front front_is. files_over form lines called files say below len front room more front_is))
    (λ few. at_last from (Filling below (opened_with form len called files)) all lines line (min (bytes_held top.files) (2 ^ 64 - 1)) is
    (λ front front_is. files_go form lines called files say below len front room few front_is)
    (λ number. (Ok (said.Pad size), says, rw (has_none (bytes_held top.files) len over) refl)))
files_over form _ _ _ (file lines called files line kind name attributes say says) below len all room over is =
    before_it (Filling below (opened_with form len None [])) all lines (line ∷ []) is
    (λ front front_is. files_over form lines called files say below len front room (omega (arith, over, held_push files (new_file kind name attributes))) front_is)
files_over form _ _ _ (bodied lines called files old next line body say says holds) below len all room over is =
    let from = Filling below (opened_with form len None []) in
    let top = opened_with form len called (files ++ next ∷ []) in
    let held = bytes_held (files ++ old ∷ []) in
    decided from all held len (nat_le held len) refl
    (λ more. before_it from all lines (line ∷ []) is (λ front front_is. files_over form lines called (files ++ old ∷ []) say below len front room more front_is))
    (λ few. at_last from (Filling below (opened_with form len called (files ++ old ∷ []))) all lines line (min (bytes_held top.files) (2 ^ 64 - 1)) is
    (λ front front_is. files_go form lines called (files ++ old ∷ []) say below len front room few front_is)
    (λ number. (Ok (said.Body body), says, rw (last_push files old, holds, has_none (bytes_held top.files) len over) refl)))
files_over form _ _ _ (section lines called files old next line kind body say says holds) below len all room over is =
    let from = Filling below (opened_with form len None []) in
    let need = min (bytes_held (files ++ next ∷ [])) (2 ^ 64 - 1) in
    let held = bytes_held (files ++ old ∷ []) in
    decided from all held len (nat_le held len) refl
    (λ more. before_it from all lines (line ∷ []) is (λ front front_is. files_over form lines called (files ++ old ∷ []) say below len front room more front_is))
    (λ few. at_last from (Filling below (opened_with form len called (files ++ old ∷ []))) all lines line need is
    (λ front front_is. files_go form lines called (files ++ old ∷ []) say below len front room few front_is)
    (λ number. (Ok (said.Section kind body), says, sym (ap (at number) (section_not below form len called files old next (section_of kind body) holds over)))))
files_over form _ _ _ (depex lines called files old next line phase body say says part unique holds) below len all room over is =
    let from = Filling below (opened_with form len None []) in
    let top = opened_with form len called (files ++ next ∷ []) in
    let held = bytes_held (files ++ old ∷ []) in
    decided from all held len (nat_le held len) refl
    (λ more. before_it from all lines (line ∷ []) is (λ front front_is. files_over form lines called (files ++ old ∷ []) say below len front room more front_is))
    (λ few. at_last from (Filling below (opened_with form len called (files ++ old ∷ []))) all lines line (min (bytes_held top.files) (2 ^ 64 - 1)) is
    (λ front front_is. files_go form lines called (files ++ old ∷ []) say below len front room few front_is)
    (λ number. (Ok (said.Depex phase body), says, rw (last_push files old, part, unique, holds, has_none (bytes_held top.files) len over) refl)))
files_over form _ _ _ (script lines called files old next line phase inner blocks end body say says part unique wrote ends spelled holds) below len all room over is =
    let from = Filling below (opened_with form len None []) in
    let top = opened_with form len called (files ++ old ∷ []) in
    let start = Writing below top (script_of phase []) [] in
    let need = min (bytes_held (files ++ next ∷ [])) (2 ^ 64 - 1) in
    let held = bytes_held (files ++ old ∷ []) in
    decided from all held len (nat_le held len) refl
    (λ more. before_it from all lines (line ∷ (inner ++ end ∷ [])) is (λ front front_is. files_over form lines called (files ++ old ∷ []) say below len front room more front_is))
    (λ few. at_end from (Filling below top) all lines line inner end need is
    (λ front front_is. files_go form lines called (files ++ old ∷ []) say below len front room few front_is)
    (λ number inside inside_is.
    let w = blocks_go phase inner blocks wrote below top [] inside inside_is in
    let begins : Steps (Filling below top) number line (Ok start) = (Ok (said.Script phase), says, rw (last_push files old, part, unique) refl) in (
      Writing below top (script_of phase blocks) w.numbers,
      (start, begins, w.goes),
      λ n. (Ok said.End, ends, (Ok body, (none_wrong (script_of phase blocks) spelled.grammar, spelled), sym (ap (at n) (section_not below form len called files old next (section_of RAW body) holds over)))),
    )))
files_over form _ _ _ (volume lines called files old next line inner inside end body say says told ends built holds) below len all room over is =
    let from = Filling below (opened_with form len None []) in
    let top = opened_with form len called (files ++ old ∷ []) in
    let under = below ++ top ∷ [] in
    let start = Filling under (opened_with inside.form inside.len None []) in
    let need = min (bytes_held (files ++ next ∷ [])) (2 ^ 64 - 1) in
    let held = bytes_held (files ++ old ∷ []) in
    decided from all held len (nat_le held len) refl
    (λ more. before_it from all lines (line ∷ (inner ++ end ∷ [])) is (λ front front_is. files_over form lines called (files ++ old ∷ []) say below len front room more front_is))
    (λ few. at_end from (Filling below top) all lines line inner end need is
    (λ front front_is. files_go form lines called (files ++ old ∷ []) say below len front room few front_is)
    (λ number lines_inside inside_is.
    let begins : Steps (Filling below top) number line (Ok start) = (Ok (said.Volume inside.form inside.len), says, sym (ap (at number) (some_file files old below top inside.form inside.len (omega (arith, room))))) in (
      Filling under inside,
      (start, begins, files_go inside.form inner inside.name inside.files told under inside.len lines_inside (one_deeper _ below top room) (built_fits inside body built) inside_is),
      λ n. (Ok said.End, ends, rw (built, last_push below top) (sym (ap (at n) (section_not below form len called files old next (section_of VOLUME_IMAGE body) holds over)))),
    )))
