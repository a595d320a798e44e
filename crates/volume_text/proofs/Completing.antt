-- Where the lines of a text say a volume, they lead to it.
use Rattle.std.proofs.Common.{◌≡◌, ℕ, suc, ◌+◌, ◌<◌, ◌≤◌, nat_lt, true, List, [], ◌∷◌, ◌++◌, length, length-append, map, arith, Option, Some, None, Ok, refl, sym, ap, subst, ◌∙◌}
use Rattle.fv_volume.specs.declared.build.volume_name.VolumeName.{VolumeName}
use Rattle.pi_base.specs.declared.phase.Phase.{Phase}
use Rattle.fv_volume.specs.declared.sections.section_type.TheConstants.{RAW, VOLUME_IMAGE}
use Rattle.fv_volume.specs.{declared.build.new_file.NewFile.NewFile, declared.build.new_file.NewSection.NewSection}
use Rattle.fv_volume.specs.declared.build.volume_header.VolumeForm.{VolumeForm}
use Rattle.act_code.specs.declared.action.Action.{Action}
use Rattle.volume_text.specs.{declared.statement.Statement.Statement, declared.volume.OpenVolume.OpenVolume, declared.step.State.State}
use Rattle.volume_text.specs.declared.statement.Statement.TheVariants as said
use Rattle.volume_text.specs.declared.step.State.TheVariants.{Begin, Filling, Writing, Done}
use Rattle.volume_text.specs.declared.fault.Cause.TheVariants as cause
use Rattle.volume_text.specs.Reading.{at, only_if, ◌>>=◌}
use Rattle.volume_text.specs.Open.{holding, new_file, pad_file, depex_type, bytes_held}
use Rattle.volume_text.specs.{Script.script_of, declared.step.TheConstants.MOST_INSIDE}
use Rattle.std.proofs.lemmas.Bool.Decides.{nat_tests}
use Rattle.volume_text.specs.Step.{Steps, Takes, section_of, nested_in}
use Rattle.volume_text.specs.Volume.{SaysLine, SayBlocks, no_block, block, action, SayFiles, no_file, named, padded, file, bodied, section, depex, script, volume}
use Rattle.volume_text.specs.Text.{numbered, Goes, Says, Leads}
use Rattle.volume_text.proofs.{Lasts.last_push, Wholeness.none_wrong, Fitting.built_fits}
use Rattle.volume_text.proofs.Counting.{has_room, holding_more, bytes_more, held_push, pad_held, last_held}

abbrev pub Lines : Type 0
Lines = List (ℕ × List ℕ)

-- the lines without their numbers
abbrev pub bare : Lines → List (List ℕ)
bare lines = map (λ line. line.1) lines

-- lines that are others and more, in two parts
pub record Parts (all : Lines) (xs ys : List (List ℕ)) : Type 0 where
  pub front : Lines
  pub back : Lines
  pub here : all ≡ front ++ back
  pub front_is : bare front ≡ xs
  pub back_is : bare back ≡ ys

no_cons : (x : List ℕ) (xs : List (List ℕ)) → [] ≡ x ∷ xs → ⊥
no_cons x xs e = absurd cc

heads : (x y : List ℕ) (xs ys : List (List ℕ)) → x ∷ xs ≡ y ∷ ys → x ≡ y
heads x y xs ys e = cc

tails : (x y : List ℕ) (xs ys : List (List ℕ)) → x ∷ xs ≡ y ∷ ys → xs ≡ ys
tails x y xs ys e = cc

pub parts : (all : Lines) (xs ys : List (List ℕ)) → bare all ≡ xs ++ ys → Parts all xs ys
parts all [] ys is = record { front = []; back = all; here = refl; front_is = refl; back_is = is }
parts [] (x ∷ xs) ys is = absurd (no_cons x (xs ++ ys) is)
parts (line ∷ all) (x ∷ xs) ys is =
    let more = parts all xs ys (tails line.1 x (bare all) (xs ++ ys) is) in
    record {
      front = line ∷ more.front;
      back = more.back;
      here = ap (λ l. line ∷ l) more.here;
      front_is = ap (λ l. l ∷ bare more.front) (heads line.1 x (bare all) (xs ++ ys) is) ∙ ap (λ l. x ∷ l) more.front_is;
      back_is = more.back_is;
    }

-- one line
pub record One (all : Lines) (x : List ℕ) : Type 0 where
  pub number : ℕ
  pub here : all ≡ (number, x) ∷ []

pub one : (all : Lines) (x : List ℕ) → bare all ≡ x ∷ [] → One all x
one [] x is = absurd (no_cons x [] is)
one (line ∷ []) x is =
    let same : line.1 ≡ x = heads line.1 x [] [] is in
    record { number = line.0; here = ap (λ (l : List ℕ). let it : ℕ × List ℕ = (line.0, l) in it ∷ []) same }
one (line ∷ (next ∷ all)) x is = absurd (no_cons next.1 (bare all) (sym (tails line.1 x (next.1 ∷ bare all) [] is)))

pub record First (all : Lines) (x : List ℕ) (xs : List (List ℕ)) : Type 0 where
  pub number : ℕ
  pub back : Lines
  pub here : all ≡ (number, x) ∷ back
  pub back_is : bare back ≡ xs

pub first : (all : Lines) (x : List ℕ) (xs : List (List ℕ)) → bare all ≡ x ∷ xs → First all x xs
first [] x xs is = absurd (no_cons x xs is)
first (line ∷ all) x xs is =
    let same : line.1 ≡ x = heads line.1 x (bare all) xs is in
    record { number = line.0; back = all; here = ap (λ (l : List ℕ). let it : ℕ × List ℕ = (line.0, l) in it ∷ all) same; back_is = tails line.1 x (bare all) xs is }

none_left : (all : Lines) → bare all ≡ [] → all ≡ []
none_left [] is = refl
none_left (line ∷ all) is = absurd (no_cons line.1 (bare all) (sym is))

-- going on
pub both : (from mid to : State) (xs ys : Lines) → Goes from xs mid → Goes mid ys to → Goes from (xs ++ ys) to
both from mid to [] ys a b = subst (λ (s : State). Goes s ys to) (sym a) b
both from mid to (x ∷ xs) ys a b = (a.0, a.1, both a.0 mid to xs ys a.2 b)

-- a line more that says something
step : (from to : State) (number : ℕ) (line : List ℕ) (what : Statement) → SaysLine line what → Takes from number what (Ok to) → Steps from number line (Ok to)
step from to number line what says takes = (Ok what, says, takes)

last : (from mid to : State) (all : Lines) (xs : List (List ℕ)) (x : List ℕ) → bare all ≡ xs ++ x ∷ [] → ((front : Lines) → bare front ≡ xs → Goes from front mid)
    → ((number : ℕ) → Steps mid number x (Ok to)) → Goes from all to
last from mid to all xs x is goes steps =
    let p = parts all xs (x ∷ []) is in
    let o = one p.back x p.back_is in
    let there : Goes mid ((o.number, x) ∷ []) to = (to, steps o.number, refl) in
    subst (λ (ls : Lines). Goes from ls to) (sym (p.here ∙ ap (λ ls. p.front ++ ls) o.here)) (both from mid to p.front ((o.number, x) ∷ []) (goes p.front p.front_is) there)

-- the blocks of a script; the numbers of its lines are kept
pub record Wrote (below : List OpenVolume) (top : OpenVolume) (phase : Phase) (blocks : List (List Action)) (from : List ℕ) (all : Lines) : Type 0 where
  pub numbers : List ℕ
  pub goes : Goes (Writing below top (script_of phase []) from) all (Writing below top (script_of phase blocks) numbers)

block_step : (below : List OpenVolume) (top : OpenVolume) (phase : Phase) (blocks : List (List Action)) (numbers : List ℕ) (number : ℕ) (line : List ℕ) → SaysLine line said.Block
    → Steps (Writing below top (script_of phase blocks) numbers) number line (Ok (Writing below top (script_of phase (blocks ++ [] ∷ [])) (numbers ++ number ∷ [])))
block_step below top phase blocks numbers number line says = (Ok said.Block, says, refl)

action_step : (below : List OpenVolume) (top : OpenVolume) (phase : Phase) (blocks : List (List Action)) (actions : List Action) (a : Action) (numbers : List ℕ) (number : ℕ) (line text : List ℕ)
    → SaysLine line (said.Action text) → Rattle.volume_text.specs.Script.action_at phase text ≡ Ok a
    → Steps (Writing below top (script_of phase (blocks ++ actions ∷ [])) numbers) number line
    (Ok (Writing below top (script_of phase (blocks ++ (actions ++ a ∷ []) ∷ [])) (numbers ++ number ∷ [])))
action_step below top phase blocks actions a numbers number line text says is = (Ok (said.Action text), says, rw (last_push blocks actions, is) refl)

wrote_more : (below : List OpenVolume) (top : OpenVolume) (phase : Phase) (blocks more : List (List Action)) (from : List ℕ) (all : Lines) (lines : List (List ℕ)) (line : List ℕ)
    → bare all ≡ lines ++ line ∷ [] → ((front : Lines) → bare front ≡ lines → Wrote below top phase blocks from front)
    → ((numbers : List ℕ) (number : ℕ) → Steps (Writing below top (script_of phase blocks) numbers) number line (Ok (Writing below top (script_of phase more) (numbers ++ number ∷ []))))
    → Wrote below top phase more from all
wrote_more below top phase blocks more from all lines line is before steps =
    let p = parts all lines (line ∷ []) is in
    let o = one p.back line p.back_is in
    let w = before p.front p.front_is in
    let start = Writing below top (script_of phase []) from in
    let mid = Writing below top (script_of phase blocks) w.numbers in
    let end = Writing below top (script_of phase more) (w.numbers ++ o.number ∷ []) in
    let there : Goes mid ((o.number, line) ∷ []) end = (end, steps w.numbers o.number, refl) in
    record {
      numbers = w.numbers ++ o.number ∷ [];
      goes = subst (λ (ls : Lines). Goes start ls end) (sym (p.here ∙ ap (λ ls. p.front ++ ls) o.here)) (both start mid end p.front ((o.number, line) ∷ []) w.goes there);
    }

pub blocks_go : (phase : Phase) (lines : List (List ℕ)) (blocks : List (List Action)) → SayBlocks phase lines blocks → (below : List OpenVolume) (top : OpenVolume) (from : List ℕ) (all : Lines)
    → bare all ≡ lines → Wrote below top phase blocks from all
blocks_go phase lines blocks no_block below top from all is =
    let start = Writing below top (script_of phase []) from in
    record { numbers = from; goes = subst (λ (ls : Lines). Goes start ls start) (sym (none_left all is)) refl }
blocks_go phase _ _ (block lines blocks line say says) below top from all is =
    wrote_more below top phase blocks (blocks ++ [] ∷ []) from all lines line is (λ front front_is. blocks_go phase lines blocks say below top from front front_is)
    (λ numbers number. block_step below top phase blocks numbers number line says)
blocks_go phase _ _ (action lines blocks actions line text a say says done) below top from all is =
    wrote_more below top phase (blocks ++ actions ∷ []) (blocks ++ (actions ++ a ∷ []) ∷ []) from all lines line is
    (λ front front_is. blocks_go phase lines (blocks ++ actions ∷ []) say below top from front front_is)
    (λ numbers number. action_step below top phase blocks actions a numbers number line text says done)

-- a volume that is open with these files
abbrev pub opened_with : VolumeForm → ℕ → Option VolumeName → List NewFile → OpenVolume
opened_with form len called files = record { form = form; len = len; name = called; files = files }

-- a section more in the last file
section_taken : (below : List OpenVolume) (form : VolumeForm) (len : ℕ) (called : Option VolumeName) (files : List NewFile) (last next : NewFile) (one : NewSection) → holding one last ≡ Ok next → bytes_held (files ++ next ∷ []) ≤ len
    → Rattle.volume_text.specs.Step.filling below (opened_with form len called (files ++ last ∷ [])) one ≡ Ok (Filling below (opened_with form len called (files ++ next ∷ [])))
section_taken below form len called files last next one holds few = rw (last_push files last, holds, has_room (bytes_held (files ++ next ∷ [])) len few) refl

-- a volume more may be open
may_nest : (n : ℕ) → n < MOST_INSIDE → nat_lt n MOST_INSIDE ≡ true
may_nest n few = grind (arith, nat_tests)

pub some_file : (files : List NewFile) (last : NewFile) (below : List OpenVolume) (top : OpenVolume) (form : VolumeForm) (len : ℕ) → length below < MOST_INSIDE
    → nested_in (files ++ last ∷ []) below top form len ≡ Ok (Filling (below ++ top ∷ []) (opened_with form len None []))
some_file [] last below top form len few = rw (may_nest (length below) few) refl
some_file (f ∷ files) last below top form len few = rw (may_nest (length below) few) refl

-- the volume in a file has a level less
pub one_deeper : (deep : ℕ) (below : List OpenVolume) (top : OpenVolume) → length below + suc deep ≤ MOST_INSIDE → length (below ++ top ∷ []) + deep ≤ MOST_INSIDE
one_deeper deep below top room = omega (arith, room, length-append below (top ∷ []))

-- in front of what is inside of a volume or a script, and behind it
between : (from opened filled to : State) (all : Lines) (lines : List (List ℕ)) (line : List ℕ) (inner : List (List ℕ)) (end : List ℕ) → bare all ≡ lines ++ line ∷ (inner ++ end ∷ [])
    → (mid : State) → ((front : Lines) → bare front ≡ lines → Goes from front mid) → ((number : ℕ) → Steps mid number line (Ok opened))
    → ((inside : Lines) → bare inside ≡ inner → Goes opened inside filled) → ((number : ℕ) → Steps filled number end (Ok to)) → Goes from all to
between from opened filled to all lines line inner end is mid goes begins inside ends =
    let p = parts all lines (line ∷ (inner ++ end ∷ [])) is in
    let f = first p.back line (inner ++ end ∷ []) p.back_is in
    let rest : Goes opened f.back to = last opened filled to f.back inner end f.back_is inside ends in
    let there : Goes mid ((f.number, line) ∷ f.back) to = (opened, begins f.number, rest) in
    subst (λ (ls : Lines). Goes from ls to) (sym (p.here ∙ ap (λ ls. p.front ++ ls) f.here)) (both from mid to p.front ((f.number, line) ∷ f.back) (goes p.front p.front_is) there)

-- the numbers of a script's lines are those that they have
scripted : (from to : State) (all : Lines) (lines : List (List ℕ)) (line : List ℕ) (inner : List (List ℕ)) (end : List ℕ) → bare all ≡ lines ++ line ∷ (inner ++ end ∷ [])
    → (mid : State) → ((front : Lines) → bare front ≡ lines → Goes from front mid) → (below : List OpenVolume) (top : OpenVolume) (phase : Phase) (blocks : List (List Action))
    → ((number : ℕ) → Steps mid number line (Ok (Writing below top (script_of phase []) [])))
    → ((inside : Lines) → bare inside ≡ inner → Wrote below top phase blocks [] inside)
    → ((numbers : List ℕ) (number : ℕ) → Steps (Writing below top (script_of phase blocks) numbers) number end (Ok to)) → Goes from all to
scripted from to all lines line inner end is mid goes below top phase blocks begins inside ends =
    let p = parts all lines (line ∷ (inner ++ end ∷ [])) is in
    let f = first p.back line (inner ++ end ∷ []) p.back_is in
    let q = parts f.back inner (end ∷ []) f.back_is in
    let o = one q.back end q.back_is in
    let w = inside q.front q.front_is in
    let start = Writing below top (script_of phase []) [] in
    let written = Writing below top (script_of phase blocks) w.numbers in
    let behind : Goes written ((o.number, end) ∷ []) to = (to, ends w.numbers o.number, refl) in
    let rest : Goes start f.back to =
    subst (λ (ls : Lines). Goes start ls to) (sym (q.here ∙ ap (λ ls. q.front ++ ls) o.here)) (both start written to q.front ((o.number, end) ∷ []) w.goes behind) in
    let there : Goes mid ((f.number, line) ∷ f.back) to = (start, begins f.number, rest) in
    subst (λ (ls : Lines). Goes from ls to) (sym (p.here ∙ ap (λ ls. p.front ++ ls) f.here)) (both from mid to p.front ((f.number, line) ∷ f.back) (goes p.front p.front_is) there)

-- one section less
fewer : (files : List NewFile) (old next : NewFile) (one : NewSection) (len : ℕ) → holding one old ≡ Ok next → bytes_held (files ++ next ∷ []) ≤ len → bytes_held (files ++ old ∷ []) ≤ len
fewer files old next one len holds few = omega (arith, few, last_held files old next (length one.body) (holding_more one old next holds))

pub files_go : {deep : ℕ} (form : VolumeForm) (lines : List (List ℕ)) (called : Option VolumeName) (files : List NewFile) → SayFiles deep form.header_len lines called files → (below : List OpenVolume) (len : ℕ) (all : Lines)
    → length below + deep ≤ MOST_INSIDE → bytes_held files ≤ len → bare all ≡ lines → Goes (Filling below (opened_with form len None [])) all (Filling below (opened_with form len called files))
files_go form lines called files no_file below len all room few is =
    let start = Filling below (opened_with form len None []) in
    subst (λ (ls : Lines). Goes start ls start) (sym (none_left all is)) refl
files_go form _ _ _ (named lines files line name say says placed) below len all room few is =
    last (Filling below (opened_with form len None [])) (Filling below (opened_with form len None files)) (Filling below (opened_with form len (Some name) files)) all lines line is
    (λ front front_is. files_go form lines None files say below len front room few front_is)
    (λ number. (
      Ok (said.Name name),
      says,
      ap (λ test. at number (only_if test cause.Range (opened_with form len (Some name) files) >>= (λ top. Ok (Filling below top)))) (sym placed),
    ))
files_go form _ _ _ (padded lines called files line size say says) below len all room few is =
    last (Filling below (opened_with form len None [])) (Filling below (opened_with form len called files)) (Filling below (opened_with form len called (files ++ pad_file size ∷ []))) all lines line is
    (λ front front_is. files_go form lines called files say below len front room (omega (arith, few, pad_held files size)) front_is)
    (λ number. (Ok (said.Pad size), says, rw (has_room (bytes_held (files ++ pad_file size ∷ [])) len few) refl))
files_go form _ _ _ (file lines called files line kind name attributes say says) below len all room few is =
    last (Filling below (opened_with form len None [])) (Filling below (opened_with form len called files)) (Filling below (opened_with form len called (files ++ new_file kind name attributes ∷ []))) all lines line is
    (λ front front_is. files_go form lines called files say below len front room (omega (arith, few, held_push files (new_file kind name attributes))) front_is)
    (λ number. (Ok (said.File kind name attributes), says, refl))
files_go form _ _ _ (bodied lines called files old next line body say says holds) below len all room few is =
    last (Filling below (opened_with form len None [])) (Filling below (opened_with form len called (files ++ old ∷ []))) (Filling below (opened_with form len called (files ++ next ∷ []))) all lines line is
    (λ front front_is. files_go form lines called (files ++ old ∷ []) say below len front room (omega (arith, few, last_held files old next (length body) (bytes_more body old next holds))) front_is)
    (λ number. (Ok (said.Body body), says, rw (last_push files old, holds, has_room (bytes_held (files ++ next ∷ [])) len few) refl))
files_go form _ _ _ (section lines called files old next line kind body say says holds) below len all room few is =
    last (Filling below (opened_with form len None [])) (Filling below (opened_with form len called (files ++ old ∷ []))) (Filling below (opened_with form len called (files ++ next ∷ []))) all lines line is
    (λ front front_is. files_go form lines called (files ++ old ∷ []) say below len front room (fewer files old next (section_of kind body) len holds few) front_is)
    (λ number. (Ok (said.Section kind body), says, sym (ap (at number) (section_taken below form len called files old next (section_of kind body) holds few))))
files_go form _ _ _ (depex lines called files old next line phase body say says part unique holds) below len all room few is =
    last (Filling below (opened_with form len None [])) (Filling below (opened_with form len called (files ++ old ∷ []))) (Filling below (opened_with form len called (files ++ next ∷ []))) all lines line is
    (λ front front_is. files_go form lines called (files ++ old ∷ []) say below len front room (fewer files old next (section_of (depex_type phase) body) len holds few) front_is)
    (λ number. (Ok (said.Depex phase body), says, rw (last_push files old, part, unique, holds, has_room (bytes_held (files ++ next ∷ [])) len few) refl))
files_go form _ _ _ (script lines called files old next line phase inner blocks end body say says part unique wrote ends spelled holds) below len all room few is =
    let top = opened_with form len called (files ++ old ∷ []) in
    scripted (Filling below (opened_with form len None [])) (Filling below (opened_with form len called (files ++ next ∷ []))) all lines line inner end is (Filling below top)
    (λ front front_is. files_go form lines called (files ++ old ∷ []) say below len front room (fewer files old next (section_of RAW body) len holds few) front_is) below top phase blocks
    (λ number. (Ok (said.Script phase), says, rw (last_push files old, part, unique) refl))
    (λ inside inside_is. blocks_go phase inner blocks wrote below top [] inside inside_is)
    (λ numbers number. (Ok said.End, ends, (Ok body, (none_wrong (script_of phase blocks) spelled.grammar, spelled), sym (ap (at number) (section_taken below form len called files old next (section_of RAW body) holds few)))))
files_go form _ _ _ (volume lines called files old next line inner inside end body say says told ends built holds) below len all room few is =
    let top = opened_with form len called (files ++ old ∷ []) in
    let under = below ++ top ∷ [] in
    between (Filling below (opened_with form len None [])) (Filling under (opened_with inside.form inside.len None [])) (Filling under inside) (Filling below (opened_with form len called (files ++ next ∷ []))) all lines line inner end is
    (Filling below top) (λ front front_is. files_go form lines called (files ++ old ∷ []) say below len front room (fewer files old next (section_of VOLUME_IMAGE body) len holds few) front_is)
    (λ number. (Ok (said.Volume inside.form inside.len), says, sym (ap (at number) (some_file files old below top inside.form inside.len (omega (arith, room))))))
    (λ lines_inside inside_is. files_go inside.form inner inside.name inside.files told under inside.len lines_inside (one_deeper _ below top room) (built_fits inside body built) inside_is)
    (λ number. (Ok said.End, ends, rw (built, last_push below top) (sym (ap (at number) (section_taken below form len called files old next (section_of VOLUME_IMAGE body) holds few)))))

-- what the lines of a text say, they lead to
pub complete : (text bytes : List ℕ) → Says text bytes → Leads text bytes
complete text bytes says =
    let one = says.volume in
    let f = first (numbered text) says.line (says.inner ++ says.end ∷ []) says.here in
    let opened = Filling [] (opened_with one.form one.len None []) in
    let begins : Steps Begin f.number says.line (Ok opened) = (Ok (said.Volume one.form one.len), says.begins, refl) in
    let ends : (number : ℕ) → Steps (Filling [] one) number says.end (Ok (Done bytes)) = λ number. (Ok said.End, says.ends, rw says.built refl) in
    let rest : Goes opened f.back (Done bytes) =
    last opened (Filling [] one) (Done bytes) f.back says.inner says.end f.back_is (λ inside inside_is. files_go one.form says.inner one.name one.files says.files [] one.len inside (omega arith) (built_fits one bytes says.built) inside_is) ends in
    let there : Goes Begin ((f.number, says.line) ∷ f.back) (Done bytes) = (opened, begins, rest) in
    subst (λ (ls : Lines). Goes Begin ls (Done bytes)) (sym f.here) there
