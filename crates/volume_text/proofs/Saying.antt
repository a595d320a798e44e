-- What is open behind lines is what they say so far.
use Rattle.std.proofs.Common.{◌≡◌, ℕ, zero, suc, ◌+◌, ◌<◌, Bool, true, false, List, [], ◌∷◌, ◌++◌, length, map, Option, Some, None, Result, Ok, Err, refl, sym, ap, subst, ◌∙◌, append_assoc, length-append, not, append-nil, nat_lt, arith}
use Rattle.std.proofs.lemmas.Bool.Decides.{nat_tests}
use Rattle.fv_volume.specs.{declared.build.volume_name.VolumeName.VolumeName, Front.is_placed}
use Rattle.pi_base.specs.declared.phase.Phase.{Phase}
use Rattle.fv_volume.specs.declared.sections.section_type.TheConstants.{RAW, VOLUME_IMAGE}
use Rattle.fv_volume.specs.{declared.build.new_file.NewFile.NewFile, declared.build.new_file.NewSection.NewSection}
use Rattle.act_code.specs.{declared.action.Action.Action, declared.script.Script.Script}
use Rattle.volume_text.specs.{declared.fault.Cause.Cause, declared.fault.Fault.Fault, declared.statement.Statement.Statement}
use Rattle.volume_text.specs.declared.fault.Cause.TheVariants as cause
use Rattle.fv_volume.specs.declared.build.volume_header.VolumeForm.{VolumeForm}
use Rattle.volume_text.specs.declared.statement.Statement.TheVariants as said
use Rattle.volume_text.specs.{declared.volume.OpenVolume.OpenVolume, declared.step.State.State, Line.Reads}
use Rattle.volume_text.specs.declared.step.State.TheVariants.{Begin, Filling, Writing, Done}
use Rattle.volume_text.specs.Reading.{◌>>=◌, at, onward, only_if}
use Rattle.volume_text.specs.Open.{last_of, fitting, holding, with_bytes, with_parts, with_files, with_last, new_file, pad_file, named_over, with_name, depex_type, has_part, has_depex, has_script, only_part, part_checked, only_first, only_first_depex, depex_checked, script_checked, built_of}
use Rattle.volume_text.specs.Script.{script_of, into_last, action_at, IsScriptBody}
use Rattle.volume_text.specs.declared.step.TheConstants.{MOST_INSIDE}
use Rattle.volume_text.specs.Step.{section_of, new_volume, begun, filling, nested_in, closed_in, filled, written, goes_on, TakesInScript, Takes, TakesRead}
use Rattle.volume_text.specs.Volume.{SaysLine, SayBlocks, no_block, block, action, SayFiles, no_file, named, padded, file, bodied, section, depex, script, volume, SaysVolume}
use Rattle.volume_text.specs.Text.{numbered, Goes, Says}
use Rattle.volume_text.proofs.{Lasts.last_push, Lasts.last_is, Counting.fitted, Counting.fitted_of}

-- volumes that are open behind lines, the innermost apart, in which volumes may be so many levels deep
data Opened : ℕ → List (List ℕ) → List OpenVolume → OpenVolume → Type 0 where
  outer : (line : List ℕ) (inner : List (List ℕ)) (top : OpenVolume)
      → SaysLine line (said.Volume top.form top.len) → SayFiles MOST_INSIDE top.form.header_len inner top.name top.files → Opened MOST_INSIDE (line ∷ inner) [] top
  nested : (deep : ℕ) (front : List (List ℕ)) (below : List OpenVolume) (parent : OpenVolume) (line : List ℕ) (inner : List (List ℕ)) (top : OpenVolume)
      → Opened (suc deep) front below parent → SaysLine line (said.Volume top.form top.len) → SayFiles deep top.form.header_len inner top.name top.files
      → Opened deep (front ++ line ∷ inner) (below ++ parent ∷ []) top

levels : (deep : ℕ) (lines : List (List ℕ)) (below : List OpenVolume) (top : OpenVolume) → Opened deep lines below top → length below + deep ≡ MOST_INSIDE
levels deep lines below top (outer line inner _ begins say) = omega arith
levels deep lines below top (nested _ front under parent line inner _ opened begins say) =
    omega (arith, levels (suc deep) front under parent opened, length-append under (parent ∷ []))

record WritesIn (lines : List (List ℕ)) (below : List OpenVolume) (top : OpenVolume) (one : Script) : Type 0 where
  front : List (List ℕ)
  line : List ℕ
  inner : List (List ℕ)
  here : lines ≡ front ++ line ∷ inner
  deep : ℕ
  opened : Opened deep front below top
  begins : SaysLine line (said.Script one.phase)
  checked : script_checked one.phase top ≡ Ok tt
  blocks : SayBlocks one.phase inner one.blocks

abbrev Stands : List (List ℕ) → State → Type 0
Stands lines Begin = lines ≡ []
Stands lines (Filling below top) = (deep : ℕ) × Opened deep lines below top
Stands lines (Writing below top one numbers) = WritesIn lines below top one
Stands lines (Done bytes) = SaysVolume MOST_INSIDE lines bytes

-- answers of calls
same_Ok : {A E : Type 0} (x y : A) → ◌≡◌ {A = Result A E} (Ok x) (Ok y) → x ≡ y
same_Ok x y e = cc

bound : {A B : Type 0} (r : Result A Cause) (f : A → Result B Cause) (b : B) → (r >>= f) ≡ Ok b → (a : A) × (r ≡ Ok a) × (f a ≡ Ok b)
bound (Ok a) f b e = (a, refl, e)
bound (Err c) f b e = absurd cc

at_ok : (line : ℕ) (r : Result State Cause) (to : State) → Ok to ≡ at line r → r ≡ Ok to
at_ok line (Ok x) to e = ap Ok (sym (same_Ok to x e))
at_ok line (Err c) to e = absurd cc

passes : (test : Bool) (c : Cause) (x : Unit {0}) → only_if test c tt ≡ Ok x → test ≡ true
passes true c x e = refl
passes false c x e = absurd cc

not_true : (test : Bool) → not test ≡ true → test ≡ false
not_true true e = absurd cc
not_true false e = refl

-- a volume with another name and other files, of which more lines tell
opened_more : (deep : ℕ) (lines : List (List ℕ)) (below : List OpenVolume) (top : OpenVolume) (more : List (List ℕ)) (called : Option VolumeName) (files : List NewFile) → Opened deep lines below top
    → ((inner : List (List ℕ)) → SayFiles deep top.form.header_len inner top.name top.files → SayFiles deep top.form.header_len (inner ++ more) called files)
    → Opened deep (lines ++ more) below (with_parts top called files)
opened_more deep lines below top more called files (outer line inner _ begins say) on = outer line (inner ++ more) (with_parts top called files) begins (on inner say)
opened_more deep lines below top more called files (nested _ front under parent line inner _ opened begins say) on =
    subst (λ (ls : List (List ℕ)). Opened deep ls (under ++ parent ∷ []) (with_parts top called files)) (sym (append_assoc front (line ∷ inner) more))
    (nested deep front under parent line (inner ++ more) (with_parts top called files) opened begins (on inner say))

-- the last file changed
held : (top next : OpenVolume) (changed : NewFile → Result NewFile Cause) (o : Option (List NewFile × NewFile)) → last_of top.files ≡ o → with_last top changed o ≡ Ok next
    → (files : List NewFile) × (last : NewFile) × (new : NewFile) × (top.files ≡ files ++ last ∷ []) × (changed last ≡ Ok new) × (with_files top (files ++ new ∷ []) ≡ next)
held top next changed None is e = absurd cc
held top next changed (Some parts) is e =
    let new = bound (changed parts.1) (λ last. Ok (with_files top (parts.0 ++ last ∷ []))) next e in
    (parts.0, parts.1, new.0, last_is top.files parts is, new.1, same_Ok (with_files top (parts.0 ++ new.0 ∷ [])) next new.2)

changed_more : (deep : ℕ) (lines more : List (List ℕ)) (below : List OpenVolume) (top : OpenVolume) (changed : NewFile → Result NewFile Cause) (to : State) → Opened deep lines below top
    → ((with_last top changed (last_of top.files) >>= fitting) >>= (λ next. Ok (Filling below next))) ≡ Ok to
    → ((inner : List (List ℕ)) (files : List NewFile) (last new : NewFile) → top.files ≡ files ++ last ∷ [] → changed last ≡ Ok new → SayFiles deep top.form.header_len inner top.name (files ++ last ∷ [])
    → SayFiles deep top.form.header_len (inner ++ more) top.name (files ++ new ∷ []))
    → Stands (lines ++ more) to
changed_more deep lines more below top changed to opened e on =
    let with_it = bound (with_last top changed (last_of top.files) >>= fitting) (λ next. Ok (Filling below next)) to e in
    let parts = held top with_it.0 changed (last_of top.files) refl (fitted_of (with_last top changed (last_of top.files)) with_it.0 with_it.1) in
    let files = parts.0 ++ parts.2 ∷ [] in
    let told : Opened deep (lines ++ more) below (with_files top files) =
    opened_more deep lines below top more top.name files opened
    (λ inner say. on inner parts.0 parts.1 parts.2 parts.3 parts.4 (subst (λ (fs : List NewFile). SayFiles deep top.form.header_len inner top.name fs) parts.3 say)) in
    let there : Opened deep (lines ++ more) below with_it.0 = subst (λ (v : OpenVolume). Opened deep (lines ++ more) below v) parts.5 told in
    subst (λ (s : State). Stands (lines ++ more) s) (same_Ok (Filling below with_it.0) to with_it.2) (deep, there)

-- a section more
filled_more : (deep : ℕ) (lines more : List (List ℕ)) (below : List OpenVolume) (top : OpenVolume) (one : NewSection) (to : State) → Opened deep lines below top → filling below top one ≡ Ok to
    → ((inner : List (List ℕ)) (files : List NewFile) (last new : NewFile) → top.files ≡ files ++ last ∷ [] → holding one last ≡ Ok new → SayFiles deep top.form.header_len inner top.name (files ++ last ∷ [])
    → SayFiles deep top.form.header_len (inner ++ more) top.name (files ++ new ∷ []))
    → Stands (lines ++ more) to
filled_more deep lines more below top one to opened e on = changed_more deep lines more below top (holding one) to opened e on

-- what was looked at in the last file
has_it : (top : OpenVolume) (files : List NewFile) (last : NewFile) (phase : Phase) (x : Unit {0}) → top.files ≡ files ++ last ∷ [] → part_checked phase top ≡ Ok x → has_part last.kind phase ≡ true
has_it top files last phase x is e =
    let found : last_of top.files ≡ Some (files, last) = ap last_of is ∙ last_push files last in
    passes (has_part last.kind phase) cause.NoPart x (ap (only_part phase) (sym found) ∙ e)

first_script : (top : OpenVolume) (files : List NewFile) (last : NewFile) (phase : Phase) (x : Unit {0}) → top.files ≡ files ++ last ∷ [] → only_first phase (last_of top.files) ≡ Ok x → has_script phase last ≡ false
first_script top files last phase x is e =
    let found : last_of top.files ≡ Some (files, last) = ap last_of is ∙ last_push files last in
    not_true (has_script phase last) (passes (not (has_script phase last)) cause.TwoScripts x (ap (only_first phase) (sym found) ∙ e))

first_depex : (top : OpenVolume) (files : List NewFile) (last : NewFile) (phase : Phase) (x : Unit {0}) → top.files ≡ files ++ last ∷ [] → only_first_depex phase (last_of top.files) ≡ Ok x
    → has_depex phase last ≡ false
first_depex top files last phase x is e =
    let found : last_of top.files ≡ Some (files, last) = ap last_of is ∙ last_push files last in
    not_true (has_depex phase last) (passes (not (has_depex phase last)) cause.TwoDepex x (ap (only_first_depex phase) (sym found) ∙ e))

-- a statement more in a volume
ends : (deep : ℕ) (lines : List (List ℕ)) (below : List OpenVolume) (top : OpenVolume) (line bytes : List ℕ) (to : State) → Opened deep lines below top → SaysLine line said.End → built_of top ≡ Ok bytes
    → closed_in bytes (last_of below) ≡ Ok to → Stands (lines ++ line ∷ []) to
ends deep lines below top line bytes to (outer own inner _ begins say) end built e =
    let told : SaysVolume MOST_INSIDE (own ∷ (inner ++ line ∷ [])) bytes = record { line = own; inner = inner; end = line; volume = top; here = refl; begins = begins; files = say; ends = end; built = built } in
    subst (λ (s : State). Stands (own ∷ (inner ++ line ∷ [])) s) (same_Ok (Done bytes) to e) told
ends deep lines below top line bytes to (nested _ front under parent own inner _ opened begins say) end built e =
    let found = ap (closed_in bytes) (sym (last_push under parent)) ∙ e in
    subst (λ (ls : List (List ℕ)). Stands ls to) (sym (append_assoc front (own ∷ inner) (line ∷ [])))
    (filled_more (suc deep) front (own ∷ (inner ++ line ∷ [])) under parent (section_of VOLUME_IMAGE bytes) to opened found
    (λ before files last new is holds told. volume before parent.name files last new own inner top line bytes told begins say end built holds))

-- a volume that has no name yet gets one
placed_then : (test : Bool) (made next : OpenVolume) → only_if test cause.Range made ≡ Ok next → (test ≡ true) × (made ≡ next)
placed_then true made next e = (refl, same_Ok made next e)
placed_then false made next e = absurd cc

named_then : (top : OpenVolume) (name : VolumeName) (next : OpenVolume) (o : Option VolumeName) → top.name ≡ o → named_over top name o ≡ Ok next
    → (top.name ≡ None) × (is_placed top.form.header_len (Some name) ≡ true) × (with_parts top (Some name) top.files ≡ next)
named_then top name next None is e =
    let both = placed_then (is_placed top.form.header_len (Some name)) (with_parts top (Some name) top.files) next e in (is, both.0, both.1)
named_then top name next (Some other) is e = absurd cc

-- a volume in a file, where it may be nested
allowed : (test : Bool) (c : Cause) (made to : State) → only_if test c made ≡ Ok to → (test ≡ true) × (made ≡ to)
allowed true c made to e = (refl, same_Ok made to e)
allowed false c made to e = absurd cc

begun_inside : (deep : ℕ) (lines : List (List ℕ)) (below : List OpenVolume) (top : OpenVolume) (line : List ℕ) (form : VolumeForm) (len : ℕ) → Opened deep lines below top
    → SaysLine line (said.Volume form len) → length below < MOST_INSIDE → Stands (lines ++ line ∷ []) (Filling (below ++ top ∷ []) (new_volume form len))
begun_inside zero lines below top line form len opened says few = absurd (omega (arith, few, levels zero lines below top opened))
begun_inside (suc deep) lines below top line form len opened says few = (deep, nested deep lines below top line [] (new_volume form len) opened says no_file)

begins_nested : (deep : ℕ) (files : List NewFile) (lines : List (List ℕ)) (below : List OpenVolume) (top : OpenVolume) (line : List ℕ) (form : VolumeForm) (len : ℕ) (to : State)
    → Opened deep lines below top → SaysLine line (said.Volume form len) → nested_in files below top form len ≡ Ok to → Stands (lines ++ line ∷ []) to
begins_nested deep [] lines below top line form len to opened says e = absurd cc
begins_nested deep (one ∷ files) lines below top line form len to opened says e =
    let is = allowed (nat_lt (length below) MOST_INSIDE) cause.Nesting (Filling (below ++ top ∷ []) (new_volume form len)) to e in
    let test : nat_lt (length below) MOST_INSIDE ≡ true = is.0 in
    let few : length below < MOST_INSIDE = grind (arith, nat_tests) in
    subst (λ (s : State). Stands (lines ++ line ∷ []) s) is.1 (begun_inside deep lines below top line form len opened says few)

in_volume : (deep : ℕ) (lines : List (List ℕ)) (below : List OpenVolume) (top : OpenVolume) (line : List ℕ) (one : Statement) (to : State) → Opened deep lines below top → SaysLine line one
    → filled below top one ≡ Ok to → Stands (lines ++ line ∷ []) to
in_volume deep lines below top line (said.Volume form len) to opened says e = begins_nested deep top.files lines below top line form len to opened says e
in_volume deep lines below top line (said.Name name) to opened says e =
    let parts = bound (with_name top name) (λ next. Ok (Filling below next)) to e in
    let is = named_then top name parts.0 top.name refl parts.1 in
    let told : Opened deep (lines ++ line ∷ []) below (with_parts top (Some name) top.files) = opened_more deep lines below top (line ∷ []) (Some name) top.files opened
    (λ inner say. named inner top.files line name (subst (λ (o : Option VolumeName). SayFiles deep top.form.header_len inner o top.files) is.0 say) says is.1) in
    let there : Opened deep (lines ++ line ∷ []) below parts.0 = subst (λ (v : OpenVolume). Opened deep (lines ++ line ∷ []) below v) is.2 told in
    subst (λ (s : State). Stands (lines ++ line ∷ []) s) (same_Ok (Filling below parts.0) to parts.2) (deep, there)
in_volume deep lines below top line (said.Pad len) to opened says e =
    let padded_top = with_files top (top.files ++ pad_file len ∷ []) in
    let parts = bound (fitting padded_top) (λ next. Ok (Filling below next)) to e in
    let is : ◌≡◌ {A = Result State Cause} (Ok (Filling below padded_top)) (Ok to) = ap (λ (v : OpenVolume). Ok (Filling below v)) (fitted padded_top parts.0 parts.1) ∙ parts.2 in
    subst (λ (s : State). Stands (lines ++ line ∷ []) s) (same_Ok (Filling below padded_top) to is)
    (deep, opened_more deep lines below top (line ∷ []) top.name (top.files ++ pad_file len ∷ []) opened (λ inner say. padded inner top.name top.files line len say says))
in_volume deep lines below top line (said.File kind name attributes) to opened says e =
    subst (λ (s : State). Stands (lines ++ line ∷ []) s) (same_Ok (Filling below (with_files top (top.files ++ new_file kind name attributes ∷ []))) to e)
    (deep, opened_more deep lines below top (line ∷ []) top.name (top.files ++ new_file kind name attributes ∷ []) opened (λ inner say. file inner top.name top.files line kind name attributes say says))
in_volume deep lines below top line (said.Body body) to opened says e =
    changed_more deep lines (line ∷ []) below top (with_bytes body) to opened e (λ inner files last new is holds say. bodied inner top.name files last new line body say says holds)
in_volume deep lines below top line (said.Section kind body) to opened says e =
    filled_more deep lines (line ∷ []) below top (section_of kind body) to opened e (λ inner files last new is holds say. section inner top.name files last new line kind body say says holds)
in_volume deep lines below top line (said.Depex phase body) to opened says e =
    let parts = bound (depex_checked phase top) (λ _. filling below top (section_of (depex_type phase) body)) to e in
    let both = bound (part_checked phase top) (λ _. only_first_depex phase (last_of top.files)) parts.0 parts.1 in
    filled_more deep lines (line ∷ []) below top (section_of (depex_type phase) body) to opened parts.2
    (λ inner files last new is holds say. depex inner top.name files last new line phase body say says (has_it top files last phase both.0 is both.1)
    (first_depex top files last phase parts.0 is both.2) holds)
in_volume deep lines below top line (said.Script phase) to opened says e =
    let parts = bound (script_checked phase top) (λ _. Ok (Writing below top (script_of phase []) [])) to e in
    subst (λ (s : State). Stands (lines ++ line ∷ []) s) (same_Ok (Writing below top (script_of phase []) []) to parts.2)
    (record { front = lines; line = line; inner = []; here = refl; deep = deep; opened = opened; begins = says; checked = parts.1; blocks = no_block })
in_volume deep lines below top line said.End to opened says e =
    let parts = bound (built_of top) (λ bytes. closed_in bytes (last_of below)) to e in
    ends deep lines below top line parts.0 to opened says parts.1 parts.2
in_volume deep lines below top line said.Block to opened says e = absurd cc
in_volume deep lines below top line (said.Action text) to opened says e = absurd cc

-- a statement more in a script
writes_more : (lines : List (List ℕ)) (below : List OpenVolume) (top : OpenVolume) (one : Script) (line : List ℕ) (blocks : List (List Action)) → WritesIn lines below top one
    → ((inner : List (List ℕ)) → SayBlocks one.phase inner one.blocks → SayBlocks one.phase (inner ++ line ∷ []) blocks) → WritesIn (lines ++ line ∷ []) below top (script_of one.phase blocks)
writes_more lines below top one line blocks w on = record {
  front = w.front;
  line = w.line;
  inner = w.inner ++ line ∷ [];
  here = ap (λ ls. ls ++ line ∷ []) w.here ∙ append_assoc w.front (w.line ∷ w.inner) (line ∷ []);
  deep = w.deep;
  opened = w.opened;
  begins = w.begins;
  checked = w.checked;
  blocks = on w.inner w.blocks;
}

acts : (lines : List (List ℕ)) (below : List OpenVolume) (top : OpenVolume) (one next : Script) (line text : List ℕ) (o : Option (List (List Action) × List Action)) → last_of one.blocks ≡ o
    → WritesIn lines below top one → SaysLine line (said.Action text) → into_last one.phase text o ≡ Ok next → WritesIn (lines ++ line ∷ []) below top next
acts lines below top one next line text None is w says e = absurd cc
acts lines below top one next line text (Some parts) is w says e =
    let found = bound (action_at one.phase text) (λ a. Ok (script_of one.phase (parts.0 ++ (parts.1 ++ a ∷ []) ∷ []))) next e in
    let blocks = parts.0 ++ (parts.1 ++ found.0 ∷ []) ∷ [] in
    subst (λ (s : Script). WritesIn (lines ++ line ∷ []) below top s) (same_Ok (script_of one.phase blocks) next found.2)
    (writes_more lines below top one line blocks w
    (λ inner say. action inner parts.0 parts.1 line text found.0 (subst (λ (bs : List (List Action)). SayBlocks one.phase inner bs) (last_is one.blocks parts is) say) says found.1))

wrote : (lines : List (List ℕ)) (below : List OpenVolume) (top : OpenVolume) (one next : Script) (line : List ℕ) (what : Statement) → WritesIn lines below top one → SaysLine line what
    → written one what ≡ Ok next → WritesIn (lines ++ line ∷ []) below top next
wrote lines below top one next line said.Block w says e =
    subst (λ (s : Script). WritesIn (lines ++ line ∷ []) below top s) (same_Ok (script_of one.phase (one.blocks ++ [] ∷ [])) next e)
    (writes_more lines below top one line (one.blocks ++ [] ∷ []) w (λ inner say. block inner one.blocks line say says))
wrote lines below top one next line (said.Action text) w says e = acts lines below top one next line text (last_of one.blocks) refl w says e
wrote lines below top one next line (said.Volume form len) w says e = absurd cc
wrote lines below top one next line (said.Name name) w says e = absurd cc
wrote lines below top one next line (said.Pad len) w says e = absurd cc
wrote lines below top one next line (said.Body bytes) w says e = absurd cc
wrote lines below top one next line (said.File kind name attributes) w says e = absurd cc
wrote lines below top one next line (said.Section kind body) w says e = absurd cc
wrote lines below top one next line (said.Depex phase body) w says e = absurd cc
wrote lines below top one next line (said.Script phase) w says e = absurd cc
wrote lines below top one next line said.End w says e = absurd cc

went_on : (lines : List (List ℕ)) (below : List OpenVolume) (top : OpenVolume) (one : Script) (numbers : List ℕ) (number : ℕ) (line : List ℕ) (what : Statement) (to : State) → WritesIn lines below top one → SaysLine line what
    → Ok to ≡ goes_on below top one numbers number what → Stands (lines ++ line ∷ []) to
went_on lines below top one numbers number line what to w says e =
    let parts = bound (written one what) (λ next. Ok (Writing below top next (numbers ++ number ∷ []))) to (at_ok number _ to e) in
    subst (λ (s : State). Stands (lines ++ line ∷ []) s) (same_Ok (Writing below top parts.0 (numbers ++ number ∷ [])) to parts.2) (wrote lines below top one parts.0 line what w says parts.1)

ended : (lines : List (List ℕ)) (below : List OpenVolume) (top : OpenVolume) (one : Script) (numbers : List ℕ) (number : ℕ) (line : List ℕ) (to : State) (body : Result (List ℕ) Fault) → WritesIn lines below top one → SaysLine line said.End
    → IsScriptBody one numbers number body → Ok to ≡ onward body (λ bytes. at number (filling below top (section_of RAW bytes))) → Stands (lines ++ line ∷ []) to
ended lines below top one numbers number line to (Err fault) w says is e = absurd cc
ended lines below top one numbers number line to (Ok bytes) w says is e =
    let parts = bound (part_checked one.phase top) (λ _. only_first one.phase (last_of top.files)) tt w.checked in
    let all = ap (λ ls. ls ++ line ∷ []) w.here ∙ append_assoc w.front (w.line ∷ w.inner) (line ∷ []) in
    subst (λ (ls : List (List ℕ)). Stands ls to) (sym all)
    (filled_more w.deep w.front (w.line ∷ (w.inner ++ line ∷ [])) below top (section_of RAW bytes) to w.opened (at_ok number _ to e)
    (λ before files last new held holds say. script before top.name files last new w.line one.phase w.inner one.blocks line bytes say w.begins
    (has_it top files last one.phase parts.0 held parts.1) (first_script top files last one.phase tt held parts.2) w.blocks says is.1 holds))

in_script : (lines : List (List ℕ)) (below : List OpenVolume) (top : OpenVolume) (one : Script) (numbers : List ℕ) (number : ℕ) (line : List ℕ) (what : Statement) (to : State) → WritesIn lines below top one → SaysLine line what
    → TakesInScript below top one numbers number what (Ok to) → Stands (lines ++ line ∷ []) to
in_script lines below top one numbers number line said.End to w says t = ended lines below top one numbers number line to t.0 w says t.1 t.2
in_script lines below top one numbers number line said.Block to w says t = went_on lines below top one numbers number line said.Block to w says t
in_script lines below top one numbers number line (said.Action text) to w says t = went_on lines below top one numbers number line (said.Action text) to w says t
in_script lines below top one numbers number line (said.Volume form len) to w says t = went_on lines below top one numbers number line (said.Volume form len) to w says t
in_script lines below top one numbers number line (said.Name name) to w says t = went_on lines below top one numbers number line (said.Name name) to w says t
in_script lines below top one numbers number line (said.Pad len) to w says t = went_on lines below top one numbers number line (said.Pad len) to w says t
in_script lines below top one numbers number line (said.Body bytes) to w says t = went_on lines below top one numbers number line (said.Body bytes) to w says t
in_script lines below top one numbers number line (said.File kind name attributes) to w says t = went_on lines below top one numbers number line (said.File kind name attributes) to w says t
in_script lines below top one numbers number line (said.Section kind body) to w says t = went_on lines below top one numbers number line (said.Section kind body) to w says t
in_script lines below top one numbers number line (said.Depex phase body) to w says t = went_on lines below top one numbers number line (said.Depex phase body) to w says t
in_script lines below top one numbers number line (said.Script phase) to w says t = went_on lines below top one numbers number line (said.Script phase) to w says t

-- the first line
first : (lines : List (List ℕ)) (line : List ℕ) (what : Statement) (to : State) → lines ≡ [] → SaysLine line what → begun what ≡ Ok to → Stands (lines ++ line ∷ []) to
first lines line (said.Volume form len) to none says e =
    subst (λ (ls : List (List ℕ)). Stands (ls ++ line ∷ []) to) (sym none)
    (subst (λ (s : State). Stands (line ∷ []) s) (same_Ok (Filling [] (new_volume form len)) to e) (MOST_INSIDE, outer line [] (new_volume form len) says no_file))
first lines line (said.Name name) to none says e = absurd cc
first lines line (said.Pad len) to none says e = absurd cc
first lines line (said.Body bytes) to none says e = absurd cc
first lines line (said.File kind name attributes) to none says e = absurd cc
first lines line (said.Section kind body) to none says e = absurd cc
first lines line (said.Depex phase body) to none says e = absurd cc
first lines line (said.Script phase) to none says e = absurd cc
first lines line said.Block to none says e = absurd cc
first lines line said.End to none says e = absurd cc
first lines line (said.Action text) to none says e = absurd cc

takes : (lines : List (List ℕ)) (from : State) (number : ℕ) (line : List ℕ) (what : Statement) (to : State) → Stands lines from → SaysLine line what → Takes from number what (Ok to) → Stands (lines ++ line ∷ []) to
takes lines Begin number line what to stands says t = first lines line what to stands says (at_ok number (begun what) to t)
takes lines (Filling below top) number line what to stands says t = in_volume stands.0 lines below top line what to stands.1 says (at_ok number (filled below top what) to t)
takes lines (Writing below top one numbers) number line what to stands says t = in_script lines below top one numbers number line what to stands says t
takes lines (Done bytes) number line what to stands says t = absurd cc

takes_read : (lines : List (List ℕ)) (from : State) (number : ℕ) (line : List ℕ) (to : State) (read : Result Statement Cause) → Stands lines from → Reads line read → TakesRead from number read (Ok to) → Stands (lines ++ line ∷ []) to
takes_read lines from number line to (Ok what) stands reads t = takes lines from number line what to stands reads t
takes_read lines from number line to (Err c) stands reads t = absurd cc

stands_behind : (before : List (List ℕ)) (from : State) (lines : List (ℕ × List ℕ)) (to : State) → Stands before from → Goes from lines to → Stands (before ++ map (λ line. line.1) lines) to
stands_behind before from [] to stands goes =
    subst (λ (ls : List (List ℕ)). Stands ls to) (sym (append-nil before)) (subst (λ (s : State). Stands before s) goes stands)
stands_behind before from (line ∷ lines) to stands goes =
    subst (λ (ls : List (List ℕ)). Stands ls to) (append_assoc before (line.1 ∷ []) (map (λ one. one.1) lines))
    (stands_behind (before ++ line.1 ∷ []) goes.0 lines to (takes_read before from line.0 line.1 goes.0 goes.1.0 stands goes.1.1 goes.1.2) goes.2)

-- behind all lines the volume has ended, so they say it
pub says : (text bytes : List ℕ) → Goes Begin (numbered text) (Done bytes) → Says text bytes
says text bytes goes = stands_behind [] Begin (numbered text) (Done bytes) refl goes
