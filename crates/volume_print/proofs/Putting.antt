-- Texts that are put.
use Rattle.std.proofs.Common.{◌≡◌, ℕ, zero, suc, ◌+◌, ◌<◌, ◌≤◌, Bool, true, false, decimal, List, [], ◌∷◌, ◌++◌, length, map, take, drop, get_or, flat_map, Some, None, refl, sym, ap, ◌∙◌, subst, append_assoc, arith, eqb-true, append-nil, ◌==◌, codes, slice_index}
use Rattle.std.proofs.{lemmas.Bool.Decides.nat_tests, lemmas.List.take_more}
use Rattle.pi_base.specs.{declared.phase.Phase.Phase, declared.phase.Phase.TheVariants.Pei, declared.phase.Phase.TheVariants.Dxe}
use Rattle.pi_base.specs.WordText.{hexadecimal}
use Rattle.act_code.specs.declared.script.Script.{Script}
use Rattle.asm_text.specs.ScriptText.{line, phase_text, block_lines, script_text}
use Rattle.fv_volume.specs.{declared.file.FfsFile.FfsFile, declared.volume.Volume.Volume}
use Rattle.fv_volume.specs.{declared.build.attributes.FileAttributes.FileAttributes, Attributes.attributes_in}
use Rattle.fv_volume.specs.{declared.build.file_system.FileSystem.FileSystem, Files.bytes_in, Files.file_size, Sections.body_bytes}
use Rattle.fv_volume.specs.{Frame.aligned, Reading.AreEach, declared.sections.section.Section.Section}
use Rattle.volume_print.proofs.Lists.{each_more, texts_more, whole_more, map_more}
use Rattle.volume_print.proofs.Rooms.{each_long, rooms_more, length-rooms, length-pads, behind_more, pads_more, with_more, between_held, behind_held, next_held}
use Rattle.fv_volume.specs.{declared.build.new_file.NewFile.NewFile, declared.build.new_file.NewSection.NewSection}
use Rattle.fv_volume.specs.declared.build.new_file.Body.TheVariants.{Sections, Bytes}
use Rattle.volume_print.specs.{declared.form.Form.Form, declared.form.Host.Host}
use Rattle.volume_print.specs.declared.form.Form.TheVariants as form
use Rattle.volume_text.specs.Text.{Leads}
use Rattle.volume_print.specs.Spelling.{holds_volume, as_volume, as_expression, as_guids, as_script, as_name, as_bytes, body_line, head_line, name_line, volume_line, attribute_words, number_words, whole, pad_text, with_pads, IsSectionText, AreSectionTexts, IsFileText}
use Rattle.volume_print.specs.Description.{section_in, form_in, name_in, pads_of, IsStream, IsBodyIn, IsFileIn, IsTextBy, IsInner}
use Rattle.volume_print.specs.Finding.{form_text, FindsVolume, FindsText, TellsVolume, IsPlainForm, IsForm, AddsSection, AddsSections, AddsBody, AddsFile, AddsFiles, held}
use Rattle.volume_print.specs.Places.{Room, room_of, rooms, between, pads_in, stands, behind_all, pads_before}
use Rattle.fv_volume.specs.Front.{first_place}

-- a section in a form has the form's text
pub in_form : (Inner : List ℕ → List ℕ → Type 0) (host : Host) (before : List NewSection) (section : NewSection) (f : Form) → IsForm Inner host before section f
    → IsSectionText Inner host before section (form_text section f)
in_form Inner host before section (form.Volume text) is = as_volume is
in_form Inner host before section (form.Expression phase e) is = as_expression phase e is.1 refl
in_form Inner host before section form.Guids is = as_guids is.1 refl
in_form Inner host before section (form.Script s) is = as_script s is.1 refl
in_form Inner host before section (form.Name name) is = as_name name is.1 refl
in_form Inner host before section form.Bytes is = as_bytes is.0 is.1.0 is.1.1 is.1.2 is.1.3 refl

-- a plain form is one where the section is told as no volume
pub formed : (Inner : List ℕ → List ℕ → Type 0) (host : Host) (before : List NewSection) (section : NewSection) (f : Form) → TellsVolume Inner host section None
    → IsPlainForm host before section f → IsForm Inner host before section f
formed Inner host before section (form.Volume text) none is = absurd is
formed Inner host before section (form.Expression phase e) none is = (none, is)
formed Inner host before section form.Guids none is = (none, is)
formed Inner host before section (form.Script s) none is = (none, is)
formed Inner host before section (form.Name name) none is = (none, is)
formed Inner host before section form.Bytes none is = (none, is)

-- a section's text was put
pub added : (Inner : List ℕ → List ℕ → Type 0) (host : Host) (before : List NewSection) (section : NewSection) (f : Form) (old new : List ℕ) → IsForm Inner host before section f
    → new ≡ old ++ form_text section f → AddsSection Inner host before section old new
added Inner host before section f old new is grown = (form_text section f, in_form Inner host before section f is, grown)

-- the texts of sections so far, and of one more
pub sections_more : (Inner : List ℕ → List ℕ → Type 0) (host : Host) (stream : List ℕ) (all : List Section) (place : ℕ) (d : Section) (old now new : List ℕ) → place < length all
    → AddsSections Inner host (map (section_in stream) (take place all)) old now
    → AddsSection Inner host (map (section_in stream) (take place all)) (section_in stream (get_or all place d)) now new
    → AddsSections Inner host (map (section_in stream) (take (place + 1) all)) old new
sections_more Inner host stream all place d old now new within told adds =
    let before = map (section_in stream) (take place all) in
    let texts = told.0 ++ adds.0 ∷ [] in (
      texts,
      subst (λ (ss : List NewSection). AreSectionTexts Inner host [] ss texts) (sym (map_more (section_in stream) all place d within))
          (texts_more Inner host [] before (section_in stream (get_or all place d)) told.0 adds.0 told.1 adds.1),
      whole_more old now new adds.0 told.0 told.2 adds.2,
    )

-- a body's text was put
pub sections_added : (Inner : List ℕ → List ℕ → Type 0) (host : Host) (stream : List ℕ) (read : List Section) (old new : List ℕ) (file_system : FileSystem) → IsStream file_system host.kind stream (Some read)
    → AddsSections Inner host (map (section_in stream) read) old new
    → (len : ℕ) → len ≡ held (length (body_bytes file_system (map (section_in stream) read))) → AddsBody Inner file_system host stream old new len
sections_added Inner host stream read old new file_system is adds len long = record {
  body = Sections (map (section_in stream) read);
  is = (is.0, (read, is.1, is.3, refl));
  text = whole adds.0;
  told = (adds.0, adds.1, refl);
  grown = adds.2;
  long = long;
}

pub bytes_added : (Inner : List ℕ → List ℕ → Type 0) (host : Host) (stream old new : List ℕ) (file_system : FileSystem) → IsStream file_system host.kind stream None → new ≡ old ++ body_line stream
    → (len : ℕ) → len ≡ length stream → len ≤ 18446744073709551615 → AddsBody Inner file_system host stream old new len
bytes_added Inner host stream old new file_system is grown len long fits =
    record { body = Bytes stream; is = (refl, is); text = body_line stream; told = refl; grown = grown; long = omega (arith, long, fits) }

-- a file's text was put
pub file_added : (Inner : List ℕ → List ℕ → Type 0) (file_system : FileSystem) (image : List ℕ) (found : FfsFile) (from next : ℕ) (attributes : FileAttributes) (stream old padded mid new : List ℕ) (len : ℕ)
    → attributes ≡ attributes_in (slice_index image (found.at + 19))
    → stream ≡ take found.body_len (drop found.body_at image) → padded ≡ old ++ flat_map pad_text (pads_in (between image from found.at))
    → mid ≡ padded ++ head_line found.kind found.name attributes
    → AddsBody Inner file_system (record { kind = found.kind; name = found.name }) stream mid new len → found.at ≤ 18446744073709551615
    → next ≡ held (aligned (stands from found.at + held (file_size file_system len))) → AddsFile Inner file_system image found from next old new
file_added Inner file_system image found from next attributes stream old padded mid new len are is before head adds fits after =
    let file : NewFile = record { name = found.name; kind = found.kind; attributes = attributes; body = adds.body } in
    let line = head_line found.kind found.name attributes in
    let pads = flat_map pad_text (pads_in (between image from found.at)) in
    record {
      file = file;
      is = record { name = refl; kind = refl; attributes = are; body = subst (λ (s : List ℕ). IsBodyIn file_system found.kind s adds.body) is adds.is };
      text = line ++ adds.text;
      told = (adds.text, adds.told, refl);
      grown = adds.grown ∙ ap (λ xs. xs ++ adds.text) (head ∙ ap (λ xs. xs ++ line) before) ∙ append_assoc (old ++ pads) line adds.text ∙ append_assoc old pads (line ++ adds.text);
      fits = fits;
      next_is = after ∙ next_held file_system (stands from found.at) (length (bytes_in file_system adds.body)) len adds.long;
    }

-- no file's text was put yet
pub no_files : (Inner : List ℕ → List ℕ → Type 0) (file_system : FileSystem) (image : List ℕ) (from : ℕ) (old : List ℕ) → from ≤ 18446744073709551615
    → AddsFiles Inner file_system image [] from from old old
no_files Inner file_system image from old fits = record { files = []; texts = []; are = tt; told = tt; grown = sym (append-nil old); next_is = omega (arith, fits) }

-- the texts of files so far, and of one more
pub files_more : (Inner : List ℕ → List ℕ → Type 0) (file_system : FileSystem) (image : List ℕ) (all : List FfsFile) (place : ℕ) (d : FfsFile) (first from next : ℕ) (old now new : List ℕ) → place < length all
    → AddsFiles Inner file_system image (take place all) first from old now → AddsFile Inner file_system image (get_or all place d) from next now new
    → AddsFiles Inner file_system image (take (place + 1) all) first next old new
files_more Inner file_system image all place d first from next old now new within told adds =
    let found = get_or all place d in
    let before = take place all in
    let room = room_of file_system found adds.file in
    let some = rooms file_system before told.files in
    let pads = pads_before image first some in
    let true_from = behind_all first some in
    let more : rooms file_system (take (place + 1) all) (told.files ++ adds.file ∷ []) ≡ some ++ room ∷ [] =
    ap (λ (fs : List FfsFile). rooms file_system fs (told.files ++ adds.file ∷ [])) (take_more all place d within)
    ∙ rooms_more (IsFileIn file_system image) file_system before told.files found adds.file told.are in
    let stretch : between image from found.at ≡ between image true_from found.at = between_held image found.at from true_from adds.fits told.next_is in
    let long : length pads ≡ length told.texts =
    length-pads image first some ∙ length-rooms (IsFileIn file_system image) file_system before told.files told.are ∙ each_long (IsFileText Inner) told.files told.texts told.told in
    let spelled = with_pads pads told.texts in
    let filled = pads_in (between image true_from found.at) in
    let last = flat_map pad_text filled ++ adds.text in
    record {
      files = told.files ++ adds.file ∷ [];
      texts = told.texts ++ adds.text ∷ [];
      are = subst (λ (fs : List FfsFile). AreEach (IsFileIn file_system image) fs (told.files ++ adds.file ∷ [])) (sym (take_more all place d within))
          (each_more (IsFileIn file_system image) before told.files found adds.file told.are adds.is);
      told = each_more (IsFileText Inner) told.files told.texts adds.file adds.text told.told adds.told;
      grown = adds.grown ∙ ap (λ s. now ++ (flat_map pad_text (pads_in s) ++ adds.text)) stretch ∙ ap (λ xs. xs ++ last) told.grown ∙ append_assoc old spelled last
          ∙ ap (λ xs. old ++ xs) (sym (ap (λ (rs : List Room). with_pads (pads_before image first rs) (told.texts ++ adds.text ∷ [])) more
          ∙ ap (λ ps. with_pads ps (told.texts ++ adds.text ∷ [])) (pads_more image first some room)
          ∙ with_more pads told.texts filled adds.text long));
      next_is = adds.next_is ∙ behind_held from true_from room adds.fits told.next_is ∙ ap held (sym (behind_more first some room)) ∙ ap (λ (rs : List Room). held (behind_all first rs)) (sym more);
    }

-- six texts one behind the other, the last a line feed
pub six : (old a b c d e f first second third fourth fifth sixth : List ℕ) → a ≡ old ++ first → b ≡ a ++ second → c ≡ b ++ third → d ≡ c ++ fourth → e ≡ d ++ fifth → f ≡ e ++ sixth
    → f ≡ old ++ ((first ++ (second ++ (third ++ (fourth ++ fifth)))) ++ sixth)
six old a b c d e f first second third fourth fifth sixth p q r s t u =
    let line = first ++ (second ++ (third ++ (fourth ++ fifth))) in
    u ∙ ap (λ x. x ++ sixth)
    (t ∙ ap (λ x. x ++ fifth) (s ∙ ap (λ x. x ++ fourth) (r ∙ ap (λ x. x ++ third) (q ∙ ap (λ x. x ++ second) p)))
    ∙ append_assoc (((old ++ first) ++ second) ++ third) fourth fifth ∙ append_assoc ((old ++ first) ++ second) third (fourth ++ fifth)
    ∙ append_assoc (old ++ first) second (third ++ (fourth ++ fifth)) ∙ append_assoc old first (second ++ (third ++ (fourth ++ fifth))))
    ∙ append_assoc old line sixth

some_left : (n : ℕ) → (n ≡ 0 → ⊥) → (n == 0) ≡ false
some_left zero other = absurd (other refl)
some_left (suc n) other = grind (arith, nat_tests)

-- the attributes of a volume are told
pub attributes_put : (attributes : ℕ) (old mid new : List ℕ) → (attributes ≡ 0 → ⊥) → mid ≡ old ++ codes " attributes " → new ≡ mid ++ hexadecimal attributes → new ≡ old ++ attribute_words attributes
attributes_put attributes old mid new some first second =
    rw (some_left attributes some) (second ∙ ap (λ x. x ++ hexadecimal attributes) first ∙ append_assoc old (codes " attributes ") (hexadecimal attributes))

-- a number is told that is not the usual one
other_by : (test : Bool) (usual n : ℕ) → (n == usual) ≡ test → (n ≡ usual → ⊥) → test ≡ false
other_by true usual n is other = absurd (other (eqb-true n usual is))
other_by false usual n is other = refl

other_number : (usual n : ℕ) → (n ≡ usual → ⊥) → (n == usual) ≡ false
other_number usual n other = other_by (n == usual) usual n refl other

pub number_put : (key : List ℕ) (usual n : ℕ) (old mid new : List ℕ) → (n ≡ usual → ⊥) → mid ≡ old ++ key → new ≡ mid ++ decimal n → new ≡ old ++ number_words key usual n
number_put key usual n old mid new other first second =
    rw (other_number usual n other) (second ∙ ap (λ x. x ++ decimal n) first ∙ append_assoc old key (decimal n))

-- the text of a script begins with a line that names its phase
abbrev blocks_in : Script → List ℕ
blocks_in script = flat_map block_lines script.blocks

phase_line : (phase : Phase) (rest : List ℕ) → drop 10 (line (phase_text phase) ++ rest) ≡ rest
unfolding phase_text
phase_line Pei rest = refl
phase_line Dxe rest = refl

phase_long : (phase : Phase) (rest : List ℕ) → 10 ≤ length (line (phase_text phase) ++ rest)
unfolding phase_text
phase_long Pei rest = omega arith
phase_long Dxe rest = omega arith

pub script_long : (script : Script) (text slice : List ℕ) → text ≡ script_text script → slice ≡ text → 10 ≤ length slice
script_long script text slice is same = rw (same, is) (phase_long script.phase (blocks_in script))

pub script_rest : (script : Script) (text slice : List ℕ) → text ≡ script_text script → slice ≡ text → drop 10 slice ≡ flat_map block_lines script.blocks
script_rest script text slice is same = ap (drop 10) (same ∙ is) ∙ phase_line script.phase (blocks_in script)

-- five texts one behind the other
pub five : (old a b c d e first second third fourth fifth : List ℕ) → a ≡ old ++ first → b ≡ a ++ second → c ≡ b ++ third → d ≡ c ++ fourth → e ≡ d ++ fifth
    → e ≡ old ++ (((first ++ second) ++ third) ++ (fourth ++ fifth))
five old a b c d e first second third fourth fifth p q r s t =
    t ∙ ap (λ x. x ++ fifth) (s ∙ ap (λ x. x ++ fourth) (r ∙ ap (λ x. x ++ third) (q ∙ ap (λ x. x ++ second) p)))
    ∙ append_assoc (((old ++ first) ++ second) ++ third) fourth fifth
    ∙ ap (λ x. x ++ (fourth ++ fifth)) (append_assoc (old ++ first) second third ∙ append_assoc old first (second ++ third) ∙ ap (λ x. old ++ x) (sym (append_assoc first second third)))
    ∙ append_assoc old ((first ++ second) ++ third) (fourth ++ fifth)

-- the text of a volume was put
pub text_put : (Inner : List ℕ → List ℕ → Type 0) (image : List ℕ) (volume : Volume) (next : ℕ) (head named filed new : List ℕ) → head ≡ [] ++ volume_line (form_in image) volume.len
    → named ≡ head ++ name_line (name_in image volume.name) → AddsFiles Inner (form_in image).file_system image volume.files (first_place (form_in image) (name_in image volume.name)) next named filed
    → new ≡ filed ++ codes "end\n" → IsTextBy Inner image volume new
text_put Inner image volume next head named filed new first second files last =
    let spelled = with_pads (pads_of image volume files.files) files.texts in
    record {
      files = files.files;
      are = files.are;
      spelled = (
        files.texts,
        files.told,
        last ∙ ap (λ x. x ++ codes "end\n") (files.grown ∙ ap (λ x. x ++ spelled) (second ∙ ap (λ x. x ++ name_line (name_in image volume.name)) first))
            ∙ append_assoc (volume_line (form_in image) volume.len ++ name_line (name_in image volume.name)) spelled (codes "end\n")
            ∙ append_assoc (volume_line (form_in image) volume.len) (name_line (name_in image volume.name)) (spelled ++ codes "end\n"),
      );
    }

-- a section is told as a volume
pub told_inside : (deep : ℕ) (host : Host) (section : NewSection) (volume : Volume) (text same : List ℕ) → holds_volume host section.kind ≡ true → FindsVolume section.body (Some volume)
    → IsTextBy (IsInner deep) section.body volume text → FindsText (length section.body) text (Some same) → TellsVolume (IsInner (suc deep)) host section (Some same)
told_inside deep host section volume text same holds found told again = (
  holds,
  record {
    volume = volume;
    is = found.0;
    all = found.1;
    told = subst (λ (t : List ℕ). IsTextBy (IsInner deep) section.body volume t) (sym again.0) told;
    again = again.1.0;
    leads = subst (λ (t : List ℕ). Leads t again.1.0) (sym again.0) again.1.1;
    long = again.1.2;
  },
)
