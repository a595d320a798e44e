-- A volume's text says it again, and what is made of the text is read as the same volume.
use Rattle.std.proofs.Common.{◌≡◌, ℕ, zero, suc, refl, ◌+◌, ◌-◌, ◌%◌, ◌≤◌, true, List, [], ◌∷◌, ◌++◌, length, map, Option, Some, None, Result, Ok, Err, replicate, sym, ap, ◌∙◌, subst, append_assoc, length-append, arith, All, nat_le, ◌&&◌}
use Rattle.std.specs.List.{AllByRecursion}
use Rattle.std.proofs.{lemmas.Bool.Decides.nat_tests, lemmas.List.Elements.All-nil, lemmas.List.Elements.All-cons}
use Rattle.hex.specs.Hex.{IsBytes}
use Rattle.pi_base.specs.declared.guid.Guid.{Guid}
use Rattle.fv_volume.specs.{declared.file.FfsFile.FfsFile, declared.build.file_system.FileSystem.FileSystem}
use Rattle.fv_volume.proofs.Standing.{volume_inside}
use Rattle.fv_volume.specs.{declared.build.new_file.NewFile.NewFile, declared.build.volume_header.VolumeForm.VolumeForm, Files.HasWholeName}
use Rattle.fv_volume.specs.Reading.{AreEach, IsFileRead, listed, IsWhole, guid_of, IsReadAs}
use Rattle.fv_volume.specs.{declared.build.volume_name.VolumeName.VolumeName, Header.head_of, Header.volume_header}
use Rattle.fv_volume.specs.Front.{ext_at, name_part, front_len, first_place, is_placed}
use Rattle.fv_volume.specs.Building.{need, filled_from, volume_bytes}
use Rattle.fv_volume.proofs.VolumesRead.{length-header, length-front, sound, fits_header}
use Rattle.volume_text.specs.{declared.fault.Cause.Cause, declared.fault.Fault.Fault, declared.fault.TextFault.TheVariants.Bad}
use Rattle.volume_text.specs.{declared.volume.OpenVolume.OpenVolume, Open.built_of, Words.is_length, declared.step.TheConstants.MOST_INSIDE}
use Rattle.volume_again.proofs.BuiltTexts.{Made, made, made_again as read_again, ranges}
use Rattle.volume_text.specs.Text.{numbered, Describes, Says, Leads, IsRefused}
use Rattle.volume_text.specs.Volume.{SaysVolume}
use Rattle.fv_volume.specs.{declared.volume.Volume.Volume, Volume.IsVolume}
use Rattle.volume_print.specs.Spelling.{volume_line, name_line, with_pads}
use Rattle.volume_print.specs.Description.{IsFileIn, form_in, name_in, pads_of, IsInner, IsTextBy, IsTextOf}
use Rattle.volume_print.specs.Places.{rooms, pads_before, places}
use Rattle.volume_again.specs.Again.{IsNameOfBytes, IsFileAgain, among}
use Rattle.volume_again.specs.Made.{StandIn, IsMadeAgain, SaysItself, CannotBeBuilt}
use Rattle.volume_again.proofs.FilesAgain.{InnerLaws, TellsVolume, volume_told, ends_so}
use Rattle.volume_again.proofs.{Deeper.open_deeper, GoodHeaders.head_good, ListedFiles.volume_good, WholeNames.files_whole}
use Rattle.volume_again.proofs.FormAgain.{is_told, form_again, name_again}
use Rattle.volume_again.proofs.PadsStand.{laid_stand, stand_up, pads_stand}
use Rattle.volume_again.proofs.{OfBytes.files_of_bytes, OfBytes.attributes_fit, PadPieces.IsGoodPad, PadPieces.pad_whole}
use Rattle.volume_again.proofs.StandAgain.{IsListedFile, stand_again, none_left_out, kept, rooms_at, pads_fit, length-all}

-- the first place is a multiple of 8
first_even : (form : VolumeForm) (called : Option VolumeName) → first_place form called % 8 ≡ 0
first_even form called = omega arith

-- a length that a line can tell
long_enough : (len : ℕ) → 64 ≤ len → len ≤ 0x4000000 → is_length len ≡ true
long_enough len least most =
    let a : nat_le 64 len ≡ true = grind (arith, nat_tests) in
    let b : nat_le len 0x4000000 ≡ true = grind (arith, nat_tests) in
    ap (λ t. t && nat_le len 0x4000000) a ∙ b

-- the volume that a text describes
pub text_again : (text bytes : List ℕ) (said : Says text bytes) → IsReadAs said.volume.form said.volume.name said.volume.files said.volume.len bytes
text_again text bytes said =
    let whole = files_whole said.volume.form.header_len said.inner said.volume.name said.volume.files said.files in read_again said.volume bytes whole.0 whole.1 said.built

-- the laws of texts
pub record TextLaws : Type 0 where
  pub says : (text bytes : List ℕ) → Leads text bytes → Says text bytes
  pub leads : (text bytes : List ℕ) → Says text bytes → Leads text bytes
  pub built : (text : List ℕ) (volume : OpenVolume) (bytes : List ℕ) → Describes text volume → Leads text bytes → built_of volume ≡ Ok bytes

-- what is made of a text has at most 64 MiB
made_short : (text bytes : List ℕ) → Says text bytes → length bytes ≤ 0x4000000
made_short text bytes said =
    let most = (ranges said.volume (made said.volume bytes said.built).range).most in
    let r = text_again text bytes said in
    omega (arith, most, r.long)

-- the text of a volume says it, by what volumes inside have as their texts
told_by : (Inner : List ℕ → List ℕ → Type 0) (deep : ℕ) → InnerLaws Inner deep → (image text : List ℕ) (volume : Volume) → IsVolume image volume → (told : IsTextBy Inner image volume text) → IsBytes image
    → volume.len ≤ 0x4000000 → TellsVolume Inner deep (form_in image) volume.len (name_in image volume.name) (pads_of image volume told.files) told.files text
told_by Inner deep laws image text volume is told bytes most =
    let form = form_in image in
    let name = name_in image volume.name in
    let from = first_place form name in
    let good = volume_good image volume bytes is in
    let head = head_good image volume bytes is in
    let all = rooms form.file_system volume.files told.files in
    let long = long_enough volume.len head.least most in
    let inside = volume_inside image volume is in
    volume_told Inner deep laws form volume.len name (pads_before image from all) told.files text long (attributes_fit image bytes) head.header head.name.placed
    head.name.fits (length-all (IsFileIn form.file_system image) form.file_system image from volume.files told.files told.are)
    (pads_fit image form.file_system from volume.files told.files bytes (first_even form name) good inside told.are)
    (files_of_bytes form.file_system image volume.files told.files bytes good told.are) told.spelled

inner_laws : TextLaws → (deep left : ℕ) → deep + left ≡ MOST_INSIDE → InnerLaws (IsInner deep) deep
inner_laws laws zero left all = record { ends = λ stream text is. absurd is; says = λ stream text bytes is. absurd is }
inner_laws laws (suc deep) left all = record {
  ends = λ stream text is. ends_so (volume_line (form_in stream) is.volume.len) (name_line (name_in stream is.volume.name)) (with_pads (pads_of stream is.volume is.told.files) is.told.spelled.0) text is.told.spelled.2;
  says = λ stream text bytes is.
      let lines = map (λ (l : ℕ × List ℕ). l.1) (numbered text) in
      let short = made_short text is.again (laws.says text is.again is.leads) in
      let few : is.volume.len ≤ 0x4000000 = omega (arith, short, is.all, is.long) in
      let t = told_by (IsInner deep) deep (inner_laws laws deep (suc left) (omega (arith, all))) stream text is.volume is.is is.told bytes few in
      let described : Describes text t.volume = open_deeper deep (suc left) (omega (arith, all)) lines t.volume t.describes in
      let says : SaysVolume deep lines is.again = record {
        line = t.describes.line;
        inner = t.describes.inner;
        end = t.describes.end;
        volume = t.volume;
        here = t.describes.here;
        begins = t.describes.begins;
        files = t.describes.files;
        ends = t.describes.ends;
        built = laws.built text t.volume is.again described is.leads;
      } in
      record { left = deep; one_less = refl; again = is.again; leads = is.leads; long = is.long; says = says };
}

-- the text of a volume says it
pub says_itself : TextLaws → (image text : List ℕ) (told : IsTextOf image text) → IsBytes image → told.volume.len ≤ 0x4000000 → SaysItself image text told
says_itself laws image text told bytes most =
    let t = told_by (IsInner 3) 3 (inner_laws laws 3 0 (omega arith)) image text told.volume told.is told.told bytes most in
    let says : (again : List ℕ) → built_of t.volume ≡ Ok again → Says text again = λ again built. record {
      line = t.describes.line;
      inner = t.describes.inner;
      end = t.describes.end;
      volume = t.volume;
      here = t.describes.here;
      begins = t.describes.begins;
      files = t.describes.files;
      ends = t.describes.ends;
      built = built;
    } in
    record {
      volume = t.volume;
      again = t.again;
      form_is = ap (λ (v : OpenVolume). v.form) t.volume_is;
      len_is = ap (λ (v : OpenVolume). v.len) t.volume_is;
      name_is = ap (λ (v : OpenVolume). v.name) t.volume_is;
      files_are = t.files_are;
      padded = ap (λ (v : OpenVolume). v.files) t.volume_is;
      describes = t.describes;
      says = says;
      leads = λ again built. laws.leads text again (says again built);
    }

-- names that are whole
pads_whole : (pads files : List NewFile) → AllByRecursion IsGoodPad pads → All HasWholeName files → All HasWholeName (pads ++ files)
pads_whole [] files fits whole = whole
pads_whole (pad ∷ pads) files fits whole = All-cons HasWholeName pad (pads ++ files) (pad_whole pad fits.0) (pads_whole pads files fits.1 whole)

among_whole : (Inner : List ℕ → List ℕ → Type 0) (file_system : FileSystem) (image : List ℕ) (pads : List (List NewFile)) (found : List FfsFile) (files others : List NewFile)
    → AllByRecursion (AllByRecursion IsGoodPad) pads → AllByRecursion IsListedFile found
    → AreEach (IsFileIn file_system image) found files → AreEach (IsFileAgain Inner) files others → All HasWholeName (among pads others)
among_whole Inner file_system image [] found files others fits good are again = All-nil HasWholeName
among_whole Inner file_system image (p ∷ pads) [] [] [] fits good are again = All-nil HasWholeName
among_whole Inner file_system image (p ∷ pads) [] (file ∷ files) others fits good are again = absurd are
among_whole Inner file_system image (p ∷ pads) (one ∷ found) [] others fits good are again = absurd are
among_whole Inner file_system image (p ∷ pads) [] [] (other ∷ others) fits good are again = absurd again
among_whole Inner file_system image (p ∷ pads) (one ∷ found) (file ∷ files) [] fits good are again = absurd again
among_whole Inner file_system image (p ∷ pads) (one ∷ found) (file ∷ files) (other ∷ others) fits good are again =
    let whole : HasWholeName other = ap (λ (g : Guid). length g.0) (again.0.name ∙ are.0.name) ∙ good.0.name.0 in
    pads_whole p (other ∷ among pads others) fits.0
    (All-cons HasWholeName other (among pads others) whole (among_whole Inner file_system image pads found files others fits.1 good.1 are.1 again.1))

-- the files of a volume stand behind its header and its name
files_stand : (form : VolumeForm) (name : Option VolumeName) (files : List NewFile) (len : ℕ) → 64 ≤ form.header_len → is_placed form.header_len name ≡ true → IsWhole name
    → StandIn form.file_system (volume_bytes form name files len) (front_len form name) files
files_stand form name files len least placed whole =
    let from = front_len form name in
    let header = volume_header (head_of form (ext_at name) len) in
    let called = name_part form.header_len name in
    let filled = filled_from form.file_system from files len in
    let long : length (header ++ called) ≡ from =
    length-append header called ∙ ap (λ n. n + length called) (length-header form.file_system form.attributes form.header_len (ext_at name) len least) ∙ length-front form name placed whole in
    laid_stand form.file_system from files (header ++ called) (replicate (len - need form.file_system from files) 255) (volume_bytes form name files len) long (sym (append_assoc header called filled))

whole_name : (called : Option VolumeName) → IsNameOfBytes called → IsWhole called
whole_name None is = tt
whole_name (Some name) is = (is.0.0, is.1)

-- what is made of it
pub made_again : (image text again : List ℕ) (told : IsTextOf image text) → IsBytes image → told.volume.len ≤ 0x4000000 → (s : SaysItself image text told) → built_of s.volume ≡ Ok again
    → IsMadeAgain image text told again
made_again image text again told bytes most s built =
    let volume = told.volume in
    let form = form_in image in
    let name = name_in image volume.name in
    let from = first_place form name in
    let good = volume_good image volume bytes told.is in
    let head = head_good image volume bytes told.is in
    let all = rooms form.file_system volume.files told.told.files in
    let inside = volume_inside image volume told.is in
    let pads = pads_before image from all in
    let fits = pads_fit image form.file_system from volume.files told.told.files bytes (first_even form name) good inside told.told.are in
    let one : OpenVolume = record { form = form; len = volume.len; name = name; files = among pads s.again } in
    let is : s.volume ≡ one =
    ap (λ f. let v : OpenVolume = record { form = f; len = s.volume.len; name = s.volume.name; files = s.volume.files } in v) s.form_is
    ∙ ap (λ n. let v : OpenVolume = record { form = form; len = n; name = s.volume.name; files = s.volume.files } in v) s.len_is
    ∙ ap (λ n. let v : OpenVolume = record { form = form; len = volume.len; name = n; files = s.volume.files } in v) s.name_is
    ∙ ap (λ fs. let v : OpenVolume = record { form = form; len = volume.len; name = name; files = fs } in v) s.padded in
    let built_one : built_of one ≡ Ok again = subst (λ (v : OpenVolume). built_of v ≡ Ok again) is built in
    let m : Made one again = made one again built_one in
    let sized = ranges one m.range in
    let whole = among_whole (IsInner 3) form.file_system image pads volume.files told.told.files s.again fits good told.told.are s.files_are in
    let whole_called : IsWhole name = whole_name name head.name.fits in
    let r : IsReadAs form name one.files volume.len again = read_again one again whole_called whole built_one in
    let left : listed one.files ≡ s.again =
    none_left_out (IsInner 3) form.file_system image pads volume.files told.told.files s.again
    (length-all (IsFileIn form.file_system image) form.file_system image from volume.files told.told.files told.told.are) fits good told.told.are s.files_are in
    let stand : map (λ (f : FfsFile). f.at) r.volume.files ≡ places from all =
    r.places ∙ stand_again (IsInner 3) image form.file_system from volume.files told.told.files s.again bytes (first_even form name) good inside told.told.are s.files_are in
    let same_len : length (volume_bytes form name one.files volume.len) ≡ volume.len = ap length m.bytes_are ∙ r.long in
    let room = (sound form.file_system (front_len form name) one.files volume.len m.sound).room in
    let least = (fits_header form.header_len sized.header).least in
    let back : name_in (volume_bytes form name one.files volume.len) (guid_of name) ≡ name =
    name_again form name one.files volume.len same_len head.least least head.name.placed whole_called (omega (arith, room)) (omega (arith, sized.most)) in
    let laid_there : StandIn form.file_system again (front_len form name) one.files =
    subst (λ (b : List ℕ). StandIn form.file_system b (front_len form name) one.files) m.bytes_are (files_stand form name one.files volume.len least head.name.placed whole_called) in
    record {
      volume = r.volume;
      is_volume = r.is_volume;
      form_is = ap form_in (sym m.bytes_are) ∙ form_again form name one.files volume.len same_len head.least head.short (is_told image (attributes_fit image bytes));
      len_is = r.len_is;
      long = r.long;
      name_is = r.name_is ∙ head.name.same;
      place_is = ap (λ xs. name_in xs r.volume.name) (sym m.bytes_are) ∙ ap (λ o. name_in (volume_bytes form name one.files volume.len) o) r.name_is ∙ back;
      files = s.again;
      files_are = s.files_are;
      are_read = subst (λ (fs : List NewFile). AreEach (IsFileRead again) fs r.volume.files) left r.are_files;
      stand = stand;
      kept = λ leave. stand ∙ kept from all leave ∙ rooms_at (IsFileIn form.file_system image) form.file_system volume.files told.told.files told.told.are;
      pads = pads_stand (IsInner 3) image again form.file_system from volume.files told.told.files s.again bytes (first_even form name) good inside told.told.are s.files_are
          (stand_up form.file_system again (front_len form name) one.files laid_there);
    }

-- and where it is refused
pub refused_so : ((text bytes : List ℕ) (fault : Fault) → Leads text bytes → IsRefused text (Bad fault) → ⊥) → (image text : List ℕ) (fault : Fault) (told : IsTextOf image text)
    → (s : SaysItself image text told) → IsRefused text (Bad fault) → (r : Result (List ℕ) Cause) → built_of s.volume ≡ r → CannotBeBuilt image text told
refused_so apart image text fault told s refused (Ok bytes) is = absurd (apart text bytes fault (s.leads bytes is) refused)
refused_so apart image text fault told s refused (Err c) is = (s, (c, is))
