-- The GUIDs that the lines of a text say have sixteen bytes each.
use Rattle.std.proofs.Common.{◌≡◌, ℕ, ◌<◌, ◌^◌, arith, Bool, true, false, cond, List, [], ◌∷◌, ◌++◌, length, Option, Some, None, option_map, Result, Ok, Err, refl, sym, ap, ◌∙◌, subst, All, IfOk, bytes_eq, codes, nat_lt}
use Rattle.std.proofs.lemmas.List.Elements.{All-nil, All-cons, All-head, All-tail, All-push}
use Rattle.std.specs.Prelude.{⊤}
use Rattle.std.proofs.lemmas.Bool.Decides.{nat_tests}
use Rattle.uuid.specs.{Text.parsed_hyphenated, Parts.swap_fields}
use Rattle.pi_base.specs.{declared.guid.Guid.Guid, declared.phase.Phase.Phase}
use Rattle.pi_base.specs.declared.known_guid.TheConstants.{VOLUME_INFO_PPI, MEMORY_PPI, DXE_IPL_PPI}
use Rattle.fv_volume.specs.declared.volume_header.TheConstants.{FFS2, FFS3}
use Rattle.fv_volume.specs.declared.build.new_file.Body.{Body}
use Rattle.fv_volume.specs.declared.build.new_file.Body.TheVariants.{Sections, Bytes}
use Rattle.fv_volume.specs.{declared.build.new_file.NewFile.NewFile, declared.build.new_file.NewSection.NewSection, Files.HasWholeName}
use Rattle.source_words.specs.{GuidWord.unbraced, GuidWord.guid_of, Words.words}
use Rattle.volume_text.specs.{declared.fault.Cause.Cause, declared.statement.Statement.Statement, Keywords.keyword_of}
use Rattle.volume_text.specs.declared.fault.Cause.TheVariants as cause
use Rattle.volume_text.specs.declared.statement.Statement.TheVariants as said
use Rattle.volume_text.specs.Reading.{◌>>=◌, only_if, there}
use Rattle.volume_text.specs.Words.{none_left, guid_at, phase_at, length_at, pad_length_at, system_at, told_at, header_at, attributes_at, place_at, size_at, chosen_at, file_type_at, section_type_at, ui_name_at}
use Rattle.volume_text.specs.Bytes.{bytes_of, guids_of}
use Rattle.volume_text.specs.Line.{volume_at, name_at, pad_at, file_at, script_at, guids_at, raw_at, section_at, ui_at, body_at, alone, ReadsBy, ReadsFirst, ReadsExpression}
use Rattle.volume_text.specs.Open.{with_body, held_in, is_empty}
use Rattle.volume_text.specs.Volume.{SaysLine, SayFiles, no_file, named, padded, file, bodied, section, depex, script, volume}
use Rattle.fv_volume.specs.{Reading.IsWhole, declared.build.volume_name.VolumeName.VolumeName}

-- a GUID that a word names or spells
same_guid : (a b : Guid) → ◌≡◌ {A = Option Guid} (Some a) (Some b) → a ≡ b
same_guid a b e = cc

spelled_whole : (parsed : Option (List ℕ)) (guid : Guid) → option_map (λ bytes. let g : Guid = record { 0 = bytes } in g) (option_map swap_fields parsed) ≡ Some guid → length guid.0 ≡ 16
spelled_whole None guid e = absurd cc
spelled_whole (Some bytes) guid e = ap (λ (g : Guid). length g.0) (sym (same_guid (record { 0 = swap_fields bytes }) guid e))

named_or : (test : Bool) (name : Guid) (other : Option Guid) (guid : Guid) → length name.0 ≡ 16 → (other ≡ Some guid → length guid.0 ≡ 16) → cond test (Some name) other ≡ Some guid → length guid.0 ≡ 16
named_or true name other guid whole rest e = ap (λ (g : Guid). length g.0) (sym (same_guid name guid e)) ∙ whole
named_or false name other guid whole rest e = rest e

guid_whole : (word : List ℕ) (guid : Guid) → guid_of word ≡ Some guid → length guid.0 ≡ 16
unfolding guid_of
guid_whole word guid =
    named_or (bytes_eq word (codes "pei-apriori")) _ _ guid refl
    (named_or (bytes_eq word (codes "dxe-apriori")) _ _ guid refl
    (named_or (bytes_eq word (codes "volume-info-ppi")) VOLUME_INFO_PPI _ guid refl
    (named_or (bytes_eq word (codes "memory-ppi")) MEMORY_PPI _ guid refl
    (named_or (bytes_eq word (codes "dxe-ipl-ppi")) DXE_IPL_PPI _ guid refl
    (named_or (bytes_eq word (codes "ffs2")) (record { 0 = FFS2 }) _ guid refl
    (named_or (bytes_eq word (codes "ffs3")) (record { 0 = FFS3 }) _ guid refl
    (spelled_whole (parsed_hyphenated (unbraced word)) guid)))))))

-- what is read behind something else
behind : {A B : Type 0} (r : Result A Cause) (f : A → Result B Cause) (P : B → Type 0) → ((x : A) → r ≡ Ok x → IfOk (f x) P) → IfOk (r >>= f) P
behind (Ok x) f P each = each x refl
behind (Err e) f P each = tt

found_whole : (word : List ℕ) (others : List (List ℕ)) (guid : Option Guid) → guid_of word ≡ guid
    → IfOk (there cause.Guid guid >>= (λ g. Ok (g, others))) (λ (x : Guid × List (List ℕ)). length x.0.0 ≡ 16)
found_whole word others None is = tt
found_whole word others (Some guid) is = guid_whole word guid is

word_whole : (others : List (List ℕ)) → IfOk (guid_at others) (λ x. length x.0.0 ≡ 16)
unfolding guid_at
word_whole [] = tt
word_whole (word ∷ others) = found_whole word others (guid_of word) refl

-- the GUID of what a line says is whole
abbrev NamesWhole : Statement → Type 0
NamesWhole (said.Name name) = IsWhole (Some name)
NamesWhole (said.File kind name attributes) = length name.0 ≡ 16
NamesWhole _ = ⊤

if_ok : {A : Type 0} (r : Result A Cause) (P : A → Type 0) (x : A) → r ≡ Ok x → IfOk r P → P x
if_ok {A} r P x e h = subst (λ (r' : Result A Cause). IfOk r' P) e h

volume_whole : (others : List (List ℕ)) → IfOk (volume_at others) NamesWhole
unfolding volume_at
volume_whole others =
    behind (length_at others) _ NamesWhole (λ len _. behind (system_at len.1) _ NamesWhole (λ system _. behind (header_at len.0 system.1) _ NamesWhole
    (λ header _. behind (attributes_at header.1) _ NamesWhole (λ attributes _. tt))))

-- a place that is told is a number of 16 bits
near_by : (x : ℕ × List (List ℕ)) (test : Bool) → nat_lt x.0 65536 ≡ test → IfOk (only_if test cause.Range x) (λ y. y.0 < 2 ^ 16)
near_by x true is = grind (arith, nat_tests)
near_by x false is = tt

place_near : (others : List (List ℕ)) → IfOk (place_at others) (λ x. x.0 < 2 ^ 16)
unfolding place_at
place_near others = behind (told_at (codes "at") 96 others) _ (λ x. x.0 < 2 ^ 16) (λ x _. near_by x (nat_lt x.0 65536) refl)

name_whole : (others : List (List ℕ)) → IfOk (name_at others) NamesWhole
unfolding name_at
name_whole others =
    behind (guid_at others) _ NamesWhole (λ guid is. behind (place_at guid.1) _ NamesWhole (λ place near. behind (size_at place.1) _ NamesWhole (λ size _. behind (none_left size.1) _ NamesWhole
    (λ none _. (if_ok (guid_at others) (λ x. length x.0.0 ≡ 16) guid is (word_whole others), if_ok (place_at guid.1) (λ x. x.0 < 2 ^ 16) place near (place_near guid.1))))))

file_whole : (others : List (List ℕ)) → IfOk (file_at others) NamesWhole
unfolding file_at
file_whole others = behind (file_type_at others) _ NamesWhole (λ kind _. behind (guid_at kind.1) _ NamesWhole (λ name is. behind (chosen_at name.1) _ NamesWhole
    (λ attributes _. if_ok (guid_at kind.1) (λ x. length x.0.0 ≡ 16) name is (word_whole kind.1))))

pad_whole : (others : List (List ℕ)) → IfOk (pad_at others) NamesWhole
unfolding pad_at
pad_whole others = behind (pad_length_at others) _ NamesWhole (λ len _. behind (none_left len.1) _ NamesWhole (λ none _. tt))

script_whole : (others : List (List ℕ)) → IfOk (script_at others) NamesWhole
unfolding script_at
script_whole others = behind (phase_at others) _ NamesWhole (λ phase _. behind (none_left phase.1) _ NamesWhole (λ none _. tt))

guids_whole : (others : List (List ℕ)) → IfOk (guids_at others) NamesWhole
unfolding guids_at
guids_whole others = behind (guids_of others) _ NamesWhole (λ body _. tt)

raw_whole : (others : List (List ℕ)) → IfOk (raw_at others) NamesWhole
unfolding raw_at
raw_whole others = behind (bytes_of others) _ NamesWhole (λ body _. tt)

section_whole : (others : List (List ℕ)) → IfOk (section_at others) NamesWhole
unfolding section_at
section_whole others = behind (section_type_at others) _ NamesWhole (λ kind _. behind (bytes_of kind.1) _ NamesWhole (λ body _. tt))

ui_whole : (others : List (List ℕ)) → IfOk (ui_at others) NamesWhole
unfolding ui_at
ui_whole others = behind (ui_name_at others) _ NamesWhole (λ name _. behind (none_left name.1) _ NamesWhole (λ none _. tt))

body_whole : (others : List (List ℕ)) → IfOk (body_at others) NamesWhole
unfolding body_at
body_whole others = behind (bytes_of others) _ NamesWhole (λ bytes _. tt)

alone_whole : (one : Statement) (others : List (List ℕ)) → NamesWhole one → IfOk (alone one others) NamesWhole
alone_whole one [] whole = whole
alone_whole one (word ∷ others) whole = tt

told : (one : Statement) (read : Result Statement Cause) → Ok one ≡ read → IfOk read NamesWhole → NamesWhole one
told one read e whole = if_ok read NamesWhole one (sym e) whole

depex_whole : (one : Statement) (phase : Result (Phase × List (List ℕ)) Cause) → ReadsExpression phase (Ok one) → NamesWhole one
depex_whole one (Err c) read = absurd cc
depex_whole one (Ok x) read = told one (read.0 >>= (λ bytes. Ok (said.Depex x.0 bytes))) read.2 (behind read.0 (λ bytes. Ok (said.Depex x.0 bytes)) NamesWhole (λ bytes _. tt))

-- what follows of either follows of the one that a test picks
picked : {K : Type 0} (Is : K → Type 0) (Goal : Type 0) (test : Bool) (a b : K) → (Is a → Goal) → (Is b → Goal) → Is (cond test a b) → Goal
picked Is Goal true a b first second is = first is
picked Is Goal false a b first second is = second is

by_word : (one : Statement) (line word : List ℕ) (others : List (List ℕ)) → ReadsBy (keyword_of word) line others (Ok one) → NamesWhole one
unfolding keyword_of
by_word one line word others =
    picked (λ k. ReadsBy k line others (Ok one)) (NamesWhole one) (bytes_eq word (codes "volume")) (keyword_of (codes "volume")) _ (λ e. told one (volume_at others) e (volume_whole others))
    (picked (λ k. ReadsBy k line others (Ok one)) (NamesWhole one) (bytes_eq word (codes "name")) (keyword_of (codes "name")) _ (λ e. told one (name_at others) e (name_whole others))
    (picked (λ k. ReadsBy k line others (Ok one)) (NamesWhole one) (bytes_eq word (codes "file")) (keyword_of (codes "file")) _ (λ e. told one (file_at others) e (file_whole others))
    (picked (λ k. ReadsBy k line others (Ok one)) (NamesWhole one) (bytes_eq word (codes "pad")) (keyword_of (codes "pad")) _ (λ e. told one (pad_at others) e (pad_whole others))
    (picked (λ k. ReadsBy k line others (Ok one)) (NamesWhole one) (bytes_eq word (codes "depex")) (keyword_of (codes "depex")) _ (λ e. depex_whole one (phase_at others) e)
    (picked (λ k. ReadsBy k line others (Ok one)) (NamesWhole one) (bytes_eq word (codes "script")) (keyword_of (codes "script")) _ (λ e. told one (script_at others) e (script_whole others))
    (picked (λ k. ReadsBy k line others (Ok one)) (NamesWhole one) (bytes_eq word (codes "guids")) (keyword_of (codes "guids")) _ (λ e. told one (guids_at others) e (guids_whole others))
    (picked (λ k. ReadsBy k line others (Ok one)) (NamesWhole one) (bytes_eq word (codes "raw")) (keyword_of (codes "raw")) _ (λ e. told one (raw_at others) e (raw_whole others))
    (picked (λ k. ReadsBy k line others (Ok one)) (NamesWhole one) (bytes_eq word (codes "section")) (keyword_of (codes "section")) _ (λ e. told one (section_at others) e (section_whole others))
    (picked (λ k. ReadsBy k line others (Ok one)) (NamesWhole one) (bytes_eq word (codes "ui")) (keyword_of (codes "ui")) _ (λ e. told one (ui_at others) e (ui_whole others))
    (picked (λ k. ReadsBy k line others (Ok one)) (NamesWhole one) (bytes_eq word (codes "body")) (keyword_of (codes "body")) _ (λ e. told one (body_at others) e (body_whole others))
    (picked (λ k. ReadsBy k line others (Ok one)) (NamesWhole one) (bytes_eq word (codes "block")) (keyword_of (codes "block")) _ (λ e. told one (alone said.Block others) e (alone_whole said.Block others tt))
    (picked (λ k. ReadsBy k line others (Ok one)) (NamesWhole one) (bytes_eq word (codes "end")) (keyword_of (codes "end")) (keyword_of []) (λ e. told one (alone said.End others) e (alone_whole said.End others tt))
    (λ e. told one (Ok (said.Action line)) e tt)))))))))))))

by_words : (one : Statement) (line : List ℕ) (all : List (List ℕ)) → ReadsFirst line all (Ok one) → NamesWhole one
by_words one line [] e = absurd cc
by_words one line (word ∷ others) e = by_word one line word others e

line_whole : (line : List ℕ) (one : Statement) → SaysLine line one → NamesWhole one
line_whole line one says = by_words one line (words line) says

-- all files but the last, and the last
front_and_last : (files : List NewFile) (last : NewFile) → All HasWholeName (files ++ last ∷ []) → All HasWholeName files × HasWholeName last
front_and_last [] last all = (All-nil HasWholeName, All-head HasWholeName last [] all)
front_and_last (first ∷ files) last all =
    let rest = front_and_last files last (All-tail HasWholeName first (files ++ last ∷ []) all) in
    (All-cons HasWholeName first files (All-head HasWholeName first (files ++ last ∷ []) all) rest.0, rest.1)

-- what is added to the last file leaves its name
changed : (files : List NewFile) (last next : NewFile) → next.name ≡ last.name → All HasWholeName (files ++ last ∷ []) → All HasWholeName (files ++ next ∷ [])
changed files last next same all =
    let parts = front_and_last files last all in All-push HasWholeName files next parts.0 (ap (λ (g : Guid). length g.0) same ∙ parts.1)

same_file : (a b : NewFile) → ◌≡◌ {A = Result NewFile Cause} (Ok a) (Ok b) → a ≡ b
same_file a b e = cc

held_name : (one : NewSection) (last next : NewFile) (body : Body) → held_in one last body ≡ Ok next → next.name ≡ last.name
held_name one last next (Sections sections) e = ap (λ (f : NewFile). f.name) (sym (same_file (with_body last (Sections (sections ++ one ∷ []))) next e))
held_name one last next (Bytes bytes) e = absurd cc

bytes_name : (bytes : List ℕ) (last next : NewFile) (test : Bool) → only_if test cause.TwoBodies (with_body last (Bytes bytes)) ≡ Ok next → next.name ≡ last.name
bytes_name bytes last next true e = ap (λ (f : NewFile). f.name) (sym (same_file (with_body last (Bytes bytes)) next e))
bytes_name bytes last next false e = absurd cc

-- the name and the files that lines say
pub files_whole : {deep : ℕ} (header_len : ℕ) (lines : List (List ℕ)) (called : Option VolumeName) (files : List NewFile) → SayFiles deep header_len lines called files → IsWhole called × All HasWholeName files
files_whole header_len _ _ _ no_file = (tt, All-nil HasWholeName)
files_whole header_len _ _ _ (named lines files line name say says placed) = (line_whole line (said.Name name) says, (files_whole header_len lines None files say).1)
files_whole header_len _ _ _ (padded lines called files line size say says) = let more = files_whole header_len lines called files say in (more.0, All-push HasWholeName files _ more.1 refl)
files_whole header_len _ _ _ (file lines called files line kind name attributes say says) =
    let more = files_whole header_len lines called files say in (more.0, All-push HasWholeName files _ more.1 (line_whole line (said.File kind name attributes) says))
files_whole header_len _ _ _ (bodied lines called files old next line body say says holds) =
    let more = files_whole header_len lines called (files ++ old ∷ []) say in (more.0, changed files old next (bytes_name body old next (is_empty old.body) holds) more.1)
files_whole header_len _ _ _ (section lines called files old next line kind body say says holds) =
    let more = files_whole header_len lines called (files ++ old ∷ []) say in (more.0, changed files old next (held_name _ old next old.body holds) more.1)
files_whole header_len _ _ _ (depex lines called files old next line phase body say says part unique holds) =
    let more = files_whole header_len lines called (files ++ old ∷ []) say in (more.0, changed files old next (held_name _ old next old.body holds) more.1)
files_whole header_len _ _ _ (script lines called files old next line phase inner blocks end body say says part unique wrote ends spelled holds) =
    let more = files_whole header_len lines called (files ++ old ∷ []) say in (more.0, changed files old next (held_name _ old next old.body holds) more.1)
files_whole header_len _ _ _ (volume lines called files old next line inner inside end body say says more_files ends built holds) =
    let more = files_whole header_len lines called (files ++ old ∷ []) say in (more.0, changed files old next (held_name _ old next old.body holds) more.1)
