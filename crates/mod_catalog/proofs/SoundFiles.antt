-- Files of a volume that are sound: whatever a fault names is none of them.
use Rattle.std.proofs.Common.{◌≡◌, ◌<◌, ◌≤◌, ℕ, ◌+◌, Bool, true, false, List, [], ◌∷◌, ◌++◌, length, map, refl, sym, ap, ◌∙◌, subst, arith, length-append, drop, inl, inr, sum_by}
use Rattle.std.proofs.{lemmas.List.Sums.sum_by-append, lemmas.List.Sums.sum_by-cons, lemmas.Grind.flat_map-append}
use Rattle.std.proofs.lemmas.List.Elements.{filter-append}
use Rattle.pi_base.specs.{Field.AreBytes, Lists.Each}
use Rattle.fv_volume.specs.{declared.file.FfsFile.FfsFile, declared.sections.section.Section.Section, Stream.AreSections}
use Rattle.act_code.specs.Script.{IsScript}
use Rattle.mod_catalog.specs.declared.limits.TheConstants.{MOST_MODULES, MOST_SCRIPT_BYTES}
use Rattle.mod_catalog.specs.FileType.{has_module}
use Rattle.mod_catalog.specs.ReadFile.{ReadFile, Stretch, IsReadFile, file_body, section_body, is_script, script_sections, nested_in}
use Rattle.mod_catalog.specs.Totals.{Totals, AreWithin, totals_with, module_files, bytes_of, script_bytes_of}
use Rattle.mod_catalog.specs.VolumeTree.{Image, Holding, AreNested, nested_image, nested_stretches}
use Rattle.mod_catalog.specs.ImageFault.{FaultAt, Refusals, IsSomeScript, IsScriptRefused, AreSound, IsFileFault, too_many_modules, in_sections, in_scripts, in_nested, totals_behind}
use Rattle.mod_catalog.proofs.OneCatalogue.{Laws, one_nested}
use Rattle.mod_catalog.proofs.NestedParts.{AddUp, joined_adds, nested_parts, met, each_at, left_each, bytes_drop, bytes_take}

-- what is held is of bytes, numbered and within the limits, and so no fault of it is one
abbrev pub Never : (Image → Holding → Type 0) → Refusals → Type 0
Never Held Refused =
    (image : Image) (totals : Totals) (fault : FaultAt) (held : Holding) → AreBytes image.bytes → image.location.number ≡ totals.volumes → AreWithin (totals_with totals held)
    → Held image held → Refused image totals fault → ⊥

-- parts of bytes are bytes
pub body_bytes : (bytes : List ℕ) (file : FfsFile) (section : Section) → AreBytes bytes → AreBytes (section_body bytes file section)
body_bytes bytes file section are =
    bytes_take section.body_len (drop section.body_at (file_body bytes file))
    (bytes_drop section.body_at (file_body bytes file) (bytes_take file.body_len (drop file.body_at bytes) (bytes_drop file.body_at bytes are)))

-- a file has one list of sections
same_sections : (laws : Laws) (bytes : List ℕ) (read : ReadFile) (file : FfsFile) (sections : List Section) → read.file ≡ file → AreSections (file_body bytes read.file) read.sections
    → AreSections (file_body bytes file) sections → ◌≡◌ {A = FfsFile × List Section} (read.file, read.sections) (file, sections)
same_sections laws bytes read file sections file_is own are =
    let same : read.sections ≡ sections = laws.sections (file_body bytes file) read.sections sections (subst (λ f. AreSections (file_body bytes f) read.sections) file_is own) are in
    cc

-- without a module a file has no scripts
pub without_module : (bytes : List ℕ) (file : FfsFile) (sections : List Section) → has_module file.kind ≡ false → script_sections bytes file sections ≡ []
without_module bytes file [] e = refl
without_module bytes file (s ∷ sections) e =
    let out : is_script bytes file s ≡ false = rw e refl in
    rw out (without_module bytes file sections e)

abbrev pub One : (Image → Holding → Type 0) → Type 0
One Held = (image : Image) (a b : Holding) → Held image a → Held image b → a ≡ b

pub no_list : {A : Type 0} (xs : List A) (x : A) (ys : List A) → [] ≡ xs ++ x ∷ ys → ⊥
no_list xs x ys e = omega (arith, ap length e, length-append xs (x ∷ ys))

-- a file that has a script section has a module
pub scripts_have : (bytes : List ℕ) (file : FfsFile) (sections before : List Section) (section : Section) (behind : List Section)
    → script_sections bytes file sections ≡ before ++ section ∷ behind → has_module file.kind ≡ true
scripts_have bytes file sections before section behind these = by (has_module file.kind) refl
  where
    by : (b : Bool) → has_module file.kind ≡ b → has_module file.kind ≡ true
    by true e = e
    by false e = absurd (no_list before section behind (sym (without_module bytes file sections e) ∙ these))

-- the modules of files up to one that has a module, that one, and those behind it
modules_split : (before : List ReadFile) (read : ReadFile) (rest : List ReadFile) → has_module read.file.kind ≡ true → module_files (before ++ read ∷ rest) ≡ module_files before ++ read ∷ module_files rest
modules_split before read rest e =
    let here : module_files (read ∷ rest) ≡ read ∷ module_files rest = rw e refl in
    filter-append (λ (r : ReadFile). has_module r.file.kind) before (read ∷ rest) ∙ ap (λ t. module_files before ++ t) here

abbrev pub scripts_in : List ℕ → ReadFile → List Section
scripts_in bytes read = script_sections bytes read.file read.sections

bytes_split : (bytes : List ℕ) (before : List ReadFile) (read : ReadFile) (rest : List ReadFile)
    → script_bytes_of bytes (before ++ read ∷ rest) ≡ script_bytes_of bytes before + (bytes_of (scripts_in bytes read) + script_bytes_of bytes rest)
bytes_split bytes before read rest =
    let each : ReadFile → ℕ = λ r. bytes_of (scripts_in bytes r) in
    sum_by-append each before (read ∷ rest) ∙ ap (λ n. sum_by each before + n) (sum_by-cons each read rest)

pub section_bytes : (before : List Section) (section : Section) (behind : List Section) → bytes_of (before ++ section ∷ behind) ≡ bytes_of before + (section.body_len + bytes_of behind)
section_bytes before section behind =
    let each : Section → ℕ = λ s. s.body_len in
    sum_by-append each before (section ∷ behind) ∙ ap (λ n. sum_by each before + n) (sum_by-cons each section behind)

-- a script that is refused is not among sound ones
pub script_never : Laws → (bytes : List ℕ) (file : FfsFile) (at used : ℕ) (fault : FaultAt) (first : List Section) (section : Section) (middle all : List Section) → AreBytes bytes
    → all ≡ first ++ section ∷ middle → Each (IsSomeScript bytes file) all → used + bytes_of all ≤ MOST_SCRIPT_BYTES
    → IsScriptRefused bytes file section at (used + bytes_of first) fault → ⊥
script_never laws bytes file at used fault first section middle all are these sound within refused =
    let script = each_at (IsSomeScript bytes file) first section middle (subst (Each (IsSomeScript bytes file)) these sound) in
    let sum = ap bytes_of these ∙ section_bytes first section middle in
    elim refused [
      | inl wrong ↦ laws.script_or_fault (section_body bytes file section) script.0 wrong.found (body_bytes bytes file section are) script.1 wrong.first
      | inr past ↦ omega (arith, past.most, within, sum)
    ]

-- a volume that is refused is not among sound ones
pub stretch_never : (Held : Image → Holding → Type 0) (Refused : Refusals) → One Held → Never Held Refused → (image : Image) (totals : Totals) (fault : FaultAt)
    (first : List Stretch) (stretch : Stretch) (middle all : List Stretch) (inner whole : Holding) → AreBytes image.bytes → all ≡ first ++ stretch ∷ middle
    → AreNested Held image totals.volumes first inner → AreNested Held image totals.volumes all whole → AreWithin (totals_with totals whole)
    → Refused (nested_image image (totals.volumes + length inner.volumes) stretch) (totals_with totals inner) fault → ⊥
stretch_never Held Refused one never image totals fault first stretch middle all inner whole bytes these nested others within refused =
    let parts = nested_parts Held image totals.volumes first (stretch ∷ middle) whole (subst (λ xs. AreNested Held image totals.volumes xs whole) these others) in
    let same : parts.first ≡ inner = one_nested Held one image totals.volumes first parts.first inner parts.before nested in
    let rest = subst (λ h. AreNested Held image (totals.volumes + length h.volumes) (stretch ∷ middle) parts.rest) same parts.behind in
    let adds : AddUp whole inner parts.rest = subst (λ h. AddUp whole h parts.rest) same parts.adds in
    let more = joined_adds parts.rest rest.0 rest.2 rest.4 in
    let room : AreWithin (totals_with (totals_with totals inner) rest.0) = record {
      volumes = omega (arith, within.volumes, adds.volumes, more.volumes);
      modules = omega (arith, within.modules, adds.modules, more.modules);
      script_bytes = omega (arith, within.script_bytes, adds.script_bytes, more.script_bytes);
    } in
    never (nested_image image (totals.volumes + length inner.volumes) stretch) (totals_with totals inner) fault rest.0
    (bytes_take stretch.len (drop stretch.at image.bytes) (bytes_drop stretch.at image.bytes bytes)) refl room rest.1 refused

-- a file among sound ones, with what stands before it and what is nested in it
pub record At (Held : Image → Holding → Type 0) (image : Image) (totals : Totals) (reads : List ReadFile) (inner : Holding) (before : List ReadFile) (file : FfsFile) (held : Holding) : Type 0 where
  pub read : ReadFile
  pub rest : List ReadFile
  pub these : reads ≡ before ++ read ∷ rest
  pub is : read.file ≡ file
  pub of : IsReadFile image.bytes read
  pub room : has_module file.kind ≡ true → (totals_behind totals image.bytes before held).modules < MOST_MODULES
  pub own : Holding
  pub nested : AreNested Held image (totals.volumes + length held.volumes) (nested_in read.file read.sections) own
  pub within : AreWithin (totals_with (totals_behind totals image.bytes before held) own)
  pub scripts : (totals_behind totals image.bytes before held).script_bytes + bytes_of (scripts_in image.bytes read) ≤ MOST_SCRIPT_BYTES

pub found_at : Laws → (Held : Image → Holding → Type 0) → One Held → (image : Image) (totals : Totals) (reads : List ReadFile) (inner : Holding) → AreSound Held image totals reads inner
    → (before : List ReadFile) (file : FfsFile) (behind : List FfsFile) (held : Holding) → map (λ read. read.file) reads ≡ map (λ read. read.file) before ++ file ∷ behind
    → AreSound Held image totals before held → At Held image totals reads inner before file held
found_at laws Held one image totals reads inner s before file behind held these sound =
    let m = met laws image.bytes reads before file behind these s.each sound.each in
    let nested_of : ReadFile → List Stretch = λ read. nested_in read.file read.sections in
    let stretches : nested_stretches reads ≡ nested_stretches before ++ (nested_of m.read ++ nested_stretches m.rest) = ap nested_stretches m.these ∙ flat_map-append nested_of before (m.read ∷ m.rest) in
    let all = subst (λ xs. AreNested Held image totals.volumes xs inner) stretches s.nested in
    let parts = nested_parts Held image totals.volumes (nested_stretches before) (nested_of m.read ++ nested_stretches m.rest) inner all in
    let same : parts.first ≡ held = one_nested Held one image totals.volumes (nested_stretches before) parts.first held parts.before sound.nested in
    let there = subst (λ h. AreNested Held image (totals.volumes + length h.volumes) (nested_of m.read ++ nested_stretches m.rest) parts.rest) same parts.behind in
    let adds : AddUp inner held parts.rest = subst (λ h. AddUp inner h parts.rest) same parts.adds in
    let own = nested_parts Held image (totals.volumes + length held.volumes) (nested_of m.read) (nested_stretches m.rest) parts.rest there in
    let files : length (module_files reads) ≡ length (module_files before) + length (module_files (m.read ∷ m.rest)) =
    ap length (ap module_files m.these ∙ filter-append (λ (r : ReadFile). has_module r.file.kind) before (m.read ∷ m.rest)) ∙ length-append (module_files before) (module_files (m.read ∷ m.rest)) in
    let scripts = ap (script_bytes_of image.bytes) m.these ∙ bytes_split image.bytes before m.read m.rest in
    record {
      read = m.read;
      rest = m.rest;
      these = m.these;
      is = m.is;
      of = each_at (IsReadFile image.bytes) before m.read m.rest (subst (Each (IsReadFile image.bytes)) m.these s.each);
      room = λ has.
          let kind : has_module m.read.file.kind ≡ true = subst (λ f. has_module f.kind ≡ true) (sym m.is) has in
          let count = ap length (ap module_files m.these ∙ modules_split before m.read m.rest kind) ∙ length-append (module_files before) (m.read ∷ module_files m.rest) in
          omega (arith, s.within.modules, count, adds.modules);
      own = own.first;
      nested = own.before;
      within = record {
        volumes = omega (arith, s.within.volumes, adds.volumes, own.adds.volumes);
        modules = omega (arith, s.within.modules, files, adds.modules, own.adds.modules);
        script_bytes = omega (arith, s.within.script_bytes, scripts, adds.script_bytes, own.adds.script_bytes);
      };
      scripts = omega (arith, s.within.script_bytes, scripts, adds.script_bytes);
    }

-- the scripts of a file that was read are scripts
some_scripts : (bytes : List ℕ) (read : ReadFile) → IsReadFile bytes read → Each (IsSomeScript bytes read.file) (scripts_in bytes read)
some_scripts bytes read is =
    left_each (λ section script. IsScript (section_body bytes read.file section) script) (IsSomeScript bytes read.file) (scripts_in bytes read) read.scripts (λ section script this. (script, this)) is.scripts

-- no file among sound ones has a fault
pub file_never : Laws → (Held : Image → Holding → Type 0) (Refused : Refusals) → One Held → Never Held Refused
    → (image : Image) (totals : Totals) (reads : List ReadFile) (inner : Holding) → AreBytes image.bytes → AreSound Held image totals reads inner
    → (fault : FaultAt) (before : List ReadFile) (file : FfsFile) (held : Holding)
    → At Held image totals reads inner before file held → IsFileFault Refused Held image (totals_behind totals image.bytes before held) file fault → ⊥
file_never laws Held Refused one never image totals reads inner bytes s fault before file held here (too_many_modules wrong) = omega (arith, wrong.most, here.room wrong.is_module)
file_never laws Held Refused one never image totals reads inner bytes s fault before file held here (in_sections room wrong) =
    laws.sections_or_fault (file_body image.bytes file) here.read.sections wrong.found (subst (λ f. AreSections (file_body image.bytes f) here.read.sections) here.is here.of.sections) wrong.first
file_never laws Held Refused one never image totals reads inner bytes s fault before file held here (in_scripts room sections are wrong) =
    let P : FfsFile × List Section → Type 0 = λ x. Each (IsSomeScript image.bytes x.0) (script_sections image.bytes x.0 x.1) × ((totals_behind totals image.bytes before held).script_bytes + bytes_of (script_sections image.bytes x.0 x.1) ≤ MOST_SCRIPT_BYTES) in
    let same = same_sections laws image.bytes here.read file sections here.is here.of.sections are in
    let own = subst P same (some_scripts image.bytes here.read here.of, here.scripts) in
    script_never laws image.bytes file (image.location.at + file.body_at + wrong.section.body_at) (totals_behind totals image.bytes before held).script_bytes fault wrong.before wrong.section wrong.behind
    (script_sections image.bytes file sections) bytes wrong.these own.0 own.1 wrong.first
file_never laws Held Refused one never image totals reads inner bytes s fault before file held here (in_nested sections are wrong) =
    let same = same_sections laws image.bytes here.read file sections here.is here.of.sections are in
    let P : FfsFile × List Section → Type 0 = λ x. AreNested Held image (totals.volumes + length held.volumes) (nested_in x.0 x.1) here.own in
    stretch_never Held Refused one never image (totals_behind totals image.bytes before held) fault wrong.before wrong.stretch wrong.behind (nested_in file sections) wrong.inner here.own bytes wrong.these
    wrong.nested (subst P same here.nested) here.within wrong.first
