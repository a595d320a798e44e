-- The sections of a built file are read again.
use Rattle.std.proofs.Common.{◌≡◌, ◌≢◌, ℕ, suc, ◌+◌, ◌-◌, ◌<◌, ◌≤◌, Bool, true, false, List, [], ◌∷◌, ◌++◌, length, take, drop, map, replicate, Ok, refl, sym, ap, ◌∙◌, arith, append_assoc, length-append, All, subst, if◌then◌else◌}
use Rattle.std.proofs.{lemmas.Bool.Decides.nat_tests, lemmas.List.length-replicate, lemmas.List.Elements.All-tail}
use Rattle.pi_base.specs.Field.{little_bytes}
use Rattle.fv_volume.specs.{declared.sections.section.Section.Section, SectionHeader.section_at, Stream.aligned, Stream.Leads}
use Rattle.fv_volume.proofs.SpelledSections.{short_section, long_section}
use Rattle.fv_volume.specs.{declared.build.new_file.NewSection.NewSection, Placing.gap, Placing.laid}
use Rattle.fv_volume.specs.FileSystems.{FileSystem, Ffs2, Ffs3}
use Rattle.fv_volume.specs.Sections.{is_extended, section_header, section_bytes, body_bytes, is_section_too_long}
use Rattle.fv_volume.specs.Reading.{AreEach, IsSectionRead, AreReadable, AreSectionsRead}
use Rattle.fv_volume.proofs.Parts.{drop_behind, room_at, drop_text, take_text}

-- how long a section's header is
abbrev header_len : FileSystem → ℕ → ℕ
header_len file_system len = if is_extended file_system len then 8 else 4

section_read : (extended : Bool) (bytes : List ℕ) (at kind size : ℕ) (body rest : List ℕ)
    → size ≡ (if extended then 8 else 4) + length body
    → drop at bytes ≡ (if extended then little_bytes 3 16777215 ++ kind ∷ little_bytes 4 size else little_bytes 3 size ++ kind ∷ []) ++ (body ++ rest)
    → (extended ≡ false → size < 16777215) → (extended ≡ true → size < 4294967296) → kind ≢ 1 → kind ≢ 2
    → section_at bytes at ≡ Ok (record { kind = kind; body_at = at + (if extended then 8 else 4); body_len = length body })
section_read true bytes at kind size body rest is here short fits one two =
    let e : size ≡ 8 + length body = is in
    long_section bytes at kind body rest (here ∙ ap (λ n. (little_bytes 3 16777215 ++ kind ∷ little_bytes 4 n) ++ (body ++ rest)) e) (omega (arith, fits refl, e)) one two
section_read false bytes at kind size body rest is here short fits one two =
    let e : size ≡ 4 + length body = is in
    short_section bytes at kind body rest (here ∙ ap (λ n. (little_bytes 3 n ++ kind ∷ []) ++ (body ++ rest)) e) (omega (arith, short refl, e)) one two

-- a section's size fits the field that tells it
short_fits : (file_system : FileSystem) (section : NewSection) → is_section_too_long file_system section ≡ false
    → is_extended file_system (length section.body) ≡ false → (if is_extended file_system (length section.body) then 8 else 4) + length section.body < 16777215
short_fits Ffs2 section short not_extended = grind (arith, nat_tests)
short_fits Ffs3 section short not_extended = rw not_extended (grind (arith, nat_tests))

long_fits : (file_system : FileSystem) (section : NewSection) → is_section_too_long file_system section ≡ false
    → (if is_extended file_system (length section.body) then 8 else 4) + length section.body < 4294967296
long_fits Ffs2 section short = grind (arith, nat_tests)
long_fits Ffs3 section short = grind (arith, nat_tests)

-- what is read from a place on, where so many sections stand behind it
record Read (bytes : List ℕ) (from : ℕ) (sections : List NewSection) : Type 0 where
  pub read : List Section
  pub end : ℕ
  pub leads : Leads bytes (aligned from) read end
  pub ends : length bytes < end + 4
  pub each : AreEach (IsSectionRead bytes) sections read
  pub count : length read ≡ length sections

-- the header has its length
length-header : (file_system : FileSystem) (kind len : ℕ) → length (section_header file_system kind len) ≡ header_len file_system len
length-header file_system kind len = by_form (is_extended file_system len)
  where
    by_form : (extended : Bool) → length (if extended then little_bytes 3 16777215 ++ kind ∷ little_bytes 4 ((if extended then 8 else 4) + len) else little_bytes 3 ((if extended then 8 else 4) + len) ++ kind ∷ [])
        ≡ (if extended then 8 else 4)
    by_form true = refl
    by_form false = refl

header_least : (extended : Bool) → 4 ≤ (if extended then 8 else 4)
header_least true = omega arith
header_least false = omega arith

sections_read_from : (file_system : FileSystem) (bytes : List ℕ) (from : ℕ) (sections : List NewSection)
    → drop from bytes ≡ laid 4 0 from (map (section_bytes file_system) sections)
    → All (λ section. is_section_too_long file_system section ≡ false) sections
    → All (λ section. (section.kind ≢ 1) × (section.kind ≢ 2)) sections
    → Read bytes from sections
sections_read_from file_system bytes from [] here short opened = record {
  read = [];
  end = aligned from;
  leads = refl;
  ends = omega (arith, room_at from bytes [] here);
  each = tt;
  count = refl;
}
sections_read_from file_system bytes from (section ∷ rest) here short opened =
    let kind = section.kind in
    let body = section.body in
    let g = gap 4 from in
    let at = from + g in
    let header = section_header file_system kind (length body) in
    let h = header_len file_system (length body) in
    let next = at + length (header ++ body) in
    let behind = laid 4 0 next (map (section_bytes file_system) rest) in
    let on : at ≡ aligned from = omega arith in
    let first : drop at bytes ≡ (header ++ body) ++ behind =
    drop_behind g from bytes _ here ∙ drop_text g (replicate g 0) ((header ++ body) ++ behind) (sym (length-replicate g 0)) in
    let spelled : drop at bytes ≡ header ++ (body ++ behind) = first ∙ append_assoc header body behind in
    let long : length (header ++ body) ≡ h + length body = length-append header body ∙ ap (λ n. n + length body) (length-header file_system kind (length body)) in
    let types = opened 0 section (omega arith) in
    let size = short 0 section (omega arith) in
    let found : section_at bytes at ≡ Ok (record { kind = kind; body_at = at + h; body_len = length body }) =
    section_read (is_extended file_system (length body)) bytes at kind (h + length body) body behind refl spelled
    (short_fits file_system section size) (λ _. long_fits file_system section size) types.0 types.1 in
    let after : drop next bytes ≡ behind = drop_behind (length (header ++ body)) at bytes _ first ∙ drop_text (length (header ++ body)) (header ++ body) behind refl in
    let more : Read bytes next rest = sections_read_from file_system bytes next rest after
    (All-tail (λ s. is_section_too_long file_system s ≡ false) section rest short) (All-tail (λ s. (s.kind ≢ 1) × (s.kind ≢ 2)) section rest opened) in
    let inside : take (length body) (drop (at + h) bytes) ≡ body =
    ap (take (length body)) (drop_behind h at bytes _ spelled ∙ drop_text h header (body ++ behind) (sym (length-header file_system kind (length body))))
    ∙ take_text (length body) body behind refl in
    let place : next ≡ at + h + length body = ap (λ n. at + n) long ∙ omega arith in
    let room : length bytes - at ≡ length (header ++ body) + length behind = room_at at bytes _ first ∙ length-append (header ++ body) behind in
    let goes : at + 4 ≤ length bytes = omega (arith, room, long, header_least (is_extended file_system (length body))) in
    let s : Section = record { kind = kind; body_at = at + h; body_len = length body } in
    record {
      read = s ∷ more.read;
      end = more.end;
      leads = subst (λ p. Leads bytes p (s ∷ more.read) more.end) on (goes, found, subst (λ p. Leads bytes (aligned p) more.read more.end) place more.leads);
      ends = more.ends;
      each = ((refl, inside), more.each);
      count = ap suc more.count;
    }

-- the body of a file is read as its sections
pub sections_read : (file_system : FileSystem) (sections : List NewSection) → All (λ section. is_section_too_long file_system section ≡ false) sections
    → AreReadable sections → AreSectionsRead (body_bytes file_system sections) sections
sections_read file_system sections short readable =
    let all = sections_read_from file_system (body_bytes file_system sections) 0 sections refl short readable.1 in
    (all.read, (all.end, all.leads, all.ends, omega (arith, all.count, readable.0)), all.each)
