-- Sizes as numbers and as lengths of bytes.
use Rattle.std.proofs.Common.{◌≡◌, ℕ, ◌+◌, ◌<◌, ◌≤◌, zero, suc, replicate, Bool, true, false, List, [], ◌∷◌, ◌++◌, length, map, min, refl, sym, ap, ◌∙◌, arith, length-append, inl, inr, get_or, take, nat_lt, if◌then◌else◌}
use Rattle.std.proofs.{lemmas.Bool.cases_lt, lemmas.Bool.Decides.nat_tests, lemmas.List.map-append, lemmas.List.take_more}
use Rattle.pi_base.specs.Field.{little_bytes}
use Rattle.fv_volume.specs.{declared.build.new_file.NewFile.NewFile, declared.build.new_file.NewSection.NewSection}
use Rattle.fv_volume.specs.FileSystems.{FileSystem, Ffs2, Ffs3}
use Rattle.fv_volume.specs.{Placing.gap, Placing.laid, Building.need}
use Rattle.fv_volume.specs.Sections.{is_extended, section_size, section_bytes, body_bytes}
use Rattle.fv_volume.specs.Files.{bytes_in, has_long_section, is_large, file_size, file_header, head_of, file_with, file_bytes, is_past_size, is_file_too_long}
use Rattle.fv_volume.proofs.{Flags.or_second, Placings.length-laid_more}

-- a sum that stands still at its last value
pub saturated : (most true_end end : ℕ) (skip : ℕ → ℕ) (place size true_size next : ℕ)
    → end ≡ min true_end most → place ≡ min (end + skip end) most → size ≡ min true_size most → next ≡ min (place + size) most
    → next ≡ min (true_end + skip true_end + true_size) most
saturated most true_end end skip place size true_size next e p s n =
    elim (cases_lt most true_end) [
      | inl past ↦ omega arith
      | inr within ↦
          let same : end ≡ true_end = omega arith in
          let skipped : skip end ≡ skip true_end = ap skip same in
          omega arith
    ]

header_len : (extended : Bool) (kind size : ℕ) (body : List ℕ)
    → length ((if extended then little_bytes 3 16777215 ++ kind ∷ little_bytes 4 size else little_bytes 3 size ++ kind ∷ []) ++ body)
    ≡ (if extended then 8 else 4) + length body
header_len true kind size body = omega arith
header_len false kind size body = omega arith

-- a section has its size
pub length-section : (file_system : FileSystem) (section : NewSection) → length (section_bytes file_system section) ≡ section_size file_system (length section.body)
length-section file_system section =
    header_len (is_extended file_system (length section.body)) section.kind (section_size file_system (length section.body)) section.body

-- one section more
pub body_more : (file_system : FileSystem) (sections : List NewSection) (section : NewSection)
    → body_bytes file_system (sections ++ section ∷ [])
    ≡ laid 4 0 0 (map (section_bytes file_system) sections ++ section_bytes file_system section ∷ [])
body_more file_system sections section = ap (laid 4 0 0) (map-append (section_bytes file_system) sections (section ∷ []))

pub length-body_more : (file_system : FileSystem) (sections : List NewSection) (section : NewSection)
    → length (body_bytes file_system (sections ++ section ∷ []))
    ≡ length (body_bytes file_system sections) + gap 4 (length (body_bytes file_system sections)) + section_size file_system (length section.body)
length-body_more file_system sections section =
    let before = length (laid 4 0 0 (map (section_bytes file_system) sections)) in
    let place : 0 + before ≡ before = omega arith in
    ap length (body_more file_system sections section)
    ∙ length-laid_more 4 0 0 (map (section_bytes file_system) sections) (section_bytes file_system section)
    ∙ ap (λ n. before + gap 4 n + length (section_bytes file_system section)) place
    ∙ ap (λ n. before + gap 4 before + n) (length-section file_system section)

-- the items up to one more
pub take_one : {X : Type 0} (xs : List X) (i : ℕ) (x : X) → i < length xs → x ≡ get_or xs i x → take (i + 1) xs ≡ take i xs ++ x ∷ []
take_one xs i x within is = take_more xs i x within ∙ ap (λ y. take i xs ++ y ∷ []) (sym is)

file_len : (large : Bool) (name : List ℕ) (kind attributes size checksum : ℕ) (body : List ℕ) → length name ≡ 16
    → length ((name ++ ((checksum ∷ (0xaa ∷ (kind ∷ (attributes ∷ (little_bytes 3 (if large then 0 else size) ++ 0xf8 ∷ []))))) ++ (if large then little_bytes 8 size else []))) ++ body)
    ≡ (if large then 32 else 24) + length body
file_len true name kind attributes size checksum body n = omega (arith, length-append {A = ℕ})
file_len false name kind attributes size checksum body n = omega (arith, length-append {A = ℕ})

-- a file has its size
pub length-file_with : (file_system : FileSystem) (file : NewFile) (body : List ℕ) → length file.name.0 ≡ 16
    → length (file_with file_system file body) ≡ file_size file_system (length body)
length-file_with file_system file body whole = file_len (is_large file_system (length body)) file.name.0 file.kind _ _ _ body whole

-- one file more
pub length-files_more : (file_system : FileSystem) (from : ℕ) (files : List NewFile) (file : NewFile)
    → need file_system from (files ++ file ∷ [])
    ≡ need file_system from files + gap 8 (need file_system from files) + length (file_bytes file_system file)
length-files_more file_system from files file =
    let texts = map (file_bytes file_system) files in
    let before = length (laid 8 255 from texts) in
    let more = ap (λ xs. length (laid 8 255 from xs)) (map-append (file_bytes file_system) files (file ∷ [])) ∙ length-laid_more 8 255 from texts (file_bytes file_system file) in
    ap (λ n. from + n) more ∙ omega arith

large_size : (large : Bool) (len most : ℕ) → min ((if large then 32 else 24) + min len most) most ≡ min ((if large then 32 else 24) + len) most
large_size true len most = omega arith
large_size false len most = omega arith

-- the length that stands still tells whether a file is large
pub large_of : (file_system : FileSystem) (len most : ℕ) → 16777215 ≤ most → is_large file_system (min len most) ≡ is_large file_system len
large_of Ffs2 len most wide = refl
large_of Ffs3 len most wide =
    elim (cases_lt most len) [
      | inl past ↦ grind (arith, nat_tests)
      | inr within ↦ ap (λ n. nat_lt 16777214 (24 + n)) (omega arith)
    ]

-- and what the size is
pub size_of : (file_system : FileSystem) (len most : ℕ) → 16777215 ≤ most
    → min (file_size file_system (min len most)) most ≡ min (file_size file_system len) most
size_of file_system len most wide =
    ap (λ large. min ((if large then 32 else 24) + min len most) most) (large_of file_system len most wide)
    ∙ large_size (is_large file_system len) len most

-- a file whose size fits the Size field
pub small_size : (file_system : FileSystem) (len : ℕ) → is_past_size file_system len ≡ false → is_large file_system len ≡ false → file_size file_system len < 16777216
small_size Ffs2 len short small = grind (arith, nat_tests)
small_size Ffs3 len short small = grind (arith, nat_tests)

header_most : (large : Bool) (len : ℕ) → (if large then 32 else 24) + len ≤ 32 + len
header_most true len = omega arith
header_most false len = omega arith

pub size_below : (file_system : FileSystem) (len : ℕ) → file_size file_system len ≤ 32 + len
size_below file_system len = header_most (is_large file_system len) len

-- a file that is not too long does not pass the Size field of FFS2
pub not_past : (file_system : FileSystem) (file : NewFile) → is_file_too_long file_system file ≡ false
    → is_past_size file_system (length (bytes_in file_system file.body)) ≡ false
not_past file_system file short =
    or_second (has_long_section file_system file.body) (is_past_size file_system (length (bytes_in file_system file.body))) short

-- a file's body is no longer than all files
pub body_fits : (file_system : FileSystem) (files : List NewFile) (from i : ℕ) (file : NewFile) → i < length files → file ≡ get_or files i file
    → length (bytes_in file_system file.body) ≤ length (laid 8 255 from (map (file_bytes file_system) files))
body_fits file_system [] from i file within is = absurd (omega arith)
body_fits file_system (first ∷ rest) from zero file within is =
    let text = file_bytes file_system first in
    let next = laid 8 255 (from + gap 8 from + length text) (map (file_bytes file_system) rest) in
    let same = ap (λ f. length (bytes_in file_system f.body)) is in
    omega (
      arith,
      same,
      length-append (replicate (gap 8 from) 255) (text ++ next),
      length-append text next,
      length-append (file_header (head_of file_system first (length (bytes_in file_system first.body)))) (bytes_in file_system first.body),
    )
body_fits file_system (first ∷ rest) from (suc i) file within is =
    let text = file_bytes file_system first in
    let at = from + gap 8 from + length text in
    let next = laid 8 255 at (map (file_bytes file_system) rest) in
    omega (arith, body_fits file_system rest at i file (omega arith) is, length-append (replicate (gap 8 from) 255) (text ++ next), length-append text next)
