-- The files of a built volume are read again.
use Rattle.std.proofs.Common.{◌≡◌, ℕ, suc, ◌+◌, ◌-◌, ◌%◌, ◌<◌, ◌≤◌, ◌^◌, Bool, true, false, cond, List, [], ◌∷◌, ◌++◌, length, take, drop, map, sum, replicate, refl, sym, ap, ◌∙◌, arith, append_assoc, length-append, All, subst, ◌==◌, not, slice_index}
use Rattle.std.proofs.{lemmas.Bool.Decides.nat_tests, lemmas.List.length-replicate, lemmas.List.Elements.All-tail}
use Rattle.std.proofs.lemmas.List.Sums.{sum_by-append}
use Rattle.pi_base.specs.Field.{little_bytes}
use Rattle.fv_volume.specs.{declared.file.FfsFile.FfsFile, Frame.aligned, Attributes.attributes_byte, Attributes.attributes_in}
use Rattle.fv_volume.proofs.{AttributeBytes.are_attributes, AttributeBytes.attributes_back, Flags.or_first, Flags.none_pass, Sizes.not_past}
use Rattle.fv_volume.proofs.Spelled.{Lists, lists_none, lists_file, IsSpelled, listed_file, stands_attributes}
use Rattle.fv_volume.specs.{declared.build.file_header.FileHead.FileHead, declared.build.new_file.NewFile.NewFile}
use Rattle.fv_volume.specs.FileSystems.{FileSystem, Ffs2, Ffs3}
use Rattle.fv_volume.specs.{Placing.gap, Placing.laid, Checksum.checksum8, declared.build.new_file.Body.Body}
use Rattle.fv_volume.specs.declared.build.new_file.Body.TheVariants.{Sections, Bytes}
use Rattle.fv_volume.specs.Sections.{is_section_too_long}
use Rattle.fv_volume.specs.Files.{bytes_in, has_long_section, is_large, short_fields, extended_size, header_with, file_header, file_bytes, is_past_size, is_file_too_long, HasWholeName}
use Rattle.fv_volume.specs.Reading.{AreEach, IsBodyRead, IsFileRead, AreSectionsRead, listed, listed_at}
use Rattle.fv_volume.proofs.Parts.{drop_behind, room_at, drop_text, take_text}
use Rattle.fv_volume.proofs.SectionsRead.{sections_read}

-- whether a file system has large files
abbrev pub has_large : FileSystem → Bool
has_large Ffs2 = false
has_large Ffs3 = true

large_allowed : (file_system : FileSystem) (len : ℕ) → is_large file_system len ≡ true → has_large file_system ≡ true
large_allowed Ffs2 len e = e
large_allowed Ffs3 len e = refl

-- the bytes of a header sum to 0 where the file checksum and the State count as 0
header_sum : (name : List ℕ) (kind attributes size : ℕ) (extended : List ℕ)
    → (sum name + (checksum8 (name ++ ((0 ∷ (0 ∷ (kind ∷ (attributes ∷ (little_bytes 3 size ++ 0 ∷ []))))) ++ extended))
    + (kind + (attributes + (sum (little_bytes 3 size) + sum extended))))) % 256 ≡ 0
header_sum name kind attributes size extended =
    let text = 0 ∷ (0 ∷ (kind ∷ (attributes ∷ (little_bytes 3 size ++ 0 ∷ [])))) in
    let a : sum (name ++ (text ++ extended)) ≡ sum name + (sum text + sum extended) =
    sum_by-append (λ x. x) name (text ++ extended) ∙ ap (λ n. sum name + n) (sum_by-append (λ x. x) text extended) in
    let b : sum text ≡ kind + (attributes + sum (little_bytes 3 size)) = omega (arith, sum_by-append (λ x. x) (little_bytes 3 size) (0 ∷ [])) in
    omega (arith, a, b)

-- what a header with this Attributes says
abbrev pub head_with : Bool → NewFile → ℕ → FileHead
head_with wide file len = record { name = file.name; kind = file.kind; attributes = file.attributes; large = wide; size = cond wide 32 24 + len }

-- a built file is spelled out
spelled : (image : List ℕ) (large wide : Bool) (at : ℕ) (file : NewFile) (body rest : List ℕ)
    → drop at image ≡ (file_header (head_with wide file (length body)) ++ body) ++ rest → HasWholeName file
    → cond wide (32 + length body < 2 ^ 64) (24 + length body < 2 ^ 24) → (wide ≡ true → large ≡ true)
    → IsSpelled image large wide at file.name.0 (checksum8 (header_with (head_with wide file (length body)) 0 0 0)) file.kind (attributes_byte file.attributes wide) body rest
spelled image large true at file body rest here whole fits allowed =
    let head = head_with true file (length body) in
    let text = short_fields head (checksum8 (header_with head 0 0 0)) 0xaa 0xf8 in
    record {
      here = here ∙ append_assoc (file_header head) body rest ∙ append_assoc file.name.0 (text ++ extended_size head) (body ++ rest);
      whole = whole;
      are = are_attributes file.attributes true;
      sum_is = header_sum file.name.0 file.kind (attributes_byte file.attributes true) 0 (little_bytes 8 (32 + length body));
      fits = fits;
      allowed = allowed;
    }
spelled image large false at file body rest here whole fits allowed =
    let head = head_with false file (length body) in
    let text = short_fields head (checksum8 (header_with head 0 0 0)) 0xaa 0xf8 in
    record {
      here = here ∙ append_assoc (file_header head) body rest ∙ append_assoc file.name.0 (text ++ extended_size head) (body ++ rest);
      whole = whole;
      are = are_attributes file.attributes false;
      sum_is = header_sum file.name.0 file.kind (attributes_byte file.attributes false) (24 + length body) [];
      fits = fits;
      allowed = allowed;
    }

-- how long a file's header is
length-header : (wide : Bool) (file : NewFile) (len : ℕ) → HasWholeName file → length (file_header (head_with wide file len)) ≡ cond wide 32 24
length-header true file len whole = length-append file.name.0 _ ∙ omega (arith, whole)
length-header false file len whole = length-append file.name.0 _ ∙ omega (arith, whole)

small_fits : (file_system : FileSystem) (len : ℕ) → is_past_size file_system len ≡ false → is_large file_system len ≡ false → 24 + len < 16777216
small_fits Ffs2 len short small = grind (arith, nat_tests)
small_fits Ffs3 len short small = grind (arith, nat_tests)

-- a size fits the field that tells it
size_fits : (file_system : FileSystem) (len : ℕ) → is_past_size file_system len ≡ false → len < 2 ^ 32
    → cond (is_large file_system len) (32 + len < 2 ^ 64) (24 + len < 2 ^ 24)
size_fits file_system len short below = by_form (is_large file_system len) refl
  where
    by_form : (b : Bool) → is_large file_system len ≡ b → cond b (32 + len < 2 ^ 64) (24 + len < 2 ^ 24)
    by_form true e = omega arith
    by_form false e = small_fits file_system len short e

-- the first of the handed in files is found where it is listed
first_found : (b : Bool) (image : List ℕ) (file : NewFile) (files : List NewFile) (found : FfsFile) (more : List FfsFile) → IsFileRead image file found
    → AreEach (IsFileRead image) files more → AreEach (IsFileRead image) (cond (not b) (file ∷ files) files) (cond b more (found ∷ more))
first_found true image file files found more here behind = behind
first_found false image file files found more here behind = (here, behind)

first_stands : (b : Bool) (at : ℕ) (found : FfsFile) (more : List FfsFile) (places : List ℕ) → found.at ≡ at → map (λ f. f.at) more ≡ places
    → map (λ f. f.at) (cond b more (found ∷ more)) ≡ cond b places (at ∷ places)
first_stands true at found more places here behind = behind
first_stands false at found more places here behind = ap (λ n. n ∷ map (λ f. f.at) more) here ∙ ap (λ ns. at ∷ ns) behind

most_found : (b : Bool) (found : FfsFile) (more : List FfsFile) (n : ℕ) → length more ≤ n → length (cond b more (found ∷ more)) ≤ suc n
most_found true found more n few = omega arith
most_found false found more n few = omega arith

-- what is found from a place on, where these files stand behind it
pub record Found (image : List ℕ) (file_system : FileSystem) (from : ℕ) (files : List NewFile) : Type 0 where
  pub found : List FfsFile
  pub lists : Lists image (has_large file_system) (aligned from) found
  pub each : AreEach (IsFileRead image) (listed files) found
  pub few : length found ≤ length files
  pub stand : map (λ f. f.at) found ≡ listed_at file_system from files

-- the body of a file that is found is the one that was handed in
body_found : (file_system : FileSystem) (body : Body) (bytes : List ℕ) → bytes ≡ bytes_in file_system body → has_long_section file_system body ≡ false → IsBodyRead bytes body
body_found file_system (Sections sections) bytes is short =
    λ readable. subst (λ b. AreSectionsRead b sections) (sym is) (sections_read file_system sections (none_pass (is_section_too_long file_system) sections short) readable)
body_found file_system (Bytes body) bytes is short = is

-- a file that is found is the one that was handed in
found_file : (file_system : FileSystem) (image : List ℕ) (wide : Bool) (at : ℕ) (file : NewFile)
    → take (length (bytes_in file_system file.body)) (drop (at + cond wide 32 24) image) ≡ bytes_in file_system file.body
    → slice_index image (at + 19) ≡ attributes_byte file.attributes wide → is_file_too_long file_system file ≡ false
    → IsFileRead image file (listed_file wide at file.name.0 file.kind (length (bytes_in file_system file.body)))
found_file file_system image wide at file inside attributes short = record {
  name = refl;
  kind = refl;
  attributes = ap attributes_in attributes ∙ attributes_back file.attributes wide;
  body = body_found file_system file.body _ inside (or_first (has_long_section file_system file.body) _ short);
}

pub files_found : (file_system : FileSystem) (files : List NewFile) (image : List ℕ) (from left : ℕ)
    → drop from image ≡ laid 8 255 from (map (file_bytes file_system) files) ++ replicate left 255 → length image < 2 ^ 32
    → All HasWholeName files → All (λ file. is_file_too_long file_system file ≡ false) files
    → Found image file_system from files
files_found file_system [] image from left here below whole short =
    let on : from + gap 8 from ≡ aligned from = omega arith in
    record {
      found = [];
      lists = subst (λ at. Lists image (has_large file_system) at []) on (lists_none image (has_large file_system) from (gap 8 from) left here);
      each = tt;
      few = omega arith;
      stand = refl;
    }
files_found file_system (file ∷ rest) image from left here below whole short =
    let large = has_large file_system in
    let body = bytes_in file_system file.body in
    let wide = is_large file_system (length body) in
    let header = file_header (head_with wide file (length body)) in
    let text = header ++ body in
    let g = gap 8 from in
    let at = from + g in
    let next = at + length text in
    let erased : List ℕ = replicate left 255 in
    let behind = laid 8 255 next (map (file_bytes file_system) rest) in
    let on : at ≡ aligned from = omega arith in
    let named : HasWholeName file = whole 0 file (omega arith) in
    let right : is_file_too_long file_system file ≡ false = short 0 file (omega arith) in
    let first : drop at image ≡ text ++ (behind ++ erased) =
    drop_behind g from image _ here ∙ ap (drop g) (append_assoc (replicate g 255) (text ++ behind) erased)
    ∙ drop_text g (replicate g 255) ((text ++ behind) ++ erased) (sym (length-replicate g 255)) ∙ append_assoc text behind erased in
    let room : length image - at ≡ length text + length (behind ++ erased) = room_at at image _ first ∙ length-append text (behind ++ erased) in
    let header_len : length header ≡ cond wide 32 24 = length-header wide file (length body) named in
    let text_len : length text ≡ cond wide 32 24 + length body = length-append header body ∙ ap (λ n. n + length body) header_len in
    let small : length body < 2 ^ 32 = omega (arith, room, length-append header body, below) in
    let fits = size_fits file_system (length body) (not_past file_system file right) small in
    let is : IsSpelled image large wide at file.name.0 _ file.kind (attributes_byte file.attributes wide) body (behind ++ erased) =
    spelled image large wide at file body (behind ++ erased) first named fits (large_allowed file_system (length body)) in
    let after : drop next image ≡ behind ++ erased = drop_behind (length text) at image _ first ∙ drop_text (length text) text (behind ++ erased) refl in
    let more : Found image file_system next rest = files_found file_system rest image next left after below
    (All-tail HasWholeName file rest whole) (All-tail (λ f. is_file_too_long file_system f ≡ false) file rest short) in
    let place : next ≡ at + (cond wide 32 24 + length body) = ap (λ n. at + n) text_len in
    let inside : take (length body) (drop (at + cond wide 32 24) image) ≡ body =
    ap (take (length body)) (drop_behind (cond wide 32 24) at image _ (first ∙ append_assoc header body (behind ++ erased))
    ∙ drop_text (cond wide 32 24) header (body ++ (behind ++ erased)) (sym header_len))
    ∙ take_text (length body) body (behind ++ erased) refl in
    let one = found_file file_system image wide at file inside (stands_attributes image large wide at file.name.0 _ file.kind (attributes_byte file.attributes wide) body (behind ++ erased) is) right in
    let found = listed_file wide at file.name.0 file.kind (length body) in
    let pad = file.kind == 240 in
    record {
      found = cond pad more.found (found ∷ more.found);
      lists = subst (λ p. Lists image large p (cond pad more.found (found ∷ more.found))) on
          (lists_file image large wide pad at file.name.0 _ file.kind (attributes_byte file.attributes wide) body (behind ++ erased) more.found is refl
          (subst (λ p. Lists image large (aligned p) more.found) place more.lists));
      each = first_found pad image file (listed rest) found more.found one more.each;
      few = most_found pad found more.found (length rest) more.few;
      stand = first_stands pad at found more.found (listed_at file_system next rest) refl more.stand;
    }
