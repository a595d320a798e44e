-- A built volume is read again.
use Rattle.std.proofs.Common.{◌≡◌, ℕ, ◌+◌, ◌-◌, ◌*◌, ◌%◌, ◌/◌, ◌<◌, ◌≤◌, ◌^◌, Bool, true, false, cond, List, [], ◌∷◌, ◌++◌, length, take, drop, sum, replicate, Option, Some, None, refl, sym, ap, ◌∙◌, arith, append_assoc, length-append, All, bit_and, bit_or, nat_lt, nat_le, ◌==◌, ◌&&◌}
use Rattle.std.proofs.{lemmas.Bool.and_parts, lemmas.Bool.Decides.nat_tests, lemmas.List.length-replicate}
use Rattle.std.proofs.{lemmas.List.Sums.sum_by-append, lemmas.List.Sums.sum_by-cons, lemmas.Nat.and_or_self, lemmas.Nat.or_lt}
use Rattle.std.specs.List.{list_any}
use Rattle.pi_base.specs.Field.{little_bytes, words_of}
use Rattle.fv_volume.specs.{declared.file.FfsFile.FfsFile, Frame.aligned, declared.build.fault.BuildFault.BuildFault}
use Rattle.fv_volume.proofs.{Spelled.Lists, Flags.none_pass, Headers.words_append}
use Rattle.fv_volume.specs.{declared.build.new_file.NewFile.NewFile, declared.build.volume_name.VolumeName.VolumeName, Checksum.checksum16}
use Rattle.fv_volume.specs.FileSystems.{FileSystem, Ffs2, Ffs3}
use Rattle.fv_volume.specs.{declared.build.volume_header.VolumeForm.VolumeForm, Placing.gap}
use Rattle.fv_volume.specs.Header.{head_of, header_with, volume_header, is_header_length}
use Rattle.fv_volume.specs.Front.{ext_at, extended_bytes, name_part, front_len, is_placed}
use Rattle.fv_volume.specs.Files.{file_bytes, is_file_too_long, HasWholeName}
use Rattle.fv_volume.specs.Building.{files_bytes, need, volume_bytes, fault_from, volume_fault}
use Rattle.fv_volume.specs.Reading.{IsWhole, guid_of, IsReadAs, IsReadBack, listed_at}
use Rattle.fv_volume.proofs.Parts.{drop_behind, drop_text, take_text}
use Rattle.fv_volume.proofs.FilesRead.{has_large, Found, files_found}
use Rattle.fv_volume.proofs.HeadersRead.{begins, IsExtended, IsFront, start_of, volume_read}

-- a word among others
sum_of_word : (n : ℕ) (front behind : List ℕ) (word : ℕ) → length front ≡ 2 * n → word < 65536
    → sum (words_of (front ++ (little_bytes 2 word ++ behind))) ≡ sum (words_of front) + (word + sum (words_of behind))
sum_of_word n front behind word even fits =
    ap sum (words_append n front (little_bytes 2 word ++ behind) even) ∙ sum_by-append (λ x. x) (words_of front) (words_of (little_bytes 2 word ++ behind))
    ∙ ap (λ m. sum (words_of front) + m) (sum_by-cons (λ x. x) (word % 256 + 256 * (word / 256 % 256)) (words_of behind) ∙ ap (λ w. w + sum (words_of behind)) (omega arith))

sealed : (n : ℕ) (front behind : List ℕ) → length front ≡ 2 * n
    → sum (words_of (front ++ (little_bytes 2 (checksum16 (front ++ (little_bytes 2 0 ++ behind))) ++ behind))) % 65536 ≡ 0
sealed n front behind even =
    let c = checksum16 (front ++ (little_bytes 2 0 ++ behind)) in
    let plain = sum_of_word n front behind 0 even (omega arith) in
    omega (arith, plain, sum_of_word n front behind c even (omega arith))

abbrev form_of : FileSystem → ℕ → ℕ → VolumeForm
form_of file_system attributes header_len = record { file_system = file_system; attributes = attributes; header_len = header_len }

-- the words of a built header sum to 0
header_sum : (file_system : FileSystem) (attributes header_len at len : ℕ)
    → sum (words_of (volume_header (head_of (form_of file_system attributes header_len) at len))) % 65536 ≡ 0
header_sum Ffs2 attributes header_len at len =
    let header = header_with (head_of (form_of Ffs2 attributes header_len) at len) 0 in sealed 25 (take 50 header) (drop 52 header) refl
header_sum Ffs3 attributes header_len at len =
    let header = header_with (head_of (form_of Ffs3 attributes header_len) at len) 0 in sealed 25 (take 50 header) (drop 52 header) refl

-- it is a header that the reader's law speaks of
is_spelled : (file_system : FileSystem) (attributes header_len at len checksum : ℕ) (rest : List ℕ)
    → header_with (head_of (form_of file_system attributes header_len) at len) checksum ++ rest
    ≡ begins (has_large file_system) (bit_or attributes 2048) header_len at len checksum (replicate (header_len - 64) 0 ++ rest)
is_spelled Ffs2 attributes header_len at len checksum rest = refl
is_spelled Ffs3 attributes header_len at len checksum rest = refl

pub length-header : (file_system : FileSystem) (attributes header_len at len : ℕ) → 64 ≤ header_len
    → length (volume_header (head_of (form_of file_system attributes header_len) at len)) ≡ header_len
length-header Ffs2 attributes header_len at len least = omega (arith, least, length-replicate {A = ℕ} (header_len - 64) 0)
length-header Ffs3 attributes header_len at len least = omega (arith, least, length-replicate {A = ℕ} (header_len - 64) 0)

-- what is known of a header's length
pub record FitsHeader (len : ℕ) : Type 0 where
  pub least : 64 ≤ len
  even : len % 2 ≡ 0
  short : len < 2 ^ 16

pub fits_header : (len : ℕ) → is_header_length len ≡ true → FitsHeader len
fits_header len is =
    let first = and_parts (nat_le 64 len) ((len % 2 == 0) && nat_lt len 65536) is in
    let second = and_parts (len % 2 == 0) (nat_lt len 65536) first.1 in
    let a = first.0 in
    let b = second.0 in
    let c = second.1 in
    record { least = grind (arith, nat_tests); even = grind (arith, nat_tests); short = grind (arith, nat_tests) }

-- a name is where it says, behind the header
record FitsName (header_len : ℕ) (name : VolumeName) : Type 0 where
  behind : header_len ≤ name.at
  least : 20 ≤ name.size

fits_name : (header_len : ℕ) (name : VolumeName) → is_placed header_len (Some name) ≡ true → FitsName header_len name
fits_name header_len name is =
    let both = and_parts (nat_le header_len name.at) (nat_le 20 name.size) is in
    let a = both.0 in
    let b = both.1 in
    record { behind = grind (arith, nat_tests); least = grind (arith, nat_tests) }

length-extended : (name : VolumeName) → length name.guid.0 ≡ 16 → 20 ≤ name.size → length (extended_bytes name) ≡ name.size
length-extended name whole least =
    let erased : List ℕ = replicate (name.size - 20) 255 in
    length-append name.guid.0 (little_bytes 4 name.size ++ erased) ∙ omega (arith, whole, least, length-append (little_bytes 4 name.size) erased, length-replicate {A = ℕ} (name.size - 20) 255)

-- the bytes in front of the files
pub length-front : (form : VolumeForm) (name : Option VolumeName) → is_placed form.header_len name ≡ true → IsWhole name
    → form.header_len + length (name_part form.header_len name) ≡ front_len form name
length-front form None placed whole = omega arith
length-front form (Some name) placed whole =
    let fits = fits_name form.header_len name placed in
    let gap_before : List ℕ = replicate (name.at - form.header_len) 255 in
    omega (arith, length-append gap_before (extended_bytes name), length-replicate {A = ℕ} (name.at - form.header_len) 255, length-extended name whole.0 fits.least, fits.behind)

-- the extended header stands at its place
extended_there : (form : VolumeForm) (name : Option VolumeName) (header rest bytes : List ℕ) (len : ℕ) → is_placed form.header_len name ≡ true → IsWhole name → front_len form name ≤ len
    → length header ≡ form.header_len → bytes ≡ header ++ (name_part form.header_len name ++ rest) → IsExtended form.header_len len name bytes
extended_there form None header rest bytes len placed whole room long is = tt
extended_there form (Some name) header rest bytes len placed whole room long is =
    let fits = fits_name form.header_len name placed in
    let g = name.at - form.header_len in
    let before : List ℕ = replicate g 255 in
    let place : form.header_len + g ≡ name.at = omega (arith, fits.behind) in
    let here : drop (form.header_len + g) bytes ≡ extended_bytes name ++ rest =
    drop_behind g form.header_len bytes _ (ap (drop form.header_len) is ∙ drop_text form.header_len header (name_part form.header_len (Some name) ++ rest) (sym long))
    ∙ ap (drop g) (append_assoc before (extended_bytes name) rest) ∙ drop_text g before (extended_bytes name ++ rest) (sym (length-replicate {A = ℕ} g 255)) in
    ((rest, ap (λ n. drop n bytes) (sym place) ∙ here), whole.0, fits.behind, fits.least, room)

near_by : (name : Option VolumeName) → IsWhole name → ext_at name < 2 ^ 16
near_by None whole = omega arith
near_by (Some name) whole = whole.1

-- where nothing stands against the volume
pub record Sound (file_system : FileSystem) (from : ℕ) (files : List NewFile) (len : ℕ) : Type 0 where
  pub few : length files ≤ 16384
  pub short : All (λ file. is_file_too_long file_system file ≡ false) files
  pub room : need file_system from files ≤ len

no_test : (a b c : Bool) (f g h : BuildFault) → cond a (Some f) (cond b (Some g) (cond c (Some h) None)) ≡ None → (a ≡ false) × (b ≡ false) × (c ≡ false)
no_test true b c f g h e = absurd cc
no_test false true c f g h e = absurd cc
no_test false false true f g h e = absurd cc
no_test false false false f g h e = (refl, refl, refl)

pub sound : (file_system : FileSystem) (from : ℕ) (files : List NewFile) (len : ℕ) → fault_from file_system from files len ≡ None → Sound file_system from files len
sound file_system from files len none =
    let tests = no_test (nat_lt 16384 (length files)) (list_any (is_file_too_long file_system) files) (nat_lt len (need file_system from files)) _ _ _ none in
    let many = tests.0 in
    let room = tests.2 in
    record { few = grind (arith, nat_tests); short = none_pass (is_file_too_long file_system) files tests.1; room = grind (arith, nat_tests) }

-- the erase polarity is set
erases_to_ones : (attributes : ℕ) → (bit_and (bit_or attributes 2048) 2048 == 0) ≡ false
erases_to_ones attributes = ap (λ n. n == 0) (and_or_self 2048 attributes)

-- files that are laid from a place on stand as from the next multiple of 8 on
listed_aligned : (file_system : FileSystem) (from : ℕ) (files : List NewFile) → listed_at file_system (aligned from) files ≡ listed_at file_system from files
listed_aligned file_system from [] = refl
listed_aligned file_system from (file ∷ files) =
    let same : aligned from + gap 8 (aligned from) ≡ from + gap 8 from = omega arith in
    ap (λ at. let behind = listed_at file_system (at + length (file_bytes file_system file)) files in cond (file.kind == 240) behind (at ∷ behind)) same

-- the search begins there
starts_so : (form : VolumeForm) (name : Option VolumeName) (bytes : List ℕ) (large : Bool) (files : List FfsFile) → Lists bytes large (aligned (front_len form name)) files
    → Lists bytes large (aligned (start_of form.header_len name)) files
starts_so form None bytes large files lists = lists
starts_so form (Some name) bytes large files lists = lists

-- a volume against which nothing stands is read as the name and the files that were handed in
pub read_as : (form : VolumeForm) (name : Option VolumeName) (files : List NewFile) (len : ℕ) → form.attributes < 2 ^ 32 → is_header_length form.header_len ≡ true
    → is_placed form.header_len name ≡ true → IsWhole name → len < 2 ^ 32 → volume_fault form name files len ≡ None → All HasWholeName files
    → IsReadAs form name files len (volume_bytes form name files len)
read_as form name files len small is_length placed whole below none named =
    let file_system = form.file_system in
    let header_len = form.header_len in
    let from = front_len form name in
    let s = sound file_system from files len none in
    let h = fits_header header_len is_length in
    let header = volume_header (head_of form (ext_at name) len) in
    let header_long : length header ≡ header_len = length-header file_system form.attributes header_len (ext_at name) len h.least in
    let part = name_part header_len name in
    let part_long = length-front form name placed whole in
    let texts = files_bytes file_system from files in
    let left = len - need file_system from files in
    let erased : List ℕ = replicate left 255 in
    let rest = part ++ (texts ++ erased) in
    let bytes = volume_bytes form name files len in
    let long : length bytes ≡ len =
    length-append header rest
    ∙ omega (arith, header_long, part_long, length-append part (texts ++ erased), length-append texts erased, length-replicate {A = ℕ} left 255, s.room) in
    let part_at : drop header_len bytes ≡ rest = drop_text header_len header rest (sym header_long) in
    let files_at : drop from bytes ≡ texts ++ erased =
    ap (λ n. drop n bytes) (sym part_long) ∙ drop_behind (length part) header_len bytes _ part_at ∙ drop_text (length part) part (texts ++ erased) refl in
    let found : Found bytes file_system from files = files_found file_system files bytes from left files_at (omega (arith, long, below)) named s.short in
    let checksum = checksum16 (header_with (head_of form (ext_at name) len) 0) in
    let enough : from ≤ len = omega (arith, s.room) in
    let front : IsFront (has_large file_system) (bit_or form.attributes 2048) header_len len checksum name bytes = record {
      rest = replicate (header_len - 64) 0 ++ rest;
      spelled = is_spelled file_system form.attributes header_len (ext_at name) len checksum rest;
      extended = extended_there form name header (texts ++ erased) bytes len placed whole enough header_long refl;
      near = near_by name whole;
      long = long;
      small = or_lt 32 form.attributes 2048 small (omega arith);
      ones_first = erases_to_ones form.attributes;
      even = h.even;
      least = h.least;
      short = h.short;
      within = omega (arith, part_long, enough);
      fits = below;
      zero_sum = ap (λ xs. sum (words_of xs) % 65536) (take_text header_len header rest (sym header_long)) ∙ header_sum file_system form.attributes header_len (ext_at name) len;
    } in
    record {
      volume = record { len = len; name = guid_of name; files = found.found };
      is_volume = volume_read (has_large file_system) (bit_or form.attributes 2048) header_len len checksum name bytes found.found front
          (starts_so form name bytes (has_large file_system) found.found found.lists) (omega (arith, found.few, s.few));
      len_is = refl;
      long = long;
      name_is = refl;
      are_files = found.each;
      places = found.stand ∙ sym (listed_aligned file_system from files);
    }

-- one without a name
pub read_back : (form : VolumeForm) (files : List NewFile) (len : ℕ) (bytes : List ℕ) → IsReadAs form None files len bytes → IsReadBack files bytes
read_back form files len bytes read = record {
  volume = read.volume;
  is_volume = read.is_volume;
  len = read.len_is ∙ sym read.long;
  no_name = read.name_is;
  are_files = read.are_files;
}
