-- Files that are spelled out are read as themselves. Callers who write volumes cite this.
use Rattle.std.proofs.Common.{◌≡◌, ℕ, zero, suc, ◌+◌, ◌-◌, ◌%◌, ◌<◌, ◌≤◌, ◌^◌, Bool, true, false, cond, List, [], ◌∷◌, ◌++◌, length, take, drop, sum, replicate, Some, None, Result, Ok, Err, refl, sym, ap, ◌∙◌, arith, subst, get_or-drop, length-drop, length-append, drop-drop, append-nil, get_or-append-add, bit_and, nat_lt, ◌==◌, ◌&&◌, ◌||◌, not, slice_index}
use Rattle.std.proofs.{lemmas.Bool.Decides.nat_tests, lemmas.List.Concat.flat_map-cons, lemmas.List.Folds.list_all-append}
use Rattle.std.proofs.lemmas.List.{length-replicate, drop-replicate, take-replicate}
use Rattle.std.proofs.{lemmas.List.Sums.sum_by-append, lemmas.List.Sums.sum_by-cons, Math.Seq.drop-append-add, Math.Seq.take-append-add}
use Rattle.std.specs.List.{list_all}
use Rattle.pi_base.specs.Field.{little_number, little_bytes}
use Rattle.pi_base.proofs.FieldLaws.{little_number-little_bytes}
use Rattle.fv_volume.specs.{declared.file.FfsFile.FfsFile, declared.item.Item.Item, declared.file_header.FileHeader.FileHeader}
use Rattle.fv_volume.specs.declared.item.ItemKind.TheVariants.{Dead, Pad, Listed}
use Rattle.fv_volume.specs.{declared.file_state.FileState.TheVariants.DataValid, declared.volume_header.Format.Format}
use Rattle.fv_volume.specs.{declared.fault.VolCause.VolCause, FileState.file_state, FileState.is_dead, Frame.aligned}
use Rattle.fv_volume.specs.declared.fault.VolCause.TheVariants.{FileSum, FileSize, DataSum}
use Rattle.fv_volume.specs.FileHeader.{fields_at, is_large, file_header, header_sum, size_is_wrong, data_is_wrong}
use Rattle.fv_volume.specs.Item.{listed_of, item_or_cause, sound_item, item_at}
use Rattle.fv_volume.specs.Search.{ends_at, Leads, files_of}

-- a volume that is erased to ones
abbrev pub ones : Bool → Format
ones large_files = record { large_files = large_files; erased = 0xff }

-- parts of bytes at a place where some bytes stand

index_behind : (n at : ℕ) (bytes here : List ℕ) → drop at bytes ≡ here → slice_index bytes (at + n) ≡ slice_index here n
index_behind n at bytes here e = sym (get_or-drop at bytes n 0) ∙ ap (λ xs. slice_index xs n) e

drop_behind : (n at : ℕ) (bytes here : List ℕ) → drop at bytes ≡ here → drop (at + n) bytes ≡ drop n here
drop_behind n at bytes here e = sym (drop-drop n at bytes) ∙ ap (drop n) e

drop_text : (n k : ℕ) (text rest : List ℕ) → n ≡ length text + k → drop n (text ++ rest) ≡ drop k rest
drop_text n k text rest e = ap (λ j. drop j (text ++ rest)) e ∙ drop-append-add text rest k

take_text : (n k : ℕ) (text rest : List ℕ) → n ≡ length text + k → take n (text ++ rest) ≡ text ++ take k rest
take_text n k text rest e = ap (λ j. take j (text ++ rest)) e ∙ take-append-add text rest k

index_text : (n k : ℕ) (text rest : List ℕ) → n ≡ length text + k → slice_index (text ++ rest) n ≡ slice_index rest k
index_text n k text rest e = ap (λ j. slice_index (text ++ rest) j) e ∙ get_or-append-add text rest k 0

-- the eight bytes behind a file's name
abbrev pub fields : ℕ → ℕ → ℕ → ℕ → List ℕ
fields checksum kind attributes size = checksum ∷ (0xaa ∷ (kind ∷ (attributes ∷ (little_bytes 3 size ++ 0xf8 ∷ []))))

-- a file's name and the fields behind it stand at a place
pub record StandsAt (image : List ℕ) (at : ℕ) (name : List ℕ) (checksum kind attributes size : ℕ) (behind : List ℕ) : Type 0 where
  pub here : drop at image ≡ name ++ (fields checksum kind attributes size ++ behind)
  pub whole : length name ≡ 16

-- the byte so far behind the name
field_at : (image : List ℕ) (at : ℕ) (name : List ℕ) (checksum kind attributes size : ℕ) (behind : List ℕ) → StandsAt image at name checksum kind attributes size behind
    → (n k : ℕ) → n ≡ 16 + k → slice_index image (at + n) ≡ slice_index (fields checksum kind attributes size ++ behind) k
field_at image at name checksum kind attributes size behind s n k e =
    index_behind n at image _ s.here ∙ index_text n k name (fields checksum kind attributes size ++ behind) (omega (arith, s.whole))

-- what a file's header says
abbrev said : List ℕ → ℕ → ℕ → ℕ → ℕ → ℕ → FileHeader
said name checksum kind attributes len size = record { name = record { 0 = name }; checksum = checksum; kind = kind; attributes = attributes; len = len; size = size }

-- its fields are read
fields_read : (image : List ℕ) (at : ℕ) (name : List ℕ) (checksum kind attributes size : ℕ) (behind : List ℕ) → StandsAt image at name checksum kind attributes size behind
    → (len found : ℕ) → fields_at image at len found ≡ said name 0xaa kind attributes len found
fields_read image at name checksum kind attributes size behind s len found =
    let byte = field_at image at name checksum kind attributes size behind s in
    let same : take 16 (drop at image) ≡ name = ap (take 16) s.here ∙ take_text 16 0 name _ (omega (arith, s.whole)) ∙ append-nil name in
    ap (λ x. said x (slice_index image (at + 17)) (slice_index image (at + 18)) (slice_index image (at + 19)) len found) same
    ∙ ap (λ x. said name x (slice_index image (at + 18)) (slice_index image (at + 19)) len found) (byte 17 1 refl)
    ∙ ap (λ x. said name 0xaa x (slice_index image (at + 19)) len found) (byte 18 2 refl)
    ∙ ap (λ x. said name 0xaa kind x len found) (byte 19 3 refl)

and_false : (b : Bool) → (b && false) ≡ false
and_false true = refl
and_false false = refl

-- an Attributes byte of a file that is large or not, and has no file checksum
pub record AreAttributes (attributes : ℕ) (wide : Bool) : Type 0 where
  pub size : nat_lt 0 (bit_and attributes 1) ≡ wide
  pub sum : nat_lt 0 (bit_and attributes 64) ≡ false

-- the header of a file that is not large
small_header : (image : List ℕ) (large : Bool) (at : ℕ) (name : List ℕ) (checksum kind a size : ℕ) (behind : List ℕ) → StandsAt image at name checksum kind a size behind
    → AreAttributes a false → size < 16777216 → file_header image (ones large) at ≡ Some (said name 0xaa kind a 24 size)
small_header image large at name checksum kind a size behind s are short =
    let not_large : is_large image (ones large) at ≡ false =
    ap (λ x. large && nat_lt 0 (bit_and x 1)) (field_at image at name checksum kind a size behind s 19 3 refl) ∙ ap (λ b. large && b) are.size ∙ and_false large in
    let number : little_number 3 (drop (at + 20) image) ≡ size =
    ap (little_number 3) (drop_behind 20 at image _ s.here ∙ drop_text 20 4 name _ (omega (arith, s.whole)))
    ∙ little_number-little_bytes 3 size (0xf8 ∷ behind) short in
    ap (λ (b : Bool). cond (not b) (Some (fields_at image at 24 (little_number 3 (drop (at + 20) image))))
    (cond (nat_lt (length image) (at + 32)) None (Some (fields_at image at 32 (little_number 8 (drop (at + 24) image)))))) not_large
    ∙ ap (λ h. Some h) (fields_read image at name checksum kind a size behind s 24 (little_number 3 (drop (at + 20) image))
    ∙ ap (said name 0xaa kind a 24) number)

-- the header of a large file
large_header : (image : List ℕ) (at : ℕ) (name : List ℕ) (checksum kind a size : ℕ) (behind : List ℕ)
    → StandsAt image at name checksum kind a 0 (little_bytes 8 size ++ behind) → AreAttributes a true → size < 2 ^ 64
    → file_header image (ones true) at ≡ Some (said name 0xaa kind a 32 size)
large_header image at name checksum kind a size behind s are fits =
    let is : is_large image (ones true) at ≡ true = ap (λ x. nat_lt 0 (bit_and x 1)) (field_at image at name checksum kind a 0 _ s 19 3 refl) ∙ are.size in
    let long : length image - at ≡ 32 + length behind = sym (length-drop at image) ∙ ap length s.here ∙ length-append name _ ∙ omega (arith, s.whole) in
    let room : nat_lt (length image) (at + 32) ≡ false = grind (arith, nat_tests) in
    let number : little_number 8 (drop (at + 24) image) ≡ size =
    ap (little_number 8) (drop_behind 24 at image _ s.here ∙ drop_text 24 8 name _ (omega (arith, s.whole)))
    ∙ little_number-little_bytes 8 size behind fits in
    ap (λ (b : Bool). cond (not b) (Some (fields_at image at 24 (little_number 3 (drop (at + 20) image))))
    (cond (nat_lt (length image) (at + 32)) None (Some (fields_at image at 32 (little_number 8 (drop (at + 24) image)))))) is
    ∙ ap (λ (b : Bool). cond b None (Some (fields_at image at 32 (little_number 8 (drop (at + 24) image))))) room
    ∙ ap (λ h. Some h) (fields_read image at name checksum kind a 0 _ s 32 (little_number 8 (drop (at + 24) image))
    ∙ ap (said name 0xaa kind a 32) number)

-- the bytes of a header sum to 0
sum_read : (name : List ℕ) (checksum kind attributes size : ℕ) (extended : List ℕ) → length name ≡ 16
    → (sum name + (checksum + (kind + (attributes + (sum (little_bytes 3 size) + sum extended))))) % 256 ≡ 0
    → header_sum (name ++ (fields checksum kind attributes size ++ extended)) ≡ 0
sum_read name checksum kind attributes size extended whole zero_sum =
    let behind = fields checksum kind attributes size ++ extended in
    let front : take 17 (name ++ behind) ≡ name ++ checksum ∷ [] = take_text 17 1 name behind (omega (arith, whole)) in
    let middle : take 5 (drop 18 (name ++ behind)) ≡ kind ∷ (attributes ∷ little_bytes 3 size) = ap (take 5) (drop_text 18 2 name behind (omega (arith, whole))) in
    let back : drop 24 (name ++ behind) ≡ extended = drop_text 24 8 name behind (omega (arith, whole)) in
    let a : sum (take 17 (name ++ behind)) ≡ sum name + checksum = ap sum front ∙ sum_by-append (λ x. x) name (checksum ∷ []) ∙ omega (arith, sum_by-cons (λ x. x) checksum []) in
    let b : sum (take 5 (drop 18 (name ++ behind))) ≡ kind + (attributes + sum (little_bytes 3 size)) =
    ap sum middle ∙ sum_by-cons (λ x. x) kind (attributes ∷ little_bytes 3 size) ∙ ap (λ n. kind + n) (sum_by-cons (λ x. x) attributes (little_bytes 3 size)) in
    let c : sum (drop 24 (name ++ behind)) ≡ sum extended = ap sum back in
    omega (arith, a, b, c)

-- what is found at a file's place
abbrev pub found : Bool → ℕ → List ℕ → ℕ → ℕ → ℕ → Item
found pad at name kind len size = record {
  kind = cond pad Pad (Listed (record { at = at; name = record { 0 = name }; kind = kind; body_at = at + len; body_len = size - len }));
  end = at + size;
}

by_pad : (pad : Bool) (at : ℕ) (name : List ℕ) (kind len size : ℕ) → ◌≡◌ {A = Result Item VolCause}
    (cond pad (Ok (record { kind = Pad; end = at + size })) (Ok (record { kind = Listed (record { at = at; name = record { 0 = name }; kind = kind; body_at = at + len; body_len = size - len }); end = at + size })))
    (Ok (found pad at name kind len size))
by_pad true at name kind len size = refl
by_pad false at name kind len size = refl

right_size : (large wide : Bool) (a at len size room : ℕ) (name : List ℕ) (kind : ℕ) → AreAttributes a wide → (wide ≡ true → large ≡ true) → len ≤ size → size ≤ room
    → size_is_wrong (ones large) room (said name 0xaa kind a len size) ≡ false
right_size true wide a at len size room name kind are allowed least most = grind (arith, nat_tests)
right_size false true a at len size room name kind are allowed least most = absurd (let no : false ≡ true = allowed refl in cc)
right_size false false a at len size room name kind are allowed least most =
    ap (λ b. (true && b) || nat_lt size len || nat_lt room size) are.size ∙ grind (arith, nat_tests)

right_data : (wide : Bool) (a : ℕ) (name : List ℕ) (kind len size : ℕ) (body : List ℕ) → AreAttributes a wide → data_is_wrong (said name 0xaa kind a len size) body ≡ false
right_data wide a name kind len size body are = ap (λ b. cond b (not ((sum body + 0xaa) % 256 == 0)) (not (0xaa == 0xaa))) are.sum

-- a file is read as itself
item_read : (image : List ℕ) (large wide pad : Bool) (at : ℕ) (name : List ℕ) (checksum kind a field len size : ℕ) (behind : List ℕ)
    → StandsAt image at name checksum kind a field behind → AreAttributes a wide
    → file_header image (ones large) at ≡ Some (said name 0xaa kind a len size)
    → header_sum (take len (drop at image)) ≡ 0 → (wide ≡ true → large ≡ true) → len ≤ size → size ≤ length image - at → (kind == 240) ≡ pad
    → item_at image (ones large) at ≡ Ok (found pad at name kind len size)
item_read image large wide pad at name checksum kind a field len size behind s are header sound allowed least most is_pad =
    let H = said name 0xaa kind a len size in
    let format = ones large in
    let state = field_at image at name checksum kind a field behind s 23 7 refl in
    let zero_sum : (header_sum (take len (drop at image)) == 0) ≡ true = ap (λ n. n == 0) sound in
    ap (λ byte. cond (is_dead (file_state 0xff byte)) (Ok (record { kind = Dead; end = at + 24 }))
    (item_or_cause image format at (file_state 0xff byte) (file_header image format at))) state
    ∙ ap (item_or_cause image format at DataValid) header
    ∙ ap (λ b. cond (not b) (Err FileSum) (cond (size_is_wrong format (length image - at) H) (Err FileSize) (sound_item image at DataValid H))) zero_sum
    ∙ ap (λ b. cond b (Err FileSize) (sound_item image at DataValid H)) (right_size large wide a at len size (length image - at) name kind are allowed least most)
    ∙ ap (λ b. cond b (Err DataSum) (cond (kind == 240) (Ok (record { kind = Pad; end = at + size }))
    (Ok (record { kind = Listed (record { at = at; name = record { 0 = name }; kind = kind; body_at = at + len; body_len = size - len }); end = at + size }))))
    (right_data wide a name kind len size (take (size - len) (drop (at + len) image)) are)
    ∙ ap (λ b. cond b (Ok (record { kind = Pad; end = at + size }))
    (Ok (record { kind = Listed (record { at = at; name = record { 0 = name }; kind = kind; body_at = at + len; body_len = size - len }); end = at + size }))) is_pad
    ∙ by_pad pad at name kind len size

-- the search goes on at a file
goes_on : (image : List ℕ) (large : Bool) (at : ℕ) (name : List ℕ) (checksum kind attributes size : ℕ) (behind : List ℕ)
    → StandsAt image at name checksum kind attributes size behind → ends_at image (ones large) at ≡ false
goes_on image large at name checksum kind attributes size behind s =
    let erased : ℕ → Bool = λ byte. byte == 0xff in
    let text = fields checksum kind attributes size in
    let long : length image - at ≡ 24 + length behind = sym (length-drop at image) ∙ ap length s.here ∙ length-append name _ ∙ omega (arith, s.whole) in
    let room : nat_lt (length image) (at + 24) ≡ false = grind (arith, nat_tests) in
    let bytes : take 24 (drop at image) ≡ name ++ text = ap (take 24) s.here ∙ take_text 24 8 name (text ++ behind) (omega (arith, s.whole)) in
    ap (λ b. cond b true (list_all erased (take 24 (drop at image)))) room
    ∙ ap (list_all erased) bytes ∙ list_all-append erased name text ∙ ap (λ b. list_all erased name && b) (and_false (erased checksum)) ∙ and_false (list_all erased name)

-- from a place on the search lists these files, and ends
pub record Lists (image : List ℕ) (large : Bool) (from : ℕ) (files : List FfsFile) : Type 0 where
  pub items : List Item
  pub to : ℕ
  pub leads : Leads image (ones large) from items to
  pub ends : ends_at image (ones large) to ≡ true
  pub are : files ≡ files_of items

all_ones : (n : ℕ) → list_all (λ byte. byte == 0xff) (replicate n 0xff) ≡ true
all_ones zero = refl
all_ones (suc n) = all_ones n

-- erased bytes up to the end, some of them before the place
pub lists_none : (image : List ℕ) (large : Bool) (from skip left : ℕ) → drop from image ≡ replicate left 0xff → Lists image large (from + skip) []
lists_none image large from skip left erased =
    let at = from + skip in
    let here : drop at image ≡ replicate (left - skip) 0xff = drop_behind skip from image _ erased ∙ drop-replicate skip left 0xff in
    let long : length image - at ≡ left - skip = sym (length-drop at image) ∙ ap length here ∙ length-replicate (left - skip) 0xff in
    let bytes : nat_lt (length image) (at + 24) ≡ false → list_all (λ byte. byte == 0xff) (take 24 (drop at image)) ≡ true = λ room.
    let enough : 24 ≤ left - skip = grind (arith, nat_tests) in
    ap (λ xs. list_all (λ byte. byte == 0xff) (take 24 xs)) here
    ∙ ap (list_all (λ byte. byte == 0xff)) (take-replicate 24 (left - skip) 0xff enough) ∙ all_ones 24 in
    record { items = []; to = at; leads = refl; ends = by_room (nat_lt (length image) (at + 24)) refl bytes; are = refl }
  where
    by_room : (b : Bool) → nat_lt (length image) (from + skip + 24) ≡ b → (nat_lt (length image) (from + skip + 24) ≡ false → list_all (λ byte. byte == 0xff) (take 24 (drop (from + skip) image)) ≡ true)
        → cond b true (list_all (λ byte. byte == 0xff) (take 24 (drop (from + skip) image))) ≡ true
    by_room true e f = refl
    by_room false e f = f e

-- a file, and those behind it
lists_more : (image : List ℕ) (large pad : Bool) (at : ℕ) (name : List ℕ) (kind len size : ℕ) (files : List FfsFile)
    → ends_at image (ones large) at ≡ false → item_at image (ones large) at ≡ Ok (found pad at name kind len size)
    → Lists image large (aligned (at + size)) files
    → Lists image large at (listed_of (found pad at name kind len size).kind ++ files)
lists_more image large pad at name kind len size files on here more = record {
  items = found pad at name kind len size ∷ more.items;
  to = more.to;
  leads = (on, here, more.leads);
  ends = more.ends;
  are = ap (λ xs. listed_of (found pad at name kind len size).kind ++ xs) more.are ∙ sym (flat_map-cons (λ i. listed_of i.kind) (found pad at name kind len size) more.items);
}

-- a file whose header is spelled out, its size in Size or in ExtendedSize
pub record IsSpelled (image : List ℕ) (large wide : Bool) (at : ℕ) (name : List ℕ) (checksum kind attributes : ℕ) (body rest : List ℕ) : Type 0 where
  pub here : drop at image ≡ name ++ (fields checksum kind attributes (cond wide 0 (24 + length body)) ++ (cond wide (little_bytes 8 (32 + length body)) [] ++ (body ++ rest)))
  pub are : AreAttributes attributes wide
  pub whole : length name ≡ 16
  pub sum_is : (sum name + (checksum + (kind + (attributes + (sum (little_bytes 3 (cond wide 0 (24 + length body))) + sum (cond wide (little_bytes 8 (32 + length body)) [])))))) % 256 ≡ 0
  pub fits : cond wide (32 + length body < 2 ^ 64) (24 + length body < 2 ^ 24)
  pub allowed : wide ≡ true → large ≡ true

-- the file that is listed
abbrev pub listed_file : Bool → ℕ → List ℕ → ℕ → ℕ → FfsFile
listed_file wide at name kind body_len = record { at = at; name = record { 0 = name }; kind = kind; body_at = at + cond wide 32 24; body_len = body_len }

is_listed : (pad wide : Bool) (at : ℕ) (name : List ℕ) (kind body_len : ℕ) (files : List FfsFile)
    → listed_of (found pad at name kind (cond wide 32 24) (cond wide 32 24 + body_len)).kind ++ files ≡ cond pad files (listed_file wide at name kind body_len ∷ files)
is_listed true wide at name kind body_len files = refl
is_listed false true at name kind body_len files =
    ap (λ n. let f : FfsFile = record { at = at; name = record { 0 = name }; kind = kind; body_at = at + 32; body_len = n } in f ∷ files) (omega arith)
is_listed false false at name kind body_len files =
    ap (λ n. let f : FfsFile = record { at = at; name = record { 0 = name }; kind = kind; body_at = at + 24; body_len = n } in f ∷ files) (omega arith)

-- a small file and those behind it
lists_small : (image : List ℕ) (large pad : Bool) (at : ℕ) (name : List ℕ) (checksum kind a : ℕ) (body rest : List ℕ) (files : List FfsFile)
    → IsSpelled image large false at name checksum kind a body rest → (kind == 240) ≡ pad → Lists image large (aligned (at + (24 + length body))) files
    → Lists image large at (cond pad files (listed_file false at name kind (length body) ∷ files))
lists_small image large pad at name checksum kind a body rest files f is_pad more =
    let size = 24 + length body in
    let s : StandsAt image at name checksum kind a size (body ++ rest) = record { here = f.here; whole = f.whole } in
    let header = small_header image large at name checksum kind a size (body ++ rest) s f.are f.fits in
    let bytes : take 24 (drop at image) ≡ name ++ (fields checksum kind a size ++ []) =
    ap (take 24) f.here ∙ take_text 24 8 name (fields checksum kind a size ++ (body ++ rest)) (omega (arith, f.whole)) in
    let sound = ap header_sum bytes ∙ sum_read name checksum kind a size [] f.whole f.sum_is in
    let long : length image - at ≡ 24 + length body + length rest =
    sym (length-drop at image) ∙ ap length f.here ∙ length-append name _ ∙ omega (arith, f.whole, length-append body rest) in
    let item = item_read image large false pad at name checksum kind a size 24 size (body ++ rest) s f.are header sound f.allowed (omega arith) (omega (arith, long)) is_pad in
    subst (Lists image large at) (is_listed pad false at name kind (length body) files)
    (lists_more image large pad at name kind 24 size files (goes_on image large at name checksum kind a size (body ++ rest) s) item more)

-- a large file and those behind it
lists_large : (image : List ℕ) (pad : Bool) (at : ℕ) (name : List ℕ) (checksum kind a : ℕ) (body rest : List ℕ) (files : List FfsFile)
    → IsSpelled image true true at name checksum kind a body rest → (kind == 240) ≡ pad → Lists image true (aligned (at + (32 + length body))) files
    → Lists image true at (cond pad files (listed_file true at name kind (length body) ∷ files))
lists_large image pad at name checksum kind a body rest files f is_pad more =
    let size = 32 + length body in
    let extended = little_bytes 8 size in
    let s : StandsAt image at name checksum kind a 0 (extended ++ (body ++ rest)) = record { here = f.here; whole = f.whole } in
    let header = large_header image at name checksum kind a size (body ++ rest) s f.are f.fits in
    let bytes : take 32 (drop at image) ≡ name ++ (fields checksum kind a 0 ++ extended) =
    ap (take 32) f.here ∙ take_text 32 16 name (fields checksum kind a 0 ++ (extended ++ (body ++ rest))) (omega (arith, f.whole)) in
    let sound = ap header_sum bytes ∙ sum_read name checksum kind a 0 extended f.whole f.sum_is in
    let long : length image - at ≡ 32 + length body + length rest =
    sym (length-drop at image) ∙ ap length f.here ∙ length-append name _ ∙ omega (arith, f.whole, length-append body rest) in
    let item = item_read image true true pad at name checksum kind a 0 32 size (extended ++ (body ++ rest)) s f.are header sound f.allowed (omega arith) (omega (arith, long)) is_pad in
    subst (Lists image true at) (is_listed pad true at name kind (length body) files)
    (lists_more image true pad at name kind 32 size files (goes_on image true at name checksum kind a 0 (extended ++ (body ++ rest)) s) item more)

-- a file that is spelled out and those behind it; a pad is not listed
pub lists_file : (image : List ℕ) (large wide pad : Bool) (at : ℕ) (name : List ℕ) (checksum kind a : ℕ) (body rest : List ℕ) (files : List FfsFile)
    → IsSpelled image large wide at name checksum kind a body rest → (kind == 240) ≡ pad → Lists image large (aligned (at + (cond wide 32 24 + length body))) files
    → Lists image large at (cond pad files (listed_file wide at name kind (length body) ∷ files))
lists_file image large false pad at name checksum kind a body rest files f is_pad more = lists_small image large pad at name checksum kind a body rest files f is_pad more
lists_file image true true pad at name checksum kind a body rest files f is_pad more = lists_large image pad at name checksum kind a body rest files f is_pad more
lists_file image false true pad at name checksum kind a body rest files f is_pad more = absurd (let no : false ≡ true = f.allowed refl in cc)

-- its Attributes byte
pub stands_attributes : (image : List ℕ) (large wide : Bool) (at : ℕ) (name : List ℕ) (checksum kind a : ℕ) (body rest : List ℕ) → IsSpelled image large wide at name checksum kind a body rest
    → slice_index image (at + 19) ≡ a
stands_attributes image large wide at name checksum kind a body rest f =
    field_at image at name checksum kind a (cond wide 0 (24 + length body)) (cond wide (little_bytes 8 (32 + length body)) [] ++ (body ++ rest)) (record { here = f.here; whole = f.whole }) 19 3 refl
