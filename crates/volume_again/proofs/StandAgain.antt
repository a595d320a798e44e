-- Behind their pads files stand where they stood.
use Rattle.std.proofs.Common.{◌≡◌, inl, inr, ℕ, ◌+◌, ◌-◌, ◌/◌, ◌%◌, ◌≤◌, ◌<◌, Bool, true, false, cond, List, [], ◌∷◌, ◌++◌, length, map, refl, sym, ap, ◌∙◌, arith, nat_lt, not, ◌==◌, ◌⊎◌}
use Rattle.std.specs.List.{AllByRecursion}
use Rattle.std.proofs.{lemmas.Bool.Decides.nat_tests, lemmas.List.Elements.All-head, lemmas.List.Elements.All-tail}
use Rattle.hex.specs.Hex.{IsBytes}
use Rattle.pi_base.specs.declared.guid.Guid.{Guid}
use Rattle.line_words.specs.PrintedWords.{IsGuid}
use Rattle.fv_volume.specs.{declared.file.FfsFile.FfsFile, Frame.aligned, Places.AreInside}
use Rattle.fv_volume.specs.{declared.build.file_system.FileSystem.FileSystem, declared.build.new_file.NewFile.NewFile, Placing.gap}
use Rattle.fv_volume.specs.Files.{bytes_in, file_size, file_bytes, HasWholeName}
use Rattle.fv_volume.specs.Reading.{AreEach, listed, listed_at}
use Rattle.fv_volume.proofs.Sizes.{length-file_with}
use Rattle.volume_print.specs.Description.{IsFileIn}
use Rattle.volume_print.specs.Places.{Room, room_of, rooms, between, pad_of, pieces, pads_in, stands, behind, pads_before, places, LeaveRoom}
use Rattle.volume_again.specs.Again.{IsFileAgain, among}
use Rattle.volume_again.proofs.FileLengths.{body_long}
use Rattle.volume_again.proofs.PadPieces.{IsGoodPiece, IsGoodPad, cut_good, pads_good, between_long, between_bytes, taken, taken_all, pad_long}

-- files are listed behind pads
pads_pass : (file_system : FileSystem) (from : ℕ) (all : List (List ℕ)) (files : List NewFile) → from % 8 ≡ 0 → AllByRecursion IsGoodPiece all
    → listed_at file_system from (map pad_of all ++ files) ≡ listed_at file_system (from + taken all) files
pads_pass file_system from [] files even good = ap (λ n. listed_at file_system n files) (omega arith)
pads_pass file_system from (piece ∷ all) files even good =
    let rest = map pad_of all ++ files in
    let size = pad_long file_system piece good.0 in
    let next : from + gap 8 from + length (file_bytes file_system (pad_of piece)) ≡ from + length piece = omega (arith, size, even) in
    let even_next : (from + length piece) % 8 ≡ 0 = omega (arith, even, good.0.even) in
    ap (λ m. listed_at file_system m rest) next ∙ pads_pass file_system (from + length piece) all files even_next good.1
    ∙ ap (λ m. listed_at file_system m files) (omega arith)

-- pads fill their stretch
fill_by : (test : Bool) (file_system : FileSystem) (stretch : List ℕ) (from at : ℕ) (files : List NewFile) → nat_lt (length stretch) 24 ≡ test → length stretch ≡ at - from → IsBytes stretch
    → from % 8 ≡ 0 → (at - from) % 8 ≡ 0
    → listed_at file_system from (cond test [] (map pad_of (pieces ((length stretch - 24) / 8388608) stretch)) ++ files) ≡ listed_at file_system (cond test from at) files
fill_by true file_system stretch from at files is long bytes even apart = refl
fill_by false file_system stretch from at files is long bytes even apart =
    let all = pieces ((length stretch - 24) / 8388608) stretch in
    let even_stretch : length stretch % 8 ≡ 0 = omega (arith, long, apart) in
    let room : 24 ≤ length stretch = grind (arith, nat_tests) in
    pads_pass file_system from all files even (cut_good stretch bytes even_stretch is)
    ∙ ap (λ n. listed_at file_system n files) (omega (arith, taken_all ((length stretch - 24) / 8388608) stretch, long, room))

pads_fill : (file_system : FileSystem) (image : List ℕ) (from at : ℕ) (files : List NewFile) → IsBytes image → at ≤ length image → from % 8 ≡ 0 → (at - from) % 8 ≡ 0
    → listed_at file_system from (pads_in (between image from at) ++ files) ≡ listed_at file_system (stands from at) files
pads_fill file_system image from at files bytes inside even apart =
    let stretch = between image from at in
    let long = between_long image from at inside in
    fill_by (nat_lt (length stretch) 24) file_system stretch from at files refl long (between_bytes image from at bytes) even apart
    ∙ ap (λ n. listed_at file_system (cond (nat_lt n 24) from at) files) long

stands_by : (test : Bool) (from at : ℕ) → from % 8 ≡ 0 → at % 8 ≡ 0 → cond test from at % 8 ≡ 0
stands_by true from at p q = p
stands_by false from at p q = q

pub stands_even : (from at : ℕ) → from % 8 ≡ 0 → at % 8 ≡ 0 → stands from at % 8 ≡ 0
stands_even from at p q = stands_by (nat_lt (at - from) 24) from at p q

pub behind_even : (from : ℕ) (room : Room) → behind from room % 8 ≡ 0
behind_even from room = omega arith

-- the first place is rounded up
listed_up : (file_system : FileSystem) (n : ℕ) (files : List NewFile) → listed_at file_system n files ≡ listed_at file_system (aligned n) files
listed_up file_system n [] = refl
listed_up file_system n (file ∷ files) =
    let same : n + gap 8 n ≡ aligned n + gap 8 (aligned n) = omega arith in
    ap (λ at. let more = listed_at file_system (at + length (file_bytes file_system file)) files in cond (file.kind == 240) more (at ∷ more)) same

-- files of these kinds are listed
pub record IsListedFile (found : FfsFile) : Type 0 where
  pub even : found.at % 8 ≡ 0
  pub no_pad : (found.kind == 240) ≡ false
  pub kind : found.kind < 256
  pub name : IsGuid found.name

listed_first : (file_system : FileSystem) (place : ℕ) (file : NewFile) (files : List NewFile) → place % 8 ≡ 0 → (file.kind == 240) ≡ false
    → listed_at file_system place (file ∷ files) ≡ place ∷ listed_at file_system (place + length (file_bytes file_system file)) files
listed_first file_system place file files even other =
    let here : place + gap 8 place ≡ place = omega (arith, even) in
    ap (λ at. let more = listed_at file_system (at + length (file_bytes file_system file)) files in cond (file.kind == 240) more (at ∷ more)) here
    ∙ ap (λ b. let more = listed_at file_system (place + length (file_bytes file_system file)) files in cond b more (place ∷ more)) other

pub again_long : (Inner : List ℕ → List ℕ → Type 0) (file_system : FileSystem) (file again : NewFile) → IsFileAgain Inner file again → HasWholeName again
    → length (file_bytes file_system again) ≡ file_size file_system (length (bytes_in file_system file.body))
again_long Inner file_system file again is whole =
    length-file_with file_system again (bytes_in file_system again.body) whole ∙ ap (file_size file_system) (body_long Inner file file_system file.body again.body is.body)

pub again_listed : (Inner : List ℕ → List ℕ → Type 0) (file_system : FileSystem) (image : List ℕ) (found : FfsFile) (file again : NewFile) → IsListedFile found → IsFileIn file_system image found file → IsFileAgain Inner file again
    → ((again.kind == 240) ≡ false) × HasWholeName again
again_listed Inner file_system image found file again good in_image is =
    (ap (λ k. k == 240) (is.kind ∙ in_image.kind) ∙ good.no_pad, ap (λ (g : Guid). length g.0) (is.name ∙ in_image.name) ∙ good.name.0)

-- each file stands at a place of the bytes
pub stands_inside : (image : List ℕ) (found : FfsFile) (others : List FfsFile) → AreInside image (found ∷ others) → found.at ≤ length image
stands_inside image found others inside = let here = All-head (λ (f : FfsFile). (f.at < f.body_at) × (f.body_at + f.body_len ≤ length image)) found others inside in omega (arith, here.0, here.1)

pub rest_inside : (image : List ℕ) (found : FfsFile) (others : List FfsFile) → AreInside image (found ∷ others) → AreInside image others
rest_inside image found others inside = All-tail (λ (f : FfsFile). (f.at < f.body_at) × (f.body_at + f.body_len ≤ length image)) found others inside

-- files behind their pads
pub stand_again : (Inner : List ℕ → List ℕ → Type 0) (image : List ℕ) (file_system : FileSystem) (from : ℕ) (found : List FfsFile) (files others : List NewFile) → IsBytes image → from % 8 ≡ 0
    → AllByRecursion IsListedFile found → AreInside image found → AreEach (IsFileIn file_system image) found files → AreEach (IsFileAgain Inner) files others
    → listed_at file_system from (among (pads_before image from (rooms file_system found files)) others) ≡ places from (rooms file_system found files)
stand_again Inner image file_system from [] [] others bytes even good inside are again = refl
stand_again Inner image file_system from [] (file ∷ files) others bytes even good inside are again = absurd are
stand_again Inner image file_system from (one ∷ found) [] others bytes even good inside are again = absurd are
stand_again Inner image file_system from (one ∷ found) (file ∷ files) [] bytes even good inside are again = absurd again
stand_again Inner image file_system from (one ∷ found) (file ∷ files) (other ∷ others) bytes even good inside are again =
    let room = room_of file_system one file in
    let place = stands from one.at in
    let next = behind from room in
    let rest = among (pads_before image next (rooms file_system found files)) others in
    let facts = again_listed Inner file_system image one file other good.0 are.0 again.0 in
    let apart : (one.at - from) % 8 ≡ 0 = omega (arith, good.0.even, even) in
    pads_fill file_system image from one.at (other ∷ rest) bytes (stands_inside image one found inside) even apart
    ∙ listed_first file_system place other rest (stands_even from one.at even good.0.even) facts.0
    ∙ ap (λ n. place ∷ listed_at file_system (place + n) rest) (again_long Inner file_system file other again.0 facts.1)
    ∙ ap (λ ns. place ∷ ns) (listed_up file_system (place + room.len) rest
    ∙ stand_again Inner image file_system next found files others bytes (behind_even from room) good.1 (rest_inside image one found inside) are.1 again.1)

-- pads are not listed
pads_skip : (pads files : List NewFile) → AllByRecursion IsGoodPad pads → listed (pads ++ files) ≡ listed files
pads_skip [] files good = refl
pads_skip (pad ∷ pads) files good =
    let rest = listed (pads ++ files) in
    ap (λ (f : NewFile). cond (not (f.kind == 240)) (pad ∷ rest) rest) good.0.1 ∙ pads_skip pads files good.1

-- all of the files are
pub none_left_out : (Inner : List ℕ → List ℕ → Type 0) (file_system : FileSystem) (image : List ℕ) (pads : List (List NewFile)) (found : List FfsFile) (files others : List NewFile) → length pads ≡ length files
    → AllByRecursion (AllByRecursion IsGoodPad) pads → AllByRecursion IsListedFile found → AreEach (IsFileIn file_system image) found files → AreEach (IsFileAgain Inner) files others
    → listed (among pads others) ≡ others
none_left_out Inner file_system image [] [] [] [] long fits good are again = refl
none_left_out Inner file_system image [] [] [] (other ∷ others) long fits good are again = absurd again
none_left_out Inner file_system image [] found (file ∷ files) others long fits good are again = absurd (omega (arith, long))
none_left_out Inner file_system image [] (one ∷ found) [] others long fits good are again = absurd are
none_left_out Inner file_system image (p ∷ pads) found [] others long fits good are again = absurd (omega (arith, long))
none_left_out Inner file_system image (p ∷ pads) [] (file ∷ files) others long fits good are again = absurd are
none_left_out Inner file_system image (p ∷ pads) (one ∷ found) (file ∷ files) [] long fits good are again = absurd again
none_left_out Inner file_system image (p ∷ pads) (one ∷ found) (file ∷ files) (other ∷ others) long fits good are again =
    let facts = again_listed Inner file_system image one file other good.0 are.0 again.0 in
    let rest = among pads others in
    pads_skip p (other ∷ rest) fits.0
    ∙ ap (λ b. cond (not b) (other ∷ listed rest) (listed rest)) facts.0
    ∙ ap (λ (fs : List NewFile). other ∷ fs) (none_left_out Inner file_system image pads found files others (omega (arith, long)) fits.1 good.1 are.1 again.1)

-- files that leave room stand where they stood
keep_by : (test : Bool) (from at : ℕ) → nat_lt (at - from) 24 ≡ test → (at ≡ from) ⊎ (from + 24 ≤ at) → cond test from at ≡ at
keep_by true from at is (inl here) = sym here
keep_by true from at is (inr apart) = absurd (let less : at - from < 24 = grind (arith, nat_tests) in omega (arith, less, apart))
keep_by false from at is room = refl

pub kept : (from : ℕ) (all : List Room) → LeaveRoom from all → places from all ≡ map (λ room. room.at) all
kept from [] leave = refl
kept from (room ∷ all) leave =
    let here : stands from room.at ≡ room.at = keep_by (nat_lt (room.at - from) 24) from room.at refl leave.0 in
    ap (λ n. n ∷ places (behind from room) all) here ∙ ap (λ n. room.at ∷ places (aligned (n + room.len)) all) here
    ∙ ap (λ ns. room.at ∷ ns) (kept (aligned (room.at + room.len)) all leave.1)

pub rooms_at : (Is : FfsFile → NewFile → Type 0) (file_system : FileSystem) (found : List FfsFile) (files : List NewFile) → AreEach Is found files
    → map (λ room. room.at) (rooms file_system found files) ≡ map (λ f. f.at) found
rooms_at Is file_system [] [] all = refl
rooms_at Is file_system [] (file ∷ files) all = absurd all
rooms_at Is file_system (one ∷ found) [] all = absurd all
rooms_at Is file_system (one ∷ found) (file ∷ files) all = ap (λ ns. one.at ∷ ns) (rooms_at Is file_system found files all.1)

pub length-rooms : (Is : FfsFile → NewFile → Type 0) (file_system : FileSystem) (found : List FfsFile) (files : List NewFile) → AreEach Is found files → length (rooms file_system found files) ≡ length files
length-rooms Is file_system [] [] all = refl
length-rooms Is file_system [] (file ∷ files) all = absurd all
length-rooms Is file_system (one ∷ found) [] all = absurd all
length-rooms Is file_system (one ∷ found) (file ∷ files) all = omega (arith, length-rooms Is file_system found files all.1)

length-pads : (image : List ℕ) (from : ℕ) (all : List Room) → length (pads_before image from all) ≡ length all
length-pads image from [] = refl
length-pads image from (room ∷ all) = omega (arith, length-pads image (behind from room) all)

pub length-all : (Is : FfsFile → NewFile → Type 0) (file_system : FileSystem) (image : List ℕ) (from : ℕ) (found : List FfsFile) (files : List NewFile) → AreEach Is found files
    → length (pads_before image from (rooms file_system found files)) ≡ length files
length-all Is file_system image from found files all = length-pads image from (rooms file_system found files) ∙ length-rooms Is file_system found files all

-- each of the pads can be told
pub pads_fit : (image : List ℕ) (file_system : FileSystem) (from : ℕ) (found : List FfsFile) (files : List NewFile) → IsBytes image → from % 8 ≡ 0 → AllByRecursion IsListedFile found
    → AreInside image found → AreEach (IsFileIn file_system image) found files → AllByRecursion (AllByRecursion IsGoodPad) (pads_before image from (rooms file_system found files))
pads_fit image file_system from [] [] bytes even good inside are = tt
pads_fit image file_system from [] (file ∷ files) bytes even good inside are = absurd are
pads_fit image file_system from (one ∷ found) [] bytes even good inside are = absurd are
pads_fit image file_system from (one ∷ found) (file ∷ files) bytes even good inside are =
    let long = between_long image from one.at (stands_inside image one found inside) in
    let stretch : length (between image from one.at) % 8 ≡ 0 = omega (arith, good.0.even, even, long) in
    let room = room_of file_system one file in (
      pads_good (between image from one.at) (between_bytes image from one.at bytes) stretch,
      pads_fit image file_system (behind from room) found files bytes (behind_even from room) good.1 (rest_inside image one found inside) are.1,
    )
