-- The pads of a volume that is made of a text stand where the bytes stood of which they are made.
use Rattle.std.proofs.Common.{◌≡◌, ℕ, ◌+◌, ◌-◌, ◌/◌, ◌%◌, ◌≤◌, Bool, true, false, cond, List, [], ◌∷◌, ◌++◌, length, map, take, drop, replicate, sym, ap, ◌∙◌, subst, refl, append_assoc, length-append, arith, nat_lt}
use Rattle.std.proofs.{Math.Seq.take-append_seam, Math.Seq.drop-append_seam, lemmas.Bool.Decides.nat_tests, lemmas.List.length-replicate}
use Rattle.std.specs.List.{AllByRecursion}
use Rattle.hex.specs.Hex.{IsBytes}
use Rattle.fv_volume.specs.{declared.file.FfsFile.FfsFile, Frame.aligned, Places.AreInside}
use Rattle.fv_volume.specs.{declared.build.file_system.FileSystem.FileSystem, declared.build.new_file.NewFile.NewFile}
use Rattle.fv_volume.specs.{Placing.gap, Placing.laid, Files.file_bytes, Reading.AreEach}
use Rattle.volume_print.specs.Description.{IsFileIn}
use Rattle.volume_print.specs.Places.{room_of, rooms, between, pad_of, pieces, pads_in, stands, behind, pads_before}
use Rattle.volume_again.specs.{Again.IsFileAgain, Again.among, Made.StandIn, Made.PadsStand}
use Rattle.volume_again.proofs.PadPieces.{IsGoodPiece, cut_good, between_long, between_bytes, taken, taken_all, pad_long}
use Rattle.volume_again.proofs.StandAgain.{IsListedFile, stands_even, behind_even, again_listed, again_long, stands_inside, rest_inside}

-- the first place is rounded up
pub stand_up : (file_system : FileSystem) (bytes : List ℕ) (n : ℕ) (files : List NewFile) → StandIn file_system bytes n files → StandIn file_system bytes (aligned n) files
stand_up file_system bytes n [] stand = tt
stand_up file_system bytes n (file ∷ files) stand =
    let own = file_bytes file_system file in
    let same : aligned n ≡ aligned (aligned n) = omega arith in
    subst (λ (at : ℕ). (take (length own) (drop at bytes) ≡ own) × StandIn file_system bytes (at + length own) files) same stand

-- files that are laid in bytes stand there
pub laid_stand : (file_system : FileSystem) (from : ℕ) (files : List NewFile) (front rest bytes : List ℕ) → length front ≡ from
    → bytes ≡ front ++ (laid 8 255 from (map (file_bytes file_system) files) ++ rest) → StandIn file_system bytes from files
laid_stand file_system from [] front rest bytes long is = tt
laid_stand file_system from (file ∷ files) front rest bytes long is =
    let own = file_bytes file_system file in
    let texts = map (file_bytes file_system) files in
    let skip : List ℕ = replicate (gap 8 from) 255 in
    let before : List ℕ = front ++ skip in
    let place : from + gap 8 from + length own ≡ aligned from + length own = omega arith in
    let more = laid 8 255 (aligned from + length own) texts in
    let same : laid 8 255 (from + gap 8 from + length own) texts ≡ more = ap (λ n. laid 8 255 n texts) place in
    let parts : bytes ≡ before ++ (own ++ (more ++ rest)) =
    is ∙ ap (λ m. front ++ ((skip ++ (own ++ m)) ++ rest)) same
    ∙ ap (λ x. front ++ x) (append_assoc skip (own ++ more) rest ∙ ap (λ x. skip ++ x) (append_assoc own more rest)) ∙ sym (append_assoc front skip (own ++ (more ++ rest))) in
    let reach : length before ≡ aligned from = length-append front skip ∙ omega (arith, long, length-replicate {A = ℕ} (gap 8 from) 255) in
    let there : drop (aligned from) bytes ≡ own ++ (more ++ rest) =
    ap (λ n. drop n bytes) (sym reach) ∙ ap (drop (length before)) parts ∙ drop-append_seam before (own ++ (more ++ rest)) in
    let reach_more : length (before ++ own) ≡ aligned from + length own = length-append before own ∙ ap (λ n. n + length own) reach in (
      ap (take (length own)) there ∙ take-append_seam own (more ++ rest),
      laid_stand file_system (aligned from + length own) files (before ++ own) rest bytes reach_more (parts ∙ sym (append_assoc before own (more ++ rest))),
    )

-- pads stand, and so do files behind them
pieces_stand : (file_system : FileSystem) (bytes : List ℕ) (from : ℕ) (all : List (List ℕ)) (files : List NewFile) → from % 8 ≡ 0 → AllByRecursion IsGoodPiece all
    → StandIn file_system bytes from (map pad_of all ++ files) → StandIn file_system bytes from (map pad_of all) × StandIn file_system bytes (from + taken all) files
pieces_stand file_system bytes from [] files even good stand = let same : from ≡ from + 0 = omega arith in (tt, subst (λ n. StandIn file_system bytes n files) same stand)
pieces_stand file_system bytes from (piece ∷ all) files even good stand =
    let size = pad_long file_system piece good.0 in
    let next : aligned from + length (file_bytes file_system (pad_of piece)) ≡ from + length piece = omega (arith, size, even) in
    let even_next : (from + length piece) % 8 ≡ 0 = omega (arith, even, good.0.even) in
    let more = pieces_stand file_system bytes (from + length piece) all files even_next good.1 (subst (λ n. StandIn file_system bytes n (map pad_of all ++ files)) next stand.1) in
    let place : from + length piece + taken all ≡ from + (length piece + taken all) = omega arith in
    ((stand.0, subst (λ n. StandIn file_system bytes n (map pad_of all)) (sym next) more.0), subst (λ n. StandIn file_system bytes n files) place more.1)

pads_by : (test : Bool) (file_system : FileSystem) (bytes stretch : List ℕ) (from at : ℕ) (files : List NewFile) → nat_lt (length stretch) 24 ≡ test → length stretch ≡ at - from → IsBytes stretch
    → from % 8 ≡ 0 → (at - from) % 8 ≡ 0
    → StandIn file_system bytes from (cond test [] (map pad_of (pieces ((length stretch - 24) / 8388608) stretch)) ++ files)
    → StandIn file_system bytes from (cond test [] (map pad_of (pieces ((length stretch - 24) / 8388608) stretch))) × StandIn file_system bytes (cond test from at) files
pads_by true file_system bytes stretch from at files is long fit even apart stand = (tt, stand)
pads_by false file_system bytes stretch from at files is long fit even apart stand =
    let all = pieces ((length stretch - 24) / 8388608) stretch in
    let even_stretch : length stretch % 8 ≡ 0 = omega (arith, long, apart) in
    let room : 24 ≤ length stretch = grind (arith, nat_tests) in
    let both = pieces_stand file_system bytes from all files even (cut_good stretch fit even_stretch is) stand in
    let place : from + taken all ≡ at = omega (arith, taken_all ((length stretch - 24) / 8388608) stretch, long, room) in
    (both.0, subst (λ n. StandIn file_system bytes n files) place both.1)

pads_then : (file_system : FileSystem) (image bytes : List ℕ) (from at : ℕ) (files : List NewFile) → IsBytes image → at ≤ length image → from % 8 ≡ 0 → (at - from) % 8 ≡ 0
    → StandIn file_system bytes from (pads_in (between image from at) ++ files)
    → StandIn file_system bytes from (pads_in (between image from at)) × StandIn file_system bytes (stands from at) files
pads_then file_system image bytes from at files fit inside even apart stand =
    let stretch = between image from at in
    let long = between_long image from at inside in
    let both = pads_by (nat_lt (length stretch) 24) file_system bytes stretch from at files refl long (between_bytes image from at fit) even apart stand in
    (both.0, subst (λ n. StandIn file_system bytes (cond (nat_lt n 24) from at) files) long both.1)

-- the pads in front of each file
pub pads_stand : (Inner : List ℕ → List ℕ → Type 0) (image bytes : List ℕ) (file_system : FileSystem) (from : ℕ) (found : List FfsFile) (files others : List NewFile) → IsBytes image → from % 8 ≡ 0
    → AllByRecursion IsListedFile found → AreInside image found → AreEach (IsFileIn file_system image) found files → AreEach (IsFileAgain Inner) files others
    → StandIn file_system bytes from (among (pads_before image from (rooms file_system found files)) others) → PadsStand file_system image bytes from (rooms file_system found files)
pads_stand Inner image bytes file_system from [] [] others fit even good inside are again stand = tt
pads_stand Inner image bytes file_system from [] (file ∷ files) others fit even good inside are again stand = absurd are
pads_stand Inner image bytes file_system from (one ∷ found) [] others fit even good inside are again stand = absurd are
pads_stand Inner image bytes file_system from (one ∷ found) (file ∷ files) [] fit even good inside are again stand = absurd again
pads_stand Inner image bytes file_system from (one ∷ found) (file ∷ files) (other ∷ others) fit even good inside are again stand =
    let room = room_of file_system one file in
    let place = stands from one.at in
    let next = behind from room in
    let rest = among (pads_before image next (rooms file_system found files)) others in
    let facts = again_listed Inner file_system image one file other good.0 are.0 again.0 in
    let apart : (one.at - from) % 8 ≡ 0 = omega (arith, good.0.even, even) in
    let both = pads_then file_system image bytes from one.at (other ∷ rest) fit (stands_inside image one found inside) even apart stand in
    let even_place = stands_even from one.at even good.0.even in
    let end : aligned place + length (file_bytes file_system other) ≡ place + room.len = omega (arith, even_place, again_long Inner file_system file other again.0 facts.1) in
    let behind_it = stand_up file_system bytes (place + room.len) rest (subst (λ n. StandIn file_system bytes n rest) end both.1.1) in
    (both.0, pads_stand Inner image bytes file_system next found files others fit (behind_even from room) good.1 (rest_inside image one found inside) are.1 again.1 behind_it)
