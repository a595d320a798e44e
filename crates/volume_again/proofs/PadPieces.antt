-- The pieces of a stretch of bytes, and the pads that are as long.
use Rattle.std.proofs.Common.{◌≡◌, ℕ, zero, suc, ◌+◌, ◌-◌, ◌*◌, ◌/◌, ◌%◌, ◌<◌, ◌≤◌, ◌&&◌, Bool, true, false, cond, List, [], ◌∷◌, length, map, take, drop, replicate, refl, sym, ap, ◌∙◌, take-append-drop, length-append, arith, nat_lt, ◌==◌, eqb-true, length-take-le, length-drop}
use Rattle.std.specs.List.{list_all, AllByRecursion}
use Rattle.std.proofs.{lemmas.Bool.and_parts, lemmas.Bool.Decides.nat_tests}
use Rattle.hex.specs.Hex.{IsBytes}
use Rattle.fv_volume.specs.declared.build.file_system.FileSystem.{FileSystem}
use Rattle.fv_volume.specs.declared.build.file_system.FileSystem.TheVariants.{Ffs2, Ffs3}
use Rattle.fv_volume.specs.{declared.build.new_file.NewFile.NewFile, declared.build.new_file.Body.TheVariants.Bytes}
use Rattle.fv_volume.specs.Attributes.{plain_attributes}
use Rattle.fv_volume.specs.Files.{file_size, file_bytes, HasWholeName}
use Rattle.fv_volume.proofs.Sizes.{length-file_with}
use Rattle.volume_text.specs.Open.{pad_file}
use Rattle.volume_print.specs.Places.{between, pad_of, pieces, pads_in}
use Rattle.volume_print.specs.Spelling.{are_erased}
use Rattle.volume_again.proofs.ByteRuns.{taken_bytes, left_bytes}

-- a piece of bytes with room for a file's header, which is no longer than a file of FFS2, and a multiple of 8
pub record IsGoodPiece (piece : List ℕ) : Type 0 where
  pub bytes : IsBytes piece
  pub least : 24 ≤ length piece
  pub most : length piece ≤ 16777214
  pub even : length piece % 8 ≡ 0

-- a pad that is as long as such a piece
abbrev pub IsGoodPad : NewFile → Type 0
IsGoodPad pad = (piece : List ℕ) × (pad ≡ pad_of piece) × IsGoodPiece piece

pieces_good : (more : ℕ) (stretch : List ℕ) → IsBytes stretch → length stretch % 8 ≡ 0 → more * 8388608 + 24 ≤ length stretch → length stretch < more * 8388608 + 8388632
    → AllByRecursion IsGoodPiece (pieces more stretch)
pieces_good zero stretch bytes even least most = (record { bytes = bytes; least = omega (arith, least); most = omega (arith, most); even = even }, tt)
pieces_good (suc more) stretch bytes even least most =
    let long : length (take 8388608 stretch) ≡ 8388608 = length-take-le 8388608 stretch (omega (arith, least)) in
    let rest : length (drop 8388608 stretch) ≡ length stretch - 8388608 = length-drop 8388608 stretch in (
      record { bytes = taken_bytes 8388608 stretch bytes; least = omega (arith, long); most = omega (arith, long); even = omega (arith, long) },
      pieces_good more (drop 8388608 stretch) (left_bytes 8388608 stretch bytes) (omega (arith, rest, even, least)) (omega (arith, rest, least)) (omega (arith, rest, least, most)),
    )

-- the pieces of a stretch that has room for a header
pub cut_good : (stretch : List ℕ) → IsBytes stretch → length stretch % 8 ≡ 0 → nat_lt (length stretch) 24 ≡ false → AllByRecursion IsGoodPiece (pieces ((length stretch - 24) / 8388608) stretch)
cut_good stretch bytes even room =
    let least : 24 ≤ length stretch = grind (arith, nat_tests) in
    pieces_good ((length stretch - 24) / 8388608) stretch bytes even (omega (arith, least)) (omega (arith, least))

made_good : (all : List (List ℕ)) → AllByRecursion IsGoodPiece all → AllByRecursion IsGoodPad (map pad_of all)
made_good [] good = tt
made_good (piece ∷ all) good = ((piece, refl, good.0), made_good all good.1)

good_by : (test : Bool) (stretch : List ℕ) → nat_lt (length stretch) 24 ≡ test → IsBytes stretch → length stretch % 8 ≡ 0
    → AllByRecursion IsGoodPad (cond test [] (map pad_of (pieces ((length stretch - 24) / 8388608) stretch)))
good_by true stretch is bytes even = tt
good_by false stretch is bytes even = made_good (pieces ((length stretch - 24) / 8388608) stretch) (cut_good stretch bytes even is)

pub pads_good : (stretch : List ℕ) → IsBytes stretch → length stretch % 8 ≡ 0 → AllByRecursion IsGoodPad (pads_in stretch)
pads_good stretch bytes even = good_by (nat_lt (length stretch) 24) stretch refl bytes even

-- the bytes of a stretch
pub between_long : (image : List ℕ) (from at : ℕ) → at ≤ length image → length (between image from at) ≡ at - from
between_long image from at inside = length-take-le (at - from) (drop from image) (omega (arith, inside, length-drop from image))

pub between_bytes : (image : List ℕ) (from at : ℕ) → IsBytes image → IsBytes (between image from at)
between_bytes image from at bytes = taken_bytes (at - from) (drop from image) (left_bytes from image bytes)

-- what pieces take, one behind the other
abbrev pub taken : List (List ℕ) → ℕ
taken [] = 0
taken (piece ∷ all) = length piece + taken all

pub taken_all : (more : ℕ) (stretch : List ℕ) → taken (pieces more stretch) ≡ length stretch
taken_all zero stretch = omega arith
taken_all (suc more) stretch =
    let both : length (take 8388608 stretch) + length (drop 8388608 stretch) ≡ length stretch =
    sym (length-append (take 8388608 stretch) (drop 8388608 stretch)) ∙ ap length (take-append-drop 8388608 stretch) in
    omega (arith, both, taken_all more (drop 8388608 stretch))

-- a pad is as long as its piece
file_small : (file_system : FileSystem) (n : ℕ) → n ≤ 16777190 → file_size file_system n ≡ 24 + n
file_small Ffs2 n most = refl
file_small Ffs3 n most = let no : nat_lt 16777214 (24 + n) ≡ false = grind (arith, nat_tests) in ap (λ b. cond b 32 24 + n) no

pub pad_whole : (pad : NewFile) → IsGoodPad pad → HasWholeName pad
pad_whole pad good = ap (λ (f : NewFile). length f.name.0) good.1 ∙ length-take-le 16 good.0 (omega (arith, good.2.least))

pub pad_long : (file_system : FileSystem) (piece : List ℕ) → IsGoodPiece piece → length (file_bytes file_system (pad_of piece)) ≡ length piece
pad_long file_system piece good =
    let body = length-drop 24 piece in
    length-file_with file_system (pad_of piece) (drop 24 piece) (length-take-le 16 piece (omega (arith, good.least)))
    ∙ file_small file_system (length (drop 24 piece)) (omega (arith, body, good.most)) ∙ omega (arith, body, good.least)

-- a pad that looks erased is the one that a length tells
erased_are : (xs : List ℕ) → list_all (λ byte. byte == 255) xs ≡ true → xs ≡ replicate (length xs) 255
erased_are [] is = refl
erased_are (x ∷ xs) is =
    let parts = and_parts (x == 255) (list_all (λ byte. byte == 255) xs) is in
    ap (λ y. y ∷ xs) (eqb-true x 255 parts.0) ∙ ap (λ ys. 255 ∷ ys) (erased_are xs parts.1)

abbrev pad_with : List ℕ → List ℕ → NewFile
pad_with name bytes = record { name = record { 0 = name }; kind = 240; attributes = plain_attributes; body = Bytes bytes }

pub erased_pad : (piece : List ℕ) → IsGoodPiece piece → (are_erased (take 16 piece) && are_erased (drop 24 piece)) ≡ true → pad_file (length (drop 24 piece)) ≡ pad_of piece
erased_pad piece good is =
    let body = drop 24 piece in
    let parts = and_parts (are_erased (take 16 piece)) (are_erased body) is in
    let name : take 16 piece ≡ replicate 16 255 = erased_are (take 16 piece) parts.0 ∙ ap (λ n. replicate n 255) (length-take-le 16 piece (omega (arith, good.least))) in
    ap (λ n. pad_with n (replicate (length body) 255)) (sym name) ∙ ap (λ b. pad_with (take 16 piece) b) (sym (erased_are body parts.1))
