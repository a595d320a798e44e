-- A volume's header that is spelled out is read as itself, and the volume with it. Callers who write volumes cite this.
use Rattle.std.proofs.Common.{◌≡◌, ℕ, ◌+◌, ◌%◌, ◌<◌, ◌≤◌, ◌^◌, Bool, true, false, cond, List, ◌∷◌, ◌++◌, length, take, sum, replicate, None, Result, Ok, Err, refl, sym, ap, ◌∙◌, arith, subst, bit_and, nat_lt, ◌==◌, not}
use Rattle.std.proofs.{lemmas.Bool.Decides.nat_tests, Math.Seq.take-length}
use Rattle.pi_base.specs.Field.{little_number, little_bytes, words_of}
use Rattle.pi_base.proofs.FieldLaws.{little_number-little_bytes}
use Rattle.fv_volume.specs.{declared.file.FfsFile.FfsFile, declared.frame.Frame.Frame, declared.volume_header.VolumeHeader.VolumeHeader}
use Rattle.fv_volume.specs.declared.volume_header.FileSystem.{FileSystem}
use Rattle.fv_volume.specs.declared.volume_header.FileSystem.TheVariants.{Ffs2, Ffs3}
use Rattle.fv_volume.specs.declared.volume_header.TheConstants as constant
use Rattle.fv_volume.specs.{declared.fault.VolFault.VolFault, ExtendedHeader.extended_header, Frame.frame_or_fault, Frame.frame_of}
use Rattle.fv_volume.specs.declared.fault.VolCause.TheVariants.{Short, Length, HeaderLength, HeaderSum}
use Rattle.fv_volume.specs.VolumeHeader.{volume_header, fault_at, header_fault}
use Rattle.fv_volume.specs.{Search.IsListing, Volume.IsVolume}
use Rattle.fv_volume.proofs.Spelled.{ones, Lists}

-- the GUID of a file system, with large files or without
abbrev pub guid_of : Bool → List ℕ
guid_of large = cond large constant.FFS3 constant.FFS2

-- the fields behind FvLength: no extended header, and a block map of one entry
abbrev back_fields : ℕ → ℕ → ℕ → List ℕ
back_fields attributes len checksum =
    little_bytes 4 constant.SIGNATURE ++ (little_bytes 4 attributes ++ (little_bytes 2 72 ++ (little_bytes 2 checksum ++ (little_bytes 2 0
    ++ (0 ∷ (constant.REVISION ∷ (little_bytes 4 1 ++ (little_bytes 4 len ++ replicate 8 0))))))))

-- a header of 72 bytes of a volume that is erased to ones
abbrev pub spelled_header : Bool → ℕ → ℕ → ℕ → List ℕ
spelled_header large attributes len checksum = replicate 16 0 ++ (guid_of large ++ (little_bytes 8 len ++ back_fields attributes len checksum))

abbrev system_of : Bool → FileSystem
system_of large = cond large Ffs3 Ffs2

-- what it says
abbrev said : Bool → ℕ → ℕ → VolumeHeader
said large attributes len = record { file_system = system_of large; len = len; signature = constant.SIGNATURE; attributes = attributes; header_len = 72; ext_header_at = 0; revision = constant.REVISION }

header_read : (large : Bool) (attributes len checksum : ℕ) (rest : List ℕ) → attributes < 2 ^ 32 → len < 2 ^ 64
    → volume_header (spelled_header large attributes len checksum ++ rest) ≡ said large attributes len
header_read large attributes len checksum rest small fits =
    by_system large
    ∙ ap (λ n. said large (little_number 4 (little_bytes 4 attributes ++ behind)) n) (little_number-little_bytes 8 len (back_fields attributes len checksum ++ rest) fits)
    ∙ ap (λ n. said large n len) (little_number-little_bytes 4 attributes behind small)
  where
    behind : List ℕ
    behind = little_bytes 2 72 ++ (little_bytes 2 checksum ++ (little_bytes 2 0 ++ (0 ∷ (constant.REVISION ∷ (little_bytes 4 1 ++ (little_bytes 4 len ++ replicate 8 0)))))) ++ rest

    by_system : (large' : Bool) → volume_header (spelled_header large' attributes len checksum ++ rest)
        ≡ said large' (little_number 4 (little_bytes 4 attributes ++ behind)) (little_number 8 (little_bytes 8 len ++ (back_fields attributes len checksum ++ rest)))
    by_system true = refl
    by_system false = refl

-- and nothing is wrong with it
sound_header : (large : Bool) (attributes len : ℕ) (bytes : List ℕ) → length bytes ≡ len → 72 ≤ len → sum (words_of (take 72 bytes)) % 65536 ≡ 0
    → header_fault bytes (said large attributes len) ≡ None
sound_header large attributes len bytes long least zero_sum = by_system large
  where
    tests : cond (nat_lt (length bytes) len) (fault_at 32 Length) (cond (nat_lt len 72) (fault_at 48 HeaderLength)
        (cond (not (sum (words_of (take 72 bytes)) % 65536 == 0)) (fault_at 50 HeaderSum) None)) ≡ None
    tests =
        let a : nat_lt (length bytes) len ≡ false = grind (arith, nat_tests) in
        let b : nat_lt len 72 ≡ false = grind (arith, nat_tests) in
        ap (λ x. cond x (fault_at 32 Length) (cond (nat_lt len 72) (fault_at 48 HeaderLength) (cond (not (sum (words_of (take 72 bytes)) % 65536 == 0)) (fault_at 50 HeaderSum) None))) a
        ∙ ap (λ x. cond x (fault_at 48 HeaderLength) (cond (not (sum (words_of (take 72 bytes)) % 65536 == 0)) (fault_at 50 HeaderSum) None)) b
        ∙ ap (λ n. cond (not (n == 0)) (fault_at 50 HeaderSum) None) zero_sum

    by_system : (large' : Bool) → header_fault bytes (said large' attributes len) ≡ None
    by_system true = tests
    by_system false = tests

-- the frame
frame_read : (large : Bool) (attributes len checksum : ℕ) (rest bytes : List ℕ) → bytes ≡ spelled_header large attributes len checksum ++ rest → length bytes ≡ len → attributes < 2 ^ 32 → (bit_and attributes 2048 == 0) ≡ false → 72 ≤ len → len < 2 ^ 64
    → sum (words_of (take 72 bytes)) % 65536 ≡ 0 → frame_of bytes ≡ Ok (record { len = len; name = None; start = 72; format = ones large })
frame_read large attributes len checksum rest bytes spelled long small ones_first least fits zero_sum =
    let header : volume_header bytes ≡ said large attributes len = ap volume_header spelled ∙ header_read large attributes len checksum rest small fits in
    let room : nat_lt (length bytes) 64 ≡ false = grind (arith, nat_tests) in
    ap (λ h. cond (nat_lt (length bytes) 64) (Err (record { at = 0; cause = Short })) (frame_or_fault h (header_fault bytes h) (extended_header bytes h))) header
    ∙ ap (λ b. cond b (Err (record { at = 0; cause = Short })) (frame_or_fault (said large attributes len) (header_fault bytes (said large attributes len)) (extended_header bytes (said large attributes len)))) room
    ∙ ap (λ f. frame_or_fault (said large attributes len) f (extended_header bytes (said large attributes len))) (sound_header large attributes len bytes long least zero_sum)
    ∙ by_system large
  where
    by_system : (large' : Bool) → ◌≡◌ {A = Result Frame VolFault} (frame_or_fault (said large' attributes len) None (extended_header bytes (said large' attributes len))) (Ok (record { len = len; name = None; start = 72; format = ones large' }))
    by_system true = ap (λ b. let f : Frame = record { len = len; name = None; start = 72; format = record { large_files = true; erased = cond b 0 0xff } } in Ok f) ones_first
    by_system false = ap (λ b. let f : Frame = record { len = len; name = None; start = 72; format = record { large_files = false; erased = cond b 0 0xff } } in Ok f) ones_first

-- the volume with these files
pub volume_read : (large : Bool) (attributes len checksum : ℕ) (rest bytes : List ℕ) (files : List FfsFile) → bytes ≡ spelled_header large attributes len checksum ++ rest
    → length bytes ≡ len → attributes < 2 ^ 32 → (bit_and attributes 2048 == 0) ≡ false → 72 ≤ len → len < 2 ^ 64 → sum (words_of (take 72 bytes)) % 65536 ≡ 0 → Lists bytes large 72 files → length files ≤ 16384
    → IsVolume bytes (record { len = len; name = None; files = files })
volume_read large attributes len checksum rest bytes files spelled long small ones_first least fits zero_sum lists few =
    let whole : bytes ≡ take len bytes = sym (ap (λ n. take n bytes) (sym long) ∙ take-length bytes) in
    let frame : Frame = record { len = len; name = None; start = 72; format = ones large } in
    let listing : IsListing bytes frame files = (lists.items, lists.to, lists.leads, lists.ends, lists.are, few) in
    (frame, frame_read large attributes len checksum rest bytes spelled long small ones_first least fits zero_sum, refl, refl, subst (λ xs. IsListing xs frame files) whole listing)
