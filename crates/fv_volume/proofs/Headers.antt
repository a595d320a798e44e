-- The bytes of a volume's header.
use Rattle.std.proofs.Common.{◌≡◌, ℕ, zero, suc, ◌+◌, ◌-◌, ◌*◌, ◌%◌, ◌<◌, List, [], ◌∷◌, ◌++◌, length, take, drop, replicate, sum, refl, sym, ap, ◌∙◌, arith, append_assoc}
use Rattle.std.proofs.{lemmas.List.Sums.sum_by-append, Math.ListN.set}
use borrow.Rule.Slice.PartMut.{put_mid}
use Rattle.pi_base.specs.Field.{little_bytes, words_of}
use Rattle.fv_volume.specs.FileSystems.{FileSystem, Ffs2, Ffs3, file_system_guid}
use Rattle.fv_volume.specs.{Checksum.checksum16, declared.build.volume_header.VolumeHead.VolumeHead}
use Rattle.fv_volume.specs.Header.{attributes_of, header_front, header_with}

-- bytes with a text written over a part
abbrev pub written : ℕ → List ℕ → List ℕ → List ℕ
written at text old = take at old ++ text ++ drop (at + length text) old

-- the fields that the code writes are the header's
pub header_written : (head : VolumeHead) (checksum : ℕ)
    → written 60 (little_bytes 4 head.len) (written 56 (little_bytes 4 1) (set (written 52 (little_bytes 2 head.ext_header_at) (written 50 (little_bytes 2 checksum) (written 48 (little_bytes 2 head.form.header_len)
    (written 44 (little_bytes 4 (attributes_of head.form)) (written 40 (little_bytes 4 0x4856465f) (written 32 (little_bytes 8 head.len)
    (put_mid 16 16 (replicate 64 0) (file_system_guid head.form.file_system)))))))) 55 2))
    ≡ header_front head checksum
header_written head checksum = by_system head.form.file_system
  where
    by_system : (file_system : FileSystem)
        → written 60 (little_bytes 4 head.len) (written 56 (little_bytes 4 1) (set (written 52 (little_bytes 2 head.ext_header_at) (written 50 (little_bytes 2 checksum) (written 48 (little_bytes 2 head.form.header_len)
        (written 44 (little_bytes 4 (attributes_of head.form)) (written 40 (little_bytes 4 0x4856465f) (written 32 (little_bytes 8 head.len)
        (put_mid 16 16 (replicate 64 0) (file_system_guid file_system)))))))) 55 2))
        ≡ header_front (let h : VolumeHead = record { form = record { file_system = file_system; attributes = head.form.attributes; header_len = head.form.header_len }; ext_header_at = head.ext_header_at; len = head.len } in h) checksum
    by_system Ffs2 = refl
    by_system Ffs3 = refl

-- the words of an even number of bytes, and of those behind them
pub words_append : (n : ℕ) (front behind : List ℕ) → length front ≡ 2 * n → words_of (front ++ behind) ≡ words_of front ++ words_of behind
words_append n [] behind even = refl
words_append n (low ∷ []) behind even = absurd (omega arith)
words_append zero (low ∷ (high ∷ rest)) behind even = absurd (omega arith)
words_append (suc n) (low ∷ (high ∷ rest)) behind even = ap (λ ws. (low + 256 * high) ∷ ws) (words_append n rest behind (omega arith))

-- zeros add nothing
zeros_sum : (n : ℕ) → sum (words_of (replicate n 0)) ≡ 0
zeros_sum zero = refl
zeros_sum (suc zero) = refl
zeros_sum (suc (suc n)) = zeros_sum n

front_sum : (front : List ℕ) (n : ℕ) → length front ≡ 64 → sum (words_of (front ++ replicate n 0)) ≡ sum (words_of front)
front_sum front n long =
    let zeros = replicate n 0 in
    let none = zeros_sum n in
    ap sum (words_append 32 front zeros (omega (arith, long))) ∙ sum_by-append (λ x. x) (words_of front) (words_of zeros) ∙ omega (arith, none)

front_len : (head : VolumeHead) (checksum : ℕ) → length (header_front head checksum) ≡ 64
front_len head checksum = by_system head.form.file_system
  where
    by_system : (file_system : FileSystem)
        → length (header_front (let h : VolumeHead = record { form = record { file_system = file_system; attributes = head.form.attributes; header_len = head.form.header_len }; ext_header_at = head.ext_header_at; len = head.len } in h) checksum) ≡ 64
    by_system Ffs2 = refl
    by_system Ffs3 = refl

-- what makes a sum of words 0
is_checksum16 : (bytes : List ℕ) (sum16 : ℕ) → sum16 < 65536 → (sum (words_of bytes) + sum16) % 65536 ≡ 0 → sum16 ≡ checksum16 bytes
is_checksum16 bytes sum16 fits zero_sum = omega arith

-- a header with the checksum that was found, and the zeros behind it
pub sealed : (head : VolumeHead) (checksum : ℕ) (plain front out grown new : List ℕ) (header_len : ℕ) → checksum < 65536 → (sum (words_of plain) + checksum) % 65536 ≡ 0
    → plain ≡ header_front head 0 → front ≡ header_front head checksum → grown ≡ out ++ front → header_len ≡ head.form.header_len → new ≡ grown ++ replicate (header_len - 64) 0
    → new ≡ out ++ header_with head (checksum16 (header_with head 0))
sealed head checksum plain front out grown new header_len fits zero_sum first second add length_is fill =
    let zeros = replicate (head.form.header_len - 64) 0 in
    let same : sum (words_of (header_with head 0)) ≡ sum (words_of plain) =
    front_sum (header_front head 0) (head.form.header_len - 64) (front_len head 0) ∙ ap (λ xs. sum (words_of xs)) (sym first) in
    let found : checksum ≡ checksum16 (header_with head 0) = is_checksum16 (header_with head 0) checksum fits (ap (λ n. (n + checksum) % 65536) same ∙ zero_sum) in
    fill ∙ ap (λ n. grown ++ replicate (n - 64) 0) length_is ∙ ap (λ xs. xs ++ zeros) (add ∙ ap (λ xs. out ++ xs) second) ∙ append_assoc out (header_front head checksum) zeros
    ∙ ap (λ c. out ++ header_with head c) found
