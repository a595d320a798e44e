-- A section whose header and body are spelled out is read as itself. Callers who write sections cite this.
use Rattle.std.proofs.Common.{◌≡◌, ◌≢◌, ℕ, ◌+◌, ◌-◌, ◌<◌, ◌≤◌, ◌^◌, Bool, false, cond, List, [], ◌∷◌, ◌++◌, length, drop, Option, Some, None, Result, Ok, Err, sym, ap, ◌∙◌, arith, get_or-drop, length-drop, length-append, drop-drop, nat_lt, ◌==◌, slice_index}
use Rattle.std.proofs.lemmas.Bool.Decides.{nat_tests}
use Rattle.pi_base.specs.Field.{little_number, little_bytes}
use Rattle.pi_base.proofs.FieldLaws.{little_number-little_bytes}
use Rattle.fv_volume.specs.{declared.sections.section.Section.Section, declared.sections.section_header.SectionHeader.SectionHeader}
use Rattle.fv_volume.specs.declared.sections.fault.SecCause.{SecCause}
use Rattle.fv_volume.specs.declared.sections.fault.SecCause.TheVariants.{Size, Compressed, GuidDefined}
use Rattle.fv_volume.specs.SectionHeader.{extended_header_at, header_at, section_of, section_at}

-- the byte, and the bytes, behind a place where some bytes stand
index_behind : (n at : ℕ) (bytes here : List ℕ) → drop at bytes ≡ here → slice_index bytes (at + n) ≡ slice_index here n
index_behind n at bytes here e = sym (get_or-drop at bytes n 0) ∙ ap (λ xs. slice_index xs n) e

drop_behind : (n at : ℕ) (bytes here : List ℕ) → drop at bytes ≡ here → drop (at + n) bytes ≡ drop n here
drop_behind n at bytes here e = sym (drop-drop n at bytes) ∙ ap (drop n) e

-- the header of a section that is not extended
short_header : (bytes : List ℕ) (at kind size : ℕ) (behind : List ℕ) → drop at bytes ≡ little_bytes 3 size ++ kind ∷ behind → size < 16777215
    → header_at bytes at ≡ Some (record { kind = kind; len = 4; size = size })
short_header bytes at kind size behind here short =
    let F : ℕ → ℕ → Option SectionHeader = λ k n. cond (n == 16777215) (extended_header_at bytes at k) (Some (record { kind = k; len = 4; size = n })) in
    let type : slice_index bytes (at + 3) ≡ kind = index_behind 3 at bytes _ here in
    let number : little_number 3 (drop at bytes) ≡ size = ap (little_number 3) here ∙ little_number-little_bytes 3 size (kind ∷ behind) (omega arith) in
    let other : (size == 16777215) ≡ false = grind (arith, nat_tests) in
    ap (λ k. F k (little_number 3 (drop at bytes))) type ∙ ap (F kind) number
    ∙ ap (λ (b : Bool). cond b (extended_header_at bytes at kind) (Some (record { kind = kind; len = 4; size = size }))) other

-- the header of an extended section
long_header : (bytes : List ℕ) (at kind size : ℕ) (behind : List ℕ) → drop at bytes ≡ little_bytes 3 16777215 ++ kind ∷ (little_bytes 4 size ++ behind) → size < 2 ^ 32
    → header_at bytes at ≡ Some (record { kind = kind; len = 8; size = size })
long_header bytes at kind size behind here fits =
    let F : ℕ → ℕ → Option SectionHeader = λ k n. cond (n == 16777215) (extended_header_at bytes at k) (Some (record { kind = k; len = 4; size = n })) in
    let type : slice_index bytes (at + 3) ≡ kind = index_behind 3 at bytes _ here in
    let number : little_number 3 (drop at bytes) ≡ 16777215 = ap (little_number 3) here in
    let extended : little_number 4 (drop (at + 4) bytes) ≡ size = ap (little_number 4) (drop_behind 4 at bytes _ here) ∙ little_number-little_bytes 4 size behind fits in
    let long : length bytes - at ≡ 8 + length behind = sym (length-drop at bytes) ∙ ap length here ∙ omega arith in
    let room : nat_lt (length bytes) (at + 8) ≡ false = grind (arith, nat_tests) in
    let a : header_at bytes at ≡ extended_header_at bytes at kind = ap (λ k. F k (little_number 3 (drop at bytes))) type ∙ ap (F kind) number in
    let b : extended_header_at bytes at kind ≡ Some (record { kind = kind; len = 8; size = little_number 4 (drop (at + 4) bytes) }) =
    ap (λ (b : Bool). cond b None (Some (record { kind = kind; len = 8; size = little_number 4 (drop (at + 4) bytes) }))) room in
    a ∙ b ∙ ap (λ n. let h : SectionHeader = record { kind = kind; len = 8; size = n } in Some h) extended

-- a section with a header that has room and a type that is not opened
of_header : (bytes : List ℕ) (at kind len body_len : ℕ) → at + (len + body_len) ≤ length bytes → kind ≢ 1 → kind ≢ 2
    → section_of bytes at (Some (record { kind = kind; len = len; size = len + body_len })) ≡ Ok (record { kind = kind; body_at = at + len; body_len = body_len })
of_header bytes at kind len body_len room one two =
    let a : nat_lt (len + body_len) len ≡ false = grind (arith, nat_tests) in
    let b : nat_lt (length bytes) (at + (len + body_len)) ≡ false = grind (arith, nat_tests) in
    let c : (kind == 1) ≡ false = grind (arith, nat_tests) in
    let d : (kind == 2) ≡ false = grind (arith, nat_tests) in
    let left : len + body_len - len ≡ body_len = omega arith in
    let S : Bool → Bool → Bool → Bool → Result Section SecCause = λ p q r s.
    cond p (Err Size) (cond q (Err Size) (cond r (Err Compressed) (cond s (Err GuidDefined) (Ok (record { kind = kind; body_at = at + len; body_len = len + body_len - len }))))) in
    ap (λ p. S p (nat_lt (length bytes) (at + (len + body_len))) (kind == 1) (kind == 2)) a
    ∙ ap (λ q. S false q (kind == 1) (kind == 2)) b ∙ ap (λ r. S false false r (kind == 2)) c ∙ ap (S false false false) d
    ∙ ap (λ n. let s : Section = record { kind = kind; body_at = at + len; body_len = n } in Ok s) left

-- a section with Size and Type
pub short_section : (bytes : List ℕ) (at kind : ℕ) (body rest : List ℕ) → drop at bytes ≡ (little_bytes 3 (4 + length body) ++ kind ∷ []) ++ (body ++ rest)
    → 4 + length body < 16777215 → kind ≢ 1 → kind ≢ 2
    → section_at bytes at ≡ Ok (record { kind = kind; body_at = at + 4; body_len = length body })
short_section bytes at kind body rest here short one two =
    let long : length bytes - at ≡ 4 + length body + length rest = sym (length-drop at bytes) ∙ ap length here ∙ omega (arith, length-append body rest) in
    ap (section_of bytes at) (short_header bytes at kind (4 + length body) (body ++ rest) here short)
    ∙ of_header bytes at kind 4 (length body) (omega arith) one two

-- a section with 0xFFFFFF, Type and ExtendedSize
pub long_section : (bytes : List ℕ) (at kind : ℕ) (body rest : List ℕ)
    → drop at bytes ≡ (little_bytes 3 16777215 ++ kind ∷ little_bytes 4 (8 + length body)) ++ (body ++ rest) → 8 + length body < 2 ^ 32 → kind ≢ 1 → kind ≢ 2
    → section_at bytes at ≡ Ok (record { kind = kind; body_at = at + 8; body_len = length body })
long_section bytes at kind body rest here fits one two =
    let long : length bytes - at ≡ 8 + length body + length rest = sym (length-drop at bytes) ∙ ap length here ∙ omega (arith, length-append body rest) in
    ap (section_of bytes at) (long_header bytes at kind (8 + length body) (body ++ rest) here fits)
    ∙ of_header bytes at kind 8 (length body) (omega arith) one two
