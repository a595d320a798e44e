-- The words for types are read as them.
use Rattle.std.proofs.Common.{◌≡◌, ℕ, zero, suc, ◌+◌, ◌*◌, ◌^◌, ◌<◌, ◌/◌, ◌%◌, ◌&&◌, Bool, true, false, List, [], ◌∷◌, length, Some, refl, sym, ap, ◌∙◌, arith, slice_index, nat_lt, bytes_eq, codes, ◌==◌, if◌then◌else◌, option_and_then, eqb-true, inl, inr}
use Rattle.std.specs.Char.{digit_value, is_digit}
use Rattle.std.proofs.{lemmas.Bool.and_parts, lemmas.Bool.cases_lt, lemmas.Bool.Decides.nat_tests}
use Rattle.hex.specs.Hex.{encode_with, encode_lower, lower_digits}
use Rattle.hex.proofs.HexLemmas.{length-encode_with}
use Rattle.line_words.proofs.Comparisons.{same}
use Rattle.line_words.specs.Number.{value_in, number_of}
use Rattle.fv_volume.specs.{declared.build.attributes.Alignment.Alignment, declared.build.attributes.Alignment.TheVariants.Byte}
use Rattle.fv_volume.specs.Attributes.{alignment_len, alignment_of}
use Rattle.volume_text.specs.Keywords.{below_256, byte_of, core_type_of, file_type_of}
use Rattle.volume_print.specs.Spelling.{core_type_word, type_word}

-- a digit by its value
abbrev reads_back : ℕ → Bool
reads_back d = digit_value (slice_index lower_digits d) == d

abbrev all_read_back : ℕ → Bool
all_read_back zero = true
all_read_back (suc n) = reads_back n && all_read_back n

read_back : (n d : ℕ) → all_read_back n ≡ true → d < n → reads_back d ≡ true
read_back zero d all less = absurd (omega (arith, less))
read_back (suc n) d all less =
    let parts = and_parts (reads_back n) (all_read_back n) all in
    elim (cases_lt d n) [
      | inl below ↦ read_back n d parts.1 below
      | inr top ↦
          let e : d ≡ n = omega (arith, less, top) in
          rw e parts.0
    ]

digit_is : (d : ℕ) → d < 16 → digit_value (slice_index lower_digits d) ≡ d
digit_is d less = eqb-true (digit_value (slice_index lower_digits d)) d (read_back 16 d refl less)

-- two digits
two_digits : (h l a b : ℕ) → digit_value h ≡ a → digit_value l ≡ b → a < 16 → b < 16 → number_of (48 ∷ (120 ∷ (h ∷ (l ∷ [])))) ≡ Some (a * 16 + b)
two_digits h l a b x y high low =
    let p : is_digit h 16 ≡ true = grind (arith, nat_tests) in
    let q : is_digit l 16 ≡ true = grind (arith, nat_tests) in
    let value : value_in 16 (h ∷ (l ∷ [])) ≡ a * 16 + b = rw (x, y) (omega arith) in
    let fits : nat_lt (value_in 16 (h ∷ (l ∷ []))) (2 ^ 64) ≡ true = rw value (grind (arith, nat_tests)) in
    rw (p, q, fits) (ap Some value)

pub byte_read : (kind : ℕ) → kind < 256 → byte_of (encode_lower (kind ∷ [])) ≡ Some kind
unfolding byte_of encode_with
byte_read kind fits =
    let whole : kind / 16 * 16 + kind % 16 ≡ kind = omega arith in
    let below : nat_lt kind 256 ≡ true = grind (arith, nat_tests) in
    ap (option_and_then below_256) (two_digits (slice_index lower_digits (kind / 16)) (slice_index lower_digits (kind % 16)) (kind / 16) (kind % 16)
    (digit_is (kind / 16) (omega arith)) (digit_is (kind % 16) (omega arith)) (omega arith) (omega arith) ∙ ap Some whole)
    ∙ rw below refl

-- two digits are no name of a type
false_by : (test : Bool) → (test ≡ true → ⊥) → test ≡ false
false_by true never = absurd (never refl)
false_by false never = refl

unlike : (kind : ℕ) (name : List ℕ) → (length name ≡ 2 → ⊥) → bytes_eq (encode_lower (kind ∷ [])) name ≡ false
unlike kind name other =
    false_by (bytes_eq (encode_lower (kind ∷ [])) name) (λ test. other (ap length (sym ((same (encode_lower (kind ∷ [])) name).0 test)) ∙ length-encode_with lower_digits (kind ∷ [])))

digits_read : (kind : ℕ) → kind < 256 → file_type_of (encode_lower (kind ∷ [])) ≡ Some kind
unfolding file_type_of core_type_of
digits_read kind fits =
    rw (
      unlike kind (codes "raw") (λ e. absurd (omega (arith, e))),
      unlike kind (codes "freeform") (λ e. absurd (omega (arith, e))),
      unlike kind (codes "peim") (λ e. absurd (omega (arith, e))),
      unlike kind (codes "driver") (λ e. absurd (omega (arith, e))),
      unlike kind (codes "combined") (λ e. absurd (omega (arith, e))),
      unlike kind (codes "volume-image") (λ e. absurd (omega (arith, e))),
      unlike kind (codes "mm-dxe") (λ e. absurd (omega (arith, e))),
      unlike kind (codes "security-core") (λ e. absurd (omega (arith, e))),
      unlike kind (codes "pei-core") (λ e. absurd (omega (arith, e))),
      unlike kind (codes "dxe-core") (λ e. absurd (omega (arith, e))),
      unlike kind (codes "application") (λ e. absurd (omega (arith, e))),
    ) (byte_read kind fits)

core_named : (kind : ℕ) → (a b c d : Bool) → (kind == 3) ≡ a → (kind == 4) ≡ b → (kind == 5) ≡ c → (kind == 9) ≡ d → kind < 256
    → file_type_of (if a then codes "security-core" else if b then codes "pei-core" else if c then codes "dxe-core" else if d then codes "application"
    else encode_lower (kind ∷ [])) ≡ Some kind
unfolding file_type_of core_type_of
core_named kind true b c d p q r s fits = ap Some (sym (eqb-true kind 3 p))
core_named kind false true c d p q r s fits = ap Some (sym (eqb-true kind 4 q))
core_named kind false false true d p q r s fits = ap Some (sym (eqb-true kind 5 r))
core_named kind false false false true p q r s fits = ap Some (sym (eqb-true kind 9 s))
core_named kind false false false false p q r s fits = digits_read kind fits

core_read : (kind : ℕ) → kind < 256 → file_type_of (core_type_word kind) ≡ Some kind
unfolding core_type_word
core_read kind fits = core_named kind (kind == 3) (kind == 4) (kind == 5) (kind == 9) refl refl refl refl fits

named : (kind : ℕ) → (a b c d e f g : Bool) → (kind == 1) ≡ a → (kind == 2) ≡ b → (kind == 6) ≡ c → (kind == 7) ≡ d → (kind == 8) ≡ e → (kind == 11) ≡ f → (kind == 12) ≡ g → kind < 256
    → file_type_of (if a then codes "raw" else if b then codes "freeform" else if c then codes "peim" else if d then codes "driver" else if e then codes "combined"
    else if f then codes "volume-image" else if g then codes "mm-dxe" else core_type_word kind) ≡ Some kind
unfolding file_type_of
named kind true b c d e f g p q r s t u v fits = ap Some (sym (eqb-true kind 1 p))
named kind false true c d e f g p q r s t u v fits = ap Some (sym (eqb-true kind 2 q))
named kind false false true d e f g p q r s t u v fits = ap Some (sym (eqb-true kind 6 r))
named kind false false false true e f g p q r s t u v fits = ap Some (sym (eqb-true kind 7 s))
named kind false false false false true f g p q r s t u v fits = ap Some (sym (eqb-true kind 8 t))
named kind false false false false false true g p q r s t u v fits = ap Some (sym (eqb-true kind 11 u))
named kind false false false false false false true p q r s t u v fits = ap Some (sym (eqb-true kind 12 v))
named kind false false false false false false false p q r s t u v fits = core_read kind fits

pub type_read : (kind : ℕ) → kind < 256 → file_type_of (type_word kind) ≡ Some kind
unfolding type_word
type_read kind fits = named kind (kind == 1) (kind == 2) (kind == 6) (kind == 7) (kind == 8) (kind == 11) (kind == 12) refl refl refl refl refl refl refl fits

-- an alignment by its number of bytes
pub alignment_read : (alignment : Alignment) → alignment_of (alignment_len alignment) ≡ Some alignment
alignment_read Byte = refl
alignment_read _ = refl

pub alignment_fits : (alignment : Alignment) → alignment_len alignment < 2 ^ 64
alignment_fits Byte = omega arith
alignment_fits _ = omega arith
