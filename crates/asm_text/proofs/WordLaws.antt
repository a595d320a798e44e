-- A word is read as the value of which it is printed, and as no other.
use Rattle.std.proofs.Common.{◌≡◌, ℕ, ◌<◌, ◌≤◌, ◌^◌, ◌&&◌, Bool, true, false, ltb, List, [], ◌∷◌, ◌++◌, Option, Some, None, Result, Ok, Err, refl, sym, ap, subst, ◌∙◌, arith, bytes_eq, nat_lt, codes, if◌then◌else◌, option_and_then, nat_le, ◌==◌, find}
use Rattle.std.specs.{Fmt.digits, Str.Parse.digits_value}
use Rattle.std.proofs.{lemmas.Bool.and_parts, lemmas.Option.same_Some, lemmas.Bool.Decides.nat_tests}
use Rattle.hex.specs.Hex.{IsBytes, encode_lower, decode_of}
use Rattle.hex.specs.declared.error.FromHexError.{FromHexError}
use Rattle.hex.proofs.HexLemmas.{decode_of-encode_lower, decode_of-ok}
use Rattle.pi_base.specs.{declared.word.Word.Word, declared.word.Word.TheVariants.Success, WordText.hexadecimal, WordText.word_text}
use Rattle.act_code.specs.{Reading.only_if, Format.is_within}
use Rattle.asm_text.specs.{declared.word.TheConstants.STATUSES, ActionText.kind_word as shown_kind, Front.behind, Numerals.register}
use Rattle.line_words.specs.PrintedWords.{Finds}
use Rattle.line_words.proofs.{Comparisons.same, Numerals.numeral}
use Rattle.asm_text.specs.WordReading.{number_word, hexadecimal_word, register_word, choice_word, kind_word, status_word, shown_by, bytes_word}
use Rattle.asm_text.proofs.Fronts.{passed, none_of, itself, behind_is, behind_there}
use Rattle.asm_text.proofs.Stacks.{bind_some}

below : (n m : ℕ) → n < m → ltb n m ≡ true
below n m less = grind (arith, nat_tests)

is_below : (n m : ℕ) → ltb n m ≡ true → n < m
is_below n m test = grind (arith, nat_tests)

pub is_most : (n m : ℕ) → nat_le n m ≡ true → n ≤ m
is_most n m test = grind (arith, nat_tests)

-- numbers
pub number_there : (base n : ℕ) → 2 ≤ base → base ≤ 16 → n < 2 ^ 64 → number_word base (digits base false n) ≡ Some n
unfolding number_word
number_there base n low high fits =
    rw ((numeral base n low high fits).1, itself (digits base false n), below n (2 ^ 64) fits) refl

pub number_is : (base n : ℕ) (word : List ℕ) → number_word base word ≡ Some n → (n < 2 ^ 64) × (word ≡ digits base false n)
unfolding number_word
number_is base n word e =
    let value = digits_value base word in
    let p = passed (bytes_eq (digits base false value) word && nat_lt value (2 ^ 64)) value n e in
    let tests = and_parts (bytes_eq (digits base false value) word) (nat_lt value (2 ^ 64)) p.0 in
    subst (λ (m : ℕ). (m < 2 ^ 64) × (word ≡ digits base false m)) p.1 (is_below value (2 ^ 64) tests.1, sym ((same (digits base false value) word).0 tests.0))

pub number_found : (base : ℕ) (word : List ℕ) (r : Option ℕ) → 2 ≤ base → base ≤ 16 → Finds (λ n. (n < 2 ^ 64) × (word ≡ digits base false n)) r → r ≡ number_word base word
number_found base word (Some n) low high found = sym (ap (number_word base) found.1 ∙ number_there base n low high found.0)
number_found base word None low high none = sym (none_of (number_word base word) (λ n e. none n (number_is base n word e)))

pub hexadecimal_there : (n : ℕ) → n < 2 ^ 64 → hexadecimal_word (hexadecimal n) ≡ Some n
unfolding hexadecimal_word
hexadecimal_there n fits =
    ap (option_and_then (number_word 16)) (behind_there (codes "0x") (digits 16 false n)) ∙ number_there 16 n (omega arith) (omega arith) fits

pub hexadecimal_is : (n : ℕ) (word : List ℕ) → hexadecimal_word word ≡ Some n → (n < 2 ^ 64) × (word ≡ hexadecimal n)
unfolding hexadecimal_word
hexadecimal_is n word e =
    let b = bind_some (behind (codes "0x") word) (number_word 16) n e in
    let p = number_is 16 n b.0 b.2 in
    (p.0, behind_is (codes "0x") word b.0 b.1 ∙ ap (λ t. codes "0x" ++ t) p.1)

pub hexadecimal_found : (word : List ℕ) (r : Option ℕ) → Finds (λ n. (n < 2 ^ 64) × (word ≡ hexadecimal n)) r → r ≡ hexadecimal_word word
hexadecimal_found word (Some n) found = sym (ap hexadecimal_word found.1 ∙ hexadecimal_there n found.0)
hexadecimal_found word None none = sym (none_of (hexadecimal_word word) (λ n e. none n (hexadecimal_is n word e)))

-- registers
pub register_there : (r : ℕ) → r < 16 → register_word (register r) ≡ Some r
unfolding register_word
register_there r small =
    rw (number_there 10 r (omega arith) (omega arith) (omega arith), below r 16 small) refl

pub register_is : (r : ℕ) (word : List ℕ) → register_word word ≡ Some r → (r < 16) × (word ≡ register r)
unfolding register_word
register_is r word e =
    let b = bind_some (behind (codes "r") word) (λ rest. option_and_then (λ r. only_if (nat_lt r 16) r) (number_word 10 rest)) r e in
    let n = bind_some (number_word 10 b.0) (λ r. only_if (nat_lt r 16) r) r b.2 in
    let p = passed (nat_lt n.0 16) n.0 r n.2 in
    let m = number_is 10 n.0 b.0 n.1 in
    subst (λ (x : ℕ). (x < 16) × (word ≡ register x)) p.1 (is_below n.0 16 p.0, behind_is (codes "r") word b.0 b.1 ∙ ap (λ t. codes "r" ++ t) m.1)

-- one of two words
abbrev pub either_of : List ℕ → List ℕ → ℕ → List ℕ
either_of zero one n = if n == 0 then zero else one

choice_by : (word zero one : List ℕ) (a b : Bool) (n : ℕ) → bytes_eq word zero ≡ a → bytes_eq word one ≡ b → (if a then Some 0 else if b then Some 1 else None) ≡ Some n → word ≡ either_of zero one n
choice_by word zero one true b n x y e =
    let is : 0 ≡ n = same_Some 0 n e in
    rw (← is) ((same word zero).0 x)
choice_by word zero one false true n x y e =
    let is : 1 ≡ n = same_Some 1 n e in
    rw (← is) ((same word one).0 y)
choice_by word zero one false false n x y e = absurd cc

pub choice_is : (zero one word : List ℕ) (n : ℕ) → choice_word zero one word ≡ Some n → word ≡ either_of zero one n
unfolding choice_word
choice_is zero one word n e = choice_by word zero one (bytes_eq word zero) (bytes_eq word one) n refl refl e

pub choice_there : (zero one : List ℕ) (n : ℕ) → bytes_eq one zero ≡ false → is_within 0 1 n ≡ true → choice_word zero one (either_of zero one n) ≡ Some n
unfolding choice_word
choice_there zero one ℕ.zero differs in_range = rw (itself zero) refl
choice_there zero one (ℕ.suc ℕ.zero) differs in_range = rw (differs, itself one) refl
choice_there zero one (ℕ.suc (ℕ.suc n)) differs in_range =
    let most : nat_le (ℕ.suc (ℕ.suc n)) 1 ≡ true = (and_parts (nat_le 0 (ℕ.suc (ℕ.suc n))) (nat_le (ℕ.suc (ℕ.suc n)) 1) in_range).1 in
    let never : ℕ.suc (ℕ.suc n) ≤ 1 = is_most (ℕ.suc (ℕ.suc n)) 1 most in
    absurd (omega arith)

-- what a descriptor is of
kind_by : (word : List ℕ) (a b c : Bool) (n : ℕ) → bytes_eq word (codes "ppi") ≡ a → bytes_eq word (codes "callback") ≡ b → bytes_eq word (codes "dispatch") ≡ c
    → (if a then Some 0 else if b then Some 1 else if c then Some 2 else None) ≡ Some n → (n < 3) × (word ≡ shown_kind n)
kind_by word true b c n x y z e =
    let is : 0 ≡ n = same_Some 0 n e in
    rw (← is) (omega arith, (same word (codes "ppi")).0 x)
kind_by word false true c n x y z e =
    let is : 1 ≡ n = same_Some 1 n e in
    rw (← is) (omega arith, (same word (codes "callback")).0 y)
kind_by word false false true n x y z e =
    let is : 2 ≡ n = same_Some 2 n e in
    rw (← is) (omega arith, (same word (codes "dispatch")).0 z)
kind_by word false false false n x y z e = absurd cc

pub kind_is : (word : List ℕ) (n : ℕ) → kind_word word ≡ Some n → (n < 3) × (word ≡ shown_kind n)
unfolding kind_word
kind_is word n e = kind_by word (bytes_eq word (codes "ppi")) (bytes_eq word (codes "callback")) (bytes_eq word (codes "dispatch")) n refl refl refl e

pub kind_there : (n : ℕ) → n < 3 → kind_word (shown_kind n) ≡ Some n
unfolding kind_word
kind_there ℕ.zero small = refl
kind_there (ℕ.suc ℕ.zero) small = refl
kind_there (ℕ.suc (ℕ.suc ℕ.zero)) small = refl
kind_there (ℕ.suc (ℕ.suc (ℕ.suc n))) small = absurd (omega arith)

-- a status
find_by : {X : Type 0} (p : X → Bool) (xs : List X) (x y : X) (test : Bool) → p x ≡ test → ((y : X) → find p xs ≡ Some y → p y ≡ true) → (if test then Some x else find p xs) ≡ Some y → p y ≡ true
find_by p xs x y true is others e = subst (λ z. p z ≡ true) (same_Some x y e) is
find_by p xs x y false is others e = others y e

pub find_passes : {X : Type 0} (p : X → Bool) (xs : List X) (y : X) → find p xs ≡ Some y → p y ≡ true
find_passes p [] y e = absurd cc
find_passes p (x ∷ xs) y e = find_by p xs x y (p x) refl (find_passes p xs) e

status_name : (status : Word) (word : List ℕ) → bytes_eq (word_text status) word ≡ true → word ≡ word_text status
status_name status word test = sym ((same (word_text status) word).0 test)

pub status_is : (word : List ℕ) (status : Word) → status_word word ≡ Some status → word ≡ word_text status
unfolding status_word
status_is word status e = status_name status word (find_passes (λ s. bytes_eq (word_text s) word) STATUSES status e)

pub status_there : (status : Word) → status_word (word_text status) ≡ Some status
unfolding status_word word_text
status_there Success = refl
status_there _ = refl

-- bytes
pub bytes_there : (bytes : List ℕ) → IsBytes bytes → bytes_word (encode_lower bytes) ≡ Some bytes
unfolding bytes_word
bytes_there bytes fits = rw (decode_of-encode_lower bytes fits, itself (encode_lower bytes)) refl

shown_is : (word bytes : List ℕ) (r : Result (List ℕ) FromHexError) → decode_of word ≡ r → shown_by word r ≡ Some bytes → IsBytes bytes × (word ≡ encode_lower bytes)
shown_is word bytes (Err e) read is = absurd cc
shown_is word bytes (Ok there) read is =
    let p = passed (bytes_eq (encode_lower there) word) there bytes is in
    subst (λ (xs : List ℕ). IsBytes xs × (word ≡ encode_lower xs)) p.1 ((decode_of-ok word there read).3, sym ((same (encode_lower there) word).0 p.0))

pub bytes_is : (word bytes : List ℕ) → bytes_word word ≡ Some bytes → IsBytes bytes × (word ≡ encode_lower bytes)
unfolding bytes_word
bytes_is word bytes e = shown_is word bytes (decode_of word) refl e
