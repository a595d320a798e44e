-- Laws of little-endian fields, which callers cite: bytes and numbers correspond, and fields keep their place.
use Rattle.std.proofs.Common.{◌≡◌, ℕ, zero, suc, ◌+◌, ◌*◌, ◌/◌, ◌%◌, ◌^◌, ◌<◌, ◌≤◌, List, [], ◌∷◌, ◌++◌, length, drop, get_or-drop, refl, sym, ap, ◌∙◌, arith}
use Rattle.std.proofs.Math.Nat.{div-div-eq-div-mul, pow-succ'}
use Rattle.std.specs.Int.{byte_at, bytes_low_first}
use Rattle.byteorder.specs.Endian.{little_from}
use Rattle.byteorder.specs.Numbers.{little_from-cons, little_from-append, little_from-lt, length-bytes_low_first, little_number-reads_back}
use Rattle.pi_base.specs.Field.{AreBytes, SpellsWhatItReads, ReadsWhatItSpells, little_number, little_bytes}

-- a byte above the lowest is a byte of the number without its lowest
byte_at-suc : (j x : ℕ) → byte_at (suc j) x ≡ byte_at j (x / 256)
byte_at-suc zero x = refl
byte_at-suc (suc j) x =
    ap (λ p. x / p % 256) (pow-succ' 256 (suc j)) ∙ ap (λ q. q % 256) (sym (div-div-eq-div-mul x 256 (256 ^ suc j)))

-- so are all bytes above the lowest
bytes_above : (n j x : ℕ) → bytes_low_first (suc j) n x ≡ bytes_low_first j n (x / 256)
bytes_above zero j x = refl
bytes_above (suc n) j x =
    ap (λ b. b ∷ bytes_low_first (suc (suc j)) n x) (byte_at-suc j x) ∙ ap (λ bs. byte_at j (x / 256) ∷ bs) (bytes_above n (suc j) x)

-- the rest of a list of bytes is one
pub AreBytes-drop : (n : ℕ) (bytes : List ℕ) → AreBytes bytes → AreBytes (drop n bytes)
AreBytes-drop n bytes all i = rw (get_or-drop n bytes i 0) (all (n + i))

AreBytes-tail : (b : ℕ) (bytes : List ℕ) → AreBytes (b ∷ bytes) → AreBytes bytes
AreBytes-tail b bytes all i = all (suc i)

-- the first n bytes spell the number that is read from them
pub little_bytes-little_number : SpellsWhatItReads
little_bytes-little_number zero bytes all long = refl
little_bytes-little_number (suc n) [] all long = absurd (omega arith)
little_bytes-little_number (suc n) (b ∷ bytes) all long =
    let rest = little_from 0 n bytes in
    let moved : little_from 1 n (b ∷ bytes) ≡ rest = little_from-cons 0 n b bytes in
    let low : (b + 256 * rest) % 256 ≡ b = omega (arith, all 0) in
    let high : (b + 256 * rest) / 256 ≡ rest = omega (arith, all 0) in
    ap (λ r. byte_at 0 (b + 256 * r) ∷ bytes_low_first 1 n (b + 256 * r)) moved
    ∙ ap (λ b'. b' ∷ bytes_low_first 1 n (b + 256 * rest)) low
    ∙ ap (λ bs. b ∷ bs) (bytes_above n 0 (b + 256 * rest) ∙ ap (λ x. bytes_low_first 0 n x) high
    ∙ little_bytes-little_number n bytes (AreBytes-tail b bytes all) (omega arith))

-- the n bytes that spell a number read as that number, whatever follows
pub little_number-little_bytes : ReadsWhatItSpells
little_number-little_bytes n x rest fits = little_number-reads_back n x rest fits

-- they are n
pub length-little_bytes : (n x : ℕ) → length (little_bytes n x) ≡ n
length-little_bytes n x = length-bytes_low_first 0 n x

-- n bytes read as a number that fits them
pub little_number-lt : (n : ℕ) (bytes : List ℕ) → AreBytes bytes → little_number n bytes < 256 ^ n
little_number-lt n bytes all = little_from-lt 0 n bytes all

-- what follows the n bytes is not read
pub little_number-append : (n : ℕ) (bytes rest : List ℕ) → n ≤ length bytes → little_number n (bytes ++ rest) ≡ little_number n bytes
little_number-append n bytes rest long = little_from-append n bytes rest long
