-- Laws of little-endian fields.
use Rattle.std.proofs.Common.{◌≡◌, ℕ, ◌^◌, ◌<◌, List, length}
use Rattle.pi_base.specs.Field.{AreBytes, SpellsWhatItReads, ReadsWhatItSpells, little_number, little_bytes}
use Rattle.pi_base.proofs.FieldLaws.{little_bytes-little_number, little_number-little_bytes, little_number-lt, length-little_bytes}

pub little_back : SpellsWhatItReads
little_back = little_bytes-little_number

pub little_reads : ReadsWhatItSpells
little_reads = little_number-little_bytes

pub little_bounded : (n : ℕ) (bytes : List ℕ) → AreBytes bytes → little_number n bytes < 256 ^ n
little_bounded = little_number-lt

pub length-little : (n x : ℕ) → length (little_bytes n x) ≡ n
length-little = length-little_bytes
