-- The checksums of headers: what makes their sum 0.
use Rattle.std.specs.Prelude.{ℕ, ◌-◌, ◌%◌, List, sum}
use Rattle.pi_base.specs.Field.{words_of}

-- the byte that makes the sum of the bytes 0
abbrev pub checksum8 : List ℕ → ℕ
checksum8 bytes = (256 - sum bytes % 256) % 256

-- the number that makes the sum of the 16-bit words 0
abbrev pub checksum16 : List ℕ → ℕ
checksum16 bytes = (65536 - sum (words_of bytes) % 65536) % 65536
