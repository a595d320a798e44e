-- The attributes of files that a writer may choose. (PI 1.8, volume 3, `EFI_FFS_FILE_ATTRIBUTES`.)
use Rattle.std.specs.Prelude.{ℕ, ◌+◌, Bool, false, not, ◌==◌, bit_and, if◌then◌else◌, Option, Some, None, find}
use Rattle.fv_volume.specs.{declared.file_header.TheConstants.LARGE_FILE, declared.build.attributes.Alignment.Alignment}
use Rattle.fv_volume.specs.declared.build.attributes.TheConstants.{FIXED, DATA_ALIGNMENT, ALIGNMENTS}
use Rattle.fv_volume.specs.declared.build.attributes.Alignment.TheVariants.{Byte, Bytes16, Bytes128, Bytes512, Kib1, Kib4, Kib32, Kib64, Kib128, Kib256, Kib512, Mib1, Mib2, Mib4, Mib8, Mib16}
use Rattle.fv_volume.specs.declared.build.attributes.FileAttributes.{FileAttributes}

-- the bits of an alignment in Attributes
abbrev pub alignment_bits : Alignment → ℕ
alignment_bits Byte = 0x00
alignment_bits Bytes16 = 0x08
alignment_bits Bytes128 = 0x10
alignment_bits Bytes512 = 0x18
alignment_bits Kib1 = 0x20
alignment_bits Kib4 = 0x28
alignment_bits Kib32 = 0x30
alignment_bits Kib64 = 0x38
alignment_bits Kib128 = 0x02
alignment_bits Kib256 = 0x0a
alignment_bits Kib512 = 0x12
alignment_bits Mib1 = 0x1a
alignment_bits Mib2 = 0x22
alignment_bits Mib4 = 0x2a
alignment_bits Mib8 = 0x32
alignment_bits Mib16 = 0x3a

-- its number of bytes
abbrev pub alignment_len : Alignment → ℕ
alignment_len Byte = 1
alignment_len Bytes16 = 16
alignment_len Bytes128 = 128
alignment_len Bytes512 = 512
alignment_len Kib1 = 1024
alignment_len Kib4 = 4096
alignment_len Kib32 = 32768
alignment_len Kib64 = 65536
alignment_len Kib128 = 131072
alignment_len Kib256 = 262144
alignment_len Kib512 = 524288
alignment_len Mib1 = 1048576
alignment_len Mib2 = 2097152
alignment_len Mib4 = 4194304
alignment_len Mib8 = 8388608
alignment_len Mib16 = 16777216

-- the alignment of a number of bytes
abbrev pub alignment_of : ℕ → Option Alignment
alignment_of len = find (λ alignment. alignment_len alignment == len) ALIGNMENTS

abbrev pub alignment_or_none : Option Alignment → Alignment
alignment_or_none (Some alignment) = alignment
alignment_or_none None = Byte

-- the Attributes byte of a file that is large or not, and has no file checksum
abbrev pub attributes_byte : FileAttributes → Bool → ℕ
attributes_byte attributes large = alignment_bits attributes.alignment + (if attributes.fixed then FIXED else 0) + (if large then LARGE_FILE else 0)

-- the alignment of these bits
abbrev pub alignment_with : ℕ → Option Alignment
alignment_with bits = find (λ alignment. alignment_bits alignment == bits) ALIGNMENTS

-- the attributes of a file without an alignment
abbrev pub plain_attributes : FileAttributes
plain_attributes = record { fixed = false; alignment = Byte }

-- the attributes in an Attributes byte
abbrev pub attributes_in : ℕ → FileAttributes
attributes_in byte = record {
  fixed = not (bit_and byte FIXED == 0);
  alignment = alignment_or_none (alignment_with (bit_and byte DATA_ALIGNMENT));
}
