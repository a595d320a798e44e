-- The Attributes bytes of files that may be large and have no file checksum.
use Rattle.std.proofs.Common.{◌≡◌, Bool, true, false, refl}
use Rattle.fv_volume.specs.{declared.build.attributes.Alignment.Alignment, declared.build.attributes.FileAttributes.FileAttributes}
use Rattle.fv_volume.specs.declared.build.attributes.Alignment.TheVariants.{Byte, Bytes16, Bytes128, Bytes512, Kib1, Kib4, Kib32, Kib64, Kib128, Kib256, Kib512, Mib1, Mib2, Mib4, Mib8, Mib16}
use Rattle.fv_volume.specs.Attributes.{attributes_byte, attributes_in}
use Rattle.fv_volume.proofs.Spelled.{AreAttributes}

abbrev with : Bool → Alignment → FileAttributes
with fixed alignment = record { fixed = fixed; alignment = alignment }

each : (alignment : Alignment) (fixed wide : Bool) → AreAttributes (attributes_byte (with fixed alignment) wide) wide × (attributes_in (attributes_byte (with fixed alignment) wide) ≡ with fixed alignment)
each Byte true true = (record { size = refl; sum = refl }, refl)
each Byte true false = (record { size = refl; sum = refl }, refl)
each Byte false true = (record { size = refl; sum = refl }, refl)
each Byte false false = (record { size = refl; sum = refl }, refl)
each Bytes16 true true = (record { size = refl; sum = refl }, refl)
each Bytes16 true false = (record { size = refl; sum = refl }, refl)
each Bytes16 false true = (record { size = refl; sum = refl }, refl)
each Bytes16 false false = (record { size = refl; sum = refl }, refl)
each Bytes128 true true = (record { size = refl; sum = refl }, refl)
each Bytes128 true false = (record { size = refl; sum = refl }, refl)
each Bytes128 false true = (record { size = refl; sum = refl }, refl)
each Bytes128 false false = (record { size = refl; sum = refl }, refl)
each Bytes512 true true = (record { size = refl; sum = refl }, refl)
each Bytes512 true false = (record { size = refl; sum = refl }, refl)
each Bytes512 false true = (record { size = refl; sum = refl }, refl)
each Bytes512 false false = (record { size = refl; sum = refl }, refl)
each Kib1 true true = (record { size = refl; sum = refl }, refl)
each Kib1 true false = (record { size = refl; sum = refl }, refl)
each Kib1 false true = (record { size = refl; sum = refl }, refl)
each Kib1 false false = (record { size = refl; sum = refl }, refl)
each Kib4 true true = (record { size = refl; sum = refl }, refl)
each Kib4 true false = (record { size = refl; sum = refl }, refl)
each Kib4 false true = (record { size = refl; sum = refl }, refl)
each Kib4 false false = (record { size = refl; sum = refl }, refl)
each Kib32 true true = (record { size = refl; sum = refl }, refl)
each Kib32 true false = (record { size = refl; sum = refl }, refl)
each Kib32 false true = (record { size = refl; sum = refl }, refl)
each Kib32 false false = (record { size = refl; sum = refl }, refl)
each Kib64 true true = (record { size = refl; sum = refl }, refl)
each Kib64 true false = (record { size = refl; sum = refl }, refl)
each Kib64 false true = (record { size = refl; sum = refl }, refl)
each Kib64 false false = (record { size = refl; sum = refl }, refl)
each Kib128 true true = (record { size = refl; sum = refl }, refl)
each Kib128 true false = (record { size = refl; sum = refl }, refl)
each Kib128 false true = (record { size = refl; sum = refl }, refl)
each Kib128 false false = (record { size = refl; sum = refl }, refl)
each Kib256 true true = (record { size = refl; sum = refl }, refl)
each Kib256 true false = (record { size = refl; sum = refl }, refl)
each Kib256 false true = (record { size = refl; sum = refl }, refl)
each Kib256 false false = (record { size = refl; sum = refl }, refl)
each Kib512 true true = (record { size = refl; sum = refl }, refl)
each Kib512 true false = (record { size = refl; sum = refl }, refl)
each Kib512 false true = (record { size = refl; sum = refl }, refl)
each Kib512 false false = (record { size = refl; sum = refl }, refl)
each Mib1 true true = (record { size = refl; sum = refl }, refl)
each Mib1 true false = (record { size = refl; sum = refl }, refl)
each Mib1 false true = (record { size = refl; sum = refl }, refl)
each Mib1 false false = (record { size = refl; sum = refl }, refl)
each Mib2 true true = (record { size = refl; sum = refl }, refl)
each Mib2 true false = (record { size = refl; sum = refl }, refl)
each Mib2 false true = (record { size = refl; sum = refl }, refl)
each Mib2 false false = (record { size = refl; sum = refl }, refl)
each Mib4 true true = (record { size = refl; sum = refl }, refl)
each Mib4 true false = (record { size = refl; sum = refl }, refl)
each Mib4 false true = (record { size = refl; sum = refl }, refl)
each Mib4 false false = (record { size = refl; sum = refl }, refl)
each Mib8 true true = (record { size = refl; sum = refl }, refl)
each Mib8 true false = (record { size = refl; sum = refl }, refl)
each Mib8 false true = (record { size = refl; sum = refl }, refl)
each Mib8 false false = (record { size = refl; sum = refl }, refl)
each Mib16 true true = (record { size = refl; sum = refl }, refl)
each Mib16 true false = (record { size = refl; sum = refl }, refl)
each Mib16 false true = (record { size = refl; sum = refl }, refl)
each Mib16 false false = (record { size = refl; sum = refl }, refl)

-- one is read as it is
pub are_attributes : (attributes : FileAttributes) (wide : Bool) → AreAttributes (attributes_byte attributes wide) wide
are_attributes attributes wide = (each attributes.alignment attributes.fixed wide).0

pub attributes_back : (attributes : FileAttributes) (wide : Bool) → attributes_in (attributes_byte attributes wide) ≡ attributes
attributes_back attributes wide = (each attributes.alignment attributes.fixed wide).1
