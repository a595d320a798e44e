-- Why a boot is followed no further, by why it was given up.
-- Own.
use Rattle.boot_io.specs.declared.halt.Halt.{Halt}
use Rattle.boot_io.specs.declared.halt.Halt.TheVariants as H
use Rattle.recorded_boot.specs.declared.trace.parted.Parted.{Parted}
use Rattle.recorded_boot.specs.declared.trace.parted.Parted.TheVariants.{Off, Memory}

-- a piece that could not be written is one that differs from the text
abbrev pub parted_by : Halt → Parted
parted_by H.Sink = Off
parted_by H.Memory = Memory
