use Rattle.std.proofs.Common.{◌≡◌, drop}
use Rattle.store_model.specs.MemoryReading.{rom_bytes}
use Rattle.store_plain.proofs.descriptor.rom_bytes.Given as goal

abbrev pub invariant-volumes : goal.invariant-volumes
invariant-volumes l = rom_bytes (drop l.rom-index l.roms) l.at l.n ≡ rom_bytes l.roms l.at l.n
