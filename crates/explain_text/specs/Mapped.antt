-- The bytes of the plan's volumes by their addresses: a nested volume lies in the volume of the plan that it is nested in.
use Rattle.std.specs.Prelude.{ℕ, ◌-◌, Bool, ◌&&◌, nat_le, nat_lt, if◌then◌else◌, List, [], ◌∷◌, length, drop}
use Rattle.phys_mem.specs.declared.rom.Rom.{Rom}

-- whether an address is one of so many from a base on
abbrev pub holds : ℕ → ℕ → ℕ → Bool
holds base len address = nat_le base address && nat_lt (address - base) len

-- the bytes from an address on, in the first volume that holds it; no bytes where none does
abbrev pub mapped_from : ℕ → List Rom → List ℕ
mapped_from address [] = []
mapped_from address (rom ∷ roms) = if holds rom.base (length rom.bytes) address then drop (address - rom.base) rom.bytes else mapped_from address roms
