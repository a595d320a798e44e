-- The volumes that the board of the tests maps.
-- Own.
use Rattle.std.specs.Prelude.{◌≡◌, ℕ, List, [], ◌∷◌, length}
use Rattle.phys_mem.specs.declared.rom.Rom.{Rom}

-- one of sixteen bytes
abbrev pub AreVolumes : List Rom → Type 0
AreVolumes roms = (bytes : List ℕ) × (length bytes ≡ 16) × (roms ≡ record { base = 0xff800000; bytes = bytes } ∷ [])
