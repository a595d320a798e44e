-- By which sections a body is told.
use Rattle.std.proofs.Common.{◌≡◌, inr, ℕ, ◌<◌, false, List, length, map, Some, None, arith, ◌==◌}
use Rattle.fv_volume.specs.{declared.build.file_system.FileSystem.FileSystem, Sections.body_bytes}
use Rattle.fv_volume.specs.declared.sections.section.Section.{Section}
use Rattle.volume_print.specs.{Description.section_in, Description.IsStream, Finding.held, Finding.ReadsSections}

-- the sections take all of the body where they are built
pub as_built : (file_system : FileSystem) (kind : ℕ) (stream : List ℕ) (read : List Section) (built : ℕ) → (kind == 1) ≡ false → ReadsSections stream (Some read)
    → built ≡ held (length (body_bytes file_system (map (section_in stream) read))) → length stream < 18446744073709551615 → built ≡ length stream
    → IsStream file_system kind stream (Some read)
as_built file_system kind stream read built other are is fits same = (other, are.0, are.1, omega (arith, is, fits, same))

-- or they do not
pub not_as_built : (file_system : FileSystem) (kind : ℕ) (stream : List ℕ) (read : List Section) (built : ℕ) → ReadsSections stream (Some read)
    → built ≡ held (length (body_bytes file_system (map (section_in stream) read))) → length stream < 18446744073709551615 → (built ≡ length stream → ⊥)
    → IsStream file_system kind stream None
not_as_built file_system kind stream read built are is fits other = inr (inr (read, are.0, λ lie. absurd (omega (arith, is, fits, other, lie))))
