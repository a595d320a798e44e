-- A volume that a text describes is read again as the name and the files that its lines say.
use Rattle.std.proofs.Common.{◌≡◌, ℕ, Bool, true, false, cond, List, Option, Some, None, Result, Ok, Err, refl, sym, subst, arith, All}
use Rattle.fv_volume.specs.{declared.build.fault.BuildFault.BuildFault, declared.build.volume_name.VolumeName.VolumeName}
use Rattle.fv_volume.specs.declared.build.fault.BuildFault.TheVariants.{TooMany, Size, NoRoom, Memory}
use Rattle.fv_volume.specs.{Files.HasWholeName, Building.volume_bytes, Building.volume_fault}
use Rattle.fv_volume.specs.Reading.{IsWhole, IsReadAs, IsReadBack}
use Rattle.fv_volume.proofs.VolumesRead.{read_as, read_back}
use Rattle.volume_text.specs.{declared.fault.Cause.Cause, declared.volume.OpenVolume.OpenVolume, Text.Says}
use Rattle.volume_text.specs.declared.fault.Cause.TheVariants as cause
use Rattle.volume_text.specs.Open.{refused_by, is_in_range, built_of}
use Rattle.volume_text.proofs.Building.{ranges}

-- want of memory is nothing that stands against a volume
no_memory : (a b c : Bool) (need have : ℕ) → cond a (Some TooMany) (cond b (Some Size) (cond c (Some (NoRoom need have)) None)) ≡ Some Memory → ⊥
no_memory true b c need have e = absurd cc
no_memory false true c need have e = absurd cc
no_memory false false true need have e = absurd cc
no_memory false false false need have e = absurd cc

-- where the bytes of a volume are had, nothing stands against it
pub record Made (volume : OpenVolume) (bytes : List ℕ) : Type 0 where
  pub range : is_in_range volume ≡ true
  pub sound : volume_fault volume.form volume.name volume.files volume.len ≡ None
  pub bytes_are : volume_bytes volume.form volume.name volume.files volume.len ≡ bytes

same_Ok : (a b : List ℕ) → ◌≡◌ {A = Result (List ℕ) Cause} (Ok a) (Ok b) → a ≡ b
same_Ok a b e = cc

made_by : (volume : OpenVolume) (bytes : List ℕ) (test : Bool) (fault : Option BuildFault) → is_in_range volume ≡ test → volume_fault volume.form volume.name volume.files volume.len ≡ fault
    → cond test (refused_by volume fault) (Err cause.Range) ≡ Ok bytes → Made volume bytes
made_by volume bytes false fault range is e = absurd cc
made_by volume bytes true None range is e = record { range = range; sound = is; bytes_are = same_Ok _ bytes e }
made_by volume bytes true (Some TooMany) range is e = absurd cc
made_by volume bytes true (Some Size) range is e = absurd cc
made_by volume bytes true (Some (NoRoom need have)) range is e = absurd cc
made_by volume bytes true (Some Memory) range is e = absurd (no_memory _ _ _ _ _ is)

pub made : (volume : OpenVolume) (bytes : List ℕ) → built_of volume ≡ Ok bytes → Made volume bytes
made volume bytes built = made_by volume bytes (is_in_range volume) (volume_fault volume.form volume.name volume.files volume.len) refl refl built

-- the bytes of a volume at its `end`
pub made_again : (volume : OpenVolume) (bytes : List ℕ) → IsWhole volume.name → All HasWholeName volume.files → built_of volume ≡ Ok bytes
    → IsReadAs volume.form volume.name volume.files volume.len bytes
made_again volume bytes whole named built =
    let m = made volume bytes built in
    let r = ranges volume m.range in
    subst (IsReadAs volume.form volume.name volume.files volume.len) m.bytes_are
    (read_as volume.form volume.name volume.files volume.len r.small r.header r.placed whole (omega (arith, r.most)) m.sound named)

unnamed_whole : (called : Option VolumeName) → called ≡ None → IsWhole called
unnamed_whole called e = subst IsWhole (sym e) tt

pub again : (text bytes : List ℕ) (said : Says text bytes) → All HasWholeName said.volume.files → said.volume.name ≡ None → IsReadBack said.volume.files bytes
again text bytes said whole unnamed =
    let volume = said.volume in
    let read = made_again volume bytes (unnamed_whole volume.name unnamed) whole said.built in
    read_back volume.form volume.files volume.len bytes (subst (λ (called : Option VolumeName). IsReadAs volume.form called volume.files volume.len bytes) unnamed read)
