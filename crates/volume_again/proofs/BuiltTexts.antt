-- The bytes that a volume of a text has at its `end` are read as the name and the files that its lines say.
use Rattle.std.proofs.Common.{◌≡◌, ◌<◌, ◌≤◌, ◌^◌, ℕ, Bool, true, false, cond, List, Option, Some, None, Result, Ok, Err, refl, subst, arith, All, nat_lt, nat_le, ◌&&◌}
use Rattle.std.proofs.{lemmas.Bool.and_parts, lemmas.Bool.Decides.nat_tests}
use Rattle.fv_volume.specs.{declared.build.fault.BuildFault.BuildFault, Files.HasWholeName, Header.is_header_length, Front.is_placed}
use Rattle.fv_volume.specs.declared.build.fault.BuildFault.TheVariants.{TooMany, Size, NoRoom, Memory}
use Rattle.fv_volume.specs.{Building.volume_bytes, Building.volume_fault, Reading.IsWhole, Reading.IsReadAs}
use Rattle.fv_volume.proofs.VolumesRead.{read_as}
use Rattle.volume_text.specs.{declared.fault.Cause.Cause, declared.volume.OpenVolume.OpenVolume, Words.is_length, Words.is_header}
use Rattle.volume_text.specs.declared.fault.Cause.TheVariants as cause
use Rattle.volume_text.specs.Open.{refused_by, is_in_range, built_of}

-- what the ranges say
pub record IsInRange (volume : OpenVolume) : Type 0 where
  pub small : volume.form.attributes < 2 ^ 32
  pub header : is_header_length volume.form.header_len ≡ true
  pub placed : is_placed volume.form.header_len volume.name ≡ true
  pub most : volume.len ≤ 0x4000000

pub ranges : (volume : OpenVolume) → is_in_range volume ≡ true → IsInRange volume
ranges volume is =
    let header = is_header volume.len volume.form.header_len in
    let placed = is_placed volume.form.header_len volume.name in
    let first = and_parts (is_length volume.len) (nat_lt volume.form.attributes (2 ^ 32) && (header && placed)) is in
    let second = and_parts (nat_lt volume.form.attributes (2 ^ 32)) (header && placed) first.1 in
    let third = and_parts header placed second.1 in
    let fourth = and_parts (is_header_length volume.form.header_len) (nat_le volume.form.header_len volume.len) third.0 in
    let fifth = and_parts (nat_le 64 volume.len) (nat_le volume.len 0x4000000) first.0 in
    let small = second.0 in
    let most = fifth.1 in
    record { small = grind (arith, nat_tests); header = fourth.0; placed = third.1; most = grind (arith, nat_tests) }

-- want of memory is nothing that stands against a volume
no_memory : (a b c : Bool) (need have : ℕ) → cond a (Some TooMany) (cond b (Some Size) (cond c (Some (NoRoom need have)) None)) ≡ Some Memory → ⊥
no_memory true b c need have e = absurd cc
no_memory false true c need have e = absurd cc
no_memory false false true need have e = absurd cc
no_memory false false false need have e = absurd cc

-- where the bytes of a volume are had, nothing stands against it
pub record Made (volume : OpenVolume) (bytes : List ℕ) : Type 0 where
  pub range : is_in_range volume ≡ true
  pub sound : volume_fault volume.form volume.name volume.files volume.len ≡ None
  pub bytes_are : volume_bytes volume.form volume.name volume.files volume.len ≡ bytes

same_Ok : (a b : List ℕ) → ◌≡◌ {A = Result (List ℕ) Cause} (Ok a) (Ok b) → a ≡ b
same_Ok a b e = cc

made_by : (volume : OpenVolume) (bytes : List ℕ) (test : Bool) (fault : Option BuildFault) → is_in_range volume ≡ test → volume_fault volume.form volume.name volume.files volume.len ≡ fault
    → cond test (refused_by volume fault) (Err cause.Range) ≡ Ok bytes → Made volume bytes
made_by volume bytes false fault range is e = absurd cc
made_by volume bytes true None range is e = record { range = range; sound = is; bytes_are = same_Ok _ bytes e }
made_by volume bytes true (Some TooMany) range is e = absurd cc
made_by volume bytes true (Some Size) range is e = absurd cc
made_by volume bytes true (Some (NoRoom need have)) range is e = absurd cc
made_by volume bytes true (Some Memory) range is e = absurd (no_memory _ _ _ _ _ is)

pub made : (volume : OpenVolume) (bytes : List ℕ) → built_of volume ≡ Ok bytes → Made volume bytes
made volume bytes built = made_by volume bytes (is_in_range volume) (volume_fault volume.form volume.name volume.files volume.len) refl refl built

-- the bytes of a volume at its `end`
pub made_again : (volume : OpenVolume) (bytes : List ℕ) → IsWhole volume.name → All HasWholeName volume.files → built_of volume ≡ Ok bytes
    → IsReadAs volume.form volume.name volume.files volume.len bytes
made_again volume bytes whole named built =
    let m = made volume bytes built in
    let r = ranges volume m.range in
    subst (IsReadAs volume.form volume.name volume.files volume.len) m.bytes_are
    (read_as volume.form volume.name volume.files volume.len r.small r.header r.placed whole (omega (arith, r.most)) m.sound named)
