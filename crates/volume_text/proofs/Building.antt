-- The bytes of a volume at its `end`.
use Rattle.std.proofs.Common.{◌≡◌, ◌<◌, ◌≤◌, ◌^◌, ℕ, Bool, true, false, List, Option, None, Some, Result, Ok, Err, refl, sym, ap, ◌∙◌, arith, nat_lt, nat_le, ◌&&◌, if◌then◌else◌}
use Rattle.std.proofs.{lemmas.Bool.and_parts, lemmas.Bool.Decides.nat_tests}
use Rattle.volume_text.specs.{declared.fault.Cause.Cause, declared.fault.Cause.TheVariants.Range, declared.volume.OpenVolume.OpenVolume}
use Rattle.fv_volume.specs.{declared.build.fault.BuildFault.BuildFault, Header.is_header_length, Front.is_placed}
use Rattle.fv_volume.specs.declared.build.fault.BuildFault.TheVariants.{TooMany, Size, NoRoom, Memory}
use Rattle.fv_volume.specs.Building.{volume_bytes, volume_fault, IsRefusal}
use Rattle.volume_text.specs.{Reading.Stops, Words.is_length, Words.is_header}
use Rattle.volume_text.specs.Open.{stop_of, refused_by, is_in_range, built_of}

-- attributes are a number of 32 bits
pub in_range : (volume : OpenVolume) → volume.form.attributes < 2 ^ 32
    → (is_length volume.len && (is_header volume.len volume.form.header_len && is_placed volume.form.header_len volume.name)) ≡ is_in_range volume
in_range volume fits =
    let small : nat_lt volume.form.attributes (2 ^ 32) ≡ true = grind (arith, nat_tests) in
    ap (λ b. is_length volume.len && (b && (is_header volume.len volume.form.header_len && is_placed volume.form.header_len volume.name))) (sym small)

-- what the ranges say
pub record IsInRange (volume : OpenVolume) : Type 0 where
  pub small : volume.form.attributes < 2 ^ 32
  pub header : is_header_length volume.form.header_len ≡ true
  pub placed : is_placed volume.form.header_len volume.name ≡ true
  pub most : volume.len ≤ 0x4000000

pub ranges : (volume : OpenVolume) → is_in_range volume ≡ true → IsInRange volume
ranges volume is =
    let header = is_header volume.len volume.form.header_len in
    let placed = is_placed volume.form.header_len volume.name in
    let first = and_parts (is_length volume.len) (nat_lt volume.form.attributes (2 ^ 32) && (header && placed)) is in
    let second = and_parts (nat_lt volume.form.attributes (2 ^ 32)) (header && placed) first.1 in
    let third = and_parts header placed second.1 in
    let fourth = and_parts (is_header_length volume.form.header_len) (nat_le volume.form.header_len volume.len) third.0 in
    let fifth = and_parts (nat_le 64 volume.len) (nat_le volume.len 0x4000000) first.0 in
    let small = second.0 in
    let most = fifth.1 in
    record { small = grind (arith, nat_tests); header = fourth.0; placed = third.1; most = grind (arith, nat_tests) }

pub header_fits : (volume : OpenVolume) → is_in_range volume ≡ true → is_header_length volume.form.header_len ≡ true
header_fits volume is = (ranges volume is).header

pub name_fits : (volume : OpenVolume) → is_in_range volume ≡ true → is_placed volume.form.header_len volume.name ≡ true
name_fits volume is = (ranges volume is).placed

pub length_fits : (volume : OpenVolume) → is_in_range volume ≡ true → volume.len ≤ 0x4000000
length_fits volume is = (ranges volume is).most

by_range : (test : Bool) (made : Result (List ℕ) Cause) → test ≡ true → (if test then made else Err Range) ≡ made
by_range test made is = rw is refl

found : (volume : OpenVolume) (fault : Option BuildFault) → is_in_range volume ≡ true → volume_fault volume.form volume.name volume.files volume.len ≡ fault
    → built_of volume ≡ refused_by volume fault
found volume fault range is =
    by_range (is_in_range volume) (refused_by volume (volume_fault volume.form volume.name volume.files volume.len)) range ∙ ap (refused_by volume) is

pub built_there : (volume : OpenVolume) (bytes : List ℕ) → is_in_range volume ≡ true → volume_fault volume.form volume.name volume.files volume.len ≡ None
    → bytes ≡ volume_bytes volume.form volume.name volume.files volume.len → built_of volume ≡ Ok bytes
built_there volume bytes range none is = found volume None range none ∙ ap Ok (sym is)

pub refused_there : (volume : OpenVolume) (fault : BuildFault) → is_in_range volume ≡ true → IsRefusal volume.form volume.name volume.files volume.len fault
    → Stops (stop_of fault) (built_of volume)
refused_there volume TooMany range is = found volume (Some TooMany) range is
refused_there volume Size range is = found volume (Some Size) range is
refused_there volume (NoRoom need have) range is = found volume (Some (NoRoom need have)) range is
refused_there volume Memory range is = tt

pub out_of_range : (volume : OpenVolume) → is_in_range volume ≡ false → built_of volume ≡ Err Range
out_of_range volume range = ap (λ b. if b then refused_by volume (volume_fault volume.form volume.name volume.files volume.len) else Err Range) range
