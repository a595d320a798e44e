-- A volume that is written from front to back.
use Rattle.std.proofs.Common.{◌≡◌, ℕ, ◌+◌, ◌-◌, ◌≤◌, true, List, [], ◌++◌, length, replicate, Option, None, ap, ◌∙◌, arith, append_assoc, length-append}
use Rattle.fv_volume.specs.{declared.build.new_file.NewFile.NewFile, declared.build.volume_header.VolumeForm.VolumeForm}
use Rattle.fv_volume.specs.{declared.build.volume_name.VolumeName.VolumeName, Reading.IsWhole}
use Rattle.fv_volume.specs.Header.{head_of, volume_header, is_header_length}
use Rattle.fv_volume.specs.Front.{ext_at, name_part, front_len, is_placed}
use Rattle.fv_volume.specs.Building.{files_bytes, need, volume_bytes, volume_fault}
use Rattle.fv_volume.proofs.VolumesRead.{fits_header, length-header, length-front, sound}

-- what stands in front of the files
pub record Front (form : VolumeForm) (name : Option VolumeName) (len : ℕ) (out : List ℕ) : Type 0 where
  pub is : out ≡ volume_header (head_of form (ext_at name) len) ++ name_part form.header_len name
  pub long : length out ≡ front_len form name

pub front_written : (form : VolumeForm) (name : Option VolumeName) (at len : ℕ) (empty header out : List ℕ) → is_header_length form.header_len ≡ true → is_placed form.header_len name ≡ true
    → IsWhole name → at ≡ ext_at name → empty ≡ [] → header ≡ empty ++ volume_header (head_of form at len) → out ≡ header ++ name_part form.header_len name → Front form name len out
front_written form name at len empty header out is_length placed whole near none first second =
    let top = volume_header (head_of form (ext_at name) len) in
    let is : out ≡ top ++ name_part form.header_len name =
    second ∙ ap (λ xs. xs ++ name_part form.header_len name) (first ∙ ap (λ xs. xs ++ volume_header (head_of form at len)) none ∙ ap (λ n. volume_header (head_of form n len)) near) in
    let h = fits_header form.header_len is_length in
    record {
      is = is;
      long = ap length is ∙ length-append top (name_part form.header_len name)
          ∙ omega (arith, length-header form.file_system form.attributes form.header_len (ext_at name) len h.least, length-front form name placed whole);
    }

-- the files have room behind it
pub files_fit : (form : VolumeForm) (name : Option VolumeName) (files : List NewFile) (len : ℕ) (out : List ℕ) → Front form name len out → volume_fault form name files len ≡ None
    → length out + length (files_bytes form.file_system (length out) files) ≤ len
files_fit form name files len out front none =
    let s = sound form.file_system (front_len form name) files len none in
    let same : need form.file_system (length out) files ≡ need form.file_system (front_len form name) files = ap (λ n. need form.file_system n files) front.long in
    omega (arith, same, s.room)

-- all of it
pub all_written : (form : VolumeForm) (name : Option VolumeName) (files : List NewFile) (len left : ℕ) (out filled new : List ℕ) → Front form name len out
    → filled ≡ out ++ files_bytes form.file_system (length out) files → left ≡ len - length filled → new ≡ filled ++ replicate left 255
    → new ≡ volume_bytes form name files len
all_written form name files len left out filled new front files_are left_is new_is =
    let fs = form.file_system in
    let from = front_len form name in
    let top = volume_header (head_of form (ext_at name) len) in
    let part = name_part form.header_len name in
    let texts = files_bytes fs from files in
    let same : files_bytes fs (length out) files ≡ texts = ap (λ n. files_bytes fs n files) front.long in
    let here : filled ≡ out ++ texts = files_are ∙ ap (λ xs. out ++ xs) same in
    let behind : left ≡ len - need fs from files = left_is ∙ ap (λ n. len - n) (ap length here ∙ length-append out texts ∙ ap (λ n. n + length texts) front.long) in
    let erased : List ℕ = replicate (len - need fs from files) 255 in
    new_is ∙ ap (λ n. filled ++ replicate n 255) behind ∙ ap (λ xs. xs ++ erased) here ∙ append_assoc out texts erased
    ∙ ap (λ xs. xs ++ (texts ++ erased)) front.is ∙ append_assoc top part (texts ++ erased)
