-- Files that are there again take as many bytes.
use Rattle.std.proofs.Common.{◌≡◌, ℕ, ◌+◌, List, [], ◌∷◌, ◌++◌, length, map, replicate, refl, sym, ap, ◌∙◌, arith, length-append}
use Rattle.fv_volume.specs.{declared.build.file_system.FileSystem.FileSystem, declared.build.new_file.Body.Body}
use Rattle.fv_volume.specs.declared.build.new_file.Body.TheVariants.{Sections, Bytes}
use Rattle.fv_volume.specs.{declared.build.new_file.NewFile.NewFile, declared.build.new_file.NewSection.NewSection}
use Rattle.fv_volume.specs.{Placing.gap, Placing.laid, Sections.section_bytes, Sections.section_size, Files.bytes_in, Reading.AreEach}
use Rattle.fv_volume.proofs.Sizes.{length-section}
use Rattle.volume_again.specs.Again.{IsSectionAgain, IsBodyAgain}

-- texts that are as long are laid alike
laid_next : (from n : ℕ) (x y rest others : List ℕ) → length y ≡ length x → length others ≡ length rest → length (replicate n 0 ++ (y ++ others)) ≡ length (replicate n 0 ++ (x ++ rest))
laid_next from n x y rest others same behind =
    omega (arith, same, behind, length-append (replicate n 0) (y ++ others), length-append (replicate n 0) (x ++ rest), length-append y others, length-append x rest)

sections_long : (Inner : List ℕ → List ℕ → Type 0) (host : NewFile) (file_system : FileSystem) (from : ℕ) (sections others : List NewSection) → AreEach (IsSectionAgain Inner host) sections others
    → length (laid 4 0 from (map (section_bytes file_system) others)) ≡ length (laid 4 0 from (map (section_bytes file_system) sections))
sections_long Inner host file_system from [] [] each = refl
sections_long Inner host file_system from [] (other ∷ others) each = absurd each
sections_long Inner host file_system from (section ∷ sections) [] each = absurd each
sections_long Inner host file_system from (section ∷ sections) (other ∷ others) each =
    let x = section_bytes file_system section in
    let y = section_bytes file_system other in
    let same : length y ≡ length x = length-section file_system other ∙ ap (section_size file_system) each.0.1 ∙ sym (length-section file_system section) in
    let next = from + gap 4 from + length x in
    let place : from + gap 4 from + length y ≡ next = ap (λ n. from + gap 4 from + n) same in
    let behind = ap (λ n. length (laid 4 0 n (map (section_bytes file_system) others))) place ∙ sections_long Inner host file_system next sections others each.1 in
    laid_next from (gap 4 from) x y (laid 4 0 next (map (section_bytes file_system) sections)) (laid 4 0 (from + gap 4 from + length y) (map (section_bytes file_system) others)) same behind

pub body_long : (Inner : List ℕ → List ℕ → Type 0) (host : NewFile) (file_system : FileSystem) (body other : Body) → IsBodyAgain Inner host body other
    → length (bytes_in file_system other) ≡ length (bytes_in file_system body)
body_long Inner host file_system (Sections sections) (Sections others) is = sections_long Inner host file_system 0 sections others is
body_long Inner host file_system (Sections sections) (Bytes bytes) is = absurd is
body_long Inner host file_system (Bytes bytes) (Sections others) is = absurd is
body_long Inner host file_system (Bytes bytes) (Bytes others) is = ap length is
