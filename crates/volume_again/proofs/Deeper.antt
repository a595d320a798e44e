-- What lines say with volumes at most so many levels deep, they say with one level more.
use Rattle.std.proofs.Common.{◌≡◌, ℕ, zero, suc, ◌+◌, List, [], ◌∷◌, ◌++◌, Option, None, sym, subst, arith}
use Rattle.fv_volume.specs.{declared.build.new_file.NewFile.NewFile, declared.build.volume_name.VolumeName.VolumeName}
use Rattle.volume_text.specs.{declared.volume.OpenVolume.OpenVolume, declared.step.TheConstants.MOST_INSIDE}
use Rattle.volume_text.specs.Volume.{SayFiles, no_file, named, padded, file, bodied, section, depex, script, volume, SaysOpen}

one_more : {deep : ℕ} (size : ℕ) (lines : List (List ℕ)) (called : Option VolumeName) (files : List NewFile) → SayFiles deep size lines called files → SayFiles (suc deep) size lines called files
one_more size _ _ _ no_file = no_file
one_more size _ _ _ (named lines files line name say says placed) = named lines files line name (one_more size lines None files say) says placed
one_more size _ _ _ (padded lines called files line len say says) = padded lines called files line len (one_more size lines called files say) says
one_more size _ _ _ (file lines called files line kind name attributes say says) = file lines called files line kind name attributes (one_more size lines called files say) says
one_more size _ _ _ (bodied lines called files old next line body say says holds) =
    bodied lines called files old next line body (one_more size lines called (files ++ old ∷ []) say) says holds
one_more size _ _ _ (section lines called files old next line kind body say says holds) =
    section lines called files old next line kind body (one_more size lines called (files ++ old ∷ []) say) says holds
one_more size _ _ _ (depex lines called files old next line phase body say says part unique holds) =
    depex lines called files old next line phase body (one_more size lines called (files ++ old ∷ []) say) says part unique holds
one_more size _ _ _ (script lines called files old next line phase inner blocks end body say says part unique wrote ends spelled holds) =
    script lines called files old next line phase inner blocks end body (one_more size lines called (files ++ old ∷ []) say) says part unique wrote ends spelled holds
one_more size _ _ _ (volume lines called files old next line inner inside end body say says told ends built holds) =
    volume lines called files old next line inner inside end body (one_more size lines called (files ++ old ∷ []) say) says (one_more inside.form.header_len inner inside.name inside.files told) ends built holds

all_levels : (deep left : ℕ) → deep + left ≡ MOST_INSIDE → (size : ℕ) (lines : List (List ℕ)) (called : Option VolumeName) (files : List NewFile)
    → SayFiles deep size lines called files → SayFiles MOST_INSIDE size lines called files
all_levels deep zero all size lines called files say =
    let same : deep ≡ MOST_INSIDE = omega (arith, all) in subst (λ (n : ℕ). SayFiles n size lines called files) same say
all_levels deep (suc left) all size lines called files say = all_levels (suc deep) left (omega (arith, all)) size lines called files (one_more size lines called files say)

-- a volume that lines describe, with all levels
pub open_deeper : (deep left : ℕ) → deep + left ≡ MOST_INSIDE → (lines : List (List ℕ)) (one : OpenVolume) → SaysOpen deep lines one → SaysOpen MOST_INSIDE lines one
open_deeper deep left all lines one says = record {
  line = says.line;
  inner = says.inner;
  end = says.end;
  here = says.here;
  begins = says.begins;
  files = all_levels deep left all one.form.header_len says.inner one.name one.files says.files;
  ends = says.ends;
}
