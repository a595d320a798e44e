-- The last file of an open volume, as it is changed.
use Rattle.std.proofs.Common.{◌≡◌, List, [], ◌∷◌, ◌++◌, Result, Ok, sym, ap, ◌∙◌}
use Rattle.fv_volume.specs.declared.build.new_file.NewFile.{NewFile}
use Rattle.volume_text.specs.{declared.volume.OpenVolume.OpenVolume, declared.fault.Cause.Cause, declared.fault.Stop.Stop}
use Rattle.volume_text.specs.declared.fault.Stop.TheVariants as stop
use Rattle.volume_text.specs.Reading.{◌>>=◌, Stops}
use Rattle.volume_text.specs.Open.{last_of, with_files, with_last}
use Rattle.volume_text.proofs.Lasts.{last_push}

-- the volume, by what is made of its last file
by_last : (volume : OpenVolume) (changed : NewFile → Result NewFile Cause) (others : List NewFile) (last : NewFile) → volume.files ≡ others ++ last ∷ []
    → with_last volume changed (last_of volume.files) ≡ (changed last >>= (λ file. Ok (with_files volume (others ++ file ∷ []))))
by_last volume changed others last is = ap (with_last volume changed) (ap last_of is ∙ last_push others last)

pub last_changed : (volume : OpenVolume) (changed : NewFile → Result NewFile Cause) (others : List NewFile) (last next : NewFile) (files : List NewFile)
    → volume.files ≡ others ++ last ∷ [] → changed last ≡ Ok next → files ≡ others ++ next ∷ [] → with_last volume changed (last_of volume.files) ≡ Ok (with_files volume files)
last_changed volume changed others last next files is made all =
    by_last volume changed others last is ∙ ap (λ (r : Result NewFile Cause). r >>= (λ file. Ok (with_files volume (others ++ file ∷ [])))) made ∙ ap (λ fs. Ok (with_files volume fs)) (sym all)

pub last_stops : (volume : OpenVolume) (changed : NewFile → Result NewFile Cause) (others : List NewFile) (last : NewFile) (why : Stop)
    → volume.files ≡ others ++ last ∷ [] → Stops why (changed last) → Stops why (with_last volume changed (last_of volume.files))
last_stops volume changed others last stop.Memory is stops = tt
last_stops volume changed others last (stop.Fault cause) is stops =
    by_last volume changed others last is ∙ ap (λ (r : Result NewFile Cause). r >>= (λ file. Ok (with_files volume (others ++ file ∷ [])))) stops
