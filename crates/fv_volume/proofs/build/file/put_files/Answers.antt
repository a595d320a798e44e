use Rattle.std.proofs.Common.{◌≡◌, ◌+◌, ◌++◌, ◌∷◌, [], length, map, take, replicate, sym, ap, ◌∙◌, arith, length-append}
use Rattle.std.proofs.lemmas.List.{map-append}
use Rattle.fv_volume.specs.{Files.file_bytes, Building.files_bytes, Placing.gap, Placing.laid}
use Rattle.fv_volume.proofs.{Placings.appended, Sizes.take_one, Sizes.body_fits}
use Rattle.fv_volume.proofs.build.file.put_files.Goals as goal

pub put_file-requires-clause-fits : goal.put_file-requires-clause-fits
put_file-requires-clause-fits c =
    omega (arith, body_fits c.args.file_system c.args.files.now (length c.args.out.now) c.loop-file.file-index c.file-item.result c.loop-file-test.true c.file-item.is, c.requires.fits)

pub loop-file-preserved : goal.loop-file-preserved
loop-file-preserved c =
    let system = c.args.file_system in
    let file = c.file-item.result in
    let out = c.loop-file.out in
    let first = c.args.out.now in
    let from = length first in
    let before = take c.loop-file.file-index c.args.files.now in
    let here = files_bytes system from before in
    let place : c.len-end.result ≡ from + length here = omega (arith, ap length c.loop-file.invariant, length-append first here, c.len-end.ensures) in
    let filled : c.fill.new.out ≡ out ++ replicate (gap 8 c.len-end.result) 255 = c.in_ok-fill.ensures ∙ ap (λ n. out ++ replicate n 255) c.gap.ensures in
    appended 8 255 from c.len-end.result (map (file_bytes system) before) (file_bytes system file) first out c.fill.new.out
    c.put_file.new.out c.loop-file.invariant place filled c.in_ok-put_file.ensures
    ∙ ap (λ xs. first ++ laid 8 255 from xs) (sym (map-append (file_bytes system) before (file ∷ [])))
    ∙ ap (λ xs. first ++ files_bytes system from xs) (sym (take_one c.args.files.now c.loop-file.file-index file c.loop-file-test.true c.file-item.is))
