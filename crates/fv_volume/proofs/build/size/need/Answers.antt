use Rattle.std.proofs.Common.{◌≡◌, ◌+◌, length, take, sym, ap, ◌∙◌, arith, min}
use Rattle.fv_volume.specs.Files.{bytes_in, file_size, file_bytes}
use Rattle.fv_volume.specs.{Placing.gap, Building.need}
use Rattle.fv_volume.proofs.Sizes.{saturated, take_one, size_of, length-file_with, length-files_more}
use Rattle.fv_volume.proofs.build.size.need.Goals as goal

pub loop-file-preserved : goal.loop-file-preserved
loop-file-preserved c =
    let system = c.args.file_system in
    let file = c.file-item.result in
    let before = take c.loop-file.file-index c.args.files.now in
    let more = ap (need system c.args.from) (take_one c.args.files.now c.loop-file.file-index file c.loop-file-test.true c.file-item.is) ∙ length-files_more system c.args.from before file in
    let place : c.saturating_add.result ≡ min (c.loop-file.end + gap 8 c.loop-file.end) 18446744073709551615 = c.saturating_add.ensures ∙ ap (λ n. min (c.loop-file.end + n) 18446744073709551615) c.gap.ensures in
    let body = bytes_in system file.body in
    let len : c.body_len-body_len.result ≡ min (length body) 18446744073709551615 = c.body_len-body_len.ensures in
    let size : c.file_size.result ≡ min (length (file_bytes system file)) 18446744073709551615 =
    c.file_size.ensures ∙ ap (λ n. min (file_size system n) 18446744073709551615) len ∙ size_of system (length body) 18446744073709551615 (omega arith)
    ∙ ap (λ n. min n 18446744073709551615) (sym (length-file_with system file body c.has_sixteen.ensures)) in
    saturated 18446744073709551615 (need system c.args.from before) c.loop-file.end (gap 8) c.saturating_add.result c.file_size.result
    (length (file_bytes system file)) c.saturating_add-end.result c.loop-file.invariant place size c.saturating_add-end.ensures
    ∙ ap (λ n. min n 18446744073709551615) (sym more)
