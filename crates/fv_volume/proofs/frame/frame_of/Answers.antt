use Rattle.std.proofs.Common.{Some, None, Ok, Err, refl, ap, ◌∙◌, arith}
use Rattle.std.proofs.{lemmas.Bool.cond_below, lemmas.Result.err_from_is_err_and}
use Rattle.fv_volume.proofs.Frames.{framed, extended_room, framed_within}
use Rattle.fv_volume.proofs.frame.frame_of.Goals as goal

pub returns-then-bytes-lt-LEAST_HEADER_LEN-clause-frame : goal.returns-then-bytes-lt-LEAST_HEADER_LEN-clause-frame
returns-then-bytes-lt-LEAST_HEADER_LEN-clause-frame c = cond_below _ _ _ _ c.if-bytes-lt-LEAST_HEADER_LEN.true

pub returns-in-Some-clause-frame : goal.returns-in-Some-clause-frame
returns-in-Some-clause-frame c =
    framed c.args.bytes.now c.volume_header-header.result (Some c.in-Some.fault) _ _ c.if-bytes-lt-LEAST_HEADER_LEN.false c.volume_header-header.ensures c.in-Some.ensures.fault refl refl

pub extended_header-requires : goal.extended_header-requires
extended_header-requires c = c.in_default.ensures.sound.0

pub returns-in_err-extended-clause-frame : goal.returns-in_err-extended-clause-frame
returns-in_err-extended-clause-frame c =
    let p = err_from_is_err_and c.from_residual.result c.from_residual.ensures.1 in
    framed c.args.bytes.now c.volume_header-header.result None (Err c.in_err-extended.field-0.0) _ c.if-bytes-lt-LEAST_HEADER_LEN.false c.volume_header-header.ensures
    c.in_default.ensures.fault c.in_err-extended.ensures.header (p.1 ∙ ap Err p.2)

pub returns-in_err-extended-clause-within : goal.returns-in_err-extended-clause-within
returns-in_err-extended-clause-within c = let p = err_from_is_err_and c.from_residual.result c.from_residual.ensures.1 in rw p.1 tt

pub frame_with-requires-clause-header : goal.frame_with-requires-clause-header
frame_with-requires-clause-header c = omega (arith, c.in_default.ensures.sound)

pub frame_with-requires-clause-extended : goal.frame_with-requires-clause-extended
frame_with-requires-clause-extended c = extended_room _ _ _ c.in_ok-extended.ensures.within (omega (arith, c.in_default.ensures.sound))

pub returns-clause-frame : goal.returns-clause-frame
returns-clause-frame c =
    framed c.args.bytes.now c.volume_header-header.result None (Ok c.in_ok-extended.extended) _ c.if-bytes-lt-LEAST_HEADER_LEN.false c.volume_header-header.ensures
    c.in_default.ensures.fault c.in_ok-extended.ensures.header (ap Ok c.frame_with.ensures)

pub returns-clause-within : goal.returns-clause-within
returns-clause-within c =
    framed_within c.volume_header-header.result c.in_ok-extended.extended c.frame_with.result _ c.frame_with.ensures c.in_default.ensures.sound.0 c.in_default.ensures.sound.1
    c.in_ok-extended.ensures.within
