use Rattle.std.proofs.Common.{inl, inr, refl, sym, ap, ◌∙◌, subst, Err}
use Rattle.std.proofs.lemmas.Result.{err_from_is_err_and}
use Rattle.fv_volume.specs.{declared.volume.Volume.Volume, Search.IsListing, Search.IsSearchFault, Volume.IsVolume}
use Rattle.fv_volume.proofs.Standing.{volume_inside, volume_in_order}
use Rattle.fv_volume.proofs.volume.read_volume.Goals as goal

pub returns-in_err-frame : goal.returns-in_err-frame
returns-in_err-frame c =
    let p = err_from_is_err_and c.from_residual.result c.from_residual.ensures.1 in
    rw p.1 (record { found = tt; refused = λ _. inl (sym (ap Err p.2 ∙ c.in_err-frame.ensures.frame)); len = tt; inside = tt; in_order = tt })

pub returns-in_err-files : goal.returns-in_err-files
returns-in_err-files c =
    let frame = c.in_ok-frame.frame in
    let p = err_from_is_err_and c.from_residual-in_err-files.result c.from_residual-in_err-files.ensures.1 in
    let fault = c.in_err-files.field-0.0 in
    rw (p.1, p.2) (record {
      found = tt;
      refused = λ other. inr (frame, sym c.in_ok-frame.ensures.frame, subst (λ image. IsSearchFault image frame fault) c.part_of.ensures.here (c.in_err-files.ensures.refused other));
      len = tt;
      inside = tt;
      in_order = tt;
    })

pub returns : goal.returns
returns c =
    let bytes = c.args.bytes.now in
    let frame = c.in_ok-frame.frame in
    let volume : Volume = record { len = frame.len; name = frame.name; files = c.in_ok-files.files } in
    let listing = subst (λ image. IsListing image frame c.in_ok-files.files) c.part_of.ensures.here c.in_ok-files.ensures.found in
    let is : IsVolume bytes volume = (frame, sym c.in_ok-frame.ensures.frame, refl, refl, listing) in
    record { found = is; refused = tt; len = c.in_ok-frame.ensures.within.0; inside = volume_inside bytes volume is; in_order = volume_in_order bytes volume is }
