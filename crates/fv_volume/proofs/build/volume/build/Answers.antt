use Rattle.std.proofs.Common.{subst, sym, ap, ◌∙◌, arith}
use Rattle.fv_volume.specs.{Building.fault_from, Reading.IsReadAs}
use Rattle.fv_volume.proofs.VolumesRead.{read_as}
use Rattle.fv_volume.proofs.build.volume.build.Goals as goal

pub returns-clause-read : goal.returns-clause-read
returns-clause-read c =
    subst (IsReadAs c.args.form.now c.args.name c.args.files.now c.args.len) (sym c.in_ok-volume.ensures)
    (read_as c.args.form.now c.args.name c.args.files.now c.args.len c.fits.ensures c.requires.header c.requires.placed c.is_whole.ensures (omega (arith, c.requires.most))
    (ap (λ n. fault_from c.args.form.now.file_system n c.args.files.now c.args.len) (sym c.front_len.ensures) ∙ c.in_ok-check.ensures.sound) c.have_whole_names.ensures)
