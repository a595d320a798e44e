use Rattle.std.proofs.Common.{◌≡◌, ◌+◌, ◌-◌, length, ap, ◌∙◌, arith, length-append}
use Rattle.fv_volume.specs.{Building.files_bytes, Front.front_len}
use Rattle.fv_volume.proofs.VolumesRead.{sound}
use Rattle.fv_volume.proofs.Written.{Front, front_written, files_fit, all_written}
use Rattle.fv_volume.proofs.build.volume.write.Goals as goal

pub put_files-requires-clause-short : goal.put_files-requires-clause-short
put_files-requires-clause-short c = (sound c.args.form.now.file_system (front_len c.args.form.now c.args.name) c.args.files.now c.args.len c.requires.sound).short

pub put_files-requires-clause-fits : goal.put_files-requires-clause-fits
put_files-requires-clause-fits c =
    let front : Front c.args.form.now c.args.name c.args.len c.put_name.new.out =
    front_written c.args.form.now c.args.name c.ext_at.result c.args.len c.new-volume.result c.put_volume_header.new.out c.put_name.new.out c.requires.header c.requires.placed
    c.requires.whole c.ext_at.ensures c.new-volume.ensures c.in_ok-put_volume_header.ensures c.in_ok-put_name.ensures in
    omega (arith, files_fit c.args.form.now c.args.name c.args.files.now c.args.len c.put_name.new.out front c.requires.sound, c.requires.most)

pub overflow_sub-left : goal.overflow_sub-left
overflow_sub-left c =
    let front : Front c.args.form.now c.args.name c.args.len c.put_name.new.out =
    front_written c.args.form.now c.args.name c.ext_at.result c.args.len c.new-volume.result c.put_volume_header.new.out c.put_name.new.out c.requires.header c.requires.placed
    c.requires.whole c.ext_at.ensures c.new-volume.ensures c.in_ok-put_volume_header.ensures c.in_ok-put_name.ensures in
    let files = files_bytes c.args.form.now.file_system (length c.put_name.new.out) c.args.files.now in
    let long : length c.put_files.new.out ≡ length c.put_name.new.out + length files = ap length c.in_ok-put_files.ensures ∙ length-append c.put_name.new.out files in
    omega (arith, long, c.len.ensures, files_fit c.args.form.now c.args.name c.args.files.now c.args.len c.put_name.new.out front c.requires.sound)

pub returns : goal.returns
returns c =
    let front : Front c.args.form.now c.args.name c.args.len c.put_name.new.out =
    front_written c.args.form.now c.args.name c.ext_at.result c.args.len c.new-volume.result c.put_volume_header.new.out c.put_name.new.out c.requires.header c.requires.placed
    c.requires.whole c.ext_at.ensures c.new-volume.ensures c.in_ok-put_volume_header.ensures c.in_ok-put_name.ensures in
    all_written c.args.form.now c.args.name c.args.files.now c.args.len _ c.put_name.new.out c.put_files.new.out c.fill.new.out front c.in_ok-put_files.ensures
    (ap (λ n. c.args.len - n) c.len.ensures) c.in_ok-fill.ensures
