use Rattle.std.proofs.Common.{ap, ◌∙◌, replicate}
use Rattle.std.proofs.Math.ListN.{set}
use borrow.Rule.Slice.PartMut.{put_mid}
use Rattle.pi_base.specs.Field.{little_bytes}
use Rattle.fv_volume.specs.Header.{attributes_of}
use Rattle.fv_volume.proofs.Headers.{written, header_written}
use Rattle.fv_volume.proofs.build.volume_header.header_front.Goals as goal

pub returns : goal.returns
returns c =
    let head = c.args.head.now in
    let guid = c.copy_from_slice.ensures.after ∙ c.file_system_guid-guid.ensures in
    c.put_u32-4.ensures
    ∙ ap (written 60 (little_bytes 4 head.len)) (c.put_u32-3.ensures
    ∙ ap (λ h. written 56 (little_bytes 4 1) (set h 55 2)) (c.put_u16-3.ensures
    ∙ ap (written 52 (little_bytes 2 head.ext_header_at)) (c.put_u16-2.ensures
    ∙ ap (written 50 (little_bytes 2 c.args.checksum)) (c.put_u16.ensures
    ∙ ap (written 48 (little_bytes 2 head.form.header_len)) (c.put_u32-2.ensures
    ∙ ap (written 44 (little_bytes 4 (attributes_of head.form))) (c.put_u32.ensures
    ∙ ap (written 40 (little_bytes 4 0x4856465f)) (c.put_u64.ensures
    ∙ ap (λ g. written 32 (little_bytes 8 head.len) (put_mid 16 16 (replicate 64 0) g)) guid)))))))
    ∙ header_written head c.args.checksum
