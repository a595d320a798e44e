use Rattle.fv_volume.proofs.{Outcomes.on_ok, Headers.sealed}
use Rattle.fv_volume.proofs.build.volume_header.put_volume_header.Goals as goal

pub returns : goal.returns
returns c =
    on_ok c.fill.result _ _
    (sealed c.args.head.now c.checksum16-checksum.result _ _ c.args.out.now c.append.new.self c.fill.new.out c.from.result c.checksum16-checksum.type_inv
    c.checksum16-checksum.ensures c.header_front.ensures c.header_front-2.ensures c.in_ok-append.ensures.ok c.from.ensures)
    c.fill.ensures
