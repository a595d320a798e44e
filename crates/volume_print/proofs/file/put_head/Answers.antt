use Rattle.fv_volume.proofs.Outcomes.{on_ok}
use Rattle.volume_print.proofs.Putting.{six}
use Rattle.volume_print.proofs.file.put_head.Goals as goal

pub returns : goal.returns
returns c =
    on_ok c.append-3.result _ _
    (λ last. six c.args.out.now c.append.new.self c.put_type.new.out c.append-2.new.self c.put_guid.new.out c.put_attributes.new.out c.append-3.new.self _ _ _ _ _ _
    c.in_ok-append.ensures.ok c.in_ok-put_type.ensures c.in_ok-append-2.ensures.ok c.in_ok-put_guid.ensures c.in_ok-put_attributes.ensures last)
    c.append-3.ensures.ok
