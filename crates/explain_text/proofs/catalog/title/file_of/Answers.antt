use Rattle.std.proofs.Common.{arith}
use Rattle.explain_text.proofs.FileBytes.{found_file, lost_file, no_volume}
use Rattle.explain_text.proofs.catalog.title.file_of.Goals as goal

pub returns-in_default : goal.returns-in_default
returns-in_default c = no_volume c.args.volumes.now c.args.images.now c.args.member.now c.in_default.ensures.lookup.3

pub returns-in-Some-get : goal.returns-in-Some-get
returns-in-Some-get c =
    let entry = c.in-Some.entry.now in
    let read = c.in-Some.ensures.lookup.3 in
    found_file c.args.volumes.now c.args.images.now c.args.member.now entry c.mapped_from-volume.result.now c.in-Some-get.file.now read.0 (read.1 entry) c.mapped_from-volume.ensures c.in-Some-get.ensures.lookup.0.2

pub returns-in-None : goal.returns-in-None
returns-in-None c =
    let entry = c.in-Some.entry.now in
    let read = c.in-Some.ensures.lookup.3 in
    let bytes = c.mapped_from-volume.result.now in
    lost_file c.args.volumes.now c.args.images.now c.args.member.now entry bytes read.0 (read.1 entry) c.mapped_from-volume.ensures (omega (arith, c.in-None.ensures.lookup.0))
