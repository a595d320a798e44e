use Rattle.volume_text.proofs.Lasts.{last_parts}
use Rattle.volume_text.proofs.volume.last_file.Goals as goal

pub returns-in-len1-up : goal.returns-in-len1-up
returns-in-len1-up c = last_parts c.args.files.now c.last-item.result c.in-len1-up.len_at_least c.last-item.is
