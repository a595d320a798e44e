use Rattle.explain_text.proofs.WayOnce.{each_once}
use Rattle.explain_text.proofs.ways.change_laws.each_guid_once.Goals as goal

pub returns : goal.returns
returns c = each_once
