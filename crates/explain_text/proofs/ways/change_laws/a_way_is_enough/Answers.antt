use Rattle.explain_text.proofs.WayTruth.{is_enough}
use Rattle.explain_text.proofs.ways.change_laws.a_way_is_enough.Goals as goal

pub returns : goal.returns
returns c = is_enough
