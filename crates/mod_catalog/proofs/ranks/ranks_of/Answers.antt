use Rattle.mod_catalog.specs.APrioriNames.{guids_in}
use Rattle.mod_catalog.proofs.KeptNames.{held}
use Rattle.mod_catalog.proofs.ranks.ranks_of.Goals as goal

pub returns : goal.returns
returns c = record {
  bearers = c.in_ok-bearers.ensures;
  places = held c.args.phase c.args.files.now c.in_ok-bearers.bearers (guids_in c.args.list.now) _ c.in_ok-bearers.ensures c.in_ok-places.ensures.1;
}
