use Rattle.std.proofs.Common.{sym, subst}
use Rattle.mod_catalog.specs.{Lying.ArePlaced, Modules.RanksHold}
use Rattle.mod_catalog.proofs.PartFacts.{are_placed}
use Rattle.mod_catalog.proofs.modules.modules_of.Goals as goal

pub volume_ranks-requires-clause-placed : goal.volume_ranks-requires-clause-placed
volume_ranks-requires-clause-placed c =
    subst (ArePlaced c.args.bytes.now) (sym c.as_slice.ensures)
    (are_placed c.args.bytes.now c.args.files.now c.args.reads c.places.ensures.inside c.requires.inside c.requires.read)

pub made_modules-requires : goal.made_modules-requires
made_modules-requires c = are_placed c.args.bytes.now c.args.files.now c.args.reads c.places.ensures.inside c.requires.inside c.requires.read

pub returns : goal.returns
returns c =
    c.made_modules.ensures c.args.files.now (subst (λ reads. RanksHold c.args.bytes.now c.args.files.now reads c.in_ok-ranks.ranks) c.as_slice.ensures c.in_ok-ranks.ensures)
