use Rattle.std.proofs.Common.{◌≤◌, length, drop}
use Rattle.mod_catalog.specs.Ranks.{AreBearers}
use Rattle.mod_catalog.proofs.ranks.bearers_of.Given as goal

-- the names of the files from here on
abbrev pub invariant-files : goal.invariant-files
invariant-files l = record {
  bearers : AreBearers l.phase l.index (drop l.index l.files) l.bearers;
  within : l.index ≤ length l.files;
}

abbrev pub decreases-files : goal.decreases-files
decreases-files l = l.index
