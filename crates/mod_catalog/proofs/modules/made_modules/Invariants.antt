use Rattle.std.proofs.Common.{◌≡◌, ◌++◌, List}
use Rattle.std.specs.Vec.Iter.{into_iter_items}
use Rattle.fv_volume.specs.declared.file.FfsFile.{FfsFile}
use Rattle.mod_catalog.specs.Modules.{AreModules, RanksHold}
use Rattle.mod_catalog.proofs.modules.made_modules.Given as goal

-- the modules of the files so far
abbrev pub invariant-reads : goal.invariant-reads
invariant-reads l = record {
  split : l.fn.reads ≡ l.yielded ++ into_iter_items l.read-iterator;
  modules : (files : List FfsFile) → RanksHold l.bytes files l.fn.reads l.ranks → AreModules l.bytes files l.fn.reads l.number l.yielded l.modules;
}
