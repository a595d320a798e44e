use Rattle.std.proofs.Common.{◌≡◌, ℕ, List, take}
use Rattle.boot_core.specs.Reading.{AreImages}
use Rattle.boot_core.proofs.plan_files.job.read_volumes.Given as goal

-- the images so far, and no fault was counted
abbrev pub invariant-volumes : goal.invariant-volumes
invariant-volumes g l = record {
  same : (other : List ℕ) → g.F.Files.told l.files other ≡ g.F.Files.told l.fn.files other;
  count : g.F.Files.faults l.files ≡ g.F.Files.faults l.fn.files;
  read : AreImages (g.F.Files.told l.fn.files) (take l.volume-index l.volumes) l.images;
}
