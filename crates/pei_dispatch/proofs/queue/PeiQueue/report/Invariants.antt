use Rattle.std.proofs.Common.{◌≡◌, ◌≤◌, ◌+◌, take, length}
use Rattle.boot_model.specs.PeiChoice.{pei_order}
use Rattle.pei_dispatch.specs.Queue.{AreNew, Shows, owed_by}
use Rattle.pei_dispatch.specs.View.{View, with_volumes}
use Rattle.pei_dispatch.proofs.queue.PeiQueue.report.Given as goal

-- the volumes so far are reported
abbrev pub invariant-volumes : goal.invariant-volumes
invariant-volumes l = record {
  shows : (view : View) → Shows l.catalog l.fn.self view → AreNew l.volumes view → Shows l.catalog l.self (with_volumes (take l.volume-index l.volumes) view);
  cursor : l.self.cursor ≡ l.fn.self.cursor;
  walked : l.self.walked ≡ l.fn.self.walked;
  owed : owed_by l.self ≤ owed_by l.fn.self + length (pei_order l.catalog (take l.volume-index l.volumes));
}
