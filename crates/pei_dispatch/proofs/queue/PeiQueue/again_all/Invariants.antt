use Rattle.std.proofs.Common.{◌≡◌, take, ◌&&◌}
use Rattle.mod_catalog.specs.{Parts.has_number, declared.catalogue.Catalog.Catalog}
use Rattle.pei_dispatch.specs.Queue.{HaveStarted, Shows, owed_by, parts_in}
use Rattle.pei_dispatch.specs.View.{View, awaits_at, with_again}
use Rattle.pei_dispatch.proofs.queue.PeiQueue.again_all.Given as goal

-- those of the parts so far that await their second start may start again
abbrev pub invariant-parts : goal.invariant-parts
invariant-parts l = record {
  parts : parts_in l.self ≡ parts_in l.fn.self;
  shows : (catalog : Catalog) (view : View) → Shows catalog l.fn.self view → HaveStarted (awaits_at l.states) view
      → Shows catalog l.self (with_again (λ n. has_number (take l.place (parts_in l.fn.self)) n && awaits_at l.states n) view);
  cursor : l.self.cursor ≡ l.fn.self.cursor;
  walked : l.self.walked ≡ l.fn.self.walked;
  owed : owed_by l.self ≡ owed_by l.fn.self;
}
