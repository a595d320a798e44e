use Rattle.std.proofs.Common.{refl}
use Rattle.boot_laws.specs.PeiAim.{with_cursor}
use Rattle.pei_dispatch.proofs.queue.PeiQueue.choose_from.Goals as goal

pub returns-clause-next : goal.returns-clause-next
returns-clause-next g c m is = c.choose-next.ensures.next (with_cursor m c.args.from) (record {
  shows = record {
    of_catalog = is.shows.of_catalog;
    phase = is.shows.phase;
    order = is.shows.order;
    waits = is.shows.waits;
    opens = is.shows.opens;
    allowed = is.shows.allowed;
    installed = is.shows.installed;
    within = is.shows.within;
  };
  place = refl;
  walked = is.walked;
})
