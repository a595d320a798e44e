use Rattle.std.proofs.Common.{refl, sym}
use Rattle.pei_core.proofs.{Opened.first_family, Opened.first_states, StartedSteps.opening_runs_started}
use Rattle.pei_core.proofs.pei.Pei.begin.Goals as goal

pub returns-clause-opening : goal.returns-clause-opening
returns-clause-opening g c board stand =
    let catalog = c.args.catalog.now in
    let states = c.in_ok-none_started.ensures in
    record {
      has = record {
        store = stand;
        fields = record {
          frames = sym c.new.ensures;
          sweep = refl;
          reported = first_family catalog c.new-reported.result c.add.new.self c.new-reported.ensures c.add.ensures.added;
          states = first_states board catalog c.in_ok-none_started.field-0 c.len.result states;
          actions = refl;
          starts = refl;
          running = refl;
        };
      };
      sound = c.opening_is_sound.ensures board catalog;
      started = opening_runs_started board catalog;
    }
