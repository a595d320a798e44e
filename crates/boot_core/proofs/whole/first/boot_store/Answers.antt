use Rattle.std.proofs.{Common.refl, Common.subst, lemmas.Result.err_from_is_err_and}
use Rattle.boot_core.specs.{declared.whole.boot.Booted.Booted, ByChoice.HasCome}
use Rattle.boot_core.proofs.FirstBoots.{NamesNone, first_choices, first_halts, first_ran, first_wants}
use Rattle.boot_core.proofs.whole.first.boot_store.Goals as goal

pub boot_by_choice-requires-clause-opening : goal.boot_by_choice-requires-clause-opening
boot_by_choice-requires-clause-opening g c = c.requires.opening

pub returns-clause-row : goal.returns-clause-row
returns-clause-row g c = λ board here.
    let T = g.S.Sink.text in
    let F = g.S.Sink.faults in
    let stands = g.M.PeiStore.stands_for in
    let catalog = c.args.catalog.now in
    let sink = c.args.sink.now in
    let shown = c.boot_by_choice.new.sink in
    let choices = first_choices T F catalog c.args.fuel sink in
    let own : NamesNone choices catalog c.args.fuel = record {
      peims = λ m named is. is.is;
      drivers = λ pei earlier m named is. is.is;
      pei_ends = c.pei_runs_end.ensures;
      dxe_ends = c.dxe_runs_end.ensures;
      numbered = c.requires.catalog.parents;
      counts = λ pei earlier. refl;
    } in
    let Comes : Booted g.row.M.Denot → Type 0 = λ x. HasCome choices stands board catalog c.args.fuel (T sink) (T shown) x in
    first_ran choices stands board catalog c.args.fuel (T sink) (T shown) c.in-Ended.ran own (subst Comes c.in-Ended.is (c.in_ok-ran.ensures.row board here).by)

pub returns-in_err-ran-clause-row : goal.returns-in_err-ran-clause-row
returns-in_err-ran-clause-row g c = λ board here.
    let T = g.S.Sink.text in
    let F = g.S.Sink.faults in
    let stands = g.M.PeiStore.stands_for in
    let catalog = c.args.catalog.now in
    let sink = c.args.sink.now in
    let shown = c.boot_by_choice.new.sink in
    let choices = first_choices T F catalog c.args.fuel sink in
    let own : NamesNone choices catalog c.args.fuel = record {
      peims = λ m named is. is.is;
      drivers = λ pei earlier m named is. is.is;
      pei_ends = c.pei_runs_end.ensures;
      dxe_ends = c.dxe_runs_end.ensures;
      numbered = c.requires.catalog.parents;
      counts = λ pei earlier. refl;
    } in
    let p = err_from_is_err_and c.from_residual.result c.from_residual.ensures.1 in
    rw p.1 (first_halts choices T F stands g.M.PeiStore.TAKES_MEMORY board catalog c.args.fuel sink shown c.in_err-ran.field-0.0 own (c.in_err-ran.ensures.row board here).by)

pub returns-in_err-ran-clause-memory : goal.returns-in_err-ran-clause-memory
returns-in_err-ran-clause-memory g c = λ board here.
    let T = g.S.Sink.text in
    let F = g.S.Sink.faults in
    let stands = g.M.PeiStore.stands_for in
    let catalog = c.args.catalog.now in
    let sink = c.args.sink.now in
    let shown = c.boot_by_choice.new.sink in
    let choices = first_choices T F catalog c.args.fuel sink in
    let own : NamesNone choices catalog c.args.fuel = record {
      peims = λ m named is. is.is;
      drivers = λ pei earlier m named is. is.is;
      pei_ends = c.pei_runs_end.ensures;
      dxe_ends = c.dxe_runs_end.ensures;
      numbered = c.requires.catalog.parents;
      counts = λ pei earlier. refl;
    } in
    let p = err_from_is_err_and c.from_residual.result c.from_residual.ensures.1 in
    rw (p.1, p.2) (first_wants choices T F stands g.M.PeiStore.TAKES_MEMORY board catalog c.args.fuel sink shown c.in_err-ran.field-0.0 own (c.in_err-ran.ensures.row board here).by)
