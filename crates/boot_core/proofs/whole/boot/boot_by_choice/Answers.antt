use Rattle.std.proofs.Common.{Ok, sym, subst}
use Rattle.std.proofs.lemmas.Result.{err_from_is_err_and}
use Rattle.boot_model.specs.PeiRun.{pei_opening}
use Rattle.boot_laws.specs.declared.choice.Reached.TheVariants as R
use Rattle.boot_core.specs.declared.whole.boot.Booted.TheVariants as B
use Rattle.boot_core.specs.Choices.{choices_of}
use Rattle.boot_core.proofs.FreeBoots.{goes_freely}
use Rattle.boot_core.proofs.Giving.{freely, given_up_in_pei, known_from, knows_none}
use Rattle.boot_core.proofs.whole.boot.boot_by_choice.Goals as goal

pub watch_boot-requires-clause-opening : goal.watch_boot-requires-clause-opening
watch_boot-requires-clause-opening g c = c.requires.opening

pub returns-in-Barred-clause-row : goal.returns-in-Barred-clause-row
returns-in-Barred-clause-row g c = λ board here.
    let watched = rw c.in-Barred.is at (c.in_ok-ended.ensures.row board here) in
    record { by = watched.by; known = watched.known }

pub returns-in-Barred-clause-free : goal.returns-in-Barred-clause-free
returns-in-Barred-clause-free g c = λ board here.
    let T = g.S.Sink.text in
    let sink = c.args.sink.now in
    let choices = choices_of (record { rules = g.C.Choice.rules c.args.choice.now; text = T; faults = g.S.Sink.faults }) c.args.catalog.now c.args.fuel sink in
    let watched = rw c.in-Barred.is at (c.in_ok-ended.ensures.row board here) in
    goes_freely choices g.M.PeiStore.stands_for board c.args.catalog.now c.args.fuel (T sink) (T c.watch_boot.new.sink) (B.BarredInPei c.in-Barred.barred) (c.choices_are_free.ensures c.args.catalog.now c.args.fuel sink) watched.by

pub returns-in-Ended-clause-row : goal.returns-in-Ended-clause-row
returns-in-Ended-clause-row g c = λ board here.
    let watched = rw c.in-Ended.is at (c.in_ok-ended.ensures.row board here) in
    let pei = watched.by in
    let Known : g.row.P.Denot → Type 0 = λ watch. g.P.PeiWatch.knows_all watch c.args.catalog.now c.args.fuel pei.comes.earlier pei.«end» (R.End c.in-Ended.ended.«end») in
    known_from _ _ board c.args.sink.now c.args.sink.now c.go_on.result (c.go_on.ensures.row board c.args.sink.now pei (subst Known (sym c.go_on.ensures.kept) watched.known) c.in_ok-ended.ensures.faults)

pub returns-in-Ended-clause-free : goal.returns-in-Ended-clause-free
returns-in-Ended-clause-free g c = λ board here.
    let T = g.S.Sink.text in
    let F = g.S.Sink.faults in
    let sink = c.args.sink.now in
    let choices = choices_of (record { rules = g.C.Choice.rules c.args.choice.now; text = T; faults = F }) c.args.catalog.now c.args.fuel sink in
    let watched = rw c.in-Ended.is at (c.in_ok-ended.ensures.row board here) in
    let pei = watched.by in
    let Known : g.row.P.Denot → Type 0 = λ watch. g.P.PeiWatch.knows_all watch c.args.catalog.now c.args.fuel pei.comes.earlier pei.«end» (R.End c.in-Ended.ended.«end») in
    freely choices T F g.M.PeiStore.stands_for g.M.PeiStore.TAKES_MEMORY board c.args.catalog.now c.args.fuel sink c.go_on.new.sink c.go_on.result (c.choices_are_free.ensures c.args.catalog.now c.args.fuel sink)
    (c.go_on.ensures.row board sink pei (subst Known (sym c.go_on.ensures.kept) watched.known) c.in_ok-ended.ensures.faults).by

pub returns-in_err-ended-clause-row : goal.returns-in_err-ended-clause-row
returns-in_err-ended-clause-row g c = λ board here.
    let p = err_from_is_err_and c.from_residual.result c.from_residual.ensures.1 in
    knows_none _ _ board c.args.sink.now c.from_residual.result p.0 c.in_err-ended.field-0.0 p.1 p.2
    (given_up_in_pei _ g.S.Sink.text g.S.Sink.faults g.M.PeiStore.stands_for g.M.PeiStore.TAKES_MEMORY board c.args.catalog.now c.args.fuel c.args.sink.now c.watch_boot.new.sink c.in_err-ended.field-0.0
    (c.in_err-ended.ensures.row board here).by c.in_err-ended.ensures.memory)
