use Rattle.std.proofs.Common.{true, false}
use Rattle.boot_model.specs.PeiStep.{started}
use Rattle.pei_dispatch.specs.{View.view_of, Choices.LetsPeims}
use Rattle.boot_laws.specs.PeiAim.{with_cursor}
use Rattle.pei_dispatch.proofs.Chosen.{aimed_idle, aimed_now, lets_by}
use Rattle.boot_reasons.specs.Unseen.{NamesUnseen}
use Rattle.boot_reasons.proofs.PeiSteps.{Laws, barred_on, chose_unseen, start_on, stop_on}
use Rattle.boot_reasons.proofs.pei_turn.start_or_stop.Goals as goal

pub start_told-requires-clause-made : goal.start_told-requires-clause-made
start_told-requires-clause-made g c = c.requires.made

pub aim-requires : goal.aim-requires
aim-requires g c = (c.args.catalog.now, view_of c.requires.state.0, (c.before_start-before.ensures.kept c.requires.state.0 c.requires.state.1).parts.shows)

pub choose-requires-clause-state : goal.choose-requires-clause-state
choose-requires-clause-state g c =
    let m = c.requires.state.0 in
    let new = c.aim.new.queue in
    (with_cursor m new.cursor, aimed_now g.M.PeiStore.stands_for c.args.catalog.now c.args.pei.now c.before_start-before.new.queue new m (c.before_start-before.ensures.kept m c.requires.state.1) (c.aim.ensures.shows c.args.catalog.now (view_of m)) c.aim.ensures.within c.aim.ensures.walked)

pub start_told-requires-clause-state : goal.start_told-requires-clause-state
start_told-requires-clause-state g c =
    let m = c.requires.state.0 in
    let new = c.aim.new.queue in
    let aimed = with_cursor m new.cursor in
    let now = aimed_now g.M.PeiStore.stands_for c.args.catalog.now c.args.pei.now c.before_start-before.new.queue new m (c.before_start-before.ensures.kept m c.requires.state.1) (c.aim.ensures.shows c.args.catalog.now (view_of m)) c.aim.ensures.within c.aim.ensures.walked in
    (aimed, record { now = c.in-Some.ensures.kept aimed now; idle = aimed_idle m new.cursor c.requires.state.2; peim = c.in-Some.ensures.next aimed now })

pub stop_pei-requires : goal.stop_pei-requires
stop_pei-requires g c =
    let m = c.requires.state.0 in
    let new = c.aim.new.queue in
    let aimed = with_cursor m new.cursor in
    let now = aimed_now g.M.PeiStore.stands_for c.args.catalog.now c.args.pei.now c.before_start-before.new.queue new m (c.before_start-before.ensures.kept m c.requires.state.1) (c.aim.ensures.shows c.args.catalog.now (view_of m)) c.aim.ensures.within c.aim.ensures.walked in
    record { state = (aimed, c.in-None.ensures.kept aimed now) }

pub returns-then-not-lets_peim-clause-row : goal.returns-then-not-lets_peim-clause-row
returns-then-not-lets_peim-clause-row g c board fuel earlier m made at idle =
    let catalog = c.args.catalog.now in
    let rules = g.C.Choice.rules c.args.choice.now in
    let kept = c.before_start-before.ensures.kept m at.now in
    let new = c.aim.new.queue in
    let aimed = with_cursor m new.cursor in
    let now = aimed_now g.M.PeiStore.stands_for catalog c.args.pei.now c.before_start-before.new.queue new m kept (c.aim.ensures.shows catalog (view_of m)) c.aim.ensures.within c.aim.ensures.walked in
    let told = c.before_start-before.ensures.told m at.now in
    let chose = chose_unseen rules catalog m c.before_start-before.new.queue new c.before_start-before.result c.peim.result c.cursor_aims.ensures.aims idle at.way kept.parts told c.peim.ensures c.aim.ensures.place in
    let never = lets_by rules catalog m c.before_start-before.result c.in-Some.number c.lets_peim.result false told c.lets_peim.ensures c.if-not-lets_peim.true in
    barred_on (NamesUnseen rules catalog) (LetsPeims rules catalog) g.M.PeiStore.stands_for board catalog fuel earlier m new.cursor c.in-Some.number c.args.pei.now c.args.queue.now c.args.told.now at chose (c.in-Some.ensures.next aimed now) never

pub returns-in_ok-start_told-in-Some-clause-row : goal.returns-in_ok-start_told-in-Some-clause-row
returns-in_ok-start_told-in-Some-clause-row g c board fuel earlier m made at idle =
    let catalog = c.args.catalog.now in
    let rules = g.C.Choice.rules c.args.choice.now in
    let kept = c.before_start-before.ensures.kept m at.now in
    let new = c.aim.new.queue in
    let aimed = with_cursor m new.cursor in
    let now = aimed_now g.M.PeiStore.stands_for catalog c.args.pei.now c.before_start-before.new.queue new m kept (c.aim.ensures.shows catalog (view_of m)) c.aim.ensures.within c.aim.ensures.walked in
    let told = c.before_start-before.ensures.told m at.now in
    let chose = chose_unseen rules catalog m c.before_start-before.new.queue new c.before_start-before.result c.peim.result c.cursor_aims.ensures.aims idle at.way kept.parts told c.peim.ensures c.aim.ensures.place in
    let passes = lets_by rules catalog m c.before_start-before.result c.in-Some.number c.lets_peim.result true told c.lets_peim.ensures c.if-not-lets_peim.false in
    let next = c.in-Some.ensures.next aimed now in
    let row = c.in_ok-start_told-in-Some.ensures.row aimed (record { now = c.in-Some.ensures.kept aimed now; idle = aimed_idle m new.cursor idle; peim = next }) in
    let laws : Laws = record { aims = c.cursor_aims.ensures.aims; own = c.pei_starts_freely.ensures.own; nearer = c.pei_opens.ensures.nearer } in
    (started catalog m c.in-Some.number, start_on laws (NamesUnseen rules catalog) (LetsPeims rules catalog) g.M.PeiStore.stands_for board catalog fuel earlier m new.cursor c.in-Some.number c.args.pei.now c.start_told.new.pei c.args.queue.now c.start_told.new.queue c.args.told.now c.start_told.new.told at chose next passes row)

pub returns-in-Ok-clause-row : goal.returns-in-Ok-clause-row
returns-in-Ok-clause-row g c board fuel earlier m made at idle =
    let catalog = c.args.catalog.now in
    let rules = g.C.Choice.rules c.args.choice.now in
    let kept = c.before_start-before.ensures.kept m at.now in
    let new = c.aim.new.queue in
    let aimed = with_cursor m new.cursor in
    let now = aimed_now g.M.PeiStore.stands_for catalog c.args.pei.now c.before_start-before.new.queue new m kept (c.aim.ensures.shows catalog (view_of m)) c.aim.ensures.within c.aim.ensures.walked in
    let told = c.before_start-before.ensures.told m at.now in
    let chose = chose_unseen rules catalog m c.before_start-before.new.queue new c.before_start-before.result c.peim.result c.cursor_aims.ensures.aims idle at.way kept.parts told c.peim.ensures c.aim.ensures.place in
    stop_on (NamesUnseen rules catalog) (LetsPeims rules catalog) g.M.PeiStore.stands_for board catalog fuel earlier m new.cursor c.args.pei.now c.args.pei.now c.args.queue.now c.choose.new.queue c.args.told.now c.in-Ok.end _ at chose
    (c.in-None.ensures.next aimed now) (c.in-Ok.ensures.row aimed (c.in-None.ensures.kept aimed now))
