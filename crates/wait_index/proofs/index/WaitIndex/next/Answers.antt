use Rattle.std.proofs.Common.{◌∙◌, ◌&&◌, ◌||◌, ap, subst}
use Rattle.mod_catalog.specs.Parts.{part_at}
use Rattle.boot_model.specs.PeiChoice.{rotated}
use Rattle.wait_index.specs.Index.{is_eligible_in, order_in, again_in, waits_in, is_open_in}
use Rattle.wait_index.specs.{Installed.is_there, PlaceFlags.either, PlaceFlags.IsFirst, Places.is_due, Verdict.verdict_of}
use Rattle.wait_index.proofs.Choice.{find_same, marks_due, next_behind, next_in_front}
use Rattle.wait_index.proofs.index.WaitIndex.next.Goals as goal

pub returns-in-Some : goal.returns-in-Some
returns-in-Some c catalog is =
    let index = c.args.self.now in
    let places = index.places in
    let all = c.has_all-all.result in
    let judge = verdict_of index.phase catalog (is_there index.installed) in
    let marked = either all places.ready places.later in
    let marks = marks_due places all judge index.in_order c.requires.settled is.judged in
    next_behind (order_in index) marked (is_due all judge places) c.args.cursor c.in-Some.place marks (subst (IsFirst marked c.args.cursor) c.in-Some.is c.first_of_two.ensures)
    ∙ find_same (is_due all judge places) (is_eligible_in catalog index) (rotated c.args.cursor (order_in index)) (λ number.
    ap (λ b. again_in index number || (waits_in index number && is_open_in index number && b)) (c.has_all-all.ensures catalog is (part_at index.phase catalog number)))

pub returns-in-None : goal.returns-in-None
returns-in-None c catalog is =
    let index = c.args.self.now in
    let places = index.places in
    let all = c.has_all-all.result in
    let judge = verdict_of index.phase catalog (is_there index.installed) in
    let marked = either all places.ready places.later in
    let marks = marks_due places all judge index.in_order c.requires.settled is.judged in
    next_in_front (order_in index) marked (is_due all judge places) c.args.cursor c.first_of_two-in-None.result marks
    (subst (IsFirst marked c.args.cursor) c.in-None.is c.first_of_two.ensures) c.first_of_two-in-None.ensures
    ∙ find_same (is_due all judge places) (is_eligible_in catalog index) (rotated c.args.cursor (order_in index)) (λ number.
    ap (λ b. again_in index number || (waits_in index number && is_open_in index number && b)) (c.has_all-all.ensures catalog is (part_at index.phase catalog number)))
