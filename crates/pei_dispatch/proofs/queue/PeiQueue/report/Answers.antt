use Rattle.std.proofs.Common.{arith, ◌≡◌, ◌+◌, ℕ, List, [], ◌∷◌, ◌++◌, get_or, take, length, ap, subst, sym, ◌∙◌, refl, append-nil, length-append}
use Rattle.std.proofs.lemmas.List.{take_more}
use Rattle.boot_model.specs.PeiChoice.{pei_order, volume_order}
use Rattle.pei_dispatch.specs.{Queue.Shows, View.with_volumes}
use Rattle.pei_dispatch.proofs.{Differing.next_differs, Room.order_more, Views.shows_alike, Views.volumes_more}
use Rattle.pei_dispatch.proofs.queue.PeiQueue.report.Goals as goal

pub volumes-init : goal.volumes-init
volumes-init c = record {
  shows = λ view shows are_new. shows_alike c.args.catalog.now c.args.self.now view (with_volumes [] view) shows (sym (append-nil view.reported)) (λ n. refl) (λ n h. refl) (λ guid. refl);
  cursor = refl;
  walked = refl;
  owed = omega arith;
}

pub report_one-requires-clause-new : goal.report_one-requires-clause-new
report_one-requires-clause-new c =
    let view = c.requires.new.0 in
    let volumes = c.args.volumes.now in
    let i = c.volumes.volume-index in
    (with_volumes (take i volumes) view, c.volumes.invariant.shows view c.requires.new.1 c.requires.new.2, next_differs view.reported volumes i c.volumes-test.true c.requires.new.2)

pub volumes-preserved : goal.volumes-preserved
volumes-preserved c =
    let volumes = c.args.volumes.now in
    let catalog = c.args.catalog.now in
    let i = c.volumes.volume-index in
    let next = get_or volumes i 0 in
    let more : take (i + 1) volumes ≡ take i volumes ++ next ∷ [] = take_more volumes i 0 c.volumes-test.true in
    record {
      shows = λ view shows are_new.
          let front = with_volumes (take i volumes) view in
          subst (λ (xs : List ℕ). Shows catalog c.report_one.new.self (with_volumes xs view)) (sym more)
          (volumes_more catalog c.report_one.new.self view (take i volumes) next
          (c.report_one.ensures.shows front (c.volumes.invariant.shows view shows are_new) (next_differs view.reported volumes i c.volumes-test.true are_new)));
      cursor = c.report_one.ensures.cursor ∙ c.volumes.invariant.cursor;
      walked = c.report_one.ensures.walked ∙ c.volumes.invariant.walked;
      owed =
          let order : pei_order catalog (take (i + 1) volumes) ≡ pei_order catalog (take i volumes) ++ volume_order catalog next = ap (pei_order catalog) more ∙ order_more (volume_order catalog) (take i volumes) next in
          let long : length (pei_order catalog (take (i + 1) volumes)) ≡ length (pei_order catalog (take i volumes)) + length (volume_order catalog next) =
          ap length order ∙ length-append (pei_order catalog (take i volumes)) (volume_order catalog next) in
          omega (arith, long, c.report_one.ensures.owed, c.volumes.invariant.owed);
    }
