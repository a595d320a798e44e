use Rattle.std.proofs.{Common.◌≤◌, Common.arith, lemmas.Bool.Decides.nat_tests}
use Rattle.pei_heap.proofs.Matches.{no_pairs}
use Rattle.pei_heap.proofs.links.sweep.has_ended.Goals as goal

pub returns-then-sweep-2 : goal.returns-then-sweep-2
returns-then-sweep-2 c e =
    let le : c.args.sweep.now.note_to ≤ c.args.sweep.now.note_from = grind (arith, nat_tests, e) in
    no_pairs c.args.sweep.now c.if-sweep-2.true le
