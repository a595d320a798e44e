use Rattle.std.proofs.Common.{◌≡◌, Bool, true, false, ◌&&◌, ◌==◌, refl, sym, ◌∙◌}
use Rattle.pei_dispatch.specs.View.{awaits_again, is_number, is_number_by}
use Rattle.pei_dispatch.proofs.Views.{again_none, again_same}
use Rattle.pei_dispatch.proofs.queue.PeiQueue.again_by.Goals as goal

with_true : (a b : Bool) → b ≡ true → a ≡ (a && b)
with_true true true e = refl
with_true true false e = absurd (cc)
with_true false b e = refl

with_false : (a b : Bool) → b ≡ false → (a && b) ≡ false
with_false true b e = e
with_false false b e = refl

pub returns-then-awaits_again-clause-shows : goal.returns-then-awaits_again-clause-shows
returns-then-awaits_again-clause-shows c catalog view shows started =
    let awaits = sym c.awaits_again.ensures ∙ c.if-awaits_again.true in
    again_same catalog c.again.new.self view (is_number c.args.number) (is_number_by c.args.number c.args.state) (c.again.ensures.shows catalog view shows (started awaits))
    (λ n h. with_true (c.args.number == n) (awaits_again c.args.state) awaits)

pub returns-else-awaits_again-clause-shows : goal.returns-else-awaits_again-clause-shows
returns-else-awaits_again-clause-shows c catalog view shows started =
    again_none catalog c.args.self.now view (is_number_by c.args.number c.args.state) shows
    (λ n. with_false (c.args.number == n) (awaits_again c.args.state) (sym c.awaits_again.ensures ∙ c.if-awaits_again.false))
