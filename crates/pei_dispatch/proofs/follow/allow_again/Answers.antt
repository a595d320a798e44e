use Rattle.std.proofs.Common.{◌≡◌, Bool, true, false, ◌||◌, refl, sym, ap, subst, ◌∙◌}
use Rattle.std.proofs.lemmas.Bool.Decides.{Decides-eqb}
use Rattle.pei_dispatch.specs.{Queue.Shows, View.with_again, Following.lets_at}
use Rattle.pei_dispatch.proofs.follow.allow_again.Goals as goal

or_nothing : (b : Bool) → b ≡ (b || false)
or_nothing true = refl
or_nothing false = refl

pub returns-in-Nobody-clause-shows : goal.returns-in-Nobody-clause-shows
returns-in-Nobody-clause-shows c catalog view shows started =
    let states = c.args.states.now in
    c.alike_views_are_shown.ensures catalog c.args.queue.now view (with_again (lets_at states c.args.again) view) shows
    (record { volumes = refl; starts = λ n. refl; allows = λ n h. or_nothing (view.again n) ∙ ap (λ again. view.again n || lets_at states again n) (sym c.in-Nobody.is); installs = λ guid. refl })

pub returns-in-One-clause-shows : goal.returns-in-One-clause-shows
returns-in-One-clause-shows c catalog view shows started =
    let states = c.args.states.now in
    let number = c.in-One.number in
    subst (λ again. Shows catalog c.again.new.self (with_again (lets_at states again) view)) (sym c.in-One.is)
    (c.again.ensures.shows catalog view shows (started number (ap (λ again. lets_at states again number) c.in-One.is ∙ (Decides-eqb number number).1 refl)))

pub returns-in-All-clause-shows : goal.returns-in-All-clause-shows
returns-in-All-clause-shows c catalog view shows started =
    let states = c.args.states.now in
    subst (λ again. Shows catalog c.again_all.new.self (with_again (lets_at states again) view)) (sym c.in-All.is)
    (c.again_all.ensures.shows catalog view shows (λ number here. started number (ap (λ again. lets_at states again number) c.in-All.is ∙ here)))
