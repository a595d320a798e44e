use Rattle.std.proofs.Common.{◌≡◌, None, find, take}
use Rattle.pei_dispatch.specs.View.{awaits_at}
use Rattle.pei_dispatch.proofs.whose_turn.first_awaiting.Given as goal

-- none of the modules so far awaits its second start
abbrev pub invariant-parts : goal.invariant-parts
invariant-parts l = record { none : find (awaits_at l.fn.states) (take l.number-index l.fn.order) ≡ None }
