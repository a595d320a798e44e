use Rattle.std.proofs.Common.{inr}
use Rattle.gcd_map.proofs.Following.{match_map}
use Rattle.gcd_map.proofs.fill.fill.Goals as goal

pub returns-in-Ok : goal.returns-in-Ok
returns-in-Ok c = λ space shows.
    let first = c.in-Ok.ensures space shows in
    match_map c.take_allocations.result _ _ _ _ (λ x h. (h.0, record { middle = first.0; added = first.1; allocated = h.1 }, h.2))
    (λ fault h other. inr (first.0, first.1, h other)) (c.take_allocations.ensures first.0 first.2)
