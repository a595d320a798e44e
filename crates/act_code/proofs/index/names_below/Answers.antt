use Rattle.std.proofs.Common.{◌≡◌, Bool, true, false, refl, eqb, arith, ◌&&◌, nat_lt}
use Rattle.std.proofs.lemmas.Bool.Decides.{nat_tests}
use Rattle.act_code.proofs.index.names_below.Goals as goal

and_true : (test : Bool) → test ≡ (test && true)
and_true true = refl
and_true false = refl

pub returns-then-kind-eq-PPI : goal.returns-then-kind-eq-PPI
returns-then-kind-eq-PPI c = rw (c.in-Desc.is, c.if-kind-eq-PPI.true)

pub returns-else-kind-eq-PPI : goal.returns-else-kind-eq-PPI
returns-else-kind-eq-PPI c =
    let other : eqb c.in-Desc.kind 0 ≡ false = grind (arith, nat_tests, c.if-kind-eq-PPI.false) in
    rw (c.in-Desc.is, other, c.from.ensures) (and_true (nat_lt c.in-Desc.arg c.args.count))

pub returns-in-DxeNotify : goal.returns-in-DxeNotify
returns-in-DxeNotify c = rw (c.in-DxeNotify.is, c.from-in-DxeNotify.ensures) (and_true (nat_lt c.in-DxeNotify.block c.args.count))
