use Rattle.std.proofs.Common.{refl, sym, ◌∙◌, arith, ◌≡◌, ◌+◌, ◌-◌, length, None, false}
use Rattle.pi_base.specs.declared.phase.Phase.TheVariants.{Pei}
use Rattle.depex_code.specs.Reading.{instruction_at}
use Rattle.depex_code.proofs.Outcomes.{tree_is, nothing_is}
use Rattle.depex_code.proofs.reading.read_depex.Goals as goal

pub returns-in-Pei-clause-refused : goal.returns-in-Pei-clause-refused
returns-in-Pei-clause-refused c =
    rw c.in-Pei.is ((tree_is Pei false c.args.bytes.now c.args.bytes.now c.tree_depex.result refl refl (λ x more e. tt) c.tree_depex.ensures).1)

pub returns-in-None-clause-refused : goal.returns-in-None-clause-refused
returns-in-None-clause-refused c =
    let here : 0 + (length c.args.bytes.now - length c.args.bytes.now) ≡ 0 = omega arith in
    let none : instruction_at c.args.bytes.now ≡ None = sym c.instruction_at.ensures ∙ rw c.in-None.is refl in
    rw (c.malformed.ensures, c.in-Dxe.is, here) (nothing_is c.args.bytes.now none)
