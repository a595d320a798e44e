use Rattle.std.proofs.Common.{sym, subst}
use Rattle.pi_base.specs.declared.phase.Phase.{Phase}
use Rattle.explain_text.specs.Context.{IsContext}
use Rattle.explain_text.proofs.held_lines.put_wait.Goals as goal

pub returns-in-Pei : goal.returns-in-Pei
returns-in-Pei c = λ begun modules are. c.put_held.ensures begun modules (subst (λ (phase : Phase). IsContext begun modules phase c.args.pei.now) (sym c.in-Pei.is) are.of_pei)

pub returns-in-Dxe : goal.returns-in-Dxe
returns-in-Dxe c = λ begun modules are. c.put_held-in-Dxe.ensures begun modules (subst (λ (phase : Phase). IsContext begun modules phase c.args.dxe.now) (sym c.in-Dxe.is) are.of_dxe)
