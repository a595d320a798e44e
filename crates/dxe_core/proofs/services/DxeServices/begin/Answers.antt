use Rattle.std.proofs.Common.{sym, subst, ap, ◌∙◌, [], length, false, arith}
use Rattle.std.proofs.lemmas.List.{length-replicate}
use Rattle.dxe_core.specs.Services.{AreFlags}
use Rattle.dxe_core.proofs.Flags.{flags_down}
use Rattle.dxe_core.proofs.services.DxeServices.begin.Goals as goal

pub returns-clause-opening : goal.returns-clause-opening
returns-clause-opening c = λ s actions. record {
  handles = sym c.new.ensures;
  notes = sym c.new-2.ensures;
  order = c.in_ok-order.ensures;
  requested = subst (λ flags. AreFlags [] flags) (sym c.in_ok-requested.ensures) (flags_down c.len.result);
}

pub returns-clause-made : goal.returns-clause-made
returns-clause-made c = ap length c.in_ok-requested.ensures ∙ length-replicate c.len.result false ∙ c.len.ensures

pub returns-clause-counted : goal.returns-clause-counted
returns-clause-counted c = record {
  made = rw c.new.ensures (omega arith);
  interfaces = rw c.new.ensures (omega arith);
  notes = rw c.new-2.ensures (omega arith);
}
