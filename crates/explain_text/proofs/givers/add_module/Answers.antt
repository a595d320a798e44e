use Rattle.std.proofs.Common.{sym, ◌∙◌, subst, List}
use Rattle.pi_base.specs.declared.guid.Guid.{Guid}
use Rattle.explain_text.specs.Givers.{AddsNames}
use Rattle.explain_text.proofs.Chains.{module_with, module_without}
use Rattle.explain_text.proofs.givers.add_module.Goals as goal

pub returns-in_default : goal.returns-in_default
returns-in_default c = module_without c.args.phase c.args.number c.args.member.now c.args.givers.now (sym c.part_of.ensures ∙ c.in_default.is)

pub returns : goal.returns
returns c =
    module_with c.args.phase c.args.number c.args.member.now c.in-Some.part c.args.givers.now _ (sym c.part_of.ensures ∙ c.in-Some.is)
    (subst (λ (guids : List Guid). AddsNames c.args.number guids c.args.givers.now c.add_names.new.givers) (c.as_slice.ensures ∙ c.in_ok-guids.ensures) c.in_ok-add_names.ensures)
