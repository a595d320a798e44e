use Rattle.std.proofs.Common.{take, subst, sym}
use Rattle.std.proofs.lemmas.List.{take_more}
use Rattle.explain_text.specs.Givers.{AddsNames}
use Rattle.explain_text.proofs.Chains.{no_names, names_more}
use Rattle.explain_text.proofs.givers.add_names.Goals as goal

pub guids-init : goal.guids-init
guids-init c = no_names c.args.number c.args.givers.now

pub guids-preserved : goal.guids-preserved
guids-preserved c =
    let list = c.args.guids.now in
    let i = c.guids.guid-index in
    subst (λ guids. AddsNames c.args.number guids c.args.givers.now c.add_name.new.givers) (sym (take_more list i _ c.guids-test.true))
    (names_more c.args.number (take i list) _ c.args.givers.now c.guids.givers c.add_name.new.givers c.guids.invariant c.in_ok-add_name.ensures)
