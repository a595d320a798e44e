use Rattle.std.proofs.Common.{[], List, ap, ◌∙◌}
use Rattle.act_code.specs.declared.action.Action.{Action}
use Rattle.pi_base.specs.{Guids.same_guid, Lists.firsts}
use Rattle.explain_text.specs.Gives.{named_in_all}
use Rattle.explain_text.proofs.Named.{none_met}
use Rattle.explain_text.proofs.catalog.gives.given_in.Goals as goal

pub returns : goal.returns
returns c =
    (c.in_ok-meet_all.ensures [] (none_met _ c.new.ensures c.new-2.ensures)).once
    ∙ ap (λ (blocks : List (List Action)). firsts same_guid (named_in_all blocks)) c.as_slice.ensures
