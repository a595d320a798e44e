use Rattle.std.proofs.Common.{◌++◌, List, Option, OnOk, subst, sym, option_to_list, append-nil}
use Rattle.pi_base.specs.declared.guid.Guid.{Guid}
use Rattle.explain_text.specs.Gives.{AreMet}
use Rattle.explain_text.proofs.catalog.gives.meet_action.Goals as goal

pub returns-in-Some : goal.returns-in-Some
returns-in-Some c =
    subst (λ (named : Option Guid). OnOk c.meet.result ((before : List Guid) → AreMet before c.args.met.now → AreMet (before ++ option_to_list named) c.meet.new.met))
    c.in-Some.ensures c.meet.ensures

pub returns-in-None : goal.returns-in-None
returns-in-None c = λ before are.
    subst (λ (named : Option Guid). AreMet (before ++ option_to_list named) c.args.met.now) c.in-None.ensures (subst (λ list. AreMet list c.args.met.now) (sym (append-nil before)) are)
