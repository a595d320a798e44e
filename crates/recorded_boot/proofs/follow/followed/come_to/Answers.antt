use Rattle.std.proofs.{Common.sym, Common.◌∙◌, lemmas.Result.err_from_is_err_and}
use Rattle.recorded_boot.proofs.follow.followed.come_to.Goals as goal

pub cause_against-requires-clause-state : goal.cause_against-requires-clause-state
cause_against-requires-clause-state g c = c.requires.state

pub cause_against-requires-clause-names : goal.cause_against-requires-clause-names
cause_against-requires-clause-names g c = c.requires.names

pub returns-in-Some-end : goal.returns-in-Some-end
returns-in-Some-end g c = λ s state any. (c.in-Some-end.is, sym c.asked_behind.ensures ∙ c.in-None.is)

pub returns-in-None-end : goal.returns-in-None-end
returns-in-None-end g c = λ s state any. (c.in-None-end.is, sym c.asked_behind.ensures ∙ c.in-None.is)

pub returns-in_err-against : goal.returns-in_err-against
returns-in_err-against g c = λ s state any. rw (err_from_is_err_and c.from_residual.result c.from_residual.ensures.1).1 tt
