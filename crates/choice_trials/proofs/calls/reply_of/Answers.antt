use Rattle.store_plain.specs.PlainState.{stands_for}
use Rattle.choice_trials.proofs.Serving.{served}
use Rattle.choice_trials.proofs.calls.reply_of.Goals as goal

pub returns-in-Ok : goal.returns-in-Ok
returns-in-Ok c = served stands_for c.args.store.now _ _ _ _ _ _ c.requires.state c.requires.served c.in-Ok.ensures.row c.in-Ok.ensures.made
