use Rattle.volume_text.proofs.Ending.{goes_on_said, ended_stops, ended_there, ended_not}
use Rattle.volume_text.proofs.step.script_ended.Goals as goal

pub script_body-written-requires : goal.script_body-written-requires
script_body-written-requires c = c.requires.said

pub returns-in-Ok-filling-clause-said : goal.returns-in-Ok-filling-clause-said
returns-in-Ok-filling-clause-said c = goes_on_said c.args.held.below _ c.in-Ok-filling.state c.in-Ok-filling.ensures

pub returns-in-Ok-filling-clause-ended : goal.returns-in-Ok-filling-clause-ended
returns-in-Ok-filling-clause-ended c =
    let h = c.args.held in
    ended_there h.below h.top h.script c.as_slice.result.now h.lines c.args.number c.in-Ok.body c.in-Ok-filling.state c.as_slice.ensures c.in-Ok.ensures c.in-Ok-filling.ensures

pub returns-in-Err-filling-clause-ended : goal.returns-in-Err-filling-clause-ended
returns-in-Err-filling-clause-ended c =
    let h = c.args.held in
    rw c.at.ensures
    (ended_not h.below h.top h.script c.as_slice.result.now h.lines c.args.number c.in-Ok.body c.in-Err-filling.stop c.as_slice.ensures c.in-Ok.ensures c.in-Err-filling.ensures)

pub returns-in-Err-clause-ended : goal.returns-in-Err-clause-ended
returns-in-Err-clause-ended c =
    let h = c.args.held in
    ended_stops h.below h.top h.script c.as_slice.result.now h.lines c.args.number c.in-Err.fault c.as_slice.ensures c.in-Err.ensures
