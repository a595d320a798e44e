use Rattle.source_words.specs.Words.{words}
use Rattle.source_words.proofs.WordSources.{operands_found, operands_fail}
use Rattle.source_words.proofs.script.action.operands.Goals as goal

pub returns-in-Ok : goal.returns-in-Ok
returns-in-Ok c = rw (operands_found c.args.code (words c.args.text.now) (c.in-Ok.action, (c.in-Ok.rest.code, words c.in-Ok.rest.text.now)) c.in-Ok.ensures) c.ended.ensures

pub returns-in-Err : goal.returns-in-Err
returns-in-Err c = operands_fail c.args.code (words c.args.text.now) c.in-Err.stop c.in-Err.ensures
