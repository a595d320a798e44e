use Rattle.asm_text.proofs.Fronts.{found_behind, shorter_behind}
use Rattle.asm_text.proofs.front.behind.Goals as goal

pub returns-clause-found : goal.returns-clause-found
returns-clause-found c = found_behind c.args.text.now c.args.front.now c.behind.result c.behind.ensures

pub returns-clause-shorter : goal.returns-clause-shorter
returns-clause-shorter c = shorter_behind c.args.text.now c.args.front.now c.behind.result c.behind.ensures
