use Rattle.asm_text.proofs.OneText.{again_by}
use Rattle.asm_text.proofs.depex_reading.parse_depex.Goals as goal

pub returns-clause-again : goal.returns-clause-again
returns-clause-again c = again_by c.args.text.now c.read_text.result c.read_text.ensures.read c.read_text.ensures.refused
