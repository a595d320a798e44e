use Rattle.asm_text.proofs.OneScript.{again_by}
use Rattle.asm_text.proofs.script_reading.parse_script.Goals as goal

pub returns-clause-again : goal.returns-clause-again
returns-clause-again c = again_by c.args.text.now c.read_short.result c.read_short.ensures.read c.read_short.ensures.refused
