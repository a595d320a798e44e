use Rattle.std.proofs.Common.{sym}
use Rattle.asm_text.proofs.BadScripts.{bad_empty, bad_first, with_phase}
use Rattle.asm_text.proofs.script_reading.read_text.Goals as goal

pub returns-in_default-clause-refused : goal.returns-in_default-clause-refused
returns-in_default-clause-refused c = bad_empty c.args.text.now c.in_default.ensures

pub returns-in-Some-phase_of-clause-read : goal.returns-in-Some-phase_of-clause-read
returns-in-Some-phase_of-clause-read c =
    let text = with_phase c.args.text.now c.in-Some.line.now c.in-Some.after.now c.in-Some-phase_of.phase c.in-Some.ensures.0 (sym c.in-Some-phase_of.ensures) in
    rw text c.read_lines.ensures.read

pub returns-in-Some-phase_of-clause-refused : goal.returns-in-Some-phase_of-clause-refused
returns-in-Some-phase_of-clause-refused c =
    let text = with_phase c.args.text.now c.in-Some.line.now c.in-Some.after.now c.in-Some-phase_of.phase c.in-Some.ensures.0 (sym c.in-Some-phase_of.ensures) in
    rw text c.read_lines.ensures.refused

pub returns-in-None-clause-refused : goal.returns-in-None-clause-refused
returns-in-None-clause-refused c = bad_first c.args.text.now c.in-Some.line.now c.in-Some.after.now c.in-Some.ensures.0 c.in-Some.ensures.1 (sym c.in-None.ensures)
