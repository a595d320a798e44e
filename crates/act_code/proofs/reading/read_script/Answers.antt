use Rattle.std.proofs.Common.{◌≡◌, Result, Ok, Err, sym, ◌∙◌, arith}
use Rattle.act_code.specs.{declared.script.Script.Script, declared.fault.ActFault.ActFault}
use Rattle.act_code.proofs.Lists.{ok_is}
use Rattle.act_code.proofs.Scripts.{script_takes, script_again, script_fails}
use Rattle.act_code.proofs.reading.read_script.Goals as goal

pub returns-in-Ok-clause-read : goal.returns-in-Ok-clause-read
returns-in-Ok-clause-read c = script_takes c.args.bytes.now c.in-Ok.script (λ i. omega (arith, c.type_inv.bytes i)) c.in-Ok.ensures

pub returns-in-Ok-clause-again : goal.returns-in-Ok-clause-again
returns-in-Ok-clause-again c = λ s is. ok_is {A = Script} c.in-Ok.script s (sym c.in-Ok.ensures ∙ script_again c.args.bytes.now s is)

pub returns-in-Err-Fault-clause-again : goal.returns-in-Err-Fault-clause-again
returns-in-Err-Fault-clause-again c = λ s is.
    let both : ◌≡◌ {A = Result Script ActFault} (Err c.in-Err-Fault.fault) (Ok s) = sym (rw c.in-Err-Fault.field-0-is at c.in-Err-Fault.ensures) ∙ script_again c.args.bytes.now s is in
    absurd cc

pub returns-in-Err-Fault-clause-refused : goal.returns-in-Err-Fault-clause-refused
returns-in-Err-Fault-clause-refused c = λ _. script_fails c.args.bytes.now c.in-Err-Fault.fault (λ i. omega (arith, c.type_inv.bytes i)) (rw c.in-Err-Fault.field-0-is at c.in-Err-Fault.ensures)
