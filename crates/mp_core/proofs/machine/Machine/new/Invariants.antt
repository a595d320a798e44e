use Rattle.std.proofs.Common.{◌≡◌, ℕ, ◌<◌, length, get_or}
use Rattle.mp_core.specs.{declared.processor.Processor.Processor, Processor.IsNew}
use Rattle.mp_core.proofs.machine.Machine.new.Given as goal

abbrev pub invariant-loop : goal.invariant-loop
invariant-loop l = (length l.idle.items ≡ l.counter) × ((p : ℕ) (x : Processor) → p < l.counter → IsNew (get_or l.idle.items p x))
