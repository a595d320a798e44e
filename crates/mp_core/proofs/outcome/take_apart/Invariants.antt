use Rattle.std.proofs.Common.{◌≡◌, ◌++◌, map, not}
use Rattle.mp_core.specs.{declared.processor.Processor.Processor, Past.is_empty}
use Rattle.mp_core.proofs.outcome.take_apart.Given as goal

abbrev pub invariant-loop-processor : goal.invariant-loop-processor
invariant-loop-processor l = record {
  records : l.fn.records ++ map (λ (x : Processor). x.«record») l.fn.processors.items ≡ l.records ++ map (λ (x : Processor). x.«record») l.processor-iterator.rest.items;
  busy : l.fn.busy ++ map (λ (x : Processor). not (is_empty x.rest.now)) l.fn.processors.items ≡ l.busy ++ map (λ (x : Processor). not (is_empty x.rest.now)) l.processor-iterator.rest.items;
}
