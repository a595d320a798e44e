use Rattle.std.proofs.Common.{◌≡◌, flat_map, take}
use Rattle.std.specs.Io.KnownBytes.{Appends}
use Rattle.boot_model.specs.{DxeMachine.DxeMachine, Text.text_of}
use Rattle.dxe_core.specs.Services.{AreFlags}
use Rattle.dxe_dispatch.specs.{Queue.IsQueueOf, Waiting.waiting_line}
use Rattle.dxe_dispatch.proofs.waiting.put_all_waiting.Given as goal

-- the lines of the drivers so far
abbrev pub invariant-drivers : goal.invariant-drivers
invariant-drivers g l = record {
  text : (m : DxeMachine) → IsQueueOf l.fn.catalog m l.fn.queue → AreFlags m.requested l.fn.requested
      → Appends (g.S.Sink.text l.fn.sink) (g.S.Sink.text l.sink) (flat_map (λ number. text_of (waiting_line l.fn.catalog m number)) (take l.number-index l.numbers));
  count : g.S.Sink.faults l.sink ≡ g.S.Sink.faults l.fn.sink;
}
