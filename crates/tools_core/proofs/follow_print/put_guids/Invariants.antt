use Rattle.std.proofs.Common.{◌≡◌, flat_map, take}
use Rattle.std.specs.Io.KnownBytes.{Appends}
use Rattle.tools_core.specs.FollowText.{guid_word}
use Rattle.tools_core.proofs.follow_print.put_guids.Given as goal

-- the GUIDs so far, without a fault
abbrev pub invariant-put : goal.invariant-put
invariant-put g l = record {
  text : Appends (g.S.Sink.text l.fn.sink) (g.S.Sink.text l.sink) (flat_map guid_word (take l.guid-index l.guids));
  count : g.S.Sink.faults l.sink ≡ g.S.Sink.faults l.fn.sink;
}
