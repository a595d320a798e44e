use Rattle.std.proofs.Common.{flat_map}
use Rattle.boot_io.specs.Line.{spaced}
use Rattle.trace_reader.proofs.Splits.{found_after}
use Rattle.trace_reader.proofs.field.fields_after.Goals as goal

pub returns-in-Some : goal.returns-in-Some
returns-in-Some g c =
    found_after g.F.Fields.valid (λ values. flat_map spaced (g.F.Fields.words values)) c.args.line.now c.args.keyword.now c.in-Some.rest.now c.read_all.result c.in-Some.ensures c.read_all.ensures
