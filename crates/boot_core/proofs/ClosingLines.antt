-- The lines of the handles and the result, one after the other.
use Rattle.std.proofs.Common.{ℕ, List, ◌++◌, length, flat_map, Option, Result}
use Rattle.std.specs.Io.KnownBytes.{Appends}
use Rattle.boot_io.specs.{Sink.AppendsPart, Sink.Puts, declared.sink.SinkFault.SinkFault}
use Rattle.boot_io.proofs.PutsLaws.{part_of_more, part_then, puts_then}
use Rattle.boot_model.specs.declared.line.Line.TheVariants as L
use Rattle.boot_model.specs.{declared.line.RunEnd.RunEnd, Text.line_text}
use Rattle.store_model.specs.HandleState.{HandleState}
use Rattle.boot_core.specs.Closing.{interface_text, result_text}

-- the line of the number of interfaces, the lines of the interfaces, and the line of the result
abbrev count_text : HandleState → List ℕ
count_text handles = line_text (L.Handles (length handles.interfaces))

abbrev interfaces_text : HandleState → List ℕ
interfaces_text handles = flat_map interface_text handles.interfaces

abbrev end_text : RunEnd → List ℕ
end_text end = line_text (L.Result end)

-- a part of the first line
pub first_part : (handles : HandleState) (end : RunEnd) (old new : Option (List ℕ)) → AppendsPart old new (count_text handles) → AppendsPart old new (result_text handles end)
unfolding result_text
first_part handles end old new part = part_of_more old new (count_text handles) (interfaces_text handles ++ end_text end) part

-- the first line, and a part of the interfaces
pub second_part : (handles : HandleState) (end : RunEnd) (old mid new : Option (List ℕ)) → Appends old mid (count_text handles) → AppendsPart mid new (interfaces_text handles)
    → AppendsPart old new (result_text handles end)
unfolding result_text
second_part handles end old mid new first part =
    part_then old mid new (count_text handles) (interfaces_text handles ++ end_text end) first (part_of_more mid new (interfaces_text handles) (end_text end) part)

-- the first line, the interfaces, and then the result
pub puts_all : (put : Result (Unit {0}) SinkFault) (handles : HandleState) (end : RunEnd) (old mid behind new : Option (List ℕ)) → Appends old mid (count_text handles) → Appends mid behind (interfaces_text handles)
    → Puts put behind new (end_text end) → Puts put old new (result_text handles end)
unfolding result_text
puts_all put handles end old mid behind new first second third =
    puts_then put old mid new (count_text handles) (interfaces_text handles ++ end_text end) first (puts_then put mid behind new (interfaces_text handles) (end_text end) second third)
