-- The lines that a step of DXE, or a part of one, prints.
-- Own.
use Rattle.boot_model.specs.DxeMachine.{DxeMachine}
use Rattle.boot_trace.specs.Printing.{ArePut, ArePutInPart, Texts}

-- the lines that a later machine has in addition to this one's were printed
abbrev pub Printed : DxeMachine → DxeMachine → Texts → Type 0
Printed m later t = ArePut m.lines later.lines t

-- a part of their text was written
abbrev pub PrintedPart : DxeMachine → DxeMachine → Texts → Type 0
PrintedPart m later t = ArePutInPart m.lines later.lines t
