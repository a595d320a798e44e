-- What both phases printed.
-- Own.
use Rattle.std.specs.Prelude.{ℕ, List, ◌++◌}
use Rattle.boot_model.specs.{DxeMachine.DxeMachine, PeiMachine.PeiMachine, Text.text_of}

-- the text of the lines of both phases so far
abbrev pub printed_by : PeiMachine → DxeMachine → List ℕ
printed_by pei m = text_of (pei.lines ++ m.lines)
