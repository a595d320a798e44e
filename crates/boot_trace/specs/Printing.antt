-- The text of a sink before and after something is done, and the lines that were put.
-- Own.
use Rattle.std.specs.Prelude.{◌≡◌, ℕ, List, ◌++◌, Option}
use Rattle.std.specs.Io.KnownBytes.{Appends}
use Rattle.boot_io.specs.Sink.{AppendsPart}
use Rattle.boot_model.specs.{declared.line.Line.Line, Text.text_of}

-- a sink's text before and after
pub record Texts : Type 0 where
  pub old : Option (List ℕ)
  pub new : Option (List ℕ)

-- the lines that there are more were put
pub record ArePut (before after : List Line) (t : Texts) : Type 0 where
  pub told : List Line
  pub lines : after ≡ before ++ told
  pub text : Appends t.old t.new (text_of told)

-- a part of their text was put
pub record ArePutInPart (before after : List Line) (t : Texts) : Type 0 where
  pub told : List Line
  pub lines : after ≡ before ++ told
  pub text : AppendsPart t.old t.new (text_of told)
