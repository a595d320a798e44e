-- The fixed words of the lines.
-- Own.
use Rattle.std.specs.Prelude.{ℕ, List, codes}
use Rattle.explain_text.specs.declared.keyword.Keyword.{Keyword}
use Rattle.explain_text.specs.declared.keyword.Keyword.TheVariants as K

unfoldable pub word_of : Keyword → List ℕ
word_of K.Start = codes "start"
word_of K.Needed = codes "needed"
word_of K.Waits = codes "waits"
word_of K.Lacks = codes "lacks"
word_of K.Has = codes "has"
word_of K.Would = codes "would"
word_of K.Unless = codes "unless"
word_of K.Moved = codes "moved"
word_of K.Heap = codes "heap"
word_of K.Fuel = codes "fuel"
word_of K.Result = codes "result"
word_of K.Core = codes "core"
word_of K.Started = codes "started"
word_of K.More = codes "more"
word_of K.End = codes "end"
word_of K.Scheduled = codes "scheduled"
word_of K.Unreported = codes "unreported"
word_of K.Undiscovered = codes "undiscovered"
word_of K.Module = codes "module"
word_of K.Expr = codes "expr"
word_of K.Gives = codes "gives"
word_of K.Any = codes "any"
word_of K.Dash = codes "-"
