use Rattle.std.proofs.Common.{◌≡◌, refl}
use Rattle.boot_model.specs.declared.line.ExpressionWord.TheVariants as V
use Rattle.boot_model.specs.{Text.expression_text, declared.line.ExpressionWord.ExpressionWord}
use Rattle.trace_reader.specs.Readable.{IsExpression}
use Rattle.trace_reader.proofs.expression_word.ExpressionWordField.read.Goals as goal

none_of : (c : goal.In-None) (value : ExpressionWord) → IsExpression value × (c.args.word.now ≡ expression_text value) → ⊥
unfolding expression_text
none_of c V.NoPart is = (c.in_default.ensures.none refl).no_part is.1
none_of c V.Absent is = (c.in_default.ensures.none refl).absent is.1
none_of c (V.Malformed at) is = c.in_default-read_behind.ensures at is
none_of c V.Tree is = (c.in_default.ensures.none refl).tree is.1
none_of c V.Sor is = (c.in_default.ensures.none refl).sor is.1
none_of c (V.Before name) is = c.in_default-read_behind-2.ensures name is
none_of c (V.After name) is = c.in-None.ensures name is

pub returns-in-None-clause-found : goal.returns-in-None-clause-found
returns-in-None-clause-found c = none_of c
