-- What an audit prints of a catalogue (own): each volume by number, directly followed by its modules by number, and last the result.
use Rattle.std.specs.Prelude.{ℕ, ◌+◌, ◌==◌, true, false, List, [], ◌∷◌, ◌++◌, map, filter, flat_map, Option, Some, None}
use Rattle.depex_code.specs.declared.depex.Depex.TheVariants.{Before, After, Expr}
use Rattle.mod_catalog.specs.{declared.catalogue.Catalog.Catalog, declared.catalogue.VolumeEntry.VolumeEntry}
use Rattle.mod_catalog.specs.{declared.catalogue.Module.Module, declared.catalogue.Part.Part, declared.catalogue.PartExpr.PartExpr}
use Rattle.mod_catalog.specs.declared.catalogue.PartExpr.TheVariants.{Absent, Malformed, Held}
use Rattle.boot_model.specs.{declared.line.Line.Line, declared.line.RunEnd.TheVariants.Done, declared.line.ExpressionWord.ExpressionWord}
use Rattle.boot_model.specs.declared.line.Line.TheVariants as L
use Rattle.boot_model.specs.declared.line.ExpressionWord.TheVariants as V

-- an item and its number
pub record Numbered (A : Type 0) : Type 0 where
  pub number : ℕ
  pub item : A

-- the items with their numbers, from one on
abbrev pub numbered : {A : Type 0} → ℕ → List A → List (Numbered A)
numbered from [] = []
numbered from (a ∷ rest) = record { number = from; item = a } ∷ numbered (from + 1) rest

-- how an audit shows an expression
abbrev pub expression_word : PartExpr → ExpressionWord
expression_word Absent = V.Absent
expression_word (Malformed at) = V.Malformed at
expression_word (Held (Before name)) = V.Before name
expression_word (Held (After name)) = V.After name
expression_word (Held (Expr true _)) = V.Sor
expression_word (Held (Expr false _)) = V.Tree

-- and a part
abbrev pub part_word : Option Part → ExpressionWord
part_word None = V.NoPart
part_word (Some part) = expression_word part.expr

-- its place in its volume's a priori list
abbrev pub part_rank : Option Part → Option ℕ
part_rank None = None
part_rank (Some part) = part.rank

-- the line of a volume
abbrev pub volume_line : Numbered VolumeEntry → Line
volume_line v = L.Volume v.number v.item.base v.item.len v.item.name

-- the line of a module
abbrev pub module_line : Numbered Module → Line
module_line m = L.Module m.number m.item.volume m.item.name m.item.kind (part_rank m.item.pei) (part_rank m.item.dxe) (part_word m.item.pei) (part_word m.item.dxe)

-- a volume and its modules
abbrev pub volume_lines : List (Numbered Module) → Numbered VolumeEntry → List Line
volume_lines modules v = volume_line v ∷ map module_line (filter (λ m. m.item.volume == v.number) modules)

-- all lines of an audit
abbrev pub audit_lines : Catalog → List Line
audit_lines catalog = flat_map (volume_lines (numbered 0 catalog.modules)) (numbered 0 catalog.volumes) ++ L.Result Done ∷ []
