-- An expression that was read is short.
use Rattle.std.proofs.Common.{◌≤◌, ℕ, List, [], ◌∷◌, ◌++◌, length, map, Option, Some, None, arith, length-append, IfSome}
use Rattle.std.proofs.lemmas.List.{length-map}
use Rattle.pi_base.specs.{declared.phase.Phase.Phase, declared.phase.Phase.TheVariants.Pei, declared.phase.Phase.TheVariants.Dxe}
use Rattle.depex_code.specs.{declared.depex.Depex.Depex, declared.instruction.Instruction.Instruction}
use Rattle.depex_code.specs.declared.depex.Depex.TheVariants.{Before, After, Expr}
use Rattle.depex_code.specs.declared.instruction.Instruction.TheVariants.{Of, End}
use Rattle.depex_code.specs.{declared.reading.TheConstants.MOST_OPCODES, declared.values.TheConstants.MOST_VALUES}
use Rattle.depex_code.specs.{Tree.DepexTree, Tree.postfix, Expression.sor_front, Expression.instructions}
use Rattle.mod_catalog.specs.{declared.catalogue.Catalog.Catalog, declared.catalogue.Part.Part, declared.catalogue.PartExpr.PartExpr}
use Rattle.mod_catalog.specs.declared.catalogue.PartExpr.TheVariants.{Absent, Malformed, Held}
use Rattle.mod_catalog.specs.ModuleEntry.{IsExpression}
use Rattle.mod_catalog.specs.WellFormed.{IsShort, IsShortExpression, AreShort, IsPartOf, IsWellFormed}
use Rattle.pi_base.proofs.ListFacts.{each_more}

-- END stands behind the opcodes of a tree
tree_short : (front : List Instruction) (node : DepexTree) → length (front ++ (map Of (postfix node) ++ End ∷ [])) ≤ MOST_OPCODES → length (postfix node) ≤ MOST_VALUES
tree_short front node few =
    let all = length-append front (map Of (postfix node) ++ End ∷ []) in
    let tree = length-append (map Of (postfix node)) (End ∷ []) in
    let codes = length-map (postfix node) Of in
    omega arith

depex_short : (expression : Depex) → length (instructions expression) ≤ MOST_OPCODES → IsShort expression
depex_short (Before name) few = tt
depex_short (After name) few = tt
depex_short (Expr sor node) few = tree_short (sor_front sor) node few

pub expression_short : (phase : Phase) (body : Option (List ℕ)) (expr : PartExpr) → IsExpression phase body expr → IsShortExpression expr
expression_short phase None Absent is = tt
expression_short phase None (Malformed at) is = tt
expression_short phase None (Held expression) is = absurd is
expression_short phase (Some body) Absent is = tt
expression_short phase (Some body) (Malformed at) is = tt
expression_short phase (Some body) (Held expression) is = depex_short expression is.few

part_short : (phase : Phase) (o : Option Part) → IfSome o (IsPartOf phase) → IfSome o (λ part. IsShortExpression part.expr)
part_short phase None is = tt
part_short phase (Some part) is = is.short

pub are_short : (phase : Phase) (catalog : Catalog) → IsWellFormed catalog → AreShort phase catalog
are_short Pei catalog well = each_more (λ m. IfSome m.pei (IsPartOf Pei)) (λ m. IfSome m.pei (λ part. IsShortExpression part.expr)) catalog.modules (λ m is. part_short Pei m.pei is) well.pei_parts
are_short Dxe catalog well = each_more (λ m. IfSome m.dxe (IsPartOf Dxe)) (λ m. IfSome m.dxe (λ part. IsShortExpression part.expr)) catalog.modules (λ m is. part_short Dxe m.dxe is) well.dxe_parts
