-- The opcodes of a tree lead to what stands for it.
use Rattle.std.proofs.Common.{◌≡◌, List, [], ◌∷◌, ◌++◌, Option, Some, None, IsSome, refl, sym, ap, ◌∙◌, append_assoc, option_and_then, Bool, append-nil}
use Rattle.pi_base.specs.declared.guid.Guid.{Guid}
use Rattle.depex_code.specs.Tree.{DepexTree, True, False, Push, Not, And, Or, postfix}
use Rattle.depex_code.specs.declared.opcode.Opcode.{Opcode}
use Rattle.depex_code.specs.declared.opcode.Opcode.TheVariants as O
use Rattle.explain_text.specs.declared.ways.side.Side.{Side}
use Rattle.explain_text.specs.Sides.{side_of, sides_after, sides_behind}

regroup : (first second : List Opcode) (opcode : Opcode) (rest : List Opcode) → (first ++ (second ++ opcode ∷ [])) ++ rest ≡ first ++ (second ++ opcode ∷ rest)
regroup first second opcode rest = append_assoc first (second ++ opcode ∷ []) rest ∙ ap (λ codes. first ++ codes) (append_assoc second (opcode ∷ []) rest)

behind_tree : (has : Guid → Bool) (node : DepexTree) (rest : List Opcode) (sides : List Side) → sides_behind has (postfix node ++ rest) sides ≡ sides_behind has rest (side_of has node ∷ sides)
behind_tree has True rest sides = refl
behind_tree has False rest sides = refl
behind_tree has (Push guid) rest sides = refl
behind_tree has (Not node) rest sides =
    ap (λ code. sides_behind has code sides) (append_assoc (postfix node) (O.Not ∷ []) rest) ∙ behind_tree has node (O.Not ∷ rest) sides
behind_tree has (And first second) rest sides =
    ap (λ code. sides_behind has code sides) (regroup (postfix first) (postfix second) O.And rest)
    ∙ behind_tree has first (postfix second ++ O.And ∷ rest) sides ∙ behind_tree has second (O.And ∷ rest) (side_of has first ∷ sides)
behind_tree has (Or first second) rest sides =
    ap (λ code. sides_behind has code sides) (regroup (postfix first) (postfix second) O.Or rest)
    ∙ behind_tree has first (postfix second ++ O.Or ∷ rest) sides ∙ behind_tree has second (O.Or ∷ rest) (side_of has first ∷ sides)

-- the whole tree stands alone
pub tree_alone : (has : Guid → Bool) (node : DepexTree) → sides_behind has (postfix node) [] ≡ Some (side_of has node ∷ [])
tree_alone has node = ap (λ code. sides_behind has code []) (sym (append-nil (postfix node))) ∙ behind_tree has node [] []

-- where more is behind it, an opcode has its operands
pub has_operands : (has : Guid → Bool) (opcode : Opcode) (code : List Opcode) (sides end : List Side) → sides_behind has (opcode ∷ code) sides ≡ Some end → IsSome (sides_after has opcode sides)
has_operands has opcode code sides end e = by (sides_after has opcode sides) e
  where
    by : (o : Option (List Side)) → option_and_then (λ next. sides_behind has code next) o ≡ Some end → IsSome o
    by (Some next) e = refl
    by None e = absurd (cc)
