-- Actions, by their variants.
use Rattle.std.proofs.Common.{◌≡◌, List, sym, ap, ◌∙◌}
use Rattle.act_code.specs.{declared.action.Action.Action, Operands.Part, Operands.action_parts}

-- the operands of an action whose variant is known
pub parts_as : (parts : List Part) (a b : Action) → a ≡ b → parts ≡ action_parts b → parts ≡ action_parts a
parts_as parts a b is e = e ∙ ap action_parts (sym is)
