-- What an action of a script's grammar says of its operands.
use Rattle.std.proofs.Common.{◌≡◌, ℕ, ◌≤◌, true, length, arith, subst, List}
use Rattle.std.proofs.lemmas.Bool.Decides.{nat_tests}
use Rattle.act_code.specs.{declared.action.Action.Action, Format.is_within}
use Rattle.act_code.specs.declared.action.Action.TheVariants as A
use Rattle.pi_base.specs.declared.phase.Phase.{Phase}
use Rattle.phase_parts.specs.Needs.{IsScriptAction}

at_most : (n : ℕ) → is_within 1 64 n ≡ true → n ≤ 64
at_most n e = grind (arith, nat_tests, e)

pub log_text : (phase : Phase) (action : Action) (text : List ℕ) → action ≡ A.Log text → IsScriptAction phase action → length text ≤ 64
log_text phase action text e is = let own = subst (IsScriptAction phase) e is in at_most (length text) own.0.in_range.0
