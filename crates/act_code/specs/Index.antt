-- The registers and blocks that an action names, and the actions that it skips (own).
use Rattle.std.specs.Prelude.{ℕ, ◌+◌, Bool, true, false, ◌&&◌, List, nat_lt, nat_le}
use Rattle.std.specs.List.{list_all}
use Rattle.act_code.specs.{declared.action.Action.Action, declared.action.Action.TheVariants.SkipIf, declared.action.Action.TheVariants.Ret}
use Rattle.act_code.specs.Format.{registers_in, blocks_in}
use Rattle.act_code.specs.Table.{format_of, code_of_action, operands}

-- registers are below 16, and blocks below their number
abbrev pub are_indexed : List ℕ → List ℕ → ℕ → Bool
are_indexed registers blocks count = list_all (λ r. nat_lt r 16) registers && list_all (λ b. nat_lt b count) blocks

abbrev pub is_indexed : ℕ → Action → Bool
is_indexed count action = are_indexed (registers_in (format_of (code_of_action action)) (operands action)) (blocks_in (format_of (code_of_action action)) (operands action)) count

-- the action names only blocks below a number
abbrev pub names_below : ℕ → Action → Bool
names_below count action = list_all (λ b. nat_lt b count) (blocks_in (format_of (code_of_action action)) (operands action))

-- an action that skips n actions has n + 1 of its block after it; it and those after it are left
abbrev pub has_room : ℕ → Action → Bool
has_room left (SkipIf condition n) = nat_le (n + 2) left
has_room left _ = true

-- the action that ends a frame
abbrev pub is_ret : Action → Bool
is_ret (Ret status) = true
is_ret _ = false
