-- The actions of a script of bytes are such as a line can show.
use Rattle.std.proofs.Common.{◌≡◌, ℕ, ◌-◌, ◌≤◌, true, List, [], ◌∷◌, ◌++◌, length, flat_map, refl, arith, subst, nat_lt, nat_le}
use Rattle.std.specs.List.{list_all, AllByRecursion}
use Rattle.std.proofs.{lemmas.Bool.and_parts, lemmas.Bool.and_from, lemmas.Bool.Decides.nat_tests}
use Rattle.hex.specs.Hex.{IsBytes}
use Rattle.pi_base.specs.{Field.little_bytes, declared.phase.Phase.Phase}
use Rattle.act_code.specs.{declared.action.Action.Action, declared.script.Script.Script, Format.registers_in, Format.blocks_in}
use Rattle.act_code.specs.Header.{header_bytes}
use Rattle.act_code.specs.Script.{action_bytes, operand_bytes, block_bytes, IsSound, AreSound, IsBlock, IsScript, Each}
use Rattle.act_code.specs.Table.{number_of, format_of, code_of_action, operands}
use Rattle.source_words.proofs.PrintedActions.{IsGoodAction}
use Rattle.volume_again.proofs.ByteRuns.{bytes_tail, bytes_back, each_bytes}

is_most : (n m : ℕ) → nat_le n m ≡ true → n ≤ m
is_most n m test = grind (arith, nat_tests)

less_too : (m n x : ℕ) → m ≤ n → nat_lt x m ≡ true → nat_lt x n ≡ true
less_too m n x more test = grind (arith, nat_tests)

all_less : (m n : ℕ) (xs : List ℕ) → m ≤ n → list_all (λ x. nat_lt x m) xs ≡ true → list_all (λ x. nat_lt x n) xs ≡ true
all_less m n [] more all = refl
all_less m n (x ∷ xs) more all =
    let parts = and_parts (nat_lt x m) (list_all (λ x. nat_lt x m) xs) all in
    and_from (nat_lt x n) (list_all (λ x. nat_lt x n) xs) (less_too m n x more parts.0) (all_less m n xs more parts.1)

good_action : (phase : Phase) (count left : ℕ) (a : Action) → count ≤ 64 → IsSound phase count left a → IsBytes (action_bytes a) → IsGoodAction phase a
good_action phase count left a few sound bytes =
    let registers = list_all (λ r. nat_lt r 16) (registers_in (format_of (code_of_action a)) (operands a)) in
    let blocks = blocks_in (format_of (code_of_action a)) (operands a) in
    let parts = and_parts registers (list_all (λ b. nat_lt b count) blocks) sound.indexed in
    record {
      is = sound.is;
      indexed = and_from registers (list_all (λ b. nat_lt b 64) blocks) parts.0 (all_less count 64 blocks few parts.1);
      bytes = bytes_tail (number_of (code_of_action a)) (operand_bytes a) bytes;
    }

good_actions : (phase : Phase) (count left : ℕ) (actions : List Action) → count ≤ 64 → AreSound phase count left actions → AllByRecursion (λ a. IsBytes (action_bytes a)) actions
    → AllByRecursion (IsGoodAction phase) actions
good_actions phase count left [] few sound bytes = tt
good_actions phase count left (a ∷ actions) few sound bytes =
    (good_action phase count left a few sound.0 bytes.0, good_actions phase count (left - 1) actions few sound.1 bytes.1)

good_blocks : (phase : Phase) (count left : ℕ) (blocks : List (List Action)) → count ≤ 64 → Each (λ _. IsBlock phase count) left blocks → AllByRecursion (λ b. IsBytes (block_bytes b)) blocks
    → AllByRecursion (AllByRecursion (IsGoodAction phase)) blocks
good_blocks phase count left [] few are bytes = tt
good_blocks phase count left (b ∷ blocks) few are bytes =
    let actions = each_bytes action_bytes b (bytes_back (little_bytes 2 (length b)) (flat_map action_bytes b) bytes.0) in
    (good_actions phase count (length b) b few are.0.sound actions, good_blocks phase count (left - 1) blocks few are.1 bytes.1)

pub good_script : (body : List ℕ) (script : Script) → IsBytes body → IsScript body script → AllByRecursion (AllByRecursion (IsGoodAction script.phase)) script.blocks
good_script body script bytes is =
    let number = and_parts (nat_le 1 (length script.blocks)) (nat_le (length script.blocks) 64) is.grammar.number in
    let spelled : IsBytes (header_bytes script.phase (length script.blocks) ++ flat_map block_bytes script.blocks) = subst IsBytes is.spelled bytes in
    let each = each_bytes block_bytes script.blocks (bytes_back (header_bytes script.phase (length script.blocks)) (flat_map block_bytes script.blocks) spelled) in
    good_blocks script.phase (length script.blocks) (length script.blocks) script.blocks (is_most (length script.blocks) 64 number.1) is.grammar.blocks each
