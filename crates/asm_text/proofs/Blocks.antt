-- Well-formed scripts, by their blocks and actions.
use Rattle.std.proofs.Common.{◌≡◌, ℕ, ◌-◌, ◌<◌, ◌≤◌, Bool, true, List, [], ◌∷◌, length, flat_map, refl, arith, nat_lt, nat_le}
use Rattle.std.specs.List.{list_all, AllByRecursion}
use Rattle.std.proofs.lemmas.Bool.{and_parts, and_from, false≢true}
use Rattle.std.proofs.lemmas.Bool.Decides.{nat_tests}
use Rattle.hex.specs.Hex.{IsBytes}
use Rattle.pi_base.specs.{Field.little_bytes, declared.phase.Phase.Phase}
use Rattle.pi_base.specs.declared.phase.Phase.TheVariants.{Pei, Dxe}
use Rattle.act_code.specs.{declared.action.Action.Action, declared.code.Code.Code, declared.script.Script.Script}
use Rattle.act_code.specs.declared.code.Code.TheVariants as code
use Rattle.act_code.specs.Format.{registers_in, blocks_in, is_within}
use Rattle.act_code.specs.{Header.header_bytes, Header.phase_byte, ScriptReading.ends_in_ret}
use Rattle.act_code.specs.Index.{is_indexed, has_room, names_below}
use Rattle.act_code.specs.Script.{action_bytes, operand_bytes, block_bytes, IsSound, Each, AreSound, IsBlock}
use Rattle.act_code.specs.Table.{number_of, format_of, code_of_action, operands}
use Rattle.asm_text.specs.{Drafts.have_room, Drafts.is_closed, ReadScript.IsWellFormed}
use Rattle.asm_text.proofs.{ActionLines.IsGoodAction, WordLaws.is_most, Guids.bytes_from}
use Rattle.asm_text.proofs.ByteLists.{bytes_cons, bytes_tail, bytes_none, bytes_both, bytes_back, bytes_little, bytes_each, each_bytes, below, is_below}

abbrev pub at : Phase → List (List Action) → Script
at phase blocks = record { phase = phase; blocks = blocks }

-- a block that may end, whatever blocks its actions name
pub record IsClosedBlock (phase : Phase) (actions : List Action) : Type 0 where
  pub good : AllByRecursion (IsGoodAction phase) actions
  pub few : length actions ≤ 1024
  pub closed : is_closed actions ≡ true

-- a well-formed script
pub record IsMadeOf (phase : Phase) (blocks : List (List Action)) : Type 0 where
  pub some : 1 ≤ length blocks
  pub few : length blocks ≤ 64
  pub closed : AllByRecursion (IsClosedBlock phase) blocks
  pub named : list_all (list_all (names_below (length blocks))) blocks ≡ true

within : (low high n : ℕ) → low ≤ n → n ≤ high → is_within low high n ≡ true
within low high n least most = grind (arith, nat_tests)

within_parts : (low high n : ℕ) → is_within low high n ≡ true → (low ≤ n) × (n ≤ high)
within_parts low high n is = let parts = and_parts (nat_le low n) (nat_le n high) is in (is_most low n parts.0, is_most n high parts.1)

less_too : (m n : ℕ) (xs : List ℕ) → m ≤ n → list_all (λ x. nat_lt x m) xs ≡ true → list_all (λ x. nat_lt x n) xs ≡ true
less_too m n [] more all = refl
less_too m n (x ∷ xs) more all =
    let parts = and_parts (nat_lt x m) (list_all (λ x. nat_lt x m) xs) all in
    let here : x < m = is_below x m parts.0 in
    and_from (nat_lt x n) (list_all (λ x. nat_lt x n) xs) (below x n (omega arith)) (less_too m n xs more parts.1)

-- the registers of an action
abbrev few_registers : Action → Bool
few_registers a = list_all (λ r. nat_lt r 16) (registers_in (format_of (code_of_action a)) (operands a))

number_small : (c : Code) → number_of c < 256
number_small code.Set = omega arith
number_small _ = omega arith

action_is_bytes : (phase : Phase) (a : Action) → IsGoodAction phase a → IsBytes (action_bytes a)
action_is_bytes phase a is = bytes_cons (number_of (code_of_action a)) (operand_bytes a) (number_small (code_of_action a)) is.bytes

-- sound actions are good ones, with room, that name few blocks
pub record AreGood (phase : Phase) (count left : ℕ) (actions : List Action) : Type 0 where
  pub good : AllByRecursion (IsGoodAction phase) actions
  pub room : have_room left actions ≡ true
  pub named : list_all (names_below count) actions ≡ true

good_sound : (phase : Phase) (count left : ℕ) (a : Action) → count ≤ 64 → IsSound phase count left a → IsBytes (action_bytes a) → IsGoodAction phase a × (has_room left a ≡ true) × (names_below count a ≡ true)
good_sound phase count left a few sound bytes =
    let parts = and_parts (few_registers a) (names_below count a) sound.indexed in
    let indexed : is_indexed 64 a ≡ true = and_from (few_registers a) (names_below 64 a) parts.0 (less_too count 64 (blocks_in (format_of (code_of_action a)) (operands a)) few parts.1) in
    (record { is = sound.is; indexed = indexed; bytes = bytes_tail (number_of (code_of_action a)) (operand_bytes a) bytes }, sound.room, parts.1)

pub are_good : (phase : Phase) (count left : ℕ) (actions : List Action) → count ≤ 64 → AreSound phase count left actions → AllByRecursion (λ a. IsBytes (action_bytes a)) actions → AreGood phase count left actions
are_good phase count left [] few sound bytes = record { good = tt; room = refl; named = refl }
are_good phase count left (a ∷ actions) few sound bytes =
    let first = good_sound phase count left a few sound.0 bytes.0 in
    let others = are_good phase count (left - 1) actions few sound.1 bytes.1 in
    record {
      good = (first.0, others.good);
      room = and_from (has_room left a) (have_room (left - 1) actions) first.1 others.room;
      named = and_from (names_below count a) (list_all (names_below count) actions) first.2 others.named;
    }

pub are_sound : (phase : Phase) (count left : ℕ) (actions : List Action) → AreGood phase count left actions → AreSound phase count left actions × AllByRecursion (λ a. IsBytes (action_bytes a)) actions
are_sound phase count left [] is = (tt, tt)
are_sound phase count left (a ∷ actions) is =
    let rooms = and_parts (has_room left a) (have_room (left - 1) actions) is.room in
    let names = and_parts (names_below count a) (list_all (names_below count) actions) is.named in
    let registers = and_parts (few_registers a) (names_below 64 a) is.good.0.indexed in
    let others = are_sound phase count (left - 1) actions (record { good = is.good.1; room = rooms.1; named = names.1 }) in
    let first : IsSound phase count left a = record { is = is.good.0.is; indexed = and_from (few_registers a) (names_below count a) registers.0 names.0; room = rooms.0 } in
    ((first, others.0), (action_is_bytes phase a is.good.0, others.1))

-- blocks
block_closed : (phase : Phase) (count : ℕ) (actions : List Action) → count ≤ 64 → IsBlock phase count actions → IsBytes (block_bytes actions) → IsClosedBlock phase actions × (list_all (names_below count) actions ≡ true)
block_closed phase count actions few is bytes =
    let each = each_bytes action_bytes actions (bytes_back (little_bytes 2 (length actions)) (flat_map action_bytes actions) bytes) in
    let are = are_good phase count (length actions) actions few is.sound each in
    let number = within_parts 1 1024 (length actions) is.number in
    (record { good = are.good; few = number.1; closed = and_from (ends_in_ret actions) (have_room (length actions) actions) is.ret are.room }, are.named)

some_action : (actions : List Action) → ends_in_ret actions ≡ true → 1 ≤ length actions
some_action [] ret = absurd (false≢true ret)
some_action (a ∷ actions) ret = omega arith

closed_block : (phase : Phase) (count : ℕ) (actions : List Action) → IsClosedBlock phase actions → list_all (names_below count) actions ≡ true → IsBlock phase count actions × IsBytes (block_bytes actions)
closed_block phase count actions is named =
    let parts = and_parts (ends_in_ret actions) (have_room (length actions) actions) is.closed in
    let are = are_sound phase count (length actions) actions (record { good = is.good; room = parts.1; named = named }) in (
      record { number = within 1 1024 (length actions) (some_action actions parts.0) is.few; sound = are.0; ret = parts.0 },
      bytes_both (little_bytes 2 (length actions)) (flat_map action_bytes actions) (bytes_little 2 (length actions)) (bytes_each action_bytes actions are.1),
    )

blocks_closed : (phase : Phase) (count left : ℕ) (blocks : List (List Action)) → count ≤ 64 → Each (λ _. IsBlock phase count) left blocks → AllByRecursion (λ b. IsBytes (block_bytes b)) blocks
    → AllByRecursion (IsClosedBlock phase) blocks × (list_all (list_all (names_below count)) blocks ≡ true)
blocks_closed phase count left [] few are bytes = (tt, refl)
blocks_closed phase count left (b ∷ blocks) few are bytes =
    let first = block_closed phase count b few are.0 bytes.0 in
    let others = blocks_closed phase count (left - 1) blocks few are.1 bytes.1 in
    ((first.0, others.0), and_from (list_all (names_below count) b) (list_all (list_all (names_below count)) blocks) first.1 others.1)

closed_blocks : (phase : Phase) (count left : ℕ) (blocks : List (List Action)) → AllByRecursion (IsClosedBlock phase) blocks → list_all (list_all (names_below count)) blocks ≡ true
    → Each (λ _. IsBlock phase count) left blocks × AllByRecursion (λ b. IsBytes (block_bytes b)) blocks
closed_blocks phase count left [] are named = (tt, tt)
closed_blocks phase count left (b ∷ blocks) are named =
    let parts = and_parts (list_all (names_below count) b) (list_all (list_all (names_below count)) blocks) named in
    let first = closed_block phase count b are.0 parts.0 in
    let others = closed_blocks phase count (left - 1) blocks are.1 parts.1 in
    ((first.0, others.0), (first.1, others.1))

-- scripts
phase_small : (phase : Phase) → phase_byte phase < 256
phase_small Pei = omega arith
phase_small Dxe = omega arith

header_is_bytes : (phase : Phase) (count : ℕ) → count ≤ 64 → IsBytes (header_bytes phase count)
header_is_bytes phase count few =
    bytes_both (0x50 ∷ (0x49 ∷ (0x41 ∷ (0x53 ∷ (1 ∷ []))))) (phase_byte phase ∷ (count ∷ (0 ∷ []))) (bytes_from (0x50 ∷ (0x49 ∷ (0x41 ∷ (0x53 ∷ (1 ∷ []))))) refl)
    (bytes_cons (phase_byte phase) (count ∷ (0 ∷ [])) (phase_small phase) (bytes_cons count (0 ∷ []) (omega arith) (bytes_cons 0 [] (omega arith) bytes_none)))

pub well_made : (script : Script) → IsWellFormed script → IsMadeOf script.phase script.blocks
well_made script well =
    let number = within_parts 1 64 (length script.blocks) well.grammar.number in
    let each = each_bytes block_bytes script.blocks (bytes_back (header_bytes script.phase (length script.blocks)) (flat_map block_bytes script.blocks) well.bytes) in
    let are = blocks_closed script.phase (length script.blocks) (length script.blocks) script.blocks number.1 well.grammar.blocks each in
    record { some = number.0; few = number.1; closed = are.0; named = are.1 }

pub made_well : (phase : Phase) (blocks : List (List Action)) → IsMadeOf phase blocks → IsWellFormed (at phase blocks)
made_well phase blocks is =
    let are = closed_blocks phase (length blocks) (length blocks) blocks is.closed is.named in
    record {
      grammar = record { number = within 1 64 (length blocks) is.some is.few; blocks = are.0 };
      bytes = bytes_both (header_bytes phase (length blocks)) (flat_map block_bytes blocks) (header_is_bytes phase (length blocks) is.few) (bytes_each block_bytes blocks are.1);
    }
