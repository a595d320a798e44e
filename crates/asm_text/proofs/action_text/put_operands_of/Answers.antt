use Rattle.std.proofs.Common.{◌≡◌, ◌++◌, refl, subst, flat_map, OnOk}
use Rattle.std.proofs.lemmas.Grind.{flat_map-append}
use Rattle.act_code.specs.{declared.code.Code.Code, Operands.told, Operands.IsInTurn, Table.code_of_action}
use Rattle.asm_text.specs.ActionText.{small_number, words_of, spaced, operand_text}
use Rattle.asm_text.proofs.action_text.put_operands_of.Goals as goal

in_turn : (code : Code) → IsInTurn (operand_text code)
in_turn code = record {
  none = refl;
  two = λ first second value. flat_map-append spaced (words_of (small_number code) first value.0) (words_of (small_number code) second value.1);
  bounds = λ low high n. refl;
}

pub returns : goal.returns
returns c =
    let code = code_of_action c.args.action.now in
    let all = c.operand_by_operand.ensures (operand_text code) (in_turn code) c.args.action.now c.operands.result c.operands.ensures in
    let written = subst (λ (code : Code). OnOk c.put_operands.result (c.put_operands.new.out ≡ c.args.out.now ++ flat_map (told (operand_text code)) c.operands.result)) c.code.ensures c.put_operands.ensures in
    subst (λ text. OnOk c.put_operands.result (c.put_operands.new.out ≡ c.args.out.now ++ text)) all written
