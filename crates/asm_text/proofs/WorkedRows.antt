-- Texts and bytes worked by hand, by the definitions alone.
use Rattle.std.proofs.Common.{◌≡◌, true, false, [], ◌∷◌, refl, codes}
use Rattle.std.specs.Fmt.{digits}
use Rattle.uuid.specs.Text.{by_index}
use Rattle.pi_base.specs.{declared.guid.Guid.Guid, declared.phase.Phase.TheVariants.Pei, declared.word.Word.TheVariants.Success}
use Rattle.depex_code.specs.{declared.depex.Depex.TheVariants.Expr, Expression.bytes_of, Expression.instructions}
use Rattle.depex_code.specs.Tree.{True, Push, Not, And}
use Rattle.act_code.specs.declared.action.Action.TheVariants.{Log, Ret, Pool}
use Rattle.act_code.specs.{declared.script.Script.Script, Script.script_bytes, Table.name_of}
use Rattle.pi_base.specs.WordText.{word_text}
use Rattle.asm_text.specs.{ExpressionText.depex_text, ActionText.action_text}
use Rattle.asm_text.specs.ScriptText.{phase_text, block_text, script_text}

-- a script that logs `a` and ends
logs_a : Script
logs_a = record { phase = Pei; blocks = (Log (97 ∷ []) ∷ (Ret Success ∷ [])) ∷ [] }

script_as_text : script_text logs_a ≡ codes "phase pei\nblock\nlog a\nret Success\n"
unfolding logs_a phase_text block_text name_of word_text
script_as_text = refl

script_as_bytes : script_bytes logs_a ≡ 0x50 ∷ 0x49 ∷ 0x41 ∷ 0x53 ∷ 1 ∷ 1 ∷ 1 ∷ 0 ∷ 2 ∷ 0 ∷ 0x11 ∷ 1 ∷ 0x61 ∷ 0x13 ∷ 0 ∷ []
unfolding logs_a
script_as_bytes = refl

-- one driver's file and not another's
counted : Guid
counted = record { 0 = 0 ∷ 1 ∷ 2 ∷ 3 ∷ 4 ∷ 5 ∷ 6 ∷ 7 ∷ 8 ∷ 9 ∷ 10 ∷ 11 ∷ 12 ∷ 13 ∷ 14 ∷ 15 ∷ [] }

one_and_not_other : depex_text (Expr false (And (Push counted) (Not (Push counted))))
    ≡ codes "(03020100-0504-0706-0809-0a0b0c0d0e0f and not 03020100-0504-0706-0809-0a0b0c0d0e0f)\n"
unfolding counted by_index
one_and_not_other = refl

sor_true_as_text : depex_text (Expr true True) ≡ codes "sor true\n"
sor_true_as_text = refl

sor_true_as_bytes : bytes_of (instructions (Expr true True)) ≡ 9 ∷ 6 ∷ 8 ∷ []
sor_true_as_bytes = refl

-- a size is hexadecimal, and a register decimal
pool_as_text : action_text (Pool 11 0x18) ≡ codes "pool r11 0x18"
unfolding name_of digits
pool_as_text = refl
