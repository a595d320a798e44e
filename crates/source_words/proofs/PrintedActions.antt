-- The line that is printed of an action is read as it.
use Rattle.std.proofs.Common.{◌≡◌, ℕ, Bool, true, false, List, [], ◌∷◌, ◌++◌, flat_map, Ok, refl, sym, ap, ◌∙◌, arith, subst, bytes_eq, codes, nat_le, nat_lt, if◌then◌else◌, append-nil}
use Rattle.std.specs.List.{list_all, AllByRecursion}
use Rattle.std.proofs.lemmas.Bool.{and_parts, and_from, false≢true}
use Rattle.std.proofs.lemmas.Bool.Decides.{nat_tests}
use Rattle.pi_base.specs.{declared.phase.Phase.Phase, declared.phase.Phase.TheVariants.Pei, declared.phase.Phase.TheVariants.Dxe}
use Rattle.act_code.specs.{declared.action.Action.Action, declared.code.Code.Code, Format.is_within, Index.is_indexed}
use Rattle.act_code.specs.declared.action.Action.TheVariants as action
use Rattle.act_code.specs.declared.code.Code.TheVariants as code
use Rattle.act_code.specs.Table.{name_of, is_code_of, format_of, made, code_of_action, operands}
use Rattle.asm_text.specs.ActionText.{spaced, operand_words, action_text}
use Rattle.asm_text.specs.LineReading.{code_named}
use Rattle.act_code.specs.Script.{IsAction, operand_bytes}
use Rattle.hex.specs.Hex.{IsBytes}
use Rattle.source_words.proofs.PrintedValues.{IsShown, most_of, shown_operands}
use Rattle.source_words.specs.{Words.words, Operands.read, Operands.operands_at}
use Rattle.source_words.specs.Action.{action_of, code_of_name, is_logged}
use Rattle.source_words.proofs.LineWords.{IsWord, IsClear, clear_of, both_clear, spaced_clear, word_then, words_spaced, stands_spaced}
use Rattle.source_words.proofs.PrintedOperands.{is_worded, reads, are_words}

-- an action that a line can show
pub record IsGoodAction (phase : Phase) (a : Action) : Type 0 where
  pub is : IsAction phase a
  pub indexed : is_indexed 64 a ≡ true
  pub bytes : IsBytes (operand_bytes a)

made-operands : (a : Action) → made (code_of_action a) (operands a) ≡ a
made-operands (action.Set r n) = refl
made-operands _ = refl

-- names
name_word : (c : Code) → IsWord (name_of c)
unfolding name_of
name_word code.Set = (omega arith, refl)
name_word _ = (omega arith, refl)

named_where : (phase : Phase) (c : Code) → (if is_code_of phase c then code_of_name phase (name_of c) else Ok c) ≡ Ok c
unfolding name_of code_named code_of_name
named_where Pei code.Set = refl
named_where Pei _ = refl
named_where Dxe code.Set = refl
named_where Dxe _ = refl

named : (phase : Phase) (c : Code) → is_code_of phase c ≡ true → code_of_name phase (name_of c) ≡ Ok c
named phase c of_phase = subst (λ b. (if b then code_of_name phase (name_of c) else Ok c) ≡ Ok c) of_phase (named_where phase c)

-- all actions but `log` have words alone
abbrev is_log : Code → Bool
is_log code.Log = true
is_log _ = false

worded : (c : Code) → is_log c ≡ false → is_worded (most_of c) (format_of c) ≡ true
worded code.Log other = absurd (false≢true (sym other))
worded code.Set other = refl
worded _ other = refl

not_log : (c : Code) → is_log c ≡ false → bytes_eq (name_of c) (codes "log") ≡ false
unfolding name_of
not_log code.Log other = absurd (false≢true (sym other))
not_log code.Set other = refl
not_log _ other = refl

operands_read : (a : Action) → is_worded (most_of (code_of_action a)) (format_of (code_of_action a)) ≡ true → IsShown (format_of (code_of_action a)) (operands a)
    → operands_at (code_of_action a) (operand_words a) ≡ Ok a
unfolding operands_at
operands_read a known is =
    let c = code_of_action a in
    let here : read c (format_of c) (operand_words a) ≡ Ok (operands a, []) = ap (read c (format_of c)) (sym (append-nil (operand_words a))) ∙ reads c (format_of c) (operands a) [] known is (λ e. refl) in
    rw here (ap Ok (made-operands a))

split_words : (a : Action) → AllByRecursion IsWord (operand_words a) → words (action_text a) ≡ name_of (code_of_action a) ∷ operand_words a
split_words a all =
    let name = name_of (code_of_action a) in
    let text = flat_map spaced (operand_words a) in
    let whole : action_text a ≡ name ++ (text ++ []) = ap (λ t. name ++ t) (sym (append-nil text)) in
    ap words whole ∙ word_then name (text ++ []) (name_word (code_of_action a)) (stands_spaced (operand_words a) [] tt)
    ∙ ap (λ ws. name ∷ ws) (words_spaced (operand_words a) [] all tt ∙ append-nil (operand_words a))

worded_read : (phase : Phase) (a : Action) → is_log (code_of_action a) ≡ false → IsGoodAction phase a → action_of phase (action_text a) ≡ Ok a
unfolding action_of
worded_read phase a other is =
    let c = code_of_action a in
    let known = worded c other in
    let shown = shown_operands phase a is.is is.indexed is.bytes in
    rw (split_words a (are_words c (format_of c) (operands a) known shown), not_log c other, named phase c is.is.of_phase) (operands_read a known shown)

-- the text that is logged stands behind one space
log_words : (text : List ℕ) → words (codes "log" ++ (32 ∷ text)) ≡ codes "log" ∷ words text
log_words text = word_then (codes "log") (32 ∷ text) (omega arith, refl) refl

log_read : (phase : Phase) (text : List ℕ) → is_logged text ≡ true → action_of phase (codes "log" ++ (32 ∷ (text ++ []))) ≡ Ok (action.Log text)
unfolding action_of
log_read phase text is =
    let whole : text ++ [] ≡ text = append-nil text in
    rw (whole, log_words text, is) refl

log_shown : (phase : Phase) (text : List ℕ) → IsShown (format_of code.Log) text → action_of phase (action_text (action.Log text)) ≡ Ok (action.Log text)
unfolding name_of
log_shown phase text shown = log_read phase text (rw (shown.0, shown.1) refl)

-- the line of an action is read as it
pub action_read : (phase : Phase) (a : Action) → IsGoodAction phase a → action_of phase (action_text a) ≡ Ok a
action_read phase (action.Log text) is = log_shown phase text (shown_operands phase (action.Log text) is.is is.indexed is.bytes)
action_read phase (action.Set r n) is = worded_read phase (action.Set r n) refl is
action_read phase _ is = worded_read phase _ refl is

-- its first word is the action's name, and each of its bytes is the space or above it
pub record IsShownLine (a : Action) : Type 0 where
  pub others : List (List ℕ)
  pub first : words (action_text a) ≡ name_of (code_of_action a) ∷ others
  pub clear : IsClear (action_text a)

worded_shown : (phase : Phase) (a : Action) → is_log (code_of_action a) ≡ false → IsGoodAction phase a → IsShownLine a
worded_shown phase a other is =
    let c = code_of_action a in
    let all = are_words c (format_of c) (operands a) (worded c other) (shown_operands phase a is.is is.indexed is.bytes) in
    record {
      others = operand_words a;
      first = split_words a all;
      clear = both_clear (name_of c) (flat_map spaced (operand_words a)) (clear_of (name_of c) (name_word c).1) (spaced_clear (operand_words a) all);
    }

above : (byte : ℕ) → is_within 32 126 byte ≡ true → nat_lt 31 byte ≡ true
above byte is = let low : nat_le 32 byte ≡ true = (and_parts (nat_le 32 byte) (nat_le byte 126) is).0 in grind (arith, nat_tests)

printable_clear : (text : List ℕ) → list_all (is_within 32 126) text ≡ true → IsClear text
printable_clear [] all = refl
printable_clear (byte ∷ text) all =
    let parts = and_parts (is_within 32 126 byte) (list_all (is_within 32 126) text) all in
    and_from (nat_lt 31 byte) (list_all (λ b. nat_lt 31 b) text) (above byte parts.0) (printable_clear text parts.1)

log_told : (text : List ℕ) → IsShown (format_of code.Log) text → IsShownLine (action.Log text)
unfolding name_of
log_told text shown =
    let bare : text ++ [] ≡ text = append-nil text in
    record { others = words text; first = rw bare (log_words text); clear = rw bare (printable_clear text shown.1) }

pub action_shown : (phase : Phase) (a : Action) → IsGoodAction phase a → IsShownLine a
action_shown phase (action.Log text) is = log_told text (shown_operands phase (action.Log text) is.is is.indexed is.bytes)
action_shown phase (action.Set r n) is = worded_shown phase (action.Set r n) refl is
action_shown phase _ is = worded_shown phase _ refl is
