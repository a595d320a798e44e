-- An action's line is read as it, and as no other.
use Rattle.std.proofs.Common.{◌≡◌, ℕ, true, List, [], ◌∷◌, ◌++◌, length, take, drop, flat_map, Some, refl, sym, ap, subst, ◌∙◌, arith, bytes_eq, nat_lt, ◌==◌, ◌&&◌, if◌then◌else◌, eqb-true, append-nil, take_at, drop_at, take-append-drop}
use Rattle.std.specs.List.{list_all}
use Rattle.std.proofs.lemmas.Bool.{and_parts, and_from}
use Rattle.hex.specs.Hex.{IsBytes}
use Rattle.pi_base.specs.{declared.phase.Phase.Phase, declared.phase.Phase.TheVariants.Pei, declared.phase.Phase.TheVariants.Dxe}
use Rattle.act_code.specs.{declared.action.Action.Action, declared.action.Action.TheVariants.Set as ActionSet, declared.code.Code.Code}
use Rattle.act_code.specs.declared.code.Code.TheVariants as code
use Rattle.act_code.specs.Format.{Value, registers_in, blocks_in}
use Rattle.act_code.specs.{Index.is_indexed, Reading.only_if, Script.IsAction, Script.operand_bytes, declared.code.TheConstants.CODES}
use Rattle.act_code.specs.Table.{name_of, is_code_of, format_of, made, code_of_action, operands}
use Rattle.asm_text.specs.ActionText.{small_number, words_of, spaced, operand_words, action_text}
use Rattle.line_words.specs.PrintedWords.{IsPlain}
use Rattle.line_words.proofs.Comparisons.{same}
use Rattle.asm_text.specs.{WordReading.space_place, LineReading.code_named, LineReading.action_of}
use Rattle.asm_text.specs.OperandReading.{read, small_word, operands_at}
use Rattle.asm_text.proofs.{Fronts.passed, Stacks.bind_some, WordLaws.find_passes, OperandLaws.Follows, OperandLaws.reads}
use Rattle.asm_text.proofs.WordSplits.{Stands, word_end, stands_too}
use Rattle.asm_text.proofs.Readables.{IsReadable, most_of, small_shows, formats_known}
use Rattle.asm_text.proofs.OperandTexts.{shows}
use Rattle.asm_text.proofs.GoodOperands.{IsGood, readable, good, fits_byte}

-- an action that a line can show
pub record IsGoodAction (phase : Phase) (action : Action) : Type 0 where
  pub is : IsAction phase action
  pub indexed : is_indexed 64 action ≡ true
  pub bytes : IsBytes (operand_bytes action)

pub good_operands : (phase : Phase) (a : Action) → IsGoodAction phase a → IsGood (format_of (code_of_action a)) (operands a)
good_operands phase a is =
    let parts = and_parts (list_all (λ r. nat_lt r 16) (registers_in (format_of (code_of_action a)) (operands a))) (list_all (λ b. nat_lt b 64) (blocks_in (format_of (code_of_action a)) (operands a))) is.indexed in
    record { range = is.is.in_range; registers = parts.0; blocks = parts.1; bytes = is.bytes }

formats_fit : (c : Code) → fits_byte (format_of c) ≡ true
formats_fit code.Set = refl
formats_fit _ = refl

made-operands : (a : Action) → made (code_of_action a) (operands a) ≡ a
made-operands (ActionSet r n) = refl
made-operands _ = refl

made_good : (phase : Phase) (c : Code) (v : Value (format_of c)) → is_code_of phase c ≡ true → IsGood (format_of c) v → IsGoodAction phase (made c v)
made_good phase code.Set v of_phase good =
    record { is = record { of_phase = of_phase; in_range = good.range }; indexed = and_from _ _ good.registers good.blocks; bytes = good.bytes }
made_good phase _ v of_phase good =
    record { is = record { of_phase = of_phase; in_range = good.range }; indexed = and_from _ _ good.registers good.blocks; bytes = good.bytes }

made_text : (c : Code) (v : Value (format_of c)) → name_of c ++ flat_map spaced (words_of (small_number c) (format_of c) v) ≡ action_text (made c v)
made_text code.Set v = refl
made_text _ v = refl

operands_there : (a : Action) → IsReadable (format_of (code_of_action a)) (operands a) → operands_at (code_of_action a) (flat_map spaced (operand_words a)) ≡ Some a
unfolding operands_at
operands_there a is =
    let c = code_of_action a in
    let follows : Follows (format_of c) [] = record { stands = tt; last = λ e. refl } in
    let there = reads (small_number c) (small_word c) (most_of c) (small_shows c) (format_of c) (operands a) [] (formats_known c) is follows in
    let here : read (small_word c) (format_of c) (flat_map spaced (operand_words a)) ≡ Some (operands a, []) = ap (read (small_word c) (format_of c)) (sym (append-nil (flat_map spaced (operand_words a)))) ∙ there in
    rw here (ap Some (made-operands a))

pub record IsMade (c : Code) (text : List ℕ) (a : Action) : Type 0 where
  pub value : Value (format_of c)
  pub is : IsReadable (format_of c) value
  pub here : text ≡ flat_map spaced (words_of (small_number c) (format_of c) value)
  pub made : Rattle.act_code.specs.Table.made c value ≡ a

empty_of : (xs : List ℕ) → (length xs == 0) ≡ true → xs ≡ []
empty_of [] e = refl
empty_of (x ∷ xs) e = absurd (omega (arith, eqb-true (length (x ∷ xs)) 0 e))

operands_were : (c : Code) (text : List ℕ) (a : Action) → operands_at c text ≡ Some a → IsMade c text a
unfolding operands_at
operands_were c text a e =
    let x = bind_some (read (small_word c) (format_of c) text) (λ x. only_if (length x.1 == 0) (made c x.0)) a e in
    let p = passed (length x.0.1 == 0) (made c x.0.0) a x.2 in
    let s = shows (small_number c) (small_word c) (most_of c) (small_shows c) (format_of c) text x.0 x.1 in
    let none = empty_of x.0.1 p.0 in
    let words = flat_map spaced (words_of (small_number c) (format_of c) x.0.0) in
    record { value = x.0.0; is = s.0; here = s.1 ∙ ap (λ r. words ++ r) none ∙ append-nil words; made = p.1 }

-- names
pub name_plain : (c : Code) → IsPlain (name_of c)
unfolding name_of
name_plain code.Set = refl
name_plain _ = refl

named_where : (phase : Phase) (c : Code) → (if is_code_of phase c then code_named phase (name_of c) else Some c) ≡ Some c
unfolding name_of code_named
named_where Pei code.Set = refl
named_where Pei _ = refl
named_where Dxe code.Set = refl
named_where Dxe _ = refl

named_there : (phase : Phase) (c : Code) → is_code_of phase c ≡ true → code_named phase (name_of c) ≡ Some c
named_there phase c of_phase = subst (λ b. (if b then code_named phase (name_of c) else Some c) ≡ Some c) of_phase (named_where phase c)

named_were : (phase : Phase) (name : List ℕ) (c : Code) → code_named phase name ≡ Some c → (is_code_of phase c ≡ true) × (name ≡ name_of c)
unfolding code_named
named_were phase name c e =
    let parts = and_parts (is_code_of phase c) (bytes_eq (name_of c) name) (find_passes (λ code. is_code_of phase code && bytes_eq (name_of code) name) CODES c e) in
    (parts.0, sym ((same (name_of c) name).0 parts.1))

-- the line of an action is read as it
pub action_there : (phase : Phase) (a : Action) → IsGoodAction phase a → action_of phase (action_text a) ≡ Some a
unfolding action_of
action_there phase a is =
    let c = code_of_action a in
    let name = name_of c in
    let text = flat_map spaced (operand_words a) in
    let stands : Stands text = subst Stands (append-nil text) (stands_too (operand_words a) [] tt) in
    rw (word_end name text (name_plain c) stands, take_at name text (length name) refl, drop_at name text (length name) refl, named_there phase c is.is.of_phase)
    (operands_there a (readable (format_of c) (operands a) (good_operands phase a is)))

-- what is read of a line is the action of which it is the line
pub action_was : (phase : Phase) (line : List ℕ) (a : Action) → action_of phase line ≡ Some a → IsGoodAction phase a × (line ≡ action_text a)
unfolding action_of
action_was phase line a e =
    let front = take (space_place line) line in
    let rest = drop (space_place line) line in
    let n = bind_some (code_named phase front) (λ c. operands_at c rest) a e in
    let named = named_were phase front n.0 n.1 in
    let m = operands_were n.0 rest a n.2 in
    let is = made_good phase n.0 m.value named.0 (good (format_of n.0) m.value (formats_fit n.0) m.is) in
    let whole : line ≡ action_text (made n.0 m.value) =
    sym (take-append-drop (space_place line) line) ∙ ap (λ t. t ++ rest) named.1 ∙ ap (λ t. name_of n.0 ++ t) m.here ∙ made_text n.0 m.value in
    subst (λ (b : Action). IsGoodAction phase b × (line ≡ action_text b)) m.made (is, whole)
