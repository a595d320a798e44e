-- A line says one thing, and leads to one state or one fault.
use Rattle.std.proofs.Common.{◌≡◌, ◌⊎◌, inl, inr, ℕ, ◌<◌, ◌≤◌, List, [], ◌∷◌, length, map, Option, Some, None, Result, Ok, Err, sym, ap, ◌∙◌, subst, arith}
use Rattle.pi_base.specs.declared.phase.Phase.{Phase}
use Rattle.depex_code.specs.{declared.depex.Depex.Depex, Expression.instructions, Expression.bytes_of as opcode_bytes}
use Rattle.source_words.specs.{declared.depex.fault.ExpressionFault.ExpressionFault, Tokens.token_of, Cause.expression_cause}
use Rattle.source_words.specs.declared.depex.fault.ExpressionFault.TheVariants as expression_fault
use Rattle.source_words.proofs.Says.{are_pass, are_one}
use Rattle.fv_volume.specs.declared.sections.section_type.TheConstants.{RAW}
use Rattle.act_code.specs.{declared.script.Script.Script, Script.script_bytes}
use Rattle.source_words.specs.{declared.script.script.ScriptCause.ScriptCause, declared.script.script.ScriptFault.ScriptFault, Words.words}
use Rattle.source_words.specs.declared.script.script.ScriptFault.TheVariants.{Bad, TooLong, Memory}
use Rattle.source_words.specs.Script.{IsUnfit, IsWhole, first_fault, line_causes}
use Rattle.volume_text.specs.{declared.fault.Cause.Cause, declared.fault.Fault.Fault, declared.keyword.Keyword.Keyword}
use Rattle.volume_text.specs.declared.fault.Cause.TheVariants as cause
use Rattle.volume_text.specs.declared.keyword.Keyword.TheVariants as keyword
use Rattle.volume_text.specs.{declared.statement.Statement.Statement, declared.volume.OpenVolume.OpenVolume, declared.step.State.State}
use Rattle.volume_text.specs.declared.statement.Statement.TheVariants as said
use Rattle.volume_text.specs.declared.step.State.TheVariants.{Begin, Filling, Writing, Done}
use Rattle.volume_text.specs.{Keywords.keyword_of, Words.phase_at, Script.placed, Script.IsScriptBody}
use Rattle.volume_text.specs.Reading.{◌>>=◌, at, onward}
use Rattle.volume_text.specs.Line.{IsExpression, IsNoExpression, IsBody, ReadsExpression, ReadsBy, ReadsFirst}
use Rattle.volume_text.specs.Step.{section_of, filling, EndsScript, TakesInScript, Takes, TakesRead, Steps}
use Rattle.std.proofs.lemmas.Option.{same_Some}

-- words are one expression, or one thing is wrong with them
no_cause_of : (phase : Phase) (others : List (List ℕ)) (expression : Depex) (fault : ExpressionFault) → IsExpression phase others expression
    → expression_cause phase (map token_of others) ≡ Some fault → ⊥
no_cause_of phase others expression fault is wrong = let none = are_pass phase (map token_of others) expression is.0 is.1 in let e : ◌≡◌ {A = Option ExpressionFault} None (Some fault) = sym none ∙ wrong in absurd cc

same_expression : (phase : Phase) (others : List (List ℕ)) (a b : Depex) → IsExpression phase others a → IsExpression phase others b → a ≡ b
same_expression phase others a b is also = are_one (map token_of others) a b is.1 also.1

-- what stands for a fault that is no want of memory
abbrev Wrong : Phase → List (List ℕ) → ExpressionFault → Type 0
Wrong phase others fault = (expression_cause phase (map token_of others) ≡ Some fault)
    ⊎ ((fault ≡ expression_fault.TooLong) × ((expression : Depex) × IsExpression phase others expression × (1024 < length (instructions expression))))

is_wrong : (phase : Phase) (others : List (List ℕ)) (fault : ExpressionFault) → IsNoExpression phase others fault → Wrong phase others fault
is_wrong phase others expression_fault.NoOperand is = is
is_wrong phase others expression_fault.NoGuid is = is
is_wrong phase others expression_fault.Extra is = is
is_wrong phase others expression_fault.Bracket is = is
is_wrong phase others expression_fault.OtherPhase is = is
is_wrong phase others expression_fault.TooLong is = is
is_wrong phase others expression_fault.Memory is = absurd is

same_wrong : (phase : Phase) (others : List (List ℕ)) (f g : ExpressionFault) → Wrong phase others f → Wrong phase others g → f ≡ g
same_wrong phase others f g (inl a) (inl b) = same_Some f g (sym a ∙ b)
same_wrong phase others f g (inl a) (inr b) = absurd (no_cause_of phase others b.1.0 f b.1.1 a)
same_wrong phase others f g (inr a) (inl b) = absurd (no_cause_of phase others a.1.0 g a.1.1 b)
same_wrong phase others f g (inr a) (inr b) = a.0 ∙ sym b.0

not_both : (phase : Phase) (others : List (List ℕ)) (expression : Depex) (fault : ExpressionFault) → IsExpression phase others expression → length (instructions expression) ≤ 1024 → Wrong phase others fault → ⊥
not_both phase others expression fault is few (inl wrong) = no_cause_of phase others expression fault is wrong
not_both phase others expression fault is few (inr long) =
    let same : length (instructions expression) ≡ length (instructions long.1.0) = ap (λ e. length (instructions e)) (same_expression phase others expression long.1.0 is long.1.1) in
    let more = long.1.2 in absurd (omega (arith, few, more, same))

one_body : (phase : Phase) (others : List (List ℕ)) (a b : Result (List ℕ) Cause) → IsBody phase others a → IsBody phase others b → a ≡ b
one_body phase others (Ok a) (Ok b) x y =
    ap Ok (x.3 ∙ ap (λ e. opcode_bytes (instructions e)) (same_expression phase others x.0 y.0 x.1 y.1) ∙ sym y.3)
one_body phase others (Ok a) (Err c) x y = absurd (not_both phase others x.0 y.0 x.1 x.2 (is_wrong phase others y.0 y.2))
one_body phase others (Err c) (Ok b) x y = absurd (not_both phase others y.0 x.0 y.1 y.2 (is_wrong phase others x.0 x.2))
one_body phase others (Err c) (Err d) x y =
    ap Err (x.1 ∙ ap cause.Expression (same_wrong phase others x.0 y.0 (is_wrong phase others x.0 x.2) (is_wrong phase others y.0 y.2)) ∙ sym y.1)

one_depex : (phase : Result (Phase × List (List ℕ)) Cause) (a b : Result Statement Cause) → ReadsExpression phase a → ReadsExpression phase b → a ≡ b
one_depex (Err c) a b x y = x ∙ sym y
one_depex (Ok p) a b x y = x.2 ∙ ap (λ (r : Result (List ℕ) Cause). r >>= (λ bytes. Ok (said.Depex p.0 bytes))) (one_body p.0 p.1 x.0 y.0 x.1 y.1) ∙ sym y.2

one_by : (k : Option Keyword) (line : List ℕ) (others : List (List ℕ)) (a b : Result Statement Cause) → ReadsBy k line others a → ReadsBy k line others b → a ≡ b
one_by (Some keyword.Volume) line others a b x y = x ∙ sym y
one_by (Some keyword.Name) line others a b x y = x ∙ sym y
one_by (Some keyword.File) line others a b x y = x ∙ sym y
one_by (Some keyword.Pad) line others a b x y = x ∙ sym y
one_by (Some keyword.Depex) line others a b x y = one_depex (phase_at others) a b x y
one_by (Some keyword.Script) line others a b x y = x ∙ sym y
one_by (Some keyword.Guids) line others a b x y = x ∙ sym y
one_by (Some keyword.Raw) line others a b x y = x ∙ sym y
one_by (Some keyword.Section) line others a b x y = x ∙ sym y
one_by (Some keyword.Ui) line others a b x y = x ∙ sym y
one_by (Some keyword.Body) line others a b x y = x ∙ sym y
one_by (Some keyword.Block) line others a b x y = x ∙ sym y
one_by (Some keyword.End) line others a b x y = x ∙ sym y
one_by None line others a b x y = x ∙ sym y

one_first : (line : List ℕ) (ws : List (List ℕ)) (a b : Result Statement Cause) → ReadsFirst line ws a → ReadsFirst line ws b → a ≡ b
one_first line [] a b x y = x ∙ sym y
one_first line (word ∷ others) a b x y = one_by (keyword_of word) line others a b x y

-- a script has one body, or one thing is wrong with it
abbrev at_place : ℕ × ScriptCause → ScriptFault
at_place fault = Bad fault.0 fault.1

some_or_none : (o : Option (ℕ × ScriptCause)) (p : ℕ × ScriptCause) → o ≡ None → o ≡ Some p → ⊥
some_or_none o p none some = let e : ◌≡◌ {A = Option (ℕ × ScriptCause)} None (Some p) = sym none ∙ some in absurd cc

-- want of memory is no fault of the text
no_place : (numbers : List ℕ) (end : ℕ) (f : Fault) → placed numbers end Memory ≡ Some f → ⊥
no_place numbers end f e = absurd cc

one_unfit : (script : Script) (numbers : List ℕ) (end : ℕ) (f g : Fault) (v w : ScriptFault) → IsUnfit script v → IsUnfit script w → placed numbers end v ≡ Some f → placed numbers end w ≡ Some g → f ≡ g
one_unfit script numbers end f g (Bad p c) (Bad q d) x y i j =
    let same : Bad p c ≡ Bad q d = ap at_place (same_Some (p, c) (q, d) (sym x ∙ y)) in
    same_Some f g (sym i ∙ ap (placed numbers end) same ∙ j)
one_unfit script numbers end f g (Bad p c) TooLong x y i j = absurd (some_or_none (first_fault 0 (line_causes script)) (p, c) y.0 x)
one_unfit script numbers end f g TooLong (Bad q d) x y i j = absurd (some_or_none (first_fault 0 (line_causes script)) (q, d) x.0 y)
one_unfit script numbers end f g TooLong TooLong x y i j = same_Some f g (sym i ∙ j)
one_unfit script numbers end f g Memory w x y i j = absurd (no_place numbers end f i)
one_unfit script numbers end f g (Bad p c) Memory x y i j = absurd (no_place numbers end g j)
one_unfit script numbers end f g TooLong Memory x y i j = absurd (no_place numbers end g j)

whole_or_unfit : (script : Script) (numbers : List ℕ) (end : ℕ) (bytes : List ℕ) (f : Fault) (w : ScriptFault) → IsWhole script bytes → IsUnfit script w → placed numbers end w ≡ Some f → ⊥
whole_or_unfit script numbers end bytes f (Bad p c) x y i = some_or_none (first_fault 0 (line_causes script)) (p, c) x.0 y
whole_or_unfit script numbers end bytes f TooLong x y i =
    let is = x.1 in
    let short = is.short in
    let long = y.2 in
    let same : length bytes ≡ length (script_bytes script) = ap length is.spelled in
    absurd (omega (arith, short, long, same))
whole_or_unfit script numbers end bytes f Memory x y i = no_place numbers end f i

one_script : (script : Script) (numbers : List ℕ) (end : ℕ) (a b : Result (List ℕ) Fault) → IsScriptBody script numbers end a → IsScriptBody script numbers end b → a ≡ b
one_script script numbers end (Ok a) (Ok b) x y = let p = x.1 in let q = y.1 in ap Ok (p.spelled ∙ sym q.spelled)
one_script script numbers end (Ok a) (Err g) x y = absurd (whole_or_unfit script numbers end a g y.0 x y.1 y.2)
one_script script numbers end (Err f) (Ok b) x y = absurd (whole_or_unfit script numbers end b f x.0 y x.1 x.2)
one_script script numbers end (Err f) (Err g) x y = ap Err (one_unfit script numbers end f g x.0 y.0 x.1 y.1 x.2 y.2)

-- one step
one_end : (below : List OpenVolume) (top : OpenVolume) (script : Script) (numbers : List ℕ) (line : ℕ) (a b : Result State Fault) → EndsScript below top script numbers line a
    → EndsScript below top script numbers line b → a ≡ b
one_end below top script numbers line a b x y =
    x.2 ∙ ap (λ (r : Result (List ℕ) Fault). onward r (λ bytes. at line (filling below top (section_of RAW bytes)))) (one_script script numbers line x.0 y.0 x.1 y.1) ∙ sym y.2

one_in_script : (below : List OpenVolume) (top : OpenVolume) (script : Script) (numbers : List ℕ) (line : ℕ) (what : Statement) (a b : Result State Fault)
    → TakesInScript below top script numbers line what a → TakesInScript below top script numbers line what b → a ≡ b
one_in_script below top script numbers line said.End a b x y = one_end below top script numbers line a b x y
one_in_script below top script numbers line (said.Volume form len) a b x y = x ∙ sym y
one_in_script below top script numbers line (said.Name name) a b x y = x ∙ sym y
one_in_script below top script numbers line (said.File kind name attributes) a b x y = x ∙ sym y
one_in_script below top script numbers line (said.Body bytes) a b x y = x ∙ sym y
one_in_script below top script numbers line (said.Pad len) a b x y = x ∙ sym y
one_in_script below top script numbers line (said.Section kind body) a b x y = x ∙ sym y
one_in_script below top script numbers line (said.Depex phase body) a b x y = x ∙ sym y
one_in_script below top script numbers line (said.Script phase) a b x y = x ∙ sym y
one_in_script below top script numbers line said.Block a b x y = x ∙ sym y
one_in_script below top script numbers line (said.Action text) a b x y = x ∙ sym y

one_take : (state : State) (line : ℕ) (what : Statement) (a b : Result State Fault) → Takes state line what a → Takes state line what b → a ≡ b
one_take Begin line what a b x y = x ∙ sym y
one_take (Filling below top) line what a b x y = x ∙ sym y
one_take (Writing below top script numbers) line what a b x y = one_in_script below top script numbers line what a b x y
one_take (Done bytes) line what a b x y = x ∙ sym y

one_taken : (state : State) (line : ℕ) (read : Result Statement Cause) (a b : Result State Fault) → TakesRead state line read a → TakesRead state line read b → a ≡ b
one_taken state line (Ok what) a b x y = one_take state line what a b x y
one_taken state line (Err c) a b x y = x ∙ sym y

pub one_step : (state : State) (number : ℕ) (line : List ℕ) (a b : Result State Fault) → Steps state number line a → Steps state number line b → a ≡ b
one_step state number line a b x y =
    let same : y.0 ≡ x.0 = one_first line (words line) y.0 x.0 y.1 x.1 in
    one_taken state number x.0 a b x.2 (subst (λ (r : Result Statement Cause). TakesRead state number r b) same y.2)
