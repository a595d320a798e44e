-- In which form a section is told.
use Rattle.std.proofs.Common.{◌≡◌, ℕ, zero, suc, Bool, true, false, List, Option, Some, None, refl, sym, ap, ◌∙◌, subst, arith, ◌==◌, bytes_eq, if◌then◌else◌}
use Rattle.std.proofs.{lemmas.Bool.Decides.nat_tests, lemmas.Option.same_Some}
use Rattle.std.specs.List.{list_any}
use Rattle.pi_base.specs.{declared.phase.Phase.Phase, declared.phase.Phase.TheVariants.Pei, declared.phase.Phase.TheVariants.Dxe}
use Rattle.fv_volume.specs.declared.build.new_file.NewSection.{NewSection}
use Rattle.depex_code.specs.declared.depex.Depex.{Depex}
use Rattle.depex_code.specs.Expression.{Reads, IsMalformed, instructions, bytes_of}
use Rattle.act_code.specs.{declared.script.Script.Script, Script.IsScript}
use Rattle.volume_text.specs.Open.{depex_type, has_part, is_depex_of, is_script_of}
use Rattle.line_words.proofs.Comparisons.{not_same}
use Rattle.volume_print.specs.{declared.form.Host.Host, Description.IsInner}
use Rattle.volume_print.specs.Spelling.{IsExpressionOf, SaysExpression, is_guid_list}
use Rattle.volume_print.specs.Finding.{depex_phase, FindsExpression, FindsScript, FindsVolume, TellsExpression, TellsScript, TellsVolume}

phase_back : (phase : Phase) → depex_phase (depex_type phase) ≡ Some phase
phase_back Pei = refl
phase_back Dxe = refl

-- the phase of a section that is told as an expression
pub phase_of : (kind : ℕ) (before : List NewSection) (section : NewSection) (phase : Phase) (expression : Depex) → SaysExpression kind before section phase expression → depex_phase section.kind ≡ Some phase
phase_of kind before section phase expression says = ap depex_phase says.kind_is ∙ phase_back phase

first_is : (a b : Bool) → ◌≡◌ {A = Option Phase} (if a then Some Pei else if b then Some Dxe else None) (Some Pei) → a ≡ true
first_is true b e = refl
first_is false true e = absurd cc
first_is false false e = absurd cc

second_is : (a b : Bool) → ◌≡◌ {A = Option Phase} (if a then Some Pei else if b then Some Dxe else None) (Some Dxe) → b ≡ true
second_is true b e = absurd cc
second_is false true e = refl
second_is false false e = absurd cc

-- the type of sections with expressions of a phase
type_of : (kind : ℕ) (phase : Phase) → depex_phase kind ≡ Some phase → kind ≡ depex_type phase
type_of kind Pei is = let e : (kind == 27) ≡ true = first_is (kind == 27) (kind == 19) is in grind (arith, nat_tests)
type_of kind Dxe is = let e : (kind == 19) ≡ true = second_is (kind == 27) (kind == 19) is in grind (arith, nat_tests)

pub no_phase : (kind : ℕ) (phase : Phase) → depex_phase kind ≡ None → depex_phase kind ≡ Some phase → ⊥
no_phase kind phase none some = let e : ◌≡◌ {A = Option Phase} None (Some phase) = sym none ∙ some in absurd cc

both : (b : Bool) → b ≡ true → b ≡ false → ⊥
both true e f = absurd cc
both false e f = absurd cc

-- a section is told as an expression, or as none
pub no_type : (kind : ℕ) (before : List NewSection) (section : NewSection) → depex_phase section.kind ≡ None → TellsExpression kind before section None
no_type kind before section none = λ phase expression says. no_phase section.kind phase none (phase_of kind before section phase expression says)

pub no_part : (kind : ℕ) (before : List NewSection) (section : NewSection) (phase : Phase) → depex_phase section.kind ≡ Some phase → has_part kind phase ≡ false → TellsExpression kind before section None
no_part kind before section phase is none = λ other expression says.
    let same : other ≡ phase = same_Some other phase (sym (phase_of kind before section other expression says) ∙ is) in
    both (has_part kind phase) (ap (has_part kind) (sym same) ∙ says.part) none

pub not_first_depex : (kind : ℕ) (before : List NewSection) (section : NewSection) (phase : Phase) → depex_phase section.kind ≡ Some phase → list_any (is_depex_of phase) before ≡ true
    → TellsExpression kind before section None
not_first_depex kind before section phase is earlier = λ other expression says.
    let same : other ≡ phase = same_Some other phase (sym (phase_of kind before section other expression says) ∙ is) in
    both (list_any (is_depex_of phase) before) earlier (ap (λ p. list_any (is_depex_of p) before) (sym same) ∙ says.first)

pub no_bytes : (kind : ℕ) (before : List NewSection) (section : NewSection) (phase : Phase) → depex_phase section.kind ≡ Some phase → FindsExpression phase section.body None → TellsExpression kind before section None
no_bytes kind before section phase is none = λ other expression says.
    let same : other ≡ phase = same_Some other phase (sym (phase_of kind before section other expression says) ∙ is) in
    none expression (subst (λ (p : Phase). IsExpressionOf p section.body expression) same says.bytes)

pub told : (kind : ℕ) (before : List NewSection) (section : NewSection) (phase : Phase) (expression : Depex) → depex_phase section.kind ≡ Some phase → has_part kind phase ≡ true
    → list_any (is_depex_of phase) before ≡ false → FindsExpression phase section.body (Some expression) → TellsExpression kind before section (Some (phase, expression))
told kind before section phase expression is part first found = record { kind_is = type_of section.kind phase is; part = part; first = first; bytes = found }

-- bytes are an expression, or none
pub malformed : (phase : Phase) (bytes : List ℕ) (at : ℕ) → ((p : Phase) (b : List ℕ) (e : Depex) (n : ℕ) → Reads p b e → IsMalformed p b n → ⊥) → IsMalformed phase bytes at
    → FindsExpression phase bytes None
malformed phase bytes at apart is = λ expression found. apart phase bytes expression at found.0 is

pub unlike : (phase : Phase) (bytes spelled : List ℕ) (expression : Depex) → ((p : Phase) (b : List ℕ) (e f : Depex) → Reads p b e → Reads p b f → e ≡ f) → Reads phase bytes expression
    → spelled ≡ bytes_of (instructions expression) → (spelled ≡ bytes → ⊥) → FindsExpression phase bytes None
unlike phase bytes spelled expression one reads is differ = λ other found.
    differ (is ∙ ap (λ e. bytes_of (instructions e)) (one phase bytes expression other reads found.0) ∙ sym found.1)

-- a section is told as a script, or as none
pub not_raw : (host : Host) (before : List NewSection) (section : NewSection) → (section.kind == 25) ≡ false → TellsScript host before section None
not_raw host before section other = λ script says. both (section.kind == 25) (ap (λ k. k == 25) says.kind_is) other

pub no_script : (host : Host) (before : List NewSection) (section : NewSection) → FindsScript section.body None → TellsScript host before section None
no_script host before section none = λ script says. none script says.bytes

abbrev pub OneScript : Type 0
OneScript = (bytes : List ℕ) (s t : Script) → IsScript bytes s → IsScript bytes t → s ≡ t

pub no_part_for : (host : Host) (before : List NewSection) (section : NewSection) (script : Script) → OneScript → IsScript section.body script → has_part host.kind script.phase ≡ false
    → TellsScript host before section None
no_part_for host before section script one is none = λ other says.
    both (has_part host.kind script.phase) (ap (λ s. has_part host.kind s.phase) (one section.body script other is says.bytes) ∙ says.part) none

pub not_first : (host : Host) (before : List NewSection) (section : NewSection) (script : Script) → OneScript → IsScript section.body script
    → list_any (is_script_of script.phase) before ≡ true → TellsScript host before section None
not_first host before section script one is earlier = λ other says.
    both (list_any (is_script_of script.phase) before) earlier (ap (λ s. list_any (is_script_of s.phase) before) (one section.body script other is says.bytes) ∙ says.first)

pub told_script : (host : Host) (before : List NewSection) (section : NewSection) (script : Script) → is_guid_list host section ≡ false → (section.kind == 25) ≡ true → IsScript section.body script
    → has_part host.kind script.phase ≡ true → list_any (is_script_of script.phase) before ≡ false → TellsScript host before section (Some script)
told_script host before section script no_list raw is part first = record { kind_is = grind (arith, nat_tests); no_list = no_list; part = part; first = first; bytes = is }

pub no_volume : (deep : ℕ) (host : Host) (section : NewSection) → FindsVolume section.body None → TellsVolume (IsInner deep) host section None
no_volume zero host section none = λ text says. says.1
no_volume (suc deep) host section none = λ text says. none says.1.volume says.1.is says.1.all

-- texts that a test tells apart
pub unequal : (a b : List ℕ) (test : Bool) → test ≡ bytes_eq a b → test ≡ false → a ≡ b → ⊥
unequal a b test is fails same = not_same a b test is fails same
