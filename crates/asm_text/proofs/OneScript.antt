-- A text is that of one script, and has one bad line.
use Rattle.std.proofs.Common.{◌≡◌, ℕ, ◌≤◌, List, [], ◌++◌, length, flat_map, Some, Result, Ok, Err, refl, sym, ap, ◌∙◌, arith, IfOk, IfErr, append-nil}
use Rattle.std.proofs.lemmas.Option.{same_Some}
use Rattle.act_code.specs.{declared.script.Script.Script, Script.script_bytes}
use Rattle.asm_text.specs.declared.fault.TextFault.{TextFault}
use Rattle.asm_text.specs.declared.fault.TextFault.TheVariants.{Bad, TooLong, Memory}
use Rattle.asm_text.specs.ReadScript.{IsWellFormed, IsScriptOf, IsScriptRefused, GivesScript}
use Rattle.asm_text.specs.ScriptText.{phase_text, line, script_text}
use Rattle.asm_text.proofs.{LineFeeds.cut_lines, Blocks.at, Drafting.with_lines, Drafting.well_reached}
use Rattle.asm_text.proofs.ScriptLines.{body_lines, lines_of, text_is, lines_lack, phase_one}
use Rattle.asm_text.proofs.BadScripts.{no_lines, tail_one}

pub same_script : (script other : Script) → IsWellFormed script → IsWellFormed other → script_text script ≡ script_text other → script ≡ other
same_script script other a b is =
    let text : flat_map line (lines_of script) ++ [] ≡ flat_map line (lines_of other) = append-nil (flat_map line (lines_of script)) ∙ sym (text_is script) ∙ is ∙ text_is other in
    let cut = cut_lines (lines_of script) (lines_of other) [] (lines_lack script a) (lines_lack other b) text in
    let none = no_lines cut.0 cut.2 in
    let lines : lines_of other ≡ lines_of script = cut.1 ∙ ap (λ t. lines_of script ++ t) none ∙ append-nil (lines_of script) in
    let parts = tail_one (phase_text other.phase) (phase_text script.phase) (body_lines other.blocks) (body_lines script.blocks) lines in
    let way : with_lines (at script.phase []) (body_lines script.blocks) ≡ Some other =
    ap (λ p. with_lines (at p []) (body_lines script.blocks)) (sym (phase_one other.phase script.phase parts.0)) ∙ ap (with_lines (at other.phase [])) (sym parts.1) ∙ well_reached other b in
    same_Some script other (sym (well_reached script a) ∙ way)

-- so a script that is printed is read again
pub again_by : (text : List ℕ) (r : Result Script TextFault) → IfOk r (IsScriptOf text) → IfErr r (IsScriptRefused text) → (script : Script) → IsScriptOf text script
    → length (script_bytes script) ≤ 65536 → GivesScript script r
again_by text (Ok read) is refused script there short = same_script read script is.0 there.0 (sym is.1 ∙ there.1)
again_by text (Err (Bad number)) is refused script there short = absurd (refused.none (script, there))
again_by text (Err TooLong) is refused script there short =
    let same : refused.0 ≡ script = same_script refused.0 script refused.1.0 there.0 (sym refused.1.1 ∙ there.1) in
    absurd (omega (arith, refused.2, short, ap (λ (s : Script). length (script_bytes s)) same))
again_by text (Err Memory) is refused script there short = refl
