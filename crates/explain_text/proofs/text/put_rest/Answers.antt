use Rattle.std.proofs.Common.{Bool, List, ◌++◌, ap, ◌∙◌, length, arith}
use Rattle.explain_text.specs.{Flags.flag, LeftLines.left_lines, Text.is_told, Told.known_in}
use Rattle.explain_text.proofs.LeftText.{same_left}
use Rattle.explain_text.proofs.text.put_rest.Goals as goal

pub returns : goal.returns
returns c =
    let modules = c.args.modules.now in
    let phase = c.args.phase in
    let e = c.args.explained.now in
    let told = c.in_ok-told.told in
    let flags = ap (λ (f : List Bool). left_lines phase (flag f) c.known_in.result.now 0 modules) c.as_slice.ensures in
    let known = ap (λ volumes. left_lines phase (flag told) volumes 0 modules) c.known_in.ensures in
    c.in_ok-put_left.ensures
    ∙ ap (λ text. c.args.out.now ++ text) (flags ∙ known ∙ same_left phase (flag told) (is_told e phase) (known_in e phase) 0 (length modules) modules c.in_ok-told.ensures.each (omega arith))
