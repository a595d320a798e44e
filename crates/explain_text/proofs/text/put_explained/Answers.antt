use Rattle.std.proofs.Common.{◌≡◌, ◌++◌, List, OnOk, ap, flat_map, subst, ◌∙◌}
use Rattle.pi_base.specs.declared.phase.Phase.TheVariants.{Dxe, Pei}
use Rattle.mod_catalog.specs.declared.catalogue.Module.{Module}
use Rattle.explain_text.specs.{declared.reasons.Begun.Begun, EndLines.end_lines, HeldLines.held_lines, LeftLines.left_lines}
use Rattle.explain_text.specs.{StartLines.start_lines, Text.explained_text, Text.is_told}
use Rattle.explain_text.proofs.HeldText.{next_added, on_ok}
use Rattle.explain_text.proofs.text.put_explained.Goals as goal

pub returns : goal.returns
returns c =
    let out = c.args.out.now in
    let e = c.args.explained.now in
    let modules = c.as_slice-modules.result.now in
    let starts = flat_map start_lines e.begun in
    let waits = flat_map (held_lines e.begun modules) e.held in
    let pei = left_lines Pei (is_told e Pei) e.reported 0 modules in
    let dxe = left_lines Dxe (is_told e Dxe) e.discovered 0 modules in
    let one = c.in_ok-put_starts.ensures ∙ ap (λ (begun : List Begun). out ++ flat_map start_lines begun) c.as_slice.ensures in
    let two = next_added out c.put_starts.new.out c.put_waiting.new.out starts waits one c.in_ok-put_waiting.ensures in
    let three = next_added out c.put_waiting.new.out c.put_rest.new.out (starts ++ waits) pei two c.in_ok-put_rest.ensures in
    let four = next_added out c.put_rest.new.out c.put_rest-2.new.out (starts ++ waits ++ pei) dxe three c.in_ok-put_rest-2.ensures in
    subst (λ (all : List Module). OnOk c.put_end.result (c.put_end.new.out ≡ out ++ explained_text all e)) c.as_slice-modules.ensures
    (on_ok c.put_end.result _ _ (next_added out c.put_rest-2.new.out c.put_end.new.out (starts ++ waits ++ pei ++ dxe) (end_lines e) four) c.put_end.ensures)
