use Rattle.std.proofs.Common.{ℕ, ◌+◌, ◌%◌, ◌^◌, ◌∙◌, ap, refl, sym, subst, [], ◌∷◌, Option, Some, length, ◌≤◌, option_map}
use Rattle.boot_model.specs.Registers.{number_in, skipped}
use Rattle.phase_parts.specs.Frames.{below_top}
use Rattle.boot_model.specs.declared.line.Line.TheVariants as L
use Rattle.phase_parts.specs.Deed.{Logged, Returned, Skipped, deed, number_added, number_written}
use Rattle.phase_parts.proofs.{Grammar.log_text, Written.prints_nothing, Written.leaves_the_frame}
use Rattle.phase_parts.proofs.actions.take_action.Goals as goal

pub shown-requires : goal.shown-requires
shown-requires g c = subst (λ xs. length xs ≤ 64) (sym c.as_slice.ensures) (log_text c.requires.action.0 c.args.action.now c.in-Log.text c.in-Log.is c.requires.action.1)

pub returns-in-Set : goal.returns-in-Set
returns-in-Set g c frame below e = record {
  does = number_written frame.registers c.in-Set.r (Some c.in-Set.n);
  is = ap (deed frame) c.in-Set.is;
  frames = c.set_number.ensures frame below e;
  told = refl;
}

pub returns-in-Add : goal.returns-in-Add
returns-in-Add g c frame below e =
    let n : Option ℕ = option_map (λ old. (old + c.in-Add.n) % 2 ^ 64) (number_in frame.registers c.in-Add.r) in
    record {
      does = number_added frame.registers c.in-Add.r c.in-Add.n;
      is = ap (deed frame) c.in-Add.is;
      frames = c.add_number.ensures frame below e ∙ leaves_the_frame frame below frame.registers c.in-Add.r n;
      told = prints_nothing frame.registers c.in-Add.r n;
    }

pub returns-in-Log : goal.returns-in-Log
returns-in-Log g c frame below e = record {
  does = Logged c.in-Log.text;
  is = ap (deed frame) c.in-Log.is;
  frames = c.advance.ensures frame below e;
  told = ap (λ text. L.Log (record { items = text }) ∷ []) (sym c.as_slice.ensures ∙ sym c.shown.ensures);
}

pub returns-in-SkipIf : goal.returns-in-SkipIf
returns-in-SkipIf g c frame below e = record {
  does = Skipped c.skipped-passed.result;
  is = ap (deed frame) c.in-SkipIf.is ∙ ap (λ last. Some (Skipped (skipped last c.in-SkipIf.condition c.in-SkipIf.n))) (sym (c.last.ensures frame below e)) ∙ ap (λ n. Some (Skipped n)) (sym c.skipped-passed.ensures);
  frames = c.advance-in-SkipIf.ensures frame below e;
  told = refl;
}

pub returns-in-Ret : goal.returns-in-Ret
returns-in-Ret g c frame below e = record {
  does = Returned c.in-Ret.status;
  is = ap (deed frame) c.in-Ret.is;
  frames = c.end.ensures ∙ ap below_top e;
  told = refl;
}
