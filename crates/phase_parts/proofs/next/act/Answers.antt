use Rattle.std.proofs.Common.{◌∙◌, ap, sym, refl, subst, [], ◌∷◌, unwrap_or}
use Rattle.pi_base.specs.declared.word.Word.TheVariants.{Success}
use Rattle.act_code.specs.declared.action.Action.TheVariants.{Ret}
use Rattle.phase_parts.specs.{Deed.Returned, Deed.deed, Frames.below_top, Needs.IsWithin, Took.HasDone}
use Rattle.phase_parts.proofs.next.act.Goals as goal

pub returns-in-None : goal.returns-in-None
returns-in-None g c frame below e =
    let at = ap (λ o. unwrap_or o (Ret Success)) (sym (c.in-None.ensures.found frame below e)) in
    (c.if-not-spend.ensures, record { does = Returned Success; is = ap (deed frame) at; frames = c.end.ensures ∙ ap below_top e; told = refl })

pub returns-in-Silent : goal.returns-in-Silent
returns-in-Silent g c frame below e =
    let at = ap (λ o. unwrap_or o (Ret Success)) (c.in-Some.ensures.found frame below e) in
    (c.if-not-spend.ensures, subst (λ a. HasDone frame below a [] c.take_action.new.frames) at (c.in-Silent.ensures frame below e))

pub returns-in-Prints : goal.returns-in-Prints
returns-in-Prints g c frame below e =
    let at = ap (λ o. unwrap_or o (Ret Success)) (c.in-Some.ensures.found frame below e) in
    (c.if-not-spend.ensures, subst (λ a. HasDone frame below a (c.in-Prints.line ∷ []) c.take_action.new.frames) at (c.in-Prints.ensures frame below e))

pub returns-in-Own : goal.returns-in-Own
returns-in-Own g c frame below e =
    let at = ap (λ o. unwrap_or o (Ret Success)) (c.in-Some.ensures.found frame below e) in
    let left = c.in-Own.ensures frame below e in (
      c.if-not-spend.ensures,
      record { is = at; own = left.0; fits = c.in-Some.ensures.fits; within = subst IsWithin e c.in-Some.ensures.place; here = c.in-Some.ensures.here frame below e; frames = left.1 },
    )
