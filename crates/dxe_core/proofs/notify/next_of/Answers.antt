use Rattle.std.proofs.Common.{sym, ◌∙◌, ap, arith, slice_get}
use Rattle.dxe_core.proofs.Notifying.{told, told_none, told_late}
use Rattle.dxe_core.proofs.notify.next_of.Goals as goal

pub returns-in-None : goal.returns-in-None
returns-in-None c m same =
    let is = ap (λ s. s.notes) (sym c.services.view_is) in
    told_none m c.services.inside.notes c.args.sweep (same ∙ is) c.in-None.ensures

pub returns-then-place-sweep : goal.returns-then-place-sweep
returns-then-place-sweep c m same =
    let is = ap (λ s. s.notes) (sym c.services.view_is) in
    let late = c.if-place-sweep.true in
    told_late m c.services.inside.notes c.args.sweep c.in-Some.place (same ∙ is) c.in-Some.ensures (omega (arith, late))

pub returns-in-Some-note : goal.returns-in-Some-note
returns-in-Some-note c m same =
    let is = ap (λ s. s.notes) (sym c.services.view_is) in
    let less = c.if-place-sweep.false in
    told m c.services.inside.notes c.args.sweep c.in-Some.place c.in-Some-note.note.now (same ∙ is) c.in-Some.ensures (omega (arith, less))
    (c.in-Some-note.ensures ∙ ap (λ notes. slice_get notes c.in-Some.place) is)
