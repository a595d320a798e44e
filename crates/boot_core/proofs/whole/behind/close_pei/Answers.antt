use Rattle.std.proofs.Common.{◌≡◌, ℕ, None, subst}
use Rattle.boot_trace.specs.Printing.{Texts}
use Rattle.store_model.specs.HandleState.{HandleState, no_handles}
use Rattle.boot_core.specs.{declared.whole.behind.Behind.TheVariants.Closed, Closing.closing_text, FirstBoot.Tells}
use Rattle.boot_core.proofs.whole.behind.close_pei.Goals as goal

pub close-requires-clause-state : goal.close-requires-clause-state
close-requires-clause-state g c = c.requires.state

pub returns-clause-row : goal.returns-clause-row
returns-clause-row g c = λ s stands any.
    let t : Texts = record { old = g.S.Sink.text c.args.sink.now; new = g.S.Sink.text c.close.new.sink } in
    let P : HandleState → ℕ → Type 0 = λ handles starts. Tells (λ behind. behind ≡ Closed (record { «end» = c.args.end; handles = handles; before = record { starts = starts; turn = None } })) (closing_text s handles c.args.end) t c.close.result in
    subst (P no_handles) c.from.ensures (subst (λ handles. P handles c.from.result) c.new.ensures (c.close.ensures.row s stands any))
