use Rattle.std.proofs.Common.{List, ℕ, subst, sym}
use Rattle.volume_text.specs.Text.{Leads}
use Rattle.volume_print.proofs.inner.read_again.Goals as goal

pub returns-in-Err-Bad : goal.returns-in-Err-Bad
returns-in-Err-Bad c =
    λ bytes leads long. c.one_volume.ensures.apart c.as_slice.result.now bytes c.in-Err-Bad.field-0-0
    (subst (λ (t : List ℕ). Leads t bytes) (sym c.as_slice.ensures) leads) (rw c.in-Err-Bad.field-0-is at c.in-Err-Bad.ensures.refused)
