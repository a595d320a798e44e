use Rattle.std.proofs.Common.{◌≡◌, ℕ, ◌<◌, ◌≤◌, ◌+◌, suc, List, ◌∷◌, length, drop, get_or, ap, sym, ◌∙◌, refl, arith, add-one, drop-cons}
use Rattle.std.proofs.Math.ListN.{drop_of_length-le}
use Rattle.boot_model.specs.declared.driver.Scheduled.{Scheduled}
use Rattle.dxe_dispatch.specs.Queue.{Queue}
use Rattle.dxe_dispatch.proofs.queue.DriverQueue.take.Goals as goal

head_first : (items read : List Scheduled) (head : ℕ) (next : Scheduled) → read ≡ items → (head < length read) × ((x : Scheduled) → next ≡ get_or read head x) → drop head items ≡ next ∷ drop (head + 1) items
head_first items read head next same at =
    let below : head < length items = omega (arith, at.0, ap (λ (xs : List Scheduled). length xs) same) in
    rw (add-one, drop-cons items head next) (ap (λ x. x ∷ drop (suc head) items) (sym (at.1 next ∙ ap (λ (xs : List Scheduled). get_or xs head next) same)))

pub returns-in_err-next : goal.returns-in_err-next
returns-in_err-next c =
    let items = c.self.inside.items in
    let past : length items ≤ c.self.inside.head = omega (arith, c.in_err-next.ensures.lookup.3, ap (λ (xs : List Scheduled). length xs) c.as_slice.ensures) in
    rw c.from_residual.ensures (ap (λ (q : Queue). q.scheduled) (sym c.self.view_is) ∙ drop_of_length-le items past, refl)

pub returns : goal.returns
returns c =
    let inside = c.self.inside in
    let is = c.self.view_is in (
      ap (λ (q : Queue). q.scheduled) (sym is) ∙ head_first inside.items c.as_slice.result.now inside.head c.in_ok-next.field-0.now c.as_slice.ensures c.in_ok-next.ensures.lookup.3,
      ap (λ (q : Queue). q.left + 1) is,
      ap (λ (q : Queue). q.waits) is,
      ap (λ (q : Queue). q.index) is,
    )
