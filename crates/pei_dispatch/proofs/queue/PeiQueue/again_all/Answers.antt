use Rattle.std.proofs.Common.{◌≡◌, ◌<◌, ◌+◌, ◌&&◌, ℕ, List, get_or, take, length, sym, ap, subst, ◌∙◌}
use Rattle.mod_catalog.specs.Parts.{has_number}
use Rattle.pei_dispatch.specs.Queue.{parts_in}
use Rattle.pei_dispatch.specs.View.{awaits_again, awaits_at, is_number_by, with_again}
use Rattle.pei_dispatch.proofs.{Awaiting.one_more, Views.again_more}
use Rattle.pei_dispatch.proofs.queue.PeiQueue.again_all.Goals as goal

pub parts-preserved : goal.parts-preserved
parts-preserved c =
    let order = parts_in c.args.self.now in
    let states = c.args.states.now in
    let i = c.parts.place in
    let number = get_or c.order.result.now i 0 in
    let same : c.order.result.now ≡ order = c.order.ensures ∙ c.parts.invariant.parts in
    let less : i < length order = subst (λ (xs : List ℕ). i < length xs) c.order-place-end.ensures c.parts-test.true in
    record {
      parts = c.again_by.ensures.parts ∙ c.parts.invariant.parts;
      shows = λ catalog view shows started.
          again_more catalog c.again_by.new.self view (λ n. has_number (take i order) n && awaits_at states n) (is_number_by number c.state_of.result) (λ n. has_number (take (i + 1) order) n && awaits_at states n)
          (c.again_by.ensures.shows catalog (with_again (λ n. has_number (take i order) n && awaits_at states n) view) (c.parts.invariant.shows catalog view shows started)
          (λ awaits. started number (ap awaits_again (sym c.state_of.ensures) ∙ awaits)))
          (λ n h. one_more order states i number n c.state_of.result less (ap (λ (xs : List ℕ). get_or xs i 0) same) c.state_of.ensures);
      cursor = c.again_by.ensures.cursor ∙ c.parts.invariant.cursor;
      walked = c.again_by.ensures.walked ∙ c.parts.invariant.walked;
      owed = c.again_by.ensures.owed ∙ c.parts.invariant.owed;
    }
