use Rattle.std.proofs.Common.{◌∙◌, ap}
use Rattle.boot_core.specs.Refusing.{status_after}
use Rattle.boot_core.proofs.refusal.refuse.Goals as goal

pub returns-in-Refused : goal.returns-in-Refused
returns-in-Refused g c =
    rw c.in-Refused.is (record {
      put = c.put-put.result;
      status_is = c.answer.ensures ∙ ap (λ due. status_after c.put-put.result due) c.refusal_status.ensures;
      texts = c.put-put.ensures.text;
      cause = c.put-put.ensures.cause;
    })
