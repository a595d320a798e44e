-- What leaves the program, from what was put.
use Rattle.std.proofs.Common.{◌≡◌, ℕ, List, Option, Result, Ok, Err, sym, ◌∙◌, ap, inr, subst}
use Rattle.boot_io.specs.declared.sink.SinkFault.{SinkFault}
use Rattle.boot_core.specs.{declared.status.Status.Status, Causes.ComesExactly, Causes.IsStopped, Outcome.OfAnswer, Outcome.kind_of}
use Rattle.boot_core.specs.Refusing.{status_after}

-- a fault or want of memory is no answer, and may stand in the place of one
pub stopped_comes : (told : List ℕ → Option (List ℕ)) (words : List (List ℕ)) (due status : Status) → kind_of due ≡ OfAnswer → IsStopped (kind_of status) → ComesExactly told words due status
stopped_comes told words due status answer stopped = record {
  only = λ same. absurd (subst IsStopped (ap kind_of same ∙ answer) stopped);
  whenever = λ all leads. inr stopped;
}

-- the answer of what was put, or the sink's fault
pub handed_comes : (handed : Result (Unit {0}) SinkFault) (told : List ℕ → Option (List ℕ)) (words : List (List ℕ)) (due ran status : Status) → kind_of due ≡ OfAnswer
    → status ≡ status_after handed ran → ComesExactly told words due ran → ComesExactly told words due status
handed_comes (Ok u) told words due ran status answer is comes = subst (ComesExactly told words due) (sym is) comes
handed_comes (Err e) told words due ran status answer is comes =
    stopped_comes told words due status answer (subst (λ s. IsStopped (kind_of s)) (sym is) tt)
