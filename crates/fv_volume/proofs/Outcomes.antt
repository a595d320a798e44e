-- What holds where a call succeeded.
use Rattle.std.proofs.Common.{OnOk, Result, Ok, Err}

pub on_ok : {A E : Type 0} (r : Result A E) (P Q : Type 0) → (P → Q) → OnOk r P → OnOk r Q
on_ok (Ok x) P Q f p = f p
on_ok (Err e) P Q f p = tt
