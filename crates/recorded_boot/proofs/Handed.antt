-- A machine that hands something on has ended, and hands one thing on.
use Rattle.std.proofs.Common.{◌≡◌, List, ℕ, Option, Some, None, refl, sym, ap, ◌∙◌, option_and_then}
use Rattle.boot_model.specs.{declared.line.RunEnd.RunEnd, declared.phase_end.PeiEnd.PeiEnd, declared.phase_end.PeiEnd.TheVariants.Handoff}
use Rattle.boot_model.specs.PeiMachine.{PeiMachine}
use Rattle.boot_core.specs.{declared.handing_on.HandOff.HandOff, HandOff.HandsOn, HandOff.result_of}
use Rattle.boot_core.specs.declared.handing_on.HandOff.TheVariants.{Hobs, Ended}

ended_so : (o : Option PeiEnd) (end : RunEnd) → option_and_then result_of o ≡ Some end → (how : PeiEnd) × (o ≡ Some how)
ended_so None end is = absurd (cc)
ended_so (Some how) end is = (how, refl)

pub has_ended_so : (m : PeiMachine) (handed : HandOff) → HandsOn m handed → (how : PeiEnd) × (m.ended ≡ Some how)
has_ended_so m (Hobs bytes) is = (Handoff, is.0)
has_ended_so m (Ended end) is = ended_so m.ended end is

list_or_end : (m : PeiMachine) (bytes : List ℕ) (end : RunEnd) → HandsOn m (Hobs bytes) → HandsOn m (Ended end) → ⊥
list_or_end m bytes end p q =
    let none : option_and_then result_of m.ended ≡ None = ap (λ (o : Option PeiEnd). option_and_then result_of o) p.0 in
    let same : None ≡ Some end = sym none ∙ q in
    cc

one_end : (a b : RunEnd) → Some a ≡ Some b → a ≡ b
one_end a b same = cc

pub one_handed : (m : PeiMachine) (one other : HandOff) → HandsOn m one → HandsOn m other → one ≡ other
one_handed m (Hobs a) (Hobs b) p q = ap Hobs (p.1 ∙ sym q.1)
one_handed m (Hobs a) (Ended b) p q = absurd (list_or_end m a b p q)
one_handed m (Ended a) (Hobs b) p q = absurd (list_or_end m b a q p)
one_handed m (Ended a) (Ended b) p q = ap Ended (one_end a b (sym p ∙ q))
