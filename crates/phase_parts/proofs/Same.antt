-- The actions of both phases.
use Rattle.std.proofs.Common.{◌≡◌, ℕ, ◌+◌, List, Option, Some, None, refl, ap, ◌∙◌, ◌%◌, ◌^◌, option_map}
use Rattle.act_code.specs.declared.action.Action.{Action}
use Rattle.act_code.specs.declared.action.Action.TheVariants as A
use Rattle.boot_model.specs.{declared.frame.Frame.Frame, declared.frame.Register.Register, Effect.Effect, Effect.effect_by}
use Rattle.boot_model.specs.Effect as E
use Rattle.boot_model.specs.Registers.{number_in}
use Rattle.phase_parts.specs.Alike.{AreAlike, as_effect}
use Rattle.phase_parts.specs.Deed.{Deed, deed, number_written}

written : {R O : Type 0} (registers : List Register) (r : ℕ) (n : Option ℕ) → E.number_written {R = R} {O = O} registers r n ≡ as_effect (number_written registers r n)
written registers r None = refl
written registers r (Some n) = refl

of_some : {R O : Type 0} (made does : Deed) (has : Effect R O) → has ≡ as_effect made → Some made ≡ Some does → has ≡ as_effect does
of_some made does has e h = let same : made ≡ does = cc in e ∙ ap as_effect same

both : {W R O : Type 0} (own : Action → Effect R O) (frame : Frame W) (action : Action) (does : Deed) → deed frame action ≡ Some does → effect_by own frame action ≡ as_effect does
both own frame (A.Set r n) does e = of_some _ does _ refl e
both own frame (A.Add r n) does e = of_some _ does _ (written frame.registers r (option_map (λ old. (old + n) % 2 ^ 64) (number_in frame.registers r))) e
both own frame (A.Log text) does e = of_some _ does _ refl e
both own frame (A.SkipIf condition n) does e = of_some _ does _ refl e
both own frame (A.Ret status) does e = of_some _ does _ refl e
both own frame action does e = cc

one : {W R O : Type 0} (own : Action → Effect R O) (frame : Frame W) (action : Action) → deed frame action ≡ None → effect_by own frame action ≡ own action
one own frame (A.Set r n) e = cc
one own frame (A.Add r n) e = cc
one own frame (A.Log text) e = cc
one own frame (A.SkipIf condition n) e = cc
one own frame (A.Ret status) e = cc
one own frame action e = refl

pub alike : {W R O : Type 0} → AreAlike W R O
alike = record { both = both; one = one }
