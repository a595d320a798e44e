use Rattle.std.proofs.Common.{◌≡◌, ℕ, List, Result, Ok, Err, refl, sym, ◌∙◌, inl, inr, ◌⊎◌}
use Rattle.pi_base.specs.Field.{AreBytes}
use Rattle.act_code.specs.{declared.script.Script.Script, declared.fault.ActFault.ActFault, ScriptReading.script_at}
use Rattle.act_code.specs.Script.{IsScript, IsFault}
use Rattle.act_code.proofs.Lists.{ok_is, err_is}
use Rattle.act_code.proofs.Scripts.{script_takes, script_again, script_fails, script_fails_again}
use Rattle.act_code.proofs.laws.one_outcome.Goals as goal

outcome : (bytes : List ℕ) → AreBytes bytes → (r : Result Script ActFault) → script_at bytes ≡ r → ((s : Script) × IsScript bytes s) ⊎ ((f : ActFault) × IsFault bytes f)
outcome bytes all (Ok s) is = inl (s, script_takes bytes s all is)
outcome bytes all (Err f) is = inr (f, script_fails bytes f all is)

pub returns : goal.returns
returns c = record {
  script = λ bytes s t a b. ok_is {A = Script} s t (sym (script_again bytes s a) ∙ script_again bytes t b);
  fault = λ bytes f g all a b. err_is {A = Script} f g (sym (script_fails_again bytes f all a) ∙ script_fails_again bytes g all b);
  apart = λ bytes s f all a b. let both : ◌≡◌ {A = Result Script ActFault} (Ok s) (Err f) = sym (script_again bytes s a) ∙ script_fails_again bytes f all b in absurd cc;
  one = λ bytes all. outcome bytes all (script_at bytes) refl;
}
