use Rattle.std.proofs.Common.{◌≡◌, subst, inl}
use Rattle.act_code.specs.{declared.fault.ActCause.TheVariants.Memory, Script.IsFault}
use Rattle.mod_catalog.proofs.scripts.script_of.Goals as goal

pub returns-in-Err-clause-refused : goal.returns-in-Err-clause-refused
returns-in-Err-clause-refused c = λ other.
    let known : c.in-Err.fault.cause ≡ Memory → ⊥ = λ e. other (c.script_fault.ensures.memory e) in
    inl (record {
      found = c.in-Err.fault;
      first = subst (λ body. IsFault body c.in-Err.fault) c.section_body.ensures.here (c.in-Err.ensures.refused known);
      is = c.script_fault.ensures.fault known;
    })
