use Rattle.std.proofs.Common.{◌∙◌, sym, subst, arith, rules, below_more}
use Rattle.std.proofs.lemmas.Result.{err_from_is_err_and}
use Rattle.line_words.specs.Line.{lines}
use Rattle.gcd_map.specs.{CommandFaults.IsCommandFault, CommandText.IsBad}
use Rattle.gcd_map.proofs.CommandLines.{at_is, spelled_more, ended, fault_at}
use Rattle.gcd_map.proofs.commands.read_commands.Goals as goal

pub returns-in_err-take_line-clause-fault : goal.returns-in_err-take_line-clause-fault
returns-in_err-take_line-clause-fault c =
    let all = lines c.args.text.now in let n = c.lines.count in
    let at = at_is all n c.first_line.result.0.now (lines c.first_line.result.1.now) (c.lines.invariant.left ∙ c.first_line.ensures.lines) in
    let p = err_from_is_err_and c.from_residual.result c.from_residual.ensures.1 in
    rw p.1 (subst (IsCommandFault c.args.text.now) (sym p.2)
    (fault_at c.args.text.now n c.first_line.result.0.now _ c.lines.commands c.take_line.new.commands c.in_err-take_line.field-0.0 at c.lines.invariant.sound c.in_err-take_line.ensures))

pub lines-preserved : goal.lines-preserved
lines-preserved c =
    let all = lines c.args.text.now in let n = c.lines.count in let line = c.first_line.result.0.now in
    let at = at_is all n line (lines c.first_line.result.1.now) (c.lines.invariant.left ∙ c.first_line.ensures.lines) in
    record {
      within = omega (arith, at.within);
      short = omega (arith, c.first_line.ensures.shorter, c.lines.invariant.short);
      left = at.rest_is;
      sound = below_more _ _ c.lines.invariant.sound (λ bad. c.in_ok-take_line.ensures.0 (subst IsBad at.line_is bad));
      commands = spelled_more all n line _ c.lines.commands c.take_line.new.commands at c.lines.invariant.commands c.in_ok-take_line.ensures.1;
    }

pub returns-clause-found : goal.returns-clause-found
returns-clause-found c =
    let all = lines c.args.text.now in
    let whole = ended all c.lines.count c.lines.rest.now c.lines.invariant.left (search rules) c.lines.invariant.within in
    rw whole at c.lines.invariant.commands
