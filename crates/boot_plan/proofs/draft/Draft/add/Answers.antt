use Rattle.std.proofs.Common.{rules}
use Rattle.boot_plan.specs.View.{form_view, entry_view}
use Rattle.boot_plan.proofs.Adding.{added}
use Rattle.boot_plan.proofs.draft.Draft.add.Goals as goal

pub returns : goal.returns
returns c = λ before k range. added before c.args.self.now c.put.new.self c.args.number c.args.line.now (form_view c.in-Some.form) (entry_view c.in-Some-read_entry.entry)
    (search rules) (search rules) (search rules) (search rules) (search rules) k range (search rules) (search rules)
