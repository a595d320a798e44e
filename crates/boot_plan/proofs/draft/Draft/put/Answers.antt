use Rattle.std.proofs.Common.{◌≡◌, ◌++◌, ap, ◌∙◌}
use Rattle.boot_plan.proofs.Drafts.{keeps_temp, keeps_ram, keeps_volume, keeps_fuel, keeps_pages}
use Rattle.boot_plan.proofs.draft.Draft.put.Goals as goal

pub returns-in-Temp-clause-keeps : goal.returns-in-Temp-clause-keeps
returns-in-Temp-clause-keeps c = rw c.in-Temp.is (λ before k first. keeps_temp before c.args.self.now c.args.line c.in-Temp.base c.in-Temp.size k first)

pub returns-in-Ram-clause-keeps : goal.returns-in-Ram-clause-keeps
returns-in-Ram-clause-keeps c = rw c.in-Ram.is (λ before k first. keeps_ram before c.args.self.now c.args.line c.in-Ram.base c.in-Ram.size k first)

pub returns-in_ok-push-in-Volume-clause-keeps : goal.returns-in_ok-push-in-Volume-clause-keeps
returns-in_ok-push-in-Volume-clause-keeps c = rw c.in-Volume.is (λ before k first. let name : c.append.new.self ≡ c.in-Volume.name.now = c.in_ok-append-in-Volume.ensures.ok ∙ ap (λ l. l ++ c.in-Volume.name.now) c.new-kept.ensures in
    rw (c.in_ok-push-in-Volume.ensures.ok, name) (keeps_volume before c.args.self.now c.args.line c.in-Volume.base c.in-Volume.name.now k))

pub returns-in-Fuel-clause-keeps : goal.returns-in-Fuel-clause-keeps
returns-in-Fuel-clause-keeps c = rw c.in-Fuel.is (λ before k first. keeps_fuel before c.args.self.now c.args.line c.in-Fuel.count k first)

pub returns-in-Pages-clause-keeps : goal.returns-in-Pages-clause-keeps
returns-in-Pages-clause-keeps c = rw c.in-Pages.is (λ before k first. keeps_pages before c.args.self.now c.args.line c.in-Pages.size k first)
