use Rattle.std.proofs.Common.{◌≡◌, arith, subst, Some, None}
use Rattle.std.proofs.lemmas.Bool.Decides.{nat_tests}
use Rattle.store_model.specs.StateFacts.{IsDescriptorAt}
use Rattle.heap_trials.specs.declared.scene.TheConstants.{NAME}
use Rattle.heap_trials.proofs.Stays.{is_made}
use Rattle.heap_trials.proofs.scene.makes.Goals as goal

pub returns-in-Ok : goal.returns-in-Ok
returns-in-Ok g c s stands e =
    let row = c.in-Ok.ensures.row s stands in
    let made = is_made s c.args.kind c.args.number (Some (NAME, None)) c.in-Ok.made row.0 row.1 in
    let at : c.in-Ok.made.offset ≡ c.args.place = grind (arith, nat_tests, e) in
    (row.0, row.2, made.grown, subst (IsDescriptorAt row.0 c.args.kind) at made.there)
