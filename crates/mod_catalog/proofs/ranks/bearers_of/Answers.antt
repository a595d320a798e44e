use Rattle.std.proofs.Common.{◌≡◌, ◌-◌, ◌+◌, drop, subst, arith}
use Rattle.mod_catalog.specs.Ranks.{AreBearers}
use Rattle.mod_catalog.proofs.Kept.{drop_before}
use Rattle.mod_catalog.proofs.ranks.bearers_of.Goals as goal

pub files-preserved : goal.files-preserved
files-preserved c =
    let files = c.args.files.now in
    let place = c.files.index in
    let here : place ≡ place - 1 + 1 = omega (arith, c.files-test.true) in
    record {
      bearers = subst (λ files. AreBearers c.args.phase (place - 1) files c.add_bearer.new.bearers) (drop_before files place _ c.files-test.true c.files.invariant.within)
          (c.in_ok-add_bearer.ensures (drop place files) (subst (λ n. AreBearers c.args.phase n (drop place files) c.files.bearers) here c.files.invariant.bearers));
      within = omega (arith, c.files.invariant.within);
    }
