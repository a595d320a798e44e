use Rattle.std.proofs.Common.{ap, ◌+◌}
use Rattle.explain_text.specs.Title.{IsTitle}
use Rattle.explain_text.proofs.Modules.{next_module}
use Rattle.explain_text.proofs.catalog.lines.put_members.Goals as goal

pub modules-preserved : goal.modules-preserved
modules-preserved c =
    let before = c.modules.invariant in
    let more = c.in_ok-put_member.ensures in (
      ap (λ n. n + 1) before.0,
      next_module (IsTitle c.args.volumes.now c.args.images.now) c.args.out.now c.modules.out c.put_member.new.out c.args.modules.now c.modules.member-index c.modules.number _ c.member-item.result c.modules-test.true
          c.member-item.is before.0 before.1 more.0 more.1 more.2,
    )
