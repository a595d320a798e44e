use Rattle.std.proofs.Common.{List, length}
use Rattle.pi_base.specs.declared.guid.Guid.{Guid}
use Rattle.explain_text.specs.declared.reasons.Giver.{Giver}
use Rattle.boot_reasons.specs.Noting.{AreNoted}
use Rattle.boot_reasons.proofs.givers.Givers.note_all.Given as goal

-- where those that are left are noted too, all are
abbrev pub invariant-guids : goal.invariant-guids
invariant-guids g l = (final : List (Guid × Giver)) → AreNoted (g.G.GuidSet.has_guid l.set) l.actor l.rest l.self.map final → AreNoted (g.G.GuidSet.has_guid l.set) l.actor l.guids l.fn.self.map final

abbrev pub decreases-guids : goal.decreases-guids
decreases-guids g l = length l.rest
