use Rattle.std.proofs.Common.{◌≡◌, drop}
use Rattle.pi_base.specs.Lists.{Each}
use Rattle.store_model.specs.{StateFacts.IsDesc, Service.OfEach}
use Rattle.phase_parts.specs.{Known.AreKnown, Reported.with_reports}
use Rattle.phase_parts.proofs.volume_list.VolumeList.report.Given as goal

-- the volumes so far, and those that the PPIs left tell of, make the whole
abbrev pub invariant-ppis : goal.invariant-ppis
invariant-ppis g l = record {
  reported : OfEach (g.M.PeiStore.stands_for l.store) (λ s. Each (IsDesc s) l.ppis) (λ s.
      with_reports l.catalog s l.self (drop l.ppi-index l.ppis) ≡ with_reports l.catalog s l.fn.self l.ppis);
  known : AreKnown l.catalog l.self;
}
