use Rattle.std.proofs.Common.{◌≡◌, length, refl, sym, ◌∙◌, arith, Result, Err, []}
use Rattle.fv_volume.specs.{Stream.met_at, declared.sections.section.Section.Section, declared.sections.fault.SecCause.SecCause}
use Rattle.fv_volume.proofs.OneStream.{one_leads, end_stops, fault_stops, fault_made, some_reading}
use Rattle.fv_volume.proofs.sections.law.one_reading.Goals as goal

pub returns-clause-sections : goal.returns-clause-sections
returns-clause-sections c = λ bytes a b p q.
    (one_leads bytes 0 a b p.0 q.0 256 p.1 q.1 p.3 q.3 (end_stops bytes _ p.0 p.2) (end_stops bytes _ q.0 q.2)).0

pub returns-clause-faults : goal.returns-clause-faults
returns-clause-faults c = λ bytes f g p q.
    let one = one_leads bytes 0 p.0 q.0 f.at g.at 256 p.1 q.1 p.2 q.2 (fault_stops bytes _ f.at f.cause p.4) (fault_stops bytes _ g.at g.cause q.4) in
    let same : met_at bytes (length p.0) f.at ≡ met_at bytes (length q.0) g.at = rw (one.0, one.1) refl in
    let causes : ◌≡◌ {A = Result Section SecCause} (Err f.cause) (Err g.cause) = sym p.4 ∙ same ∙ q.4 in
    fault_made f g one.1 cc

pub returns-clause-apart : goal.returns-clause-apart
returns-clause-apart c = λ bytes a f p q.
    let one = one_leads bytes 0 a q.0 p.0 f.at 256 p.1 q.1 p.3 q.2 (end_stops bytes _ p.0 p.2) (fault_stops bytes _ f.at f.cause q.4) in
    absurd (omega (arith, one.1, p.2, q.3))

pub returns-clause-some : goal.returns-clause-some
returns-clause-some c = λ bytes. some_reading (length bytes) bytes 0 [] (omega arith) refl (omega arith)
