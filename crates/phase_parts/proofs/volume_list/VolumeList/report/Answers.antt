use Rattle.store_model.specs.StateFacts.{IsDesc}
use Rattle.phase_parts.proofs.Ppis.{each_index}
use Rattle.phase_parts.proofs.volume_list.VolumeList.report.Goals as goal

pub volume_of_ppi-requires-clause-state : goal.volume_of_ppi-requires-clause-state
volume_of_ppi-requires-clause-state g c =
    let h = c.requires.state in (h.0, h.1, each_index (IsDesc h.0) c.args.ppis.now c.ppis.ppi-index (record { offset = 0 }) c.ppis-test.true h.2)
