use Rattle.free_laws.proofs.LawfulBoots.{are_lawful}
use Rattle.free_laws.proofs.whole.free_boots_are_lawful.Goals as goal

pub returns : goal.returns
returns c =
    are_lawful (record {
      peims_once = c.free_peims_start_once.ensures;
      peims_licensed = c.free_peims_start_licensed.ensures;
      moves = c.free_moves_change_nothing.ensures;
      pei_stops = c.free_pei_stops_idle.ensures;
      drivers_once = c.free_drivers_start_once.ensures;
      drivers_licensed = c.free_drivers_start_licensed.ensures;
      beside = c.free_companions_start_beside.ensures;
      dxe_stops = c.free_dxe_stops_idle.ensures;
    })
