use Rattle.boot_model.specs.PlanBoard.{board_of}
use Rattle.boot_laws.proofs.{PlanBoards.boards_are_sound, PeiLicences.licensed_run}
use Rattle.boot_laws.proofs.boards.boots_are_licensed.Goals as goal

pub returns : goal.returns
returns c plan images catalog range is =
    licensed_run (record { keep = c.services_keep_facts.ensures; steps = c.steps_keep_facts.ensures; fit = c.states_fit.ensures }) catalog (board_of plan catalog images)
    (c.catalogues_are_well_formed.ensures plan images catalog is) (boards_are_sound plan images catalog range is)
