use Rattle.boot_laws.proofs.PlanBoards.{boards_are_sound}
use Rattle.boot_laws.proofs.boards.boards_are_sound.Goals as goal

pub returns : goal.returns
returns c = boards_are_sound
