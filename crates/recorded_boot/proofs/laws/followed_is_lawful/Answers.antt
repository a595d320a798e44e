use Rattle.recorded_boot.proofs.LawfulTexts.{followed_is_lawful}
use Rattle.recorded_boot.proofs.laws.followed_is_lawful.Goals as goal

pub returns : goal.returns
returns c = followed_is_lawful (record { lawful = c.free_boots_are_lawful.ensures; boards = c.boards_are_sound.ensures; well = c.catalogues_are_well_formed.ensures })
