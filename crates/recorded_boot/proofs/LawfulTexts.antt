-- The boots that are accepted or followed are free ones, and so obey the laws.
use Rattle.std.proofs.Common.{◌⊎◌, ℕ, List, [], ◌∷◌, inl, inr, sym, subst, append-nil}
use Rattle.std.specs.Io.KnownBytes.{Appends}
use Rattle.boot_plan.specs.{declared.plan.Plan.Plan, Range.IsPlanInRange}
use Rattle.mod_catalog.specs.{declared.catalogue.Catalog.Catalog, Catalogue.IsCatalogue, WellFormed.IsWellFormed}
use Rattle.boot_model.specs.{declared.line.Line.Line, FreeRun.AreFreeLines, PlanBoard.board_of, Text.text_of}
use Rattle.boot_trace.specs.Printing.{Texts}
use Rattle.boot_laws.specs.Boards.{BoardsAreSound}
use Rattle.free_laws.specs.FreeBoots.{FreeBootsAreLawful}
use Rattle.recorded_boot.specs.{declared.order.lines.StartOrder.StartOrder, declared.follow.followed.Followed.Followed, Answer.IsAmongFree}
use Rattle.recorded_boot.specs.declared.follow.followed.Followed.TheVariants.{Ended, Stopped, No}
use Rattle.recorded_boot.specs.Following.{IsBeforeStart}
use Rattle.recorded_boot.specs.Lawful.{BootsLawfully, FollowedIsLawful, IsLawfullyFollowed, PutsLawfully, YesIsLawful}

-- the laws of free boots, and of catalogues and boards
pub record Laws : Type 0 where
  pub lawful : FreeBootsAreLawful
  pub boards : BoardsAreSound
  pub well : (plan : Plan) (images : List (List ℕ)) (catalog : Catalog) → IsCatalogue plan images catalog → IsWellFormed catalog

abbrev AreFree : Plan → List (List ℕ) → Catalog → List Line → Type 0
AreFree plan images catalog lines = AreFreeLines (board_of plan catalog images) catalog plan.fuel lines

boots : Laws → (plan : Plan) (images : List (List ℕ)) (catalog : Catalog) (lines : List Line) → IsPlanInRange plan → IsCatalogue plan images catalog → AreFree plan images catalog lines → BootsLawfully plan images lines
boots laws plan images catalog lines in_range sound free =
    record { catalog = catalog; sound = sound; lawful = laws.lawful (board_of plan catalog images) catalog plan.fuel lines (laws.well plan images catalog sound) (laws.boards plan images catalog in_range sound) free }

pub yes_is_lawful : Laws → YesIsLawful
yes_is_lawful laws plan images text in_range is = (is.is.0, boots laws plan images is.catalog is.is.0 in_range is.sound is.is.1, is.is.2)

-- a whole boot, and the lines before a start
whole : Laws → (plan : Plan) (images : List (List ℕ)) (catalog : Catalog) (t : Texts) (lines : List Line) → IsPlanInRange plan → IsCatalogue plan images catalog → AreFree plan images catalog lines → Appends t.old t.new (text_of lines)
    → PutsLawfully plan images t []
whole laws plan images catalog t lines in_range sound free text =
    let all : BootsLawfully plan images lines = boots laws plan images catalog lines in_range sound free in
    (lines, subst (BootsLawfully plan images) (sym (append-nil lines)) all, text)

before : Laws → (plan : Plan) (images : List (List ℕ)) (catalog : Catalog) (t : Texts) (printed : List Line) → IsPlanInRange plan → IsCatalogue plan images catalog → IsBeforeStart (board_of plan catalog images) catalog plan.fuel printed
    → Appends t.old t.new (text_of printed) → (rest : List Line) × PutsLawfully plan images t rest
before laws plan images catalog t printed in_range sound is text =
    (is.line ∷ is.rest, (printed, subst (BootsLawfully plan images) is.are (boots laws plan images catalog is.lines in_range sound is.boots), text))

followed : Laws → (plan : Plan) (images : List (List ℕ)) (catalog : Catalog) (order : StartOrder) (t : Texts) (answer : Followed) → IsPlanInRange plan → IsCatalogue plan images catalog
    → IsAmongFree (board_of plan catalog images) catalog plan.fuel order t answer → IsLawfullyFollowed plan images t answer
followed laws plan images catalog order t (Ended end) in_range sound is = whole laws plan images catalog t is.lines in_range sound is.boots is.text
followed laws plan images catalog order t Stopped in_range sound is = before laws plan images catalog t is.printed in_range sound is.before is.text
followed laws plan images catalog order t (No line against) in_range sound is = by is.far
  where
    by : AreFree plan images catalog is.printed ⊎ IsBeforeStart (board_of plan catalog images) catalog plan.fuel is.printed → (rest : List Line) × PutsLawfully plan images t rest
    by (inl free) = ([], whole laws plan images catalog t is.printed in_range sound free is.text)
    by (inr there) = before laws plan images catalog t is.printed in_range sound there is.text

pub followed_is_lawful : Laws → FollowedIsLawful
followed_is_lawful laws plan images order t answer in_range is = followed laws plan images is.catalog order t answer in_range is.sound is.is.0
