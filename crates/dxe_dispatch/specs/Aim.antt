-- A choice that is aimed at a driver: where nothing is scheduled, and the driver waits and may start, its group is scheduled in the place of the first eligible one's.
-- Own; PI 1.8, volume 2, "DXE Dispatcher", leaves the order of the drivers that may start to the dispatcher.
use Rattle.std.specs.Prelude.{ℕ, Bool, true, false, ◌&&◌, List, [], ◌∷◌, Some, if◌then◌else◌}
use Rattle.mod_catalog.specs.{declared.catalogue.Catalog.Catalog, Parts.has_number}
use Rattle.boot_model.specs.{declared.driver.Scheduled.Scheduled, DxeMachine.DxeMachine}
use Rattle.boot_model.specs.DxeChoice.{group_scheduled, is_eligible_driver, waiting}

-- whether a driver of a discovered volume waits and may start
abbrev pub may_be_next : Catalog → DxeMachine → ℕ → Bool
may_be_next catalog m number = has_number (waiting catalog m) number && is_eligible_driver catalog m number

-- whether nothing is scheduled
abbrev pub is_free : List Scheduled → Bool
is_free [] = true
is_free (first ∷ rest) = false

-- the machine with the group of the driver in its queue, or as it was
abbrev pub aimed : Catalog → DxeMachine → ℕ → DxeMachine
aimed catalog m root = if is_free m.scheduled && may_be_next catalog m root then record m { scheduled = group_scheduled catalog m (Some root) } else m
