-- Where a nested volume is: its base and its offset follow from those of the volume that it is nested in.
use Rattle.std.specs.Prelude.{ℕ, ◌+◌, Some}
use Rattle.mod_catalog.specs.declared.read_file.Stretch.{Stretch}
pub use Rattle.mod_catalog.specs.declared.location.Location.{Location}

-- the location of the volume with a number, in a stretch of another
abbrev pub nested_location : Location → ℕ → Stretch → Location
nested_location location number stretch = record {
  base = location.base + stretch.at;
  at = location.at + stretch.at;
  parent = Some location.number;
  number = number;
}
