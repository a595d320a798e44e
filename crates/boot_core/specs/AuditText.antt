-- The text of an audit.
use Rattle.std.specs.Prelude.{ℕ, ◌==◌, List, [], ◌++◌, flat_map, if◌then◌else◌}
use Rattle.mod_catalog.specs.{declared.catalogue.Catalog.Catalog, declared.catalogue.VolumeEntry.VolumeEntry}
use Rattle.mod_catalog.specs.declared.catalogue.Module.{Module}
use Rattle.boot_model.specs.declared.line.Line.TheVariants as L
use Rattle.boot_model.specs.{declared.line.RunEnd.TheVariants.Done, Text.line_text, Text.text_of}
use Rattle.boot_model.specs.Audit.{Numbered, numbered, volume_line, module_line, audit_lines}

unfoldable pub audit_text : Catalog → List ℕ
audit_text catalog = text_of (audit_lines catalog)

-- the line of a volume and of a module
unfoldable pub volume_text : Numbered VolumeEntry → List ℕ
volume_text v = line_text (volume_line v)

unfoldable pub module_text : Numbered Module → List ℕ
module_text m = line_text (module_line m)

-- the line of a module where it is in a volume
abbrev pub text_in : ℕ → Numbered Module → List ℕ
text_in volume m = if m.item.volume == volume then module_text m else []

-- the lines of those of some modules, numbered from one on, that are in a volume
abbrev pub members_text : ℕ → ℕ → List Module → List ℕ
members_text volume from modules = flat_map (text_in volume) (numbered from modules)

-- the lines of volumes, numbered from one on, each with its modules
abbrev pub entry_text : List Module → Numbered VolumeEntry → List ℕ
entry_text modules v = volume_text v ++ members_text v.number 0 modules

abbrev pub entries_text : List Module → ℕ → List VolumeEntry → List ℕ
entries_text modules from entries = flat_map (entry_text modules) (numbered from entries)

unfoldable pub done_line : List ℕ
done_line = line_text (L.Result Done)
