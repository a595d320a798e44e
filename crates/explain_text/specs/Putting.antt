-- What is added to a text.
use Rattle.std.specs.Prelude.{◌≡◌, ℕ, List, ◌++◌, Option}
use Rattle.mod_catalog.specs.{declared.catalogue.Module.Module, declared.catalogue.VolumeEntry.VolumeEntry}
use Rattle.explain_text.specs.{Title.IsTitle, Lines.IsCatalogText, Lines.module_lines}

-- the lines of a module
abbrev pub AddsModule : List VolumeEntry → List (List ℕ) → ℕ → Module → List ℕ → List ℕ → Type 0
AddsModule volumes images number m old new = (title : Option (List ℕ)) × IsTitle volumes images m title × (new ≡ old ++ module_lines number m title)

-- the lines of a catalogue
abbrev pub AddsCatalog : List VolumeEntry → List (List ℕ) → List Module → List ℕ → List ℕ → Type 0
AddsCatalog volumes images modules old new = (text : List ℕ) × IsCatalogText volumes images modules text × (new ≡ old ++ text)
