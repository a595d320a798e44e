-- What the limits count: volumes, modules and the bytes of scripts. Each passes its limit at most once, and the first passing is a fault.
use Rattle.std.specs.Prelude.{ℕ, ◌+◌, ◌≤◌, List, length, filter, sum_by}
use Rattle.fv_volume.specs.declared.sections.section.Section.{Section}
use Rattle.mod_catalog.specs.declared.limits.TheConstants.{MOST_VOLUMES, MOST_MODULES, MOST_SCRIPT_BYTES}
use Rattle.mod_catalog.specs.{FileType.has_module, ReadFile.ReadFile, ReadFile.script_sections}
pub use Rattle.mod_catalog.specs.Holding.{Holding}
pub use Rattle.mod_catalog.specs.declared.totals.Totals.{Totals}

-- what was counted before anything was read
abbrev pub no_totals : Totals
no_totals = record { volumes = 0; modules = 0; script_bytes = 0 }

-- what was counted, with what a part of the images holds
abbrev pub totals_with : Totals → Holding → Totals
totals_with totals holding = record {
  volumes = totals.volumes + length holding.volumes;
  modules = totals.modules + length holding.modules;
  script_bytes = totals.script_bytes + holding.script_bytes;
}

-- one volume more
abbrev pub with_volume : Totals → Totals
with_volume totals = record totals { volumes = totals.volumes + 1 }

-- the files that have a module
abbrev pub module_files : List ReadFile → List ReadFile
module_files reads = filter (λ read. has_module read.file.kind) reads

-- the bytes of some sections
abbrev pub bytes_of : List Section → ℕ
bytes_of sections = sum_by (λ section. section.body_len) sections

-- the bytes of all scripts of files
abbrev pub script_bytes_of : List ℕ → List ReadFile → ℕ
script_bytes_of bytes reads = sum_by (λ read. bytes_of (script_sections bytes read.file read.sections)) reads

-- the limits are kept
pub record AreWithin (totals : Totals) : Type 0 where
  pub volumes : totals.volumes ≤ MOST_VOLUMES
  pub modules : totals.modules ≤ MOST_MODULES
  pub script_bytes : totals.script_bytes ≤ MOST_SCRIPT_BYTES
