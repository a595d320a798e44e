-- What a part of the images holds, and a part after another.
use Rattle.std.specs.Prelude.{◌+◌, [], ◌++◌}
pub use Rattle.mod_catalog.specs.declared.holding.Holding.{Holding}

-- no part of the images holds anything
abbrev pub nothing : Holding
nothing = record { volumes = []; modules = []; script_bytes = 0 }

-- one part of the images and then another
abbrev pub joined : Holding → Holding → Holding
joined first rest = record {
  volumes = first.volumes ++ rest.volumes;
  modules = first.modules ++ rest.modules;
  script_bytes = first.script_bytes + rest.script_bytes;
}
