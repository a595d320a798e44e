-- The start of a module as the next line of a text has it.
-- Own.
use Rattle.std.specs.Prelude.{◌≡◌, ℕ, true, false, List, Option, Some, slice_get, length}
use Rattle.boot_io.specs.Faults.{IsPrefix}
use Rattle.pi_base.specs.{declared.guid.Guid.Guid, declared.phase.Phase.Phase}
use Rattle.pi_base.specs.declared.phase.Phase.TheVariants.{Pei, Dxe}
use Rattle.mod_catalog.specs.declared.catalogue.Catalog.{Catalog}
use Rattle.mod_catalog.specs.Parts.{has_number, module_name, module_volume}
use Rattle.boot_laws.specs.Naming.{Rules}
use Rattle.boot_model.specs.{declared.licence.Licence.Licence, declared.line.Line.Line, Text.line_text}
use Rattle.recorded_boot.specs.{declared.trace.spelled.Spelled.Spelled, Spelled.IsRight, Spelled.left, Named.AreNames, Named.IsNamed}
use Rattle.trace_reader.specs.Readable.{IsReadable}
use Rattle.recorded_boot.specs.StartLine.{phase_start}

-- the line of a module's start in a phase by a licence
abbrev pub start_of : Phase → Catalog → ℕ → Licence → Line
start_of phase catalog number licence = phase_start phase (module_volume catalog number) (module_name catalog number) licence

-- the text continues with the start of this module by a licence
pub record StartsNext (phase : Phase) (catalog : Catalog) (rest : List ℕ) (number : ℕ) : Type 0 where
  pub licence : Licence
  pub named : IsNamed catalog (module_volume catalog number) (module_name catalog number) number
  pub readable : IsReadable (start_of phase catalog number licence)
  pub next : IsPrefix (line_text (start_of phase catalog number licence)) rest

-- if the text continues with the start of a module, that module is named
abbrev pub NamesNext : Phase → List (List (Guid × ℕ)) → Spelled → Option ℕ → Type 0
NamesNext phase names text named =
    IsRight text → (catalog : Catalog) → AreNames catalog (length catalog.modules) names
    → (number : ℕ) → StartsNext phase catalog (left text) number → named ≡ Some number

-- the rules of the choice by a text: it allows each start
abbrev pub text_rules : List (List (Guid × ℕ)) → Rules Spelled
text_rules names = record {
  peims = λ text before named. NamesNext Pei names text named;
  lets_in_pei = λ before number. true;
  drivers = λ text before named. NamesNext Dxe names text named;
  lets_in_dxe = λ before number. true;
  wants_turn = false;
}

-- a cursor is before the PEIM that the text starts next, if that is in the order
abbrev pub IsAimedAt : Catalog → List ℕ → List ℕ → ℕ → Type 0
IsAimedAt catalog rest order cursor =
    (number : ℕ) → StartsNext Pei catalog rest number → has_number order number ≡ true → slice_get order cursor ≡ Some number
