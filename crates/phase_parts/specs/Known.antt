-- The volumes that are known: each once, and each of the catalogue.
-- Own.
use Rattle.std.specs.Prelude.{ℕ, ◌<◌, not, if◌then◌else◌, List, [], ◌∷◌, ◌++◌, length}
use Rattle.mod_catalog.specs.{declared.catalogue.Catalog.Catalog, Parts.has_number, WellFormed.IsWellFormed}
use Rattle.pi_base.specs.Lists.{Each}
use Rattle.boot_model.specs.Licence.{AllDiffer}

-- each is the number of a volume of the catalogue
abbrev pub AreInCatalog : Catalog → List ℕ → Type 0
AreInCatalog catalog list = Each (λ volume. volume < length catalog.volumes) list

pub record AreKnown (catalog : Catalog) (list : List ℕ) : Type 0 where
  pub differ : AllDiffer list
  pub in_catalog : AreInCatalog catalog list

-- volumes of a well-formed catalogue may be added to those that are known
pub record MayCome (catalog : Catalog) (list numbers : List ℕ) : Type 0 where
  pub formed : IsWellFormed catalog
  pub known : AreKnown catalog list
  pub in_catalog : AreInCatalog catalog numbers

-- a list with each of these numbers that is new at its end, one after the other
abbrev pub with_new : List ℕ → List ℕ → List ℕ
with_new known [] = known
with_new known (number ∷ numbers) = with_new (if not (has_number known number) then known ++ number ∷ [] else known) numbers
