-- Where no volume has twins, a volume and a file name tell one module.
use Rattle.std.proofs.Common.{◌≡◌, ℕ, inl, inr}
use Rattle.std.proofs.lemmas.Bool.{cases_order}
use Rattle.pi_base.specs.declared.guid.Guid.{Guid}
use Rattle.mod_catalog.specs.declared.catalogue.Catalog.{Catalog}
use Rattle.recorded_boot.specs.Named.{HasNoTwins, IsNamed}

pub one_module : (catalog : Catalog) (volume : ℕ) (name : Guid) (a b : ℕ) → HasNoTwins catalog → IsNamed catalog volume name a → IsNamed catalog volume name b → a ≡ b
one_module catalog volume name a b none first second = elim (cases_order a b) [
  | inl same ↦ same
  | inr (inl less) ↦ absurd (none volume (record { name = name; first = a; second = b; apart = less; first_is = first; second_is = second }))
  | inr (inr more) ↦ absurd (none volume (record { name = name; first = b; second = a; apart = more; first_is = second; second_is = first }))
]
