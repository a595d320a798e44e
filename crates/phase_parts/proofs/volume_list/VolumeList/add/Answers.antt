use Rattle.std.proofs.Common.{◌≡◌, ◌<◌, ◌++◌, ℕ, List, Option, length, sym, ◌∙◌, subst, ap, IfSome}
use Rattle.boot_model.specs.Reporting.{newcomers}
use Rattle.mod_catalog.specs.{declared.catalogue.Catalog.Catalog, Parts.family, WellFormed.IsWellFormed}
use Rattle.phase_parts.specs.Known.{AreInCatalog, AreKnown, MayCome, with_new}
use Rattle.phase_parts.proofs.{Families.family_differs, Families.family_in_catalog, Newcomers.new_family}
use Rattle.phase_parts.proofs.volume_list.VolumeList.add.Goals as goal

may_come : (catalog : Catalog) (list numbers : List ℕ) (number : ℕ) → IsWellFormed catalog → AreKnown catalog list → number < length catalog.volumes → numbers ≡ family catalog number
    → MayCome catalog list numbers
may_come catalog list numbers number formed known below are = record {
  formed = formed;
  known = known;
  in_catalog = subst (AreInCatalog catalog) (sym are) (family_in_catalog catalog number formed below);
}

pub add_each-requires : goal.add_each-requires
add_each-requires c =
    let below = subst (λ (v : Option ℕ). IfSome v (λ number. number < length c.args.catalog.now.volumes)) c.in-Some.is c.requires.volume in
    record { known = (c.args.catalog.now, may_come c.args.catalog.now c.args.self.now _ c.in-Some.number c.requires.catalog c.requires.known below (c.as_slice.ensures ∙ c.family_of-family.ensures)) }

pub returns-then-is_new-clause-added : goal.returns-then-is_new-clause-added
returns-then-is_new-clause-added c =
    new_family c.args.self.now _ c.add_each.new.self _ (sym c.has-is_new.ensures ∙ c.if-is_new.true) (family_differs c.args.catalog.now c.in-Some.number c.requires.catalog)
    (c.add_each.ensures.added ∙ ap (with_new c.args.self.now) (c.as_slice.ensures ∙ c.family_of-family.ensures))
    ∙ ap (λ (v : Option ℕ). c.args.self.now ++ newcomers c.args.catalog.now c.args.self.now v) (sym c.in-Some.is)

pub returns-then-is_new-clause-known : goal.returns-then-is_new-clause-known
returns-then-is_new-clause-known c =
    let below = subst (λ (v : Option ℕ). IfSome v (λ number. number < length c.args.catalog.now.volumes)) c.in-Some.is c.requires.volume in
    c.add_each.ensures.known c.args.catalog.now
    (may_come c.args.catalog.now c.args.self.now _ c.in-Some.number c.requires.catalog c.requires.known below (c.as_slice.ensures ∙ c.family_of-family.ensures))
