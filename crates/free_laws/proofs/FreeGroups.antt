-- Each driver of the group of a driver that may start has its licence: that driver by its expression, each companion next to the one that it names.
use Rattle.std.proofs.Common.{◌≡◌, ℕ, true, false, not, inl, inr, List, Option, Some, None, refl, sym, subst, length, option_and_then}
use Rattle.pi_base.specs.{declared.guid.Guid.Guid, declared.phase.Phase.TheVariants.Dxe, Lists.Each}
use Rattle.depex_code.specs.declared.depex.Depex.TheVariants as D
use Rattle.mod_catalog.specs.{declared.catalogue.Catalog.Catalog, declared.catalogue.Part.Part, declared.catalogue.PartExpr.PartExpr}
use Rattle.mod_catalog.specs.declared.catalogue.PartExpr.TheVariants as E
use Rattle.mod_catalog.specs.Parts.{part_at}
use Rattle.boot_model.specs.{declared.licence.Licence.Licence, DxeMachine.DxeMachine}
use Rattle.boot_model.specs.declared.licence.Licence.TheVariants as G
use Rattle.boot_model.specs.DxeChoice.{after_of, before_of, companion_group, driver_licence, driver_may_start, driver_named, group_scheduled, is_eligible_driver, is_unrequested, lets_driver_start, licence_in_group, waiting}
use Rattle.boot_model.specs.DriverLicence.{IsDriverLicensed, IsMember, numbers_of}
use Rattle.boot_model.proofs.ListFacts.{each_more}
use Rattle.boot_laws.proofs.{PartLists.both_of, Volumes.not_true, Beside.IsRootOrPlaced, Beside.all_placed, GroupLicences.each_of_map}
use Rattle.boot_laws.proofs.Queue.{numbers_of_map}

-- a driver with this part has the licence of a group
abbrev IsMemberBy : Catalog → DxeMachine → List ℕ → ℕ → Option Part → Type 0
IsMemberBy catalog m queue number o = (part : Part) × (o ≡ Some part) × IsDriverLicensed catalog m queue number part (driver_licence o)

-- a name after BEFORE or AFTER is of a part, whose licence in a group says so
abbrev HasLicence : Option Part → Licence → Type 0
HasLicence o licence = (part : Part) × (o ≡ Some part) × (driver_licence o ≡ licence)

before_licence : (f : Guid → Option ℕ) (expr : PartExpr) (x : ℕ) → option_and_then f (before_of expr) ≡ Some x → licence_in_group expr ≡ G.Before
before_licence f E.Absent x h = cc
before_licence f (E.Malformed at) x h = cc
before_licence f (E.Held (D.Before name)) x h = refl
before_licence f (E.Held (D.After name)) x h = cc
before_licence f (E.Held (D.Expr sor node)) x h = cc

after_licence : (f : Guid → Option ℕ) (expr : PartExpr) (x : ℕ) → option_and_then f (after_of expr) ≡ Some x → licence_in_group expr ≡ G.After
after_licence f E.Absent x h = cc
after_licence f (E.Malformed at) x h = cc
after_licence f (E.Held (D.Before name)) x h = cc
after_licence f (E.Held (D.After name)) x h = refl
after_licence f (E.Held (D.Expr sor node)) x h = cc

before_has : (f : Guid → Option ℕ) (o : Option Part) (x : ℕ) → option_and_then f (option_and_then (λ part. before_of part.expr) o) ≡ Some x → HasLicence o G.Before
before_has f None x h = cc
before_has f (Some part) x h = (part, refl, before_licence f part.expr x h)

after_has : (f : Guid → Option ℕ) (o : Option Part) (x : ℕ) → option_and_then f (option_and_then (λ part. after_of part.expr) o) ≡ Some x → HasLicence o G.After
after_has f None x h = cc
after_has f (Some part) x h = (part, refl, after_licence f part.expr x h)

with_licence : (catalog : Catalog) (m : DxeMachine) (queue : List ℕ) (number : ℕ) (o : Option Part) (licence : Licence) → ((part : Part) → IsDriverLicensed catalog m queue number part licence) → HasLicence o licence
    → IsMemberBy catalog m queue number o
with_licence catalog m queue number o licence licensed h = (h.0, h.1, subst (IsDriverLicensed catalog m queue number h.0) (sym h.2) (licensed h.0))

-- the driver of the group, by its expression
by_expression : (catalog : Catalog) (m : DxeMachine) (queue : List ℕ) (number : ℕ) (part : Part) (expr : PartExpr) → part.expr ≡ expr → is_unrequested catalog m number ≡ false → lets_driver_start m.handles expr ≡ true
    → IsDriverLicensed catalog m queue number part (licence_in_group expr)
by_expression catalog m queue number part E.Absent e asked h = (e, h)
by_expression catalog m queue number part (E.Malformed at) e asked h = cc
by_expression catalog m queue number part (E.Held (D.Before name)) e asked h = cc
by_expression catalog m queue number part (E.Held (D.After name)) e asked h = cc
by_expression catalog m queue number part (E.Held (D.Expr sor node)) e asked h = (D.Expr sor node, e, asked, h)

root_licensed : (catalog : Catalog) (m : DxeMachine) (queue : List ℕ) (number : ℕ) (o : Option Part) → is_unrequested catalog m number ≡ false → driver_may_start m.handles o ≡ true → IsMemberBy catalog m queue number o
root_licensed catalog m queue number None asked h = cc
root_licensed catalog m queue number (Some part) asked h = (part, refl, by_expression catalog m queue number part part.expr refl asked h)

one_licensed : (catalog : Catalog) (m : DxeMachine) (queue : List ℕ) (root z : ℕ) → IsMemberBy catalog m queue root (part_at Dxe catalog root) → IsRootOrPlaced catalog m queue root z → IsMemberBy catalog m queue z (part_at Dxe catalog z)
one_licensed catalog m queue root z is (inl same) = subst (λ n. IsMemberBy catalog m queue n (part_at Dxe catalog n)) (sym same) is
one_licensed catalog m queue root z is (inr (inl h)) = with_licence catalog m queue z (part_at Dxe catalog z) G.Before (λ part. h) (before_has (driver_named catalog m) (part_at Dxe catalog z) h.0 h.1)
one_licensed catalog m queue root z is (inr (inr h)) = with_licence catalog m queue z (part_at Dxe catalog z) G.After (λ part. h) (after_has (driver_named catalog m) (part_at Dxe catalog z) h.0 h.1)

pub numbers_are : (catalog : Catalog) (m : DxeMachine) (root : ℕ) → numbers_of (group_scheduled catalog m (Some root)) ≡ companion_group catalog m root
numbers_are catalog m root = numbers_of_map _ (λ n. refl) (companion_group catalog m root)

pub group_licensed : (catalog : Catalog) (m : DxeMachine) (root : ℕ) → is_eligible_driver catalog m root ≡ true → Each (IsMember catalog m (group_scheduled catalog m (Some root))) (group_scheduled catalog m (Some root))
group_licensed catalog m root eligible =
    let group = companion_group catalog m root in
    let Licensed : List ℕ → ℕ → Type 0 = λ queue n. IsMemberBy catalog m queue n (part_at Dxe catalog n) in
    let may = both_of (not (is_unrequested catalog m root)) (driver_may_start m.handles (part_at Dxe catalog root)) eligible in
    let is = root_licensed catalog m group root (part_at Dxe catalog root) (not_true (is_unrequested catalog m root) may.0) may.1 in
    let each = each_more (IsRootOrPlaced catalog m group root) (Licensed group) group (λ z h. one_licensed catalog m group root z is h) (all_placed catalog m (length (waiting catalog m)) root) in
    each_of_map (IsMember catalog m (group_scheduled catalog m (Some root))) _ group (subst (λ queue. Each (Licensed queue) group) (sym (numbers_are catalog m root)) each)
