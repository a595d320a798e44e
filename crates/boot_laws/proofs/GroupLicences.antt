-- Each driver of a group has its licence: the eligible one over the handles, each companion beside the one that it names.
use Rattle.std.proofs.Common.{◌≡◌, ℕ, true, false, not, inl, inr, List, [], ◌∷◌, Option, Some, None, refl, sym, subst, ap, length, map, option_and_then}
use Rattle.pi_base.specs.{declared.guid.Guid.Guid, declared.phase.Phase.TheVariants.Dxe, Lists.Each}
use Rattle.depex_code.specs.declared.depex.Depex.TheVariants as D
use Rattle.mod_catalog.specs.{declared.catalogue.Catalog.Catalog, declared.catalogue.Part.Part, declared.catalogue.PartExpr.PartExpr}
use Rattle.mod_catalog.specs.declared.catalogue.PartExpr.TheVariants as E
use Rattle.mod_catalog.specs.Parts.{part_at}
use Rattle.boot_model.specs.{declared.licence.Licence.Licence, DxeMachine.DxeMachine}
use Rattle.boot_model.specs.declared.licence.Licence.TheVariants as G
use Rattle.boot_model.specs.DxeChoice.{waiting, driver_named, before_of, after_of, companion_group, lets_driver_start, driver_may_start, is_eligible_driver, is_unrequested, licence_in_group, driver_licence, schedule_of, group_scheduled, first_eligible}
use Rattle.boot_model.specs.DriverLicence.{IsDriverLicensed, IsMember, SchedulesLicensed, numbers_of}
use Rattle.boot_model.proofs.ListFacts.{each_more, found_passes}
use Rattle.boot_laws.proofs.{PartLists.both_of, Volumes.not_true, Beside.IsRootOrPlaced, Beside.all_placed}

-- a part with the licence that it has in a group
abbrev HasLicence : Option Part → Licence → Type 0
HasLicence o licence = (part : Part) × (o ≡ Some part) × (driver_licence o ≡ licence)

licence_before : (f : Guid → Option ℕ) (expr : PartExpr) (x : ℕ) → option_and_then f (before_of expr) ≡ Some x → licence_in_group expr ≡ G.Before
licence_before f E.Absent x h = cc
licence_before f (E.Malformed at) x h = cc
licence_before f (E.Held (D.Before name)) x h = refl
licence_before f (E.Held (D.After name)) x h = cc
licence_before f (E.Held (D.Expr sor node)) x h = cc

before_has : (f : Guid → Option ℕ) (o : Option Part) (x : ℕ) → option_and_then f (option_and_then (λ part. before_of part.expr) o) ≡ Some x → HasLicence o G.Before
before_has f None x h = cc
before_has f (Some part) x h = (part, refl, licence_before f part.expr x h)

licence_after : (f : Guid → Option ℕ) (expr : PartExpr) (x : ℕ) → option_and_then f (after_of expr) ≡ Some x → licence_in_group expr ≡ G.After
licence_after f E.Absent x h = cc
licence_after f (E.Malformed at) x h = cc
licence_after f (E.Held (D.Before name)) x h = cc
licence_after f (E.Held (D.After name)) x h = refl
licence_after f (E.Held (D.Expr sor node)) x h = cc

after_has : (f : Guid → Option ℕ) (o : Option Part) (x : ℕ) → option_and_then f (option_and_then (λ part. after_of part.expr) o) ≡ Some x → HasLicence o G.After
after_has f None x h = cc
after_has f (Some part) x h = (part, refl, licence_after f part.expr x h)

-- the part is there, and has the licence of a group's driver
abbrev MemberOf : Catalog → DxeMachine → List ℕ → ℕ → Option Part → Type 0
MemberOf catalog m queue number o = (part : Part) × (o ≡ Some part) × IsDriverLicensed catalog m queue number part (driver_licence o)

eligible_licensed : (catalog : Catalog) (m : DxeMachine) (queue : List ℕ) (number : ℕ) (part : Part) (expr : PartExpr) → part.expr ≡ expr → is_unrequested catalog m number ≡ false → lets_driver_start m.handles expr ≡ true
    → IsDriverLicensed catalog m queue number part (licence_in_group expr)
eligible_licensed catalog m queue number part E.Absent e r h = (e, h)
eligible_licensed catalog m queue number part (E.Malformed at) e r h = cc
eligible_licensed catalog m queue number part (E.Held (D.Before name)) e r h = cc
eligible_licensed catalog m queue number part (E.Held (D.After name)) e r h = cc
eligible_licensed catalog m queue number part (E.Held (D.Expr sor node)) e r h = (D.Expr sor node, e, r, h)

eligible_member : (catalog : Catalog) (m : DxeMachine) (queue : List ℕ) (number : ℕ) (o : Option Part) → is_unrequested catalog m number ≡ false → driver_may_start m.handles o ≡ true → MemberOf catalog m queue number o
eligible_member catalog m queue number None r h = cc
eligible_member catalog m queue number (Some part) r h = (part, refl, eligible_licensed catalog m queue number part part.expr refl r h)

abbrev IsMemberNumber : Catalog → DxeMachine → List ℕ → ℕ → Type 0
IsMemberNumber catalog m queue n = MemberOf catalog m queue n (part_at Dxe catalog n)

with_licence : (catalog : Catalog) (m : DxeMachine) (queue : List ℕ) (number : ℕ) (o : Option Part) (licence : Licence) → ((part : Part) → IsDriverLicensed catalog m queue number part licence) → HasLicence o licence
    → MemberOf catalog m queue number o
with_licence catalog m queue number o licence licensed h = (h.0, h.1, subst (IsDriverLicensed catalog m queue number h.0) (sym h.2) (licensed h.0))

member : (catalog : Catalog) (m : DxeMachine) (queue : List ℕ) (root z : ℕ) → IsMemberNumber catalog m queue root → IsRootOrPlaced catalog m queue root z → IsMemberNumber catalog m queue z
member catalog m queue root z is (inl same) = subst (IsMemberNumber catalog m queue) (sym same) is
member catalog m queue root z is (inr (inl h)) = with_licence catalog m queue z (part_at Dxe catalog z) G.Before (λ part. h) (before_has (driver_named catalog m) (part_at Dxe catalog z) h.0 h.1)
member catalog m queue root z is (inr (inr h)) = with_licence catalog m queue z (part_at Dxe catalog z) G.After (λ part. h) (after_has (driver_named catalog m) (part_at Dxe catalog z) h.0 h.1)

pub each_of_map : {A B : Type 0} (P : B → Type 0) (f : A → B) (xs : List A) → Each (λ x. P (f x)) xs → Each P (map f xs)
each_of_map P f [] e = tt
each_of_map P f (x ∷ xs) e = (e.0, each_of_map P f xs e.1)

scheduled_numbers : (catalog : Catalog) (xs : List ℕ) → numbers_of (schedule_of catalog xs) ≡ xs
scheduled_numbers catalog [] = refl
scheduled_numbers catalog (x ∷ xs) = ap (λ l. x ∷ l) (scheduled_numbers catalog xs)

group_licensed : (catalog : Catalog) (m : DxeMachine) (number : ℕ) → is_eligible_driver catalog m number ≡ true → Each (IsMember catalog m (schedule_of catalog (companion_group catalog m number))) (schedule_of catalog (companion_group catalog m number))
group_licensed catalog m number eligible =
    let group = companion_group catalog m number in
    let may = both_of (not (is_unrequested catalog m number)) (driver_may_start m.handles (part_at Dxe catalog number)) eligible in
    let root : IsMemberNumber catalog m group number = eligible_member catalog m group number (part_at Dxe catalog number) (not_true (is_unrequested catalog m number) may.0) may.1 in
    let each = each_more (IsRootOrPlaced catalog m group number) (IsMemberNumber catalog m group) group (λ z h. member catalog m group number z root h) (all_placed catalog m (length (waiting catalog m)) number) in
    each_of_map (IsMember catalog m (schedule_of catalog group)) _ group (subst (λ queue. Each (IsMemberNumber catalog m queue) group) (sym (scheduled_numbers catalog group)) each)

found_licensed : (catalog : Catalog) (m : DxeMachine) (found : Option ℕ) → first_eligible catalog m ≡ found → Each (IsMember catalog m (group_scheduled catalog m found)) (group_scheduled catalog m found)
found_licensed catalog m None e = tt
found_licensed catalog m (Some number) e = group_licensed catalog m number (found_passes (is_eligible_driver catalog m) (waiting catalog m) number e)

pub schedules_licensed : (catalog : Catalog) (m : DxeMachine) → SchedulesLicensed catalog m
schedules_licensed catalog m = found_licensed catalog m (first_eligible catalog m) refl
