use Rattle.std.proofs.Common.{◌≡◌, ◌<◌, ◌+◌, ℕ, zero, suc, List, [], ◌∷◌, Some, Err, length, get_or, refl, sym, ap, subst, arith, slice_get}
use Rattle.std.proofs.{lemmas.Result.err_from_is_err_and, lemmas.Option.slice_get_read}
use Rattle.pi_base.specs.Lists.{Each}
use Rattle.mod_catalog.specs.{declared.catalogue.Catalog.Catalog, declared.catalogue.Module.Module}
use Rattle.recorded_boot.specs.{declared.order.names.NamesFault.NamesFault, Named.AreNames, Named.IsFirstWithTwins}
use Rattle.recorded_boot.specs.Taking.{Fails, IsKept}
use Rattle.recorded_boot.proofs.Building.{no_twins, none_named, refused, one_more_named}
use Rattle.recorded_boot.proofs.order.names.keep_all.Goals as goal

-- the module at hand
at_hand : (catalog : Catalog) (items : List Module) (k : ℕ) (m : Module) → items ≡ catalog.modules → k < length items → m ≡ get_or items k m → (slice_get catalog.modules k ≡ Some m) × (k < length catalog.modules)
at_hand catalog items k m same below is = (subst (λ xs. slice_get xs k ≡ Some m) same (slice_get_read items (length items) k m refl below is), subst (λ xs. k < length xs) same below)

pub modules-init : goal.modules-init
modules-init c = record { names = none_named c.args.catalog.now c.args.maps.now.items c.requires.none; number = refl }

pub modules-preserved : goal.modules-preserved
modules-preserved c =
    let catalog = c.args.catalog.now in
    let at = at_hand catalog c.as_slice-member-items.result.now c.modules.member-index c.member-item.result c.as_slice-member-items.ensures c.modules-test.true c.member-item.is in
    let kept = c.in_ok-keep.ensures in
    record {
      names = one_more_named catalog c.modules.member-index c.member-item.result c.modules.maps.items c.keep.new.maps.items c.modules.invariant.names at.0 at.1
          (subst (λ n. IsKept c.member-item.result.volume c.member-item.result.name n c.modules.maps.items c.keep.new.maps.items) c.modules.invariant.number kept);
      number = ap (λ n. n + 1) c.modules.invariant.number;
    }

pub returns-in_err-keep-clause-names : goal.returns-in_err-keep-clause-names
returns-in_err-keep-clause-names c = rw (err_from_is_err_and c.from_residual.result c.from_residual.ensures.1).1 tt

pub returns-in_err-keep-clause-apart : goal.returns-in_err-keep-clause-apart
returns-in_err-keep-clause-apart c = rw (err_from_is_err_and c.from_residual.result c.from_residual.ensures.1).1 tt

pub returns-in_err-keep-clause-twins : goal.returns-in_err-keep-clause-twins
returns-in_err-keep-clause-twins c =
    let catalog = c.args.catalog.now in
    let at = at_hand catalog c.as_slice-member-items.result.now c.modules.member-index c.member-item.result c.as_slice-member-items.ensures c.modules-test.true c.member-item.is in
    let p = err_from_is_err_and c.from_residual.result c.from_residual.ensures.1 in
    rw p.1 (subst (λ (fault : NamesFault). Fails {A = Unit {0}} (IsFirstWithTwins catalog) (Err fault)) (sym p.2)
    (refused (Unit {0}) catalog c.modules.member-index c.modules.number c.member-item.result c.modules.maps.items c.keep.new.maps.items c.in_err-keep.field-0.0 c.requires.catalog c.modules.invariant.names at.0 at.1
    c.in_err-keep.ensures))

pub returns-clause-names : goal.returns-clause-names
returns-clause-names c =
    let same : c.modules.member-index ≡ length c.args.catalog.now.modules = omega (arith, c.modules-test.false, c.modules.auto.member-index-end, ap length c.as_slice-member-items.ensures) in
    subst (λ n. AreNames c.args.catalog.now n c.modules.maps.items) same c.modules.invariant.names

pub returns-clause-apart : goal.returns-clause-apart
returns-clause-apart c = no_twins c.args.catalog.now c.modules.maps.items (returns-clause-names c)

volume_within : (modules : List Module) (k most : ℕ) (d : Module) → Each (λ m. m.volume < most) modules → k < length modules
    → (get_or modules k d).volume < most
volume_within [] k most d each below = absurd (omega (arith, below))
volume_within (m ∷ modules) zero most d each below = each.0
volume_within (m ∷ modules) (suc k) most d each below = volume_within modules k most d each.1 (omega (arith, below))

pub keep-requires : goal.keep-requires
keep-requires c =
    let most = length c.args.catalog.now.volumes in
    let each = subst (Each (λ (m : Module). m.volume < most)) (sym c.as_slice-member-items.ensures) c.requires.catalog.in_range in
    let within = volume_within c.as_slice-member-items.result.now c.modules.member-index most c.member-item.result each
    c.modules-test.true in
    omega (arith, within, ap (λ m. m.volume) c.member-item.is, c.modules.invariant.names.volumes)

pub overflow_add-number : goal.overflow_add-number
overflow_add-number c = omega (
  arith,
  c.modules.invariant.number,
  c.modules-test.true,
  ap length c.as_slice-member-items.ensures,
  c.requires.catalog.few_modules,
)
