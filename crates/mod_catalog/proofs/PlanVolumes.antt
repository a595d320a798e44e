-- All volumes of a plan, and why their catalogue is well-formed.
use Rattle.std.proofs.Common.{◌≡◌, ℕ, ◌+◌, ◌<◌, ◌≤◌, Bool, true, false, cond, List, [], ◌∷◌, ◌++◌, length, Option, None, refl, sym, ap, arith, subst, inl, inr, ◌⊎◌, ◌&&◌, filter, is_none, nat_le, IfSome, leb-true}
use Rattle.std.specs.List.{list_all}
use Rattle.std.proofs.lemmas.Bool.{and_parts, or_cases, false≢true}
use Rattle.pi_base.specs.{declared.phase.Phase.Phase, declared.phase.Phase.TheVariants.Pei, declared.phase.Phase.TheVariants.Dxe}
use Rattle.boot_plan.specs.{declared.plan.Plan.Plan, declared.plan.PlanVolume.PlanVolume, declared.limits.TheConstants.MOST_END}
use Rattle.mod_catalog.specs.{declared.catalogue.Catalog.Catalog, declared.catalogue.Module.Module}
use Rattle.mod_catalog.specs.{declared.catalogue.VolumeEntry.VolumeEntry, Parts.parts_in, WellFormed.IsRankWithin, WellFormed.IsWellFormed}
use Rattle.mod_catalog.specs.Totals.{Holding, AreWithin, totals_with}
use Rattle.mod_catalog.specs.VolumeTree.{Image, Holds, entry_of, joined, nothing}
use Rattle.mod_catalog.specs.Catalogue.{are_apart, has_place, plan_image, IsPlaced, PlanHolds, IsCatalogue, no_totals}
use Rattle.pi_base.specs.Lists.{Each, Ordered}
use Rattle.pi_base.proofs.ListFacts.{each_more, each_append, each_cross, ordered_append}
use Rattle.mod_catalog.proofs.RankBounds.{IsBelow, below_more, part_count, length-parts_from}
use Rattle.mod_catalog.proofs.StretchLaws.{Laws}
use Rattle.mod_catalog.proofs.Bases.{IsBetween, OtherBase, Tree, holds_tree}
use Rattle.mod_catalog.proofs.Numbering.{IsNumber, Numbered, numbered_none, numbered_append, holds_numbered}

-- a volume's base is in no such stretch
abbrev pub IsOutside : ℕ → ℕ → VolumeEntry → Type 0
IsOutside base len entry = (entry.base < base) ⊎ (base + len ≤ entry.base)

abbrev pub apart_from : ℕ → ℕ → VolumeEntry → Bool
apart_from base len entry = are_apart base len entry.base entry.len

abbrev pub of_plan : VolumeEntry → Bool
of_plan entry = is_none entry.parent

-- what is apart from the volumes of the plan among them is apart from all
abbrev pub Cover : List VolumeEntry → Type 0
Cover volumes = (base len : ℕ) → 0 < len → list_all (apart_from base len) (filter of_plan volumes) ≡ true → Each (IsOutside base len) volumes

kept_parts : (p : VolumeEntry → Bool) (b : Bool) (x : VolumeEntry) (xs ys zs : List VolumeEntry)
    → (list_all p zs ≡ true → (list_all p xs ≡ true) × (list_all p ys ≡ true)) → list_all p (cond b (x ∷ zs) zs) ≡ true → (list_all p (cond b (x ∷ xs) xs) ≡ true) × (list_all p ys ≡ true)
kept_parts p false x xs ys zs f e = f e
kept_parts p true x xs ys zs f e =
    let parts = and_parts (p x) (list_all p zs) e in
    let rest = f parts.1 in
    let first = parts.0 in
    (rw first rest.0, rest.1)

all_parts : (p q : VolumeEntry → Bool) (xs ys : List VolumeEntry) → list_all p (filter q (xs ++ ys)) ≡ true → (list_all p (filter q xs) ≡ true) × (list_all p (filter q ys) ≡ true)
all_parts p q [] ys e = (refl, e)
all_parts p q (x ∷ xs) ys e = kept_parts p (q x) x (filter q xs) (filter q ys) (filter q (xs ++ ys)) (all_parts p q xs ys) e

cover_append : (xs ys : List VolumeEntry) → Cover xs → Cover ys → Cover (xs ++ ys)
cover_append xs ys p q = λ base len some all.
    let parts = all_parts (apart_from base len) of_plan xs ys all in
    each_append (IsOutside base len) xs ys (p base len some parts.0) (q base len some parts.1)

outside : (base len other other_len : ℕ) (entry : VolumeEntry) → 0 < len → are_apart base len other other_len ≡ true → IsBetween other (other + other_len) entry → IsOutside base len entry
outside base len other other_len entry some e between =
    elim (or_cases (nat_le (base + len) other) (nat_le (other + other_len) base) e) [
      | inl above ↦ inr (omega (arith, leb-true (base + len) other above, between.0))
      | inr below ↦ inl (omega (arith, leb-true (other + other_len) base below, between.1))
    ]

-- the volumes of one image of the plan
tree_cover : (image : Image) (holding : Holding) → image.location.parent ≡ None → Tree image holding → Cover holding.volumes
tree_cover image holding none tree = λ base len some all.
    let P : List VolumeEntry → Type 0 = λ vs. list_all (apart_from base len) (filter of_plan vs) ≡ true in
    let there = subst P tree.these all in
    let Q : Option ℕ → Type 0 = λ o. list_all (apart_from base len) (cond (is_none o) (entry_of image.location tree.volume ∷ filter of_plan tree.nested) (filter of_plan tree.nested)) ≡ true in
    let first = and_parts (are_apart base len image.location.base tree.volume.len) (list_all (apart_from base len) (filter of_plan tree.nested)) (subst Q none there) in
    each_more (IsBetween image.location.base (image.location.base + tree.volume.len)) (IsOutside base len) holding.volumes
    (λ e between. outside base len image.location.base tree.volume.len e some first.0 between) tree.lie.each

last_of : (a b c d : Bool) → (a && b && c && d) ≡ true → d ≡ true
last_of true true true d e = e
last_of true true false d e = absurd (false≢true e)
last_of true false c d e = absurd (false≢true e)
last_of false b c d e = absurd (false≢true e)

placed : (plan : Plan) (before : List VolumeEntry) (image : Image) (holding : Holding) (tree : Tree image holding) → IsPlaced plan before holding.volumes
    → list_all (apart_from image.location.base tree.volume.len) (filter of_plan before) ≡ true
placed plan before image holding tree is =
    let P : List VolumeEntry → Type 0 = λ vs. IsPlaced plan before vs in
    let there : has_place plan before image.location.base tree.volume.len ≡ true = subst P tree.these is in
    last_of (nat_le (image.location.base + tree.volume.len) MOST_END) (are_apart image.location.base tree.volume.len plan.temp.base plan.temp.len)
    (are_apart image.location.base tree.volume.len plan.ram.base plan.ram.len) (list_all (apart_from image.location.base tree.volume.len) (filter of_plan before)) there

-- what stands after some volumes of the plan
pub record Good (holding : Holding) : Type 0 where
  pub numbered : Numbered 0 holding.volumes holding.modules
  pub apart : Ordered OtherBase holding.volumes
  pub cover : Cover holding.volumes

pub good_none : Good nothing
good_none = record { numbered = numbered_none 0; apart = tt; cover = λ base len some all. tt }

good_more : (laws : Laws) (plan : Plan) (before first : Holding) (deep : ℕ) (image : Image) → image.location.parent ≡ None → image.location.number ≡ length before.volumes
    → Good before → Holds deep image first → IsPlaced plan before.volumes first.volumes → Good (joined before first)
good_more laws plan before first deep image none number good held is =
    let tree = holds_tree laws deep image first held in
    let len = tree.volume.len in
    let some = laws.some image.bytes tree.volume tree.is in
    let away = good.cover image.location.base len some (placed plan before.volumes image first tree is) in
    let P : Option ℕ → Type 0 = λ o. IfSome o (λ parent. parent < image.location.number) in
    let numbers = holds_numbered laws deep image first (subst P (sym none) tt) held in
    let Q : ℕ → Type 0 = λ n. Numbered n first.volumes first.modules in
    record {
      numbered = numbered_append 0 before.volumes first.volumes before.modules first.modules good.numbered (subst Q (omega (arith, number)) numbers);
      apart = ordered_append OtherBase before.volumes first.volumes good.apart tree.lie.apart
          (each_cross (IsOutside image.location.base len) (IsBetween image.location.base (image.location.base + len)) OtherBase before.volumes first.volumes
          (λ x y a b same. elim a [ inl below ↦ absurd (omega (arith, below, b.0, same)) | inr above ↦ absurd (omega (arith, above, b.1, same)) ]) away tree.lie.each);
      cover = cover_append before.volumes first.volumes good.cover (tree_cover image first none tree);
    }

pub plan_good : (laws : Laws) (plan : Plan) (before : Holding) (volumes : List PlanVolume) (images : List (List ℕ)) (holding : Holding)
    → Good before → PlanHolds plan before volumes images holding → Good holding
plan_good laws plan before [] [] holding good is = subst Good (sym is) good
plan_good laws plan before [] (bytes ∷ images) holding good is = absurd is
plan_good laws plan before (volume ∷ volumes) [] holding good is = absurd is
plan_good laws plan before (volume ∷ volumes) (bytes ∷ images) holding good is =
    let image = plan_image volume bytes (length before.volumes) in
    plan_good laws plan (joined before is.0) volumes images holding (good_more laws plan before is.0 4 image refl refl good is.1 is.2) is.3

formed : (holding : Holding) → Good holding → AreWithin (totals_with no_totals holding) → IsWellFormed (record { volumes = holding.volumes; modules = holding.modules })
formed holding good within =
    let n = good.numbered in
    let catalog : Catalog = record { volumes = holding.volumes; modules = holding.modules } in
    let ranks_of : (phase : Phase) → Each (IsRankWithin phase catalog) holding.modules = λ phase.
    each_more (IsBelow phase (λ volume. part_count phase volume holding.modules)) (IsRankWithin phase catalog) holding.modules
    (below_more phase (λ volume. part_count phase volume holding.modules) (λ volume. length (parts_in phase catalog volume)) (λ volume. omega (arith, length-parts_from phase volume 0 holding.modules)))
    (n.ranks_within phase) in
    record {
      in_range = each_more (IsNumber 0 (0 + length holding.volumes)) (λ m. m.volume < length holding.volumes) holding.modules (λ m h. omega (arith, h.1)) n.within;
      in_order = n.order;
      parents = n.parents;
      bases = good.apart;
      ranks = n.ranks;
      pei_ranks = ranks_of Pei;
      dxe_ranks = ranks_of Dxe;
      pei_parts = n.pei;
      dxe_parts = n.dxe;
      few_volumes = omega (arith, within.volumes);
      few_modules = omega (arith, within.modules);
    }

pub well_formed : (laws : Laws) (plan : Plan) (images : List (List ℕ)) (catalog : Catalog) → IsCatalogue plan images catalog → IsWellFormed catalog
well_formed laws plan images catalog is =
    let good = plan_good laws plan nothing plan.volumes images is.holding good_none is.holds in
    let of : List VolumeEntry × List Module → Catalog = λ x. record { volumes = x.0; modules = x.1 } in
    let vs = is.volumes in
    let ms = is.modules in
    let same : ◌≡◌ {A = List VolumeEntry × List Module} (catalog.volumes, catalog.modules) (is.holding.volumes, is.holding.modules) = cc in
    subst IsWellFormed (sym (ap of same)) (formed is.holding good is.within)
