-- The bases of a volume and of those nested in it.
use Rattle.std.proofs.Common.{◌≡◌, ℕ, zero, suc, ◌+◌, ◌<◌, ◌≤◌, List, [], ◌∷◌, ◌++◌, length, drop, refl, sym, arith, subst, length-take, ◌≢◌}
use Rattle.fv_volume.specs.{declared.volume.Volume.Volume, Volume.IsVolume}
use Rattle.mod_catalog.specs.{declared.catalogue.VolumeEntry.VolumeEntry, ReadFile.Stretch, Totals.Holding}
use Rattle.mod_catalog.specs.VolumeTree.{Image, Holds, AreNested, nested_image, nested_stretches, entry_of}
use Rattle.pi_base.specs.Lists.{Each, Ordered}
use Rattle.pi_base.proofs.ListFacts.{each_more, each_append, each_cross, ordered_append}
use Rattle.mod_catalog.proofs.StretchLaws.{Laws, Laid, nested_laid}

abbrev pub IsBetween : ℕ → ℕ → VolumeEntry → Type 0
IsBetween low high entry = (low ≤ entry.base) × (entry.base < high)

abbrev pub OtherBase : VolumeEntry → VolumeEntry → Type 0
OtherBase a b = a.base ≢ b.base

-- volumes whose bases differ and lie in a stretch of addresses
pub record Lie (low high : ℕ) (volumes : List VolumeEntry) : Type 0 where
  pub each : Each (IsBetween low high) volumes
  pub apart : Ordered OtherBase volumes

lie_wider : (low to from high : ℕ) (volumes : List VolumeEntry) → low ≤ to → from ≤ high → Lie to from volumes → Lie low high volumes
lie_wider low to from high volumes below above lie = record {
  each = each_more (IsBetween to from) (IsBetween low high) volumes (λ e h. (omega (arith, h.0), omega (arith, h.1))) lie.each;
  apart = lie.apart;
}

lie_append : (low middle high : ℕ) (xs ys : List VolumeEntry) → low ≤ middle → middle ≤ high → Lie low middle xs → Lie middle high ys → Lie low high (xs ++ ys)
lie_append low middle high xs ys below above p q = record {
  each = each_append (IsBetween low high) xs ys (lie_wider low low middle high xs (omega arith) above p).each (lie_wider low middle high high ys below (omega arith) q).each;
  apart = ordered_append OtherBase xs ys p.apart q.apart
      (each_cross (IsBetween low middle) (IsBetween middle high) OtherBase xs ys (λ x y a b same. absurd (omega (arith, a.1, b.0, same))) p.each q.each);
}

-- what a volume holds, as one that lies there
pub record Tree (image : Image) (holding : Holding) : Type 0 where
  pub volume : Volume
  pub is : IsVolume image.bytes volume
  pub nested : List VolumeEntry
  pub these : holding.volumes ≡ entry_of image.location volume ∷ nested
  pub lie : Lie image.location.base (image.location.base + volume.len) holding.volumes

laid_below : (from to : ℕ) (stretches : List Stretch) → Laid from to stretches → from ≤ to
laid_below from to [] laid = laid
laid_below from to (s ∷ rest) laid = omega (arith, laid.0, laid_below (s.at + s.len) to rest laid.1)

nested_lie : (laws : Laws) (H : Image → Holding → Type 0) → ((image : Image) (holding : Holding) → H image holding → Tree image holding)
    → (image : Image) (next from to : ℕ) (stretches : List Stretch) (holding : Holding) → Laid from to stretches → AreNested H image next stretches holding
    → Lie (image.location.base + from) (image.location.base + to) holding.volumes
nested_lie laws H tree image next from to [] holding laid is = subst (λ h. Lie (image.location.base + from) (image.location.base + to) h.volumes) (sym is) (record { each = tt; apart = tt })
nested_lie laws H tree image next from to (s ∷ rest) holding laid is =
    let inner = nested_image image next s in
    let first = tree inner is.0 is.1 in
    let len = laws.len inner.bytes first.volume first.is in
    let short : length inner.bytes ≤ s.len = omega (arith, length-take s.len (drop s.at image.bytes)) in
    let end = laid_below (s.at + s.len) to rest laid.1 in
    let here = lie_wider (image.location.base + from) (image.location.base + s.at) (image.location.base + s.at + first.volume.len) (image.location.base + (s.at + s.len)) is.0.volumes
    (omega (arith, laid.0)) (omega (arith, len, short)) first.lie in
    let behind = nested_lie laws H tree image (next + length is.0.volumes) (s.at + s.len) to rest is.2 laid.1 is.3 in
    let both = lie_append (image.location.base + from) (image.location.base + (s.at + s.len)) (image.location.base + to) is.0.volumes is.2.volumes (omega (arith, laid.0)) (omega (arith, end)) here behind in
    subst (λ h. Lie (image.location.base + from) (image.location.base + to) h.volumes) (sym is.4) both

pub holds_tree : (laws : Laws) (deep : ℕ) (image : Image) (holding : Holding) → Holds deep image holding → Tree image holding
holds_tree laws zero image holding h = absurd h
holds_tree laws (suc deep) image holding h =
    let volume = h.0 in
    let reads = h.1 in
    let inner = h.4 in
    let is = h.3.grammar in
    let laid = nested_laid laws image.bytes volume reads is h.3.files in
    let behind = nested_lie laws (Holds deep) (λ i x held. holds_tree laws deep i x held) image (image.location.number + 1) 1 volume.len (nested_stretches reads) inner laid h.5 in
    let some = laws.some image.bytes volume is in
    let own : Lie image.location.base (image.location.base + 1) (entry_of image.location volume ∷ []) = record { each = ((omega arith, omega arith), tt); apart = (tt, tt) } in
    let all = lie_append image.location.base (image.location.base + 1) (image.location.base + volume.len) (entry_of image.location volume ∷ []) inner.volumes (omega arith) (omega (arith, some)) own behind in
    record {
      volume = volume;
      is = is;
      nested = inner.volumes;
      these = rw h.6 refl;
      lie = subst (λ x. Lie image.location.base (image.location.base + volume.len) x.volumes) (sym h.6) all;
    }
