-- The numbers of the volumes and modules that a volume holds.
use Rattle.std.proofs.Common.{◌≡◌, ℕ, zero, suc, ◌+◌, ◌<◌, ◌≤◌, List, [], ◌∷◌, ◌++◌, length, sym, arith, subst, inl, length-append, IfSome}
use Rattle.pi_base.specs.{declared.phase.Phase.Phase, declared.phase.Phase.TheVariants.Pei, declared.phase.Phase.TheVariants.Dxe}
use Rattle.mod_catalog.specs.{declared.catalogue.Module.Module, declared.catalogue.VolumeEntry.VolumeEntry}
use Rattle.mod_catalog.specs.{ReadFile.IsReadFile, ReadFile.Stretch, Totals.Holding, Totals.module_files, FileType.has_module}
use Rattle.mod_catalog.specs.VolumeTree.{Image, Holds, AreNested, nested_image, nested_stretches, entry_of}
use Rattle.mod_catalog.specs.WellFormed.{AreNumbered, Precedes, RanksDiffer, IsPartOf}
use Rattle.pi_base.specs.Lists.{Each, Ordered}
use Rattle.pi_base.proofs.ListFacts.{each_more, each_append, each_cross, each_filter, ordered_append, ordered_filter}
use Rattle.mod_catalog.proofs.OwnModules.{AreOwn, Before, own_modules}
use Rattle.mod_catalog.proofs.RankBounds.{AreWithin, own_within, within_append}
use Rattle.mod_catalog.proofs.StretchLaws.{Laws, reads_before}

abbrev pub IsNumber : ℕ → ℕ → Module → Type 0
IsNumber from to m = (from ≤ m.volume) × (m.volume < to)

-- volumes numbered from a number on, and their modules
pub record Numbered (from : ℕ) (volumes : List VolumeEntry) (modules : List Module) : Type 0 where
  pub within : Each (IsNumber from (from + length volumes)) modules
  pub order : Ordered Precedes modules
  pub ranks : Ordered RanksDiffer modules
  pub ranks_within : (phase : Phase) → AreWithin phase modules
  pub parents : AreNumbered from volumes
  pub pei : Each (λ m. IfSome m.pei (IsPartOf Pei)) modules
  pub dxe : Each (λ m. IfSome m.dxe (IsPartOf Dxe)) modules

pub numbered_none : (from : ℕ) → Numbered from [] []
numbered_none from = record { within = tt; order = tt; ranks = tt; ranks_within = λ phase. tt; parents = tt; pei = tt; dxe = tt }

parents_append : (from : ℕ) (vs ws : List VolumeEntry) → AreNumbered from vs → AreNumbered (from + length vs) ws → AreNumbered from (vs ++ ws)
parents_append from [] ws p q =
    let P : ℕ → Type 0 = λ n. AreNumbered n ws in
    let same : from + length {A = VolumeEntry} [] ≡ from = omega arith in
    subst P same q
parents_append from (v ∷ vs) ws p q =
    let P : ℕ → Type 0 = λ n. AreNumbered n ws in
    let same : from + length (v ∷ vs) ≡ from + 1 + length vs = omega arith in
    (p.0, parents_append (from + 1) vs ws p.1 (subst P same q))

pub numbered_append : (from : ℕ) (vs ws : List VolumeEntry) (ms ns : List Module) → Numbered from vs ms → Numbered (from + length vs) ws ns → Numbered from (vs ++ ws) (ms ++ ns)
numbered_append from vs ws ms ns p q =
    let middle = from + length vs in
    let to = from + length (vs ++ ws) in
    let long = length-append vs ws in
    record {
      within = each_append (IsNumber from to) ms ns (each_more (IsNumber from middle) (IsNumber from to) ms (λ m h. (h.0, omega (arith, h.1, long))) p.within)
          (each_more (IsNumber middle (middle + length ws)) (IsNumber from to) ns (λ m h. (omega (arith, h.0), omega (arith, h.1, long))) q.within);
      order = ordered_append Precedes ms ns p.order q.order
          (each_cross (IsNumber from middle) (IsNumber middle (middle + length ws)) Precedes ms ns (λ x y a b. inl (omega (arith, a.1, b.0))) p.within q.within);
      ranks = ordered_append RanksDiffer ms ns p.ranks q.ranks
          (each_cross (IsNumber from middle) (IsNumber middle (middle + length ws)) RanksDiffer ms ns (λ x y a b same. absurd (omega (arith, a.1, b.0, same))) p.within q.within);
      ranks_within = λ phase. within_append phase ms ns (p.ranks_within phase) (q.ranks_within phase);
      parents = parents_append from vs ws p.parents q.parents;
      pei = each_append (λ m. IfSome m.pei (IsPartOf Pei)) ms ns p.pei q.pei;
      dxe = each_append (λ m. IfSome m.dxe (IsPartOf Dxe)) ms ns p.dxe q.dxe;
    }

-- one volume with its own modules
numbered_own : (entry : VolumeEntry) (number : ℕ) (own : List Module) → IfSome entry.parent (λ parent. parent < number) → AreOwn number own → ((phase : Phase) → AreWithin phase own)
    → Numbered number (entry ∷ []) own
numbered_own entry number own parent are within = record {
  within = each_more (λ m. m.volume ≡ number) (IsNumber number (number + 1)) own (λ m h. (omega (arith, h), omega (arith, h))) are.volumes;
  order = are.order;
  ranks = are.ranks;
  ranks_within = within;
  parents = (parent, tt);
  pei = are.pei;
  dxe = are.dxe;
}

abbrev pub HasParentBefore : Image → Type 0
HasParentBefore image = IfSome image.location.parent (λ parent. parent < image.location.number)

nested_numbered : (H : Image → Holding → Type 0)
    → ((image : Image) (holding : Holding) → HasParentBefore image → H image holding → Numbered image.location.number holding.volumes holding.modules)
    → (image : Image) (next : ℕ) (stretches : List Stretch) (holding : Holding) → image.location.number < next → AreNested H image next stretches holding
    → Numbered next holding.volumes holding.modules
nested_numbered H held image next [] holding below is = subst (λ h. Numbered next h.volumes h.modules) (sym is) (numbered_none next)
nested_numbered H held image next (s ∷ rest) holding below is =
    let first = held (nested_image image next s) is.0 below is.1 in
    let behind = nested_numbered H held image (next + length is.0.volumes) rest is.2 (omega arith) is.3 in
    subst (λ h. Numbered next h.volumes h.modules) (sym is.4) (numbered_append next is.0.volumes is.2.volumes is.0.modules is.2.modules first behind)

pub holds_numbered : (laws : Laws) (deep : ℕ) (image : Image) (holding : Holding) → HasParentBefore image → Holds deep image holding
    → Numbered image.location.number holding.volumes holding.modules
holds_numbered laws zero image holding parent h = absurd h
holds_numbered laws (suc deep) image holding parent h =
    let volume = h.0 in
    let reads = h.1 in
    let own = h.2 in
    let inner = h.4 in
    let order = ordered_filter Before (λ read. has_module read.file.kind) reads (reads_before laws image.bytes volume reads h.3.grammar h.3.files) in
    let each = each_filter (IsReadFile image.bytes) (λ read. has_module read.file.kind) reads h.3.files.each in
    let are = own_modules image.bytes volume.files reads image.location.number (module_files reads) own order each h.3.entries in
    let within : (phase : Phase) → AreWithin phase own = λ phase. own_within phase image.bytes volume.files reads image.location.number own h.3.files h.3.entries in
    let first = numbered_own (entry_of image.location volume) image.location.number own parent are within in
    let behind = nested_numbered (Holds deep) (λ i x p held. holds_numbered laws deep i x p held) image (image.location.number + 1) (nested_stretches reads) inner (omega arith) h.5 in
    subst (λ x. Numbered image.location.number x.volumes x.modules) (sym h.6) (numbered_append image.location.number (entry_of image.location volume ∷ []) inner.volumes own inner.modules first behind)
