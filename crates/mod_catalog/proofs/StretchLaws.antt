-- Where the volumes that are nested in a volume lie.
use Rattle.std.proofs.Common.{ℕ, ◌+◌, ◌<◌, ◌≤◌, Bool, List, [], ◌∷◌, ◌++◌, length, drop, map, filter, sym, arith, subst, All, length-take, AllPairs, flat_map}
use Rattle.fv_volume.specs.{declared.file.FfsFile.FfsFile, declared.volume.Volume.Volume, Volume.IsVolume}
use Rattle.fv_volume.specs.Places.{AreInside, AreWithin, AreInOrder}
use Rattle.fv_volume.specs.declared.sections.section.Section.{Section}
use Rattle.fv_volume.specs.Stream.{AreSections, AreInside as SectionsInside, AreInOrder as SectionsInOrder}
use Rattle.mod_catalog.specs.ReadFile.{ReadFile, Stretch, IsReadFile, AreRead, is_read, file_body, holds_volume, nested_in}
use Rattle.mod_catalog.specs.VolumeTree.{nested_stretches}
use Rattle.pi_base.specs.Lists.{Each, Ordered}
use Rattle.pi_base.proofs.ListFacts.{each_more, each_both, each_filter, each_of_all, each_of_map, ordered_filter, ordered_of_map, ordered_of_pairs}
use Rattle.mod_catalog.proofs.OwnModules.{Before}

-- the laws of volumes and sections that are used here
pub record Laws : Type 0 where
  pub some : (bytes : List ℕ) (volume : Volume) → IsVolume bytes volume → 0 < volume.len
  pub within : (bytes : List ℕ) (volume : Volume) → IsVolume bytes volume → AreWithin volume.len volume.files
  pub len : (bytes : List ℕ) (volume : Volume) → IsVolume bytes volume → volume.len ≤ length bytes
  pub inside : (bytes : List ℕ) (volume : Volume) → IsVolume bytes volume → AreInside bytes volume.files
  pub in_order : (bytes : List ℕ) (volume : Volume) → IsVolume bytes volume → AreInOrder volume.files
  pub sections_inside : (bytes : List ℕ) (sections : List Section) → AreSections bytes sections → SectionsInside bytes sections
  pub sections_in_order : (bytes : List ℕ) (sections : List Section) → AreSections bytes sections → SectionsInOrder sections

-- stretches one behind the other, from a place on up to an end
abbrev pub Laid : ℕ → ℕ → List Stretch → Type 0
Laid from to [] = from ≤ to
Laid from to (stretch ∷ rest) = (from ≤ stretch.at) × Laid (stretch.at + stretch.len) to rest

laid_lower : (a b c : ℕ) (xs : List Stretch) → a ≤ b → Laid b c xs → Laid a c xs
laid_lower a b c [] below laid = omega arith
laid_lower a b c (x ∷ xs) below laid = (omega (arith, laid.0), laid.1)

laid_append : (a b c : ℕ) (xs ys : List Stretch) → Laid a b xs → Laid b c ys → Laid a c (xs ++ ys)
laid_append a b c [] ys p q = laid_lower a b c ys p q
laid_append a b c (x ∷ xs) ys p q = (p.0, laid_append (x.at + x.len) b c xs ys p.1 q)

-- the bodies of sections of a file
laid_sections : (base from to : ℕ) (sections : List Section) → from ≤ to → Each (λ s. (from ≤ s.body_at) × (s.body_at + s.body_len ≤ to)) sections
    → Ordered (λ a b. a.body_at + a.body_len ≤ b.body_at) sections
    → Laid (base + from) (base + to) (map (λ section. record { at = base + section.body_at; len = section.body_len }) sections)
laid_sections base from to [] below each order = omega arith
laid_sections base from to (s ∷ rest) below each order =
    let here = each.0 in
    let behind = each_both (λ x. s.body_at + s.body_len ≤ x.body_at) (λ x. (from ≤ x.body_at) × (x.body_at + x.body_len ≤ to)) rest order.0 each.1 in
    let next = each_more (λ x. (s.body_at + s.body_len ≤ x.body_at) × ((from ≤ x.body_at) × (x.body_at + x.body_len ≤ to)))
    (λ x. (s.body_at + s.body_len ≤ x.body_at) × (x.body_at + x.body_len ≤ to)) rest (λ x h. (h.0, h.1.1)) behind in
    let laid = laid_sections base (s.body_at + s.body_len) to rest (omega (arith, here.1)) next order.1 in
    (omega (arith, here.0), laid_lower (base + s.body_at + s.body_len) (base + (s.body_at + s.body_len)) (base + to) _ (omega arith) laid)

-- the stretches of a file that was read
abbrev pub nested_of : ReadFile → List Stretch
nested_of read = nested_in read.file read.sections

laid_file : (laws : Laws) (bytes : List ℕ) (read : ReadFile) → AreSections (file_body bytes read.file) read.sections
    → Laid read.file.body_at (read.file.body_at + read.file.body_len) (nested_of read)
laid_file laws bytes read are =
    let body = file_body bytes read.file in
    let test : Section → Bool = holds_volume read.file in
    let P : Section → Type 0 = λ s. (0 ≤ s.body_at) × (s.body_at + s.body_len ≤ read.file.body_len) in
    let R : Section → Section → Type 0 = λ a b. a.body_at + a.body_len ≤ b.body_at in
    let short : length body ≤ read.file.body_len = omega (arith, length-take read.file.body_len (drop read.file.body_at bytes)) in
    let each = each_more (λ s. s.body_at + s.body_len ≤ length body) P read.sections (λ s h. (omega arith, omega (arith, h, short)))
    (each_of_all (λ s. s.body_at + s.body_len ≤ length body) read.sections (laws.sections_inside body read.sections are)) in
    let order = ordered_of_pairs R read.sections (laws.sections_in_order body read.sections are) in
    laid_lower read.file.body_at (read.file.body_at + 0) (read.file.body_at + read.file.body_len) (nested_of read) (omega arith)
    (laid_sections read.file.body_at 0 read.file.body_len (filter test read.sections) (omega arith) (each_filter P test read.sections each) (ordered_filter R test read.sections order))

-- files one behind the other
laid_files : (from to : ℕ) (reads : List ReadFile) → from ≤ to → Each (λ r. (from ≤ r.file.body_at) × (r.file.body_at + r.file.body_len ≤ to)) reads
    → Ordered (λ a b. a.file.body_at + a.file.body_len ≤ b.file.body_at) reads
    → Each (λ r. Laid r.file.body_at (r.file.body_at + r.file.body_len) (nested_of r)) reads → Laid from to (flat_map nested_of reads)
laid_files from to [] below each order laid = below
laid_files from to (r ∷ rest) below each order laid =
    let end = r.file.body_at + r.file.body_len in
    let behind = each_both (λ x. r.file.body_at + r.file.body_len ≤ x.file.body_at) (λ x. (from ≤ x.file.body_at) × (x.file.body_at + x.file.body_len ≤ to)) rest order.0 each.1 in
    let next = each_more (λ x. (r.file.body_at + r.file.body_len ≤ x.file.body_at) × ((from ≤ x.file.body_at) × (x.file.body_at + x.file.body_len ≤ to)))
    (λ x. (r.file.body_at + r.file.body_len ≤ x.file.body_at) × (x.file.body_at + x.file.body_len ≤ to)) rest (λ x h. (h.0, h.1.1)) behind in
    let after = laid_files end to rest each.0.1 next order.1 laid.1 in
    laid_append from end to (nested_of r) (flat_map nested_of rest) (laid_lower from r.file.body_at end (nested_of r) each.0.0 laid.0) after

-- the files that are read stand in order
pub reads_before : (laws : Laws) (bytes : List ℕ) (volume : Volume) (reads : List ReadFile) → IsVolume bytes volume → AreRead bytes volume.files reads → Ordered Before reads
reads_before laws bytes volume reads v are =
    let R : FfsFile → FfsFile → Type 0 = λ a b. (a.at < b.at) × (a.body_at + a.body_len ≤ b.at) in
    let S : FfsFile → FfsFile → Type 0 = λ a b. a.at < b.at in
    let test = is_read volume.files in
    ordered_of_map S (λ read. read.file) reads (subst (Ordered S) (sym are.these) (ordered_filter S test volume.files
    (ordered_of_pairs S volume.files (λ i j d below within. (laws.in_order bytes volume v i j d below within).0))))

-- nested volumes lie one behind the other in the volume, behind its first byte
pub nested_laid : (laws : Laws) (bytes : List ℕ) (volume : Volume) (reads : List ReadFile) → IsVolume bytes volume → AreRead bytes volume.files reads
    → Laid 1 volume.len (nested_stretches reads)
nested_laid laws bytes volume reads v are =
    let P : FfsFile → Type 0 = λ f. (1 ≤ f.body_at) × (f.body_at + f.body_len ≤ volume.len) in
    let R : FfsFile → FfsFile → Type 0 = λ a b. a.body_at + a.body_len ≤ b.body_at in
    let test = is_read volume.files in
    let all : All P volume.files = λ k d inside. (omega (arith, (laws.inside bytes volume v k d inside).0), laws.within bytes volume v k d inside) in
    let pairs : AllPairs R volume.files = λ i j d below inside. omega (arith, (laws.in_order bytes volume v i j d below inside).1, (laws.inside bytes volume v j d inside).0) in
    let each = each_of_map P (λ read. read.file) reads (subst (Each P) (sym are.these) (each_filter P test volume.files (each_of_all P volume.files all))) in
    let order = ordered_of_map R (λ read. read.file) reads (subst (Ordered R) (sym are.these) (ordered_filter R test volume.files (ordered_of_pairs R volume.files pairs))) in
    let laid = each_more (IsReadFile bytes) (λ r. Laid r.file.body_at (r.file.body_at + r.file.body_len) (nested_of r)) reads
    (λ read is. laid_file laws bytes read is.sections) are.each in
    laid_files 1 volume.len reads (omega (arith, laws.some bytes volume v)) each order laid
