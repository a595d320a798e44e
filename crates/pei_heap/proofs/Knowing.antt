-- Whether a PPI is installed, by the bytes alone.
use Rattle.std.proofs.Common.{◌≡◌, ◌-◌, ℕ, Bool, List, [], ◌∷◌, length, take, drop, Option, ap, sym, refl, ◌∙◌, arith, map, unwrap_or}
use Rattle.std.specs.List.{list_any}
use Rattle.pi_base.specs.Guids.{same_guid}
use Rattle.phys_mem.specs.{Regions.rom_region, Region.Region, declared.memory.PhysMem.PhysMem, declared.rom.Rom.Rom}
use Rattle.store_model.specs.{StoreState.StoreState, HeapImage.heap_image}
use Rattle.store_laws.specs.{Accessors.HasIsTold, Mapped.HeapsAreRead, Mapped.layout_of, Told.Told, Told.list_told}
use Rattle.store_laws.proofs.Facts.{images_fill}
use Rattle.pei_heap.specs.{declared.heap.Heap.Heap, declared.links.heads.Heads.Heads, Has.LinksHave, Has.heap_bytes, Linked.IsLinked}
use Rattle.pei_heap.proofs.{Descriptors.take_length, Volumes.roms_by}

same_rom : (a b : Rom) → rom_region a ≡ rom_region b → a ≡ b
same_rom a b e =
    let made : ℕ → List ℕ → Rom = λ n x. record { base = n; bytes = x } in
    let base : a.base ≡ b.base = ap (λ (r : Region). r.base) e in
    let bytes : a.bytes ≡ b.bytes = ap (λ (r : Region). r.bytes) e in
    ap (λ n. made n a.bytes) base ∙ ap (made b.base) bytes

same_roms : (xs ys : List Rom) → map rom_region xs ≡ map rom_region ys → xs ≡ ys
same_roms [] [] e = refl
same_roms [] (y ∷ ys) e = cc
same_roms (x ∷ xs) [] e = cc
same_roms (x ∷ xs) (y ∷ ys) e =
    let first : rom_region x ≡ rom_region y = cc in
    let rest : map rom_region xs ≡ map rom_region ys = cc in
    ap (λ z. z ∷ xs) (same_rom x y first) ∙ ap (λ zs. y ∷ zs) (same_roms xs ys rest)

bytes_are : (heap : Heap) (memory : PhysMem) (heads : Heads) (s : StoreState) → HeapsAreRead → IsLinked heap memory heads s → heap_bytes heap memory ≡ heap_image s
bytes_are heap memory heads s law h =
    let is = h.heap_is.image in
    let base = is.base in
    let len = is.len in
    let image = heap_image s in
    let size : length image ≡ s.len = images_fill s h.heap_is.state in
    let read = law (layout_of s) image memory heap.span.base heap.span.len is.has (omega (arith, base)) (omega (arith, base, len)) in
    let here : heap.span.base - s.base ≡ 0 = omega (arith, base) in
    let full : heap.span.len ≡ length image = omega (arith, len, size) in
    let whole : take heap.span.len (drop (heap.span.base - s.base) image) ≡ image =
    ap (λ n. take heap.span.len (drop n image)) here ∙ ap (λ n. take n image) full ∙ take_length image in
    ap (λ (x : Option (List ℕ)). unwrap_or x []) read ∙ whole

pub links_are_had : HeapsAreRead → HasIsTold → LinksHave
links_are_had law told heap memory heads s guid h =
    let roms : memory.roms ≡ s.board.roms = same_roms memory.roms s.board.roms (roms_by (layout_of s) s.moved (heap_image s) memory h.heap_is.image.has.regions) in
    let bytes = bytes_are heap memory heads s law h in
    let base = h.heap_is.image.base in
    let has : List Rom → List ℕ → ℕ → ℕ → Bool = λ r x b n. list_any (λ (t : Told). same_guid t.guid guid) (list_told r x b n) in
    ap (λ r. has r (heap_bytes heap memory) heap.span.base heads.ppi) roms ∙ ap (λ x. has s.board.roms x heap.span.base heads.ppi) bytes
    ∙ ap (λ b. has s.board.roms (heap_image s) b heads.ppi) base ∙ ap (has s.board.roms (heap_image s) s.base) h.heads_are.ppi_ends.first
    ∙ sym (told s guid h.heap_is.state)
