-- A state whose move is due is ready for it.
use Rattle.std.proofs.Common.{◌≡◌, ◌≢◌, ◌⊎◌, ℕ, ◌+◌, ◌<◌, ◌≤◌, ◌^◌, Bool, true, false, cond, List, [], ◌∷◌, length, arith, refl, sym, subst, ◌∙◌, Option, Some, None, IfSome, if◌then◌else◌, option_map}
use Rattle.std.specs.Option.{option_or}
use Rattle.std.proofs.lemmas.Bool.Decides.{nat_tests}
use Rattle.phys_mem.specs.{Region.is_inside, declared.memory.PhysMem.PhysMem, declared.rom.Rom.Rom}
use Rattle.hob_codec.specs.declared.kind.TheConstants.{POOL, ALLOCATION}
use Rattle.pi_base.specs.Lists.{Each}
use Rattle.pi_base.proofs.ListFacts.{each_more}
use Rattle.store_model.specs.{declared.state.Body.Body, declared.state.DescriptorBody.DescriptorBody, declared.state.HobEntry.HobEntry}
use Rattle.store_model.specs.declared.state.Body.TheVariants.{Bytes, Descriptor, Node, Allocation}
use Rattle.store_model.specs.StoreState.{Board, Range, StoreState, body_at}
use Rattle.store_model.specs.StateFacts.{IsStoreState, IsHobEntry, IsBodyOf, IsGuidOf, IsMapped, IsHeap, IsPlanned, ArePages, AreApart, rom_range}
use Rattle.store_model.specs.{MemoryReading.rom_bytes, Migration.migrated_to}
use Rattle.store_laws.proofs.{Fits.all_fit, Fits.body_is_of, Services.all_keep, Facts.bodies_are_spelled, Facts.has_room}
use Rattle.heap_store.specs.Course.{IsCourse}
use Rattle.heap_store.specs.Ready.{IsElsewhere, IsMovable, IsOfKind, HasHeader, IsReady, course_of, IsMoving}

-- the heap before the move
pub heap_of : (s : StoreState) → IsStoreState s → s.moved ≡ false → IsHeap s false
heap_of s h still = subst (IsHeap s) still h.heap

pub placed_in : (s : StoreState) (to : Range) → IsStoreState s → s.planned ≡ Some to → IsPlanned s.board to
placed_in s to h e = subst (λ (x : Option Range). IfSome x (IsPlanned s.board)) e h.planned

-- what holds of every state holds after the move
after_on : (s : StoreState) (to : Range) (moved : Bool) (planned : Option Range) → moved ≡ false → planned ≡ Some to → IfSome (if moved then None else option_map (migrated_to s) planned) IsStoreState → IsStoreState (migrated_to s to)
after_on s to true planned e f h = cc
after_on s to false None e f h = cc
after_on s to false (Some range) e f h = let same : range ≡ to = cc in subst (λ x. IsStoreState (migrated_to s x)) same h

pub after : (s : StoreState) (to : Range) → IsStoreState s → s.moved ≡ false → s.planned ≡ Some to → IsStoreState (migrated_to s to)
after s to h still planned = after_on s to s.moved s.planned still planned (all_keep.move s h)

-- the new heap lies apart from the old
apart_on : (s : StoreState) (to : Range) → IsHeap s false → IsPlanned s.board to → AreApart s.board.temp s.board.ram → (to.base + to.len ≤ s.base) ⊎ (s.page_end ≤ to.base)
apart_on s to heap plan (◌⊎◌.inl h) = let a = heap.2 in let b = plan.0 in ◌⊎◌.inr (omega (arith, h, a, b))
apart_on s to heap plan (◌⊎◌.inr h) = let a = heap.0 in let b = plan.1 in ◌⊎◌.inl (omega (arith, h, a, b))

is_course : (s : StoreState) (to : Range) → IsStoreState s → s.moved ≡ false → s.planned ≡ Some to → IsCourse s to (course_of s to)
is_course s to h still e =
    let heap = heap_of s h still in
    let plan = placed_in s to h e in
    let base = heap.0 in
    let len = heap.1 in
    let end = heap.2 in
    let above = h.board.temp_begin in
    let temp_end = h.board.temp_end in
    let ram_end = h.board.ram_end in
    let inside = plan.1 in
    let fits = plan.2 in
    record {
      from = refl;
      len = refl;
      pages = refl;
      to_base = refl;
      room = refl;
      end = omega (arith, base, len, end);
      fits = omega (arith, len, fits);
      apart = apart_on s to heap plan h.board.memory;
      above = omega (arith, base, above);
      low = omega (arith, end, temp_end);
      high = omega (arith, inside, ram_end);
    }

-- a GUID in a volume lies outside temporary RAM
abbrev IsAway : Range → ℕ → Type 0
IsAway temp at = (at < temp.base) ⊎ (temp.base + temp.len ≤ at)

inside_is : (base len at n : ℕ) → is_inside base len at n ≡ true → (base ≤ at) × (at + n ≤ base + len)
inside_is base len at n e = (grind (arith, nat_tests, e), grind (arith, nat_tests, e))

away_by : (temp : Range) (rom : Rom) (at : ℕ) → AreApart temp (rom_range rom) → rom.base ≤ at → at + 16 ≤ rom.base + length rom.bytes → IsAway temp at
away_by temp rom at (◌⊎◌.inl h) le fits = ◌⊎◌.inr (omega (arith, h, le))
away_by temp rom at (◌⊎◌.inr h) le fits = ◌⊎◌.inl (omega (arith, h, fits))

away_on : (temp : Range) (rom : Rom) (later : Option (List ℕ)) (at : ℕ) (bytes found : List ℕ) (b : Bool) → is_inside rom.base (length rom.bytes) at 16 ≡ b → AreApart temp (rom_range rom)
    → (later ≡ Some found → IsAway temp at) → option_or (cond b (Some bytes) None) later ≡ Some found → IsAway temp at
away_on temp rom later at bytes found true e h f g = let i = inside_is rom.base (length rom.bytes) at 16 e in away_by temp rom at h i.0 i.1
away_on temp rom later at bytes found false e h f g = f g

away : (board : Board) (roms : List Rom) (at : ℕ) (found : List ℕ) → Each (IsMapped board) roms → rom_bytes roms at 16 ≡ Some found → IsAway board.temp at
away board [] at found h e = cc
away board (rom ∷ roms) at found h e = away_on board.temp rom (rom_bytes roms at 16) at _ found (is_inside rom.base (length rom.bytes) at 16) refl h.0.temp (λ later. away board roms at found h.1 later) e

elsewhere_by : (s : StoreState) (at : ℕ) → IsHeap s false → IsAway s.board.temp at → IsElsewhere s at
elsewhere_by s at heap (◌⊎◌.inl h) = let a = heap.0 in ◌⊎◌.inl (omega (arith, a, h))
elsewhere_by s at heap (◌⊎◌.inr h) = let a = heap.2 in ◌⊎◌.inr (omega (arith, a, h))

far_guid : (s : StoreState) (d : DescriptorBody) (stands : Option ℕ) → IsStoreState s → IsHeap s false → IsGuidOf s.board d stands → IfSome stands (IsElsewhere s)
far_guid s d None h heap g = tt
far_guid s d (Some at) h heap g = elsewhere_by s at heap (away s.board s.board.roms at d.guid.0 h.board.roms g)

low_guid : (stands : Option ℕ) → IfSome stands (λ at. at < 2 ^ 64) → IfSome stands (λ at. at < 256 ^ 8)
low_guid None h = tt
low_guid (Some at) h = omega (arith, h)

movable : (s : StoreState) (place : ℕ) (d : DescriptorBody) → IsStoreState s → IsHeap s false → body_at s place ≡ Some (Descriptor d) → IsMovable s d
movable s place d h heap found =
    let fits = all_fit.descriptors s place d h found in
    let number = fits.number in
    let is = body_is_of s place (Descriptor d) h found in
    record { number = omega (arith, number); low = low_guid d.stands fits.address; guid = far_guid s d d.stands h heap is.1.1 }

-- headers
no_pages : (kind : ℕ) → kind ≡ POOL → kind ≢ ALLOCATION
no_pages kind e f = let no : POOL ≡ ALLOCATION = sym e ∙ f in absurd (omega (arith, no))

kind_of : (s : StoreState) (kind : ℕ) (body : Body) → s.taken ≤ s.board.pages → IsBodyOf s.board s.taken kind body → IsOfKind s kind body
kind_of s kind (Bytes bytes) le h = h
kind_of s kind (Descriptor d) le h = no_pages kind h.0
kind_of s kind Node le h = no_pages kind h
kind_of s kind (Allocation a) le h = let below = h.1.below in (h.0, omega (arith, le, below))

header : (s : StoreState) (hob : HobEntry) → s.taken ≤ s.board.pages → IsHobEntry s.board s.taken hob → HasHeader s hob
header s hob le h = let kind = h.kind in let len = h.len in record { kind = omega (arith, kind); len = omega (arith, len); body = kind_of s hob.kind hob.body le h.body }

pub pages_left : (s : StoreState) → IsStoreState s → s.moved ≡ false → s.taken ≤ s.board.pages
pages_left s h still = subst (ArePages s) still h.pages

pub is_ready : (s : StoreState) (to : Range) (memory : PhysMem) → IsMoving s to memory → IsReady s to (course_of s to)
is_ready s to memory m =
    let h = m.state in
    record {
      state = h;
      after = after s to h m.still m.planned;
      way = is_course s to h m.still m.planned;
      bodies = bodies_are_spelled s h;
      descriptors = λ place d found. movable s place d h (heap_of s h m.still) found;
      headers = each_more (IsHobEntry s.board s.taken) (HasHeader s) s.hobs (λ hob is. header s hob (pages_left s h m.still) is) h.hobs;
      room = has_room s h;
    }
