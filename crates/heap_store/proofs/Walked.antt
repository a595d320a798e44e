-- The HOBs that a walk has passed.
use Rattle.std.proofs.Common.{◌≡◌, ◌∙◌, ◌≤◌, ◌<◌, ◌+◌, ◌^◌, ◌==◌, ℕ, zero, suc, Bool, true, false, cond, List, [], ◌∷◌, ◌++◌, length, Some, None, ap, sym, refl, arith, append_assoc, Result, Ok, Err, OnOk}
use Rattle.pi_base.specs.declared.memory.OutOfMemory.{OutOfMemory}
use Rattle.hob_codec.specs.declared.kind.TheConstants.{END, VOLUME}
use Rattle.store_model.specs.{declared.store_handle.HobSpan.HobSpan, StoreState.StoreState, StateFacts.IsStoreState, StoreCall.IsHobPlace}
use Rattle.store_model.specs.{HeapImage.heap_image, Service.Reading.fv_bases, Service.Reading.hob_at}
use Rattle.store_laws.specs.{Hobs.HobsAreTold, Hobs.span_told, Volumes.VolumesAreTold, Volumes.volumes_told, Word.short_in, Word.word_in}
use Rattle.store_laws.proofs.Front.{append_nil}
use Rattle.heap_store.specs.Volumes.{base_told}
use Rattle.heap_store.proofs.NextHobs.{first_placed, next_placed}

-- the volumes so far, and those of the HOBs from an offset on
pub record IsWalked (s : StoreState) (bases : List ℕ) (offset : ℕ) (passed : ℕ) : Type 0 where
  pub fuel : ℕ
  pub left : fuel + passed ≡ 2 ^ 28
  pub there : IsHobPlace offset s
  pub told : fv_bases s ≡ bases ++ volumes_told fuel (heap_image s) offset

pub walked_first : (s : StoreState) (bases : List ℕ) (fuel : ℕ) → fuel ≡ 2 ^ 28 → bases ≡ [] → VolumesAreTold → IsStoreState s → length s.hobs < 2 ^ 28 → IsWalked s bases 56 0
walked_first s bases fuel e none law h few = record {
  fuel = fuel;
  left = omega (arith, e);
  there = first_placed s;
  told = law s fuel h (omega (arith, e, few)) ∙ ap (λ (x : List ℕ). x ++ volumes_told fuel (heap_image s) 56) (sym none);
}

-- at the end HOB
none_told : (heap : List ℕ) (offset fuel : ℕ) (end : Bool) → (short_in heap offset == END) ≡ end → None ≡ span_told heap offset → volumes_told fuel heap offset ≡ []
none_told heap offset zero end t e = refl
none_told heap offset (suc fuel) true t e = rw t refl
none_told heap offset (suc fuel) false t e =
    let span : HobSpan = record { kind = short_in heap offset; length = short_in heap (offset + 2); next = offset + short_in heap (offset + 2) } in
    let some : span_told heap offset ≡ Some span = ap (λ b. cond b None (Some span)) t in
    let bad : None ≡ Some span = e ∙ some in cc

pub walked_end : (s : StoreState) (bases : List ℕ) (offset passed : ℕ) (walked : IsWalked s bases offset passed) → HobsAreTold → IsStoreState s → None ≡ hob_at s offset → bases ≡ fv_bases s
walked_end s bases offset passed walked law h e =
    let none = none_told (heap_image s) offset walked.fuel (short_in (heap_image s) offset == END) refl (e ∙ law s offset h walked.there) in
    sym (walked.told ∙ ap (λ (x : List ℕ). bases ++ x) none ∙ append_nil bases)

pub walked_all : (s : StoreState) (bases : List ℕ) (offset passed : ℕ) (walked : IsWalked s bases offset passed) → 2 ^ 28 ≤ passed → bases ≡ fv_bases s
walked_all s bases offset passed walked le =
    let left = walked.left in
    let none : walked.fuel ≡ 0 = omega (arith, left, le) in
    sym (walked.told ∙ ap (λ n. bases ++ volumes_told n (heap_image s) offset) none ∙ append_nil bases)

by_kind : (base : ℕ) (rest : List ℕ) (is : Bool) → cond is (base ∷ rest) rest ≡ cond is (base ∷ []) [] ++ rest
by_kind base rest true = refl
by_kind base rest false = refl

-- at a HOB
hob_told : (heap : List ℕ) (offset fuel : ℕ) (span : HobSpan) (end : Bool) → (short_in heap offset == END) ≡ end → span_told heap offset ≡ Some span
    → volumes_told (suc fuel) heap offset ≡ base_told heap offset span.kind ++ volumes_told fuel heap span.next
hob_told heap offset fuel span true t e =
    let none : span_told heap offset ≡ None = ap (λ b. cond b None (Some (record { kind = short_in heap offset; length = short_in heap (offset + 2); next = offset + short_in heap (offset + 2) }))) t in
    let bad : None ≡ Some span = sym none ∙ e in cc
hob_told heap offset fuel span false t e =
    let next = offset + short_in heap (offset + 2) in
    let here : HobSpan = record { kind = short_in heap offset; length = short_in heap (offset + 2); next = next } in
    let some : span_told heap offset ≡ Some here = ap (λ b. cond b None (Some here)) t in
    let same : here ≡ span = cc in
    let rest = volumes_told fuel heap next in
    ap (λ b. cond b [] (cond (short_in heap offset == VOLUME) (word_in heap (offset + 8) ∷ rest) rest)) t
    ∙ by_kind (word_in heap (offset + 8)) rest (short_in heap offset == VOLUME)
    ∙ ap (λ (x : HobSpan). base_told heap offset x.kind ++ volumes_told fuel heap x.next) same

-- the fuel lasts
one_fuel : (n passed : ℕ) → n + passed ≡ 2 ^ 28 → passed < 2 ^ 28 → (less : ℕ) × (n ≡ suc less)
one_fuel zero passed e le = absurd (omega (arith, e, le))
one_fuel (suc less) passed e le = (less, refl)

pub walked_more : (s : StoreState) (bases more : List ℕ) (offset passed : ℕ) (span : HobSpan) (walked : IsWalked s bases offset passed) → HobsAreTold → IsStoreState s → passed < 2 ^ 28
    → hob_at s offset ≡ Some span → more ≡ bases ++ base_told (heap_image s) offset span.kind → IsWalked s more span.next (passed + 1)
walked_more s bases more offset passed span walked law h le e m =
    let heap = heap_image s in
    let fuel = one_fuel walked.fuel passed walked.left le in
    let less = fuel.0 in
    let left = walked.left in
    let suc_is = fuel.1 in
    let told = hob_told heap offset less span (short_in heap offset == END) refl (sym (law s offset h walked.there) ∙ e) in
    record {
      fuel = less;
      left = omega (arith, left, suc_is);
      there = (next_placed s offset span e).1;
      told = walked.told ∙ ap (λ n. bases ++ volumes_told n heap offset) suc_is ∙ ap (λ (x : List ℕ). bases ++ x) told
          ∙ sym (append_assoc bases (base_told heap offset span.kind) (volumes_told less heap span.next)) ∙ ap (λ (x : List ℕ). x ++ volumes_told less heap span.next) (sym m);
    }

-- the base of a volume
pub base_added : (result : Result (Unit {0}) OutOfMemory) (old new heap : List ℕ) (offset kind base : ℕ) → kind ≡ VOLUME → base ≡ word_in heap (offset + 8) → OnOk result (new ≡ old ++ base ∷ [])
    → OnOk result (new ≡ old ++ base_told heap offset kind)
base_added (Ok done) old new heap offset kind base k b e =
    let t : (kind == VOLUME) ≡ true = ap (λ n. n == VOLUME) k in
    e ∙ ap (λ n. old ++ n ∷ []) b ∙ ap (λ t. old ++ cond t (word_in heap (offset + 8) ∷ []) []) (sym t)
base_added (Err fault) old new heap offset kind base k b e = tt
