-- A body that is moved: where it lies, and what a write leaves.
use Rattle.std.proofs.Common.{◌≡◌, ℕ, ◌+◌, ◌≤◌, ◌<◌, ◌^◌, Bool, true, false, cond, List, [], ◌∷◌, length, arith, ap, sym, subst, ◌∙◌, Option, Some, None, ◌==◌}
use Rattle.phys_mem.specs.{Region.replaced, declared.memory.PhysMem.PhysMem}
use Rattle.store_model.specs.{declared.state.Body.Body, declared.state.Body.TheVariants.Descriptor, declared.state.HobEntry.HobEntry}
use Rattle.store_laws.specs.{Spelling.AreSpelled, Mapped.HasHeap, Mapped.layout_of, Moving.Done}
use Rattle.store_model.specs.{declared.state.DescriptorBody.DescriptorBody, Migration.migrated_to}
use Rattle.store_model.specs.StoreState.{Range, StoreState, body_at, body_from, body_len, hob_len, descriptor_len, end_place}
use Rattle.store_laws.proofs.HeapBodies.{body_inside}
use Rattle.heap_store.specs.{declared.course.Course.Course, declared.words.Words.Words, Half.half_image, Half.IsHalf, Ready.IsReady}

-- where a body lies
pub inside : (s : StoreState) (to : Range) (course : Course) (p : ℕ) (body : Body) → IsReady s to course → body_at s p ≡ Some body → p + body_len body ≤ s.len
inside s to course p body h found = let le : p + body_len body ≤ end_place s = body_inside s.hobs 56 p body found in omega (arith, le, h.room)

pub in_new : (s : StoreState) (to : Range) (course : Course) (p at : ℕ) (body : Body) → IsReady s to course → body_at s p ≡ Some body → 24 ≤ body_len body → at ≡ to.base + p → (to.base ≤ at) × (at + 24 ≤ to.base + to.len)
in_new s to course p at body h found len is =
    let le = inside s to course p body h found in (omega (arith, is), omega (arith, is, le, len, h.way.fits))

long_on : (stands : Option ℕ) → 24 ≤ descriptor_len stands
long_on None = omega arith
long_on (Some at) = omega arith

pub descriptor_long : (d : DescriptorBody) → 24 ≤ body_len (Descriptor d)
descriptor_long d = long_on d.stands

-- what is written is the image with one more done
pub written_half : (s : StoreState) (to : Range) (more : Done) (heap text new : List ℕ) (k p : ℕ) (memory : PhysMem) → HasHeap (layout_of (migrated_to s to)) (replaced heap k text) memory → k ≡ p → text ≡ new → half_image s to more ≡ replaced heap p new → IsHalf s to more memory
written_half s to more heap text new k p memory has place is same =
    subst (λ (x : List ℕ). HasHeap (layout_of (migrated_to s to)) x memory) (ap (λ n. replaced heap n text) place ∙ ap (replaced heap p) is ∙ sym same) has

pub same_words : (a b c x y z : ℕ) → a ≡ x → b ≡ y → c ≡ z → (let w : Words = record { first = a; second = b; third = c } in w) ≡ record { first = x; second = y; third = z }
same_words a b c x y z f g h = ap (λ n. record { first = n; second = b; third = c }) f ∙ ap (λ n. record { first = x; second = n; third = c }) g ∙ ap (λ n. record { first = x; second = y; third = n }) h

abbrev pub AreLow : Words → Type 0
AreLow words = (words.first < 256 ^ 8) × (words.second < 256 ^ 8) × (words.third < 256 ^ 8)

pub old_low : (s : StoreState) (to : Range) (course : Course) → IsReady s to course → s.base + s.len ≤ 0x10000000000
old_low s to course h = let e = h.way.end in let low = h.way.low in omega (arith, e, low)

pub new_low : (s : StoreState) (to : Range) (course : Course) → IsReady s to course → to.base + s.len ≤ 0x10000000000
new_low s to course h = let fits = h.way.fits in let high = h.way.high in omega (arith, fits, high)

spelt_on : (spell : ℕ → Body → List ℕ) (b : Bool) (here : Body) (then : Option Body) (body : Body) (p : ℕ) → length (spell p here) ≡ body_len here → (then ≡ Some body → length (spell p body) ≡ body_len body) → cond b (Some here) then ≡ Some body → length (spell p body) ≡ body_len body
spelt_on spell true here then body p len f h = let same : here ≡ body = cc in subst (λ x. length (spell p x) ≡ body_len x) same len
spelt_on spell false here then body p len f h = f h

pub spelt_at : (spell : ℕ → Body → List ℕ) (hobs : List HobEntry) (at p : ℕ) (body : Body) → AreSpelled spell hobs → body_from at hobs p ≡ Some body → length (spell p body) ≡ body_len body
spelt_at spell [] at p body h found = cc
spelt_at spell (hob ∷ hobs) at p body h found = spelt_on spell (at + 8 == p) hob.body (body_from (at + hob_len hob) hobs p) body p (h.0 p) (λ later. spelt_at spell hobs (at + hob_len hob) p body h.1 later) found
