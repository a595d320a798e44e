-- The bytes of the HOB list, and of its copy.
use Rattle.std.proofs.Common.{◌≡◌, ℕ, ◌+◌, ◌-◌, List, [], ◌∷◌, ◌++◌, length, arith, ap, refl, sym, ◌∙◌, sum_by, append_assoc, length-append, replicate}
use Rattle.hob_codec.specs.declared.kind.TheConstants.{END}
use Rattle.store_model.specs.{declared.state.Body.Body, declared.state.HobEntry.HobEntry}
use Rattle.store_model.specs.declared.state.Body.TheVariants.{Bytes, Descriptor, Node, Allocation}
use Rattle.store_model.specs.StoreState.{Range, StoreState, hob_len, end_place}
use Rattle.store_model.specs.HeapImage.{header_bytes, body_bytes, hobs_bytes, hob_list}
use Rattle.store_laws.specs.{Growing.front_bytes, Spelling.spelled, Spelling.AreSpelled, Moving.half}
use Rattle.store_laws.proofs.{HeapBodies.is_spelled, Growing.spelled_len}
use Rattle.heap_store.specs.{Half.behind, Half.none_done, Copied.copied_image}

abbrev pub zeros : ℕ → List ℕ
zeros n = replicate n 0

-- the HOB list has its length
pub list_len : (s : StoreState) → AreSpelled (body_bytes s) s.hobs → length (hob_list s) ≡ end_place s + 8
list_len s spelt =
    let front : List ℕ = front_bytes s in
    let bodies : List ℕ = hobs_bytes s 56 s.hobs in
    let end : List ℕ = header_bytes END 8 in
    let size : length bodies ≡ sum_by hob_len s.hobs = ap length (is_spelled s 56 s.hobs) ∙ spelled_len (body_bytes s) 56 s.hobs spelt in
    let f : length front ≡ 56 = refl in
    let e : length end ≡ 8 = refl in
    length-append (front ++ bodies) end ∙ ap (λ n. n + length end) (length-append front bodies) ∙ omega (arith, size, f, e)

-- nothing is done
nothing : (s : StoreState) (to : Range) (place : ℕ) (body : Body) → half s to none_done place body ≡ body_bytes s place body
nothing s to place (Bytes bytes) = refl
nothing s to place (Descriptor d) = refl
nothing s to place Node = refl
nothing s to place (Allocation a) = refl

same_spelled : (f g : ℕ → Body → List ℕ) (at : ℕ) (hobs : List HobEntry) → ((place : ℕ) (body : Body) → g place body ≡ f place body) → spelled g at hobs ≡ spelled f at hobs
same_spelled f g at [] same = refl
same_spelled f g at (hob ∷ hobs) same =
    ap (λ x. header_bytes hob.kind (hob_len hob) ++ x ++ spelled g (at + hob_len hob) hobs) (same (at + 8) hob.body)
    ∙ ap (λ x. header_bytes hob.kind (hob_len hob) ++ f (at + 8) hob.body ++ x) (same_spelled f g (at + hob_len hob) hobs same)

copied_by : (front bodies end rest : List ℕ) → front ++ bodies ++ (end ++ rest) ≡ (front ++ bodies ++ end) ++ rest
copied_by front bodies end rest = sym (append_assoc (front ++ bodies) end rest)

pub copied_is : (s : StoreState) (to : Range) → copied_image s to ≡ hob_list s ++ zeros (to.len - (end_place s + 8))
unfolding copied_image behind
copied_is s to =
    ap (λ x. front_bytes s ++ x ++ (header_bytes END 8 ++ zeros (to.len - (end_place s + 8)))) (same_spelled (body_bytes s) (half s to none_done) 56 s.hobs (nothing s to) ∙ sym (is_spelled s 56 s.hobs))
    ∙ copied_by (front_bytes s) (hobs_bytes s 56 s.hobs) (header_bytes END 8) (zeros (to.len - (end_place s + 8)))
