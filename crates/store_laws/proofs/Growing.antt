-- The image of a heap with a HOB more.
use Rattle.std.proofs.Common.{◌≡◌, ℕ, ◌+◌, ◌-◌, ◌≤◌, List, [], ◌∷◌, ◌++◌, length, drop, arith, ap, refl, sym, ◌∙◌, append_assoc, length-append, sum_by, replicate, drop-drop, drop_at}
use Rattle.std.proofs.{lemmas.List.drop-replicate, lemmas.List.Sums.sum_by-cons}
use Rattle.phys_mem.specs.Region.{replaced}
use Rattle.hob_codec.specs.declared.kind.TheConstants.{END}
use Rattle.store_model.specs.{declared.state.Body.Body, declared.state.HobEntry.HobEntry}
use Rattle.store_model.specs.declared.state.Body.TheVariants.{Bytes, Descriptor, Node, Allocation}
use Rattle.store_model.specs.StoreState.{StoreState, end_place, hob_len, body_len}
use Rattle.store_model.specs.HeapImage.{header_bytes, body_bytes, hobs_bytes, heap_image}
use Rattle.store_laws.specs.{Spelling.spelled, Spelling.AreSpelled, Growing.front_bytes, Growing.grown}
use Rattle.store_laws.proofs.{Pieces.replaced_here, Pieces.replaced_later, HeapBodies.is_spelled, HeapBodies.hobs_are_appended}

-- the HOB and an end HOB behind it
abbrev pub hob_and_end : StoreState → HobEntry → List ℕ
hob_and_end s hob = header_bytes hob.kind (hob_len hob) ++ body_bytes s (end_place s + 8) hob.body ++ header_bytes END 8

-- bodies are spelled as before
same_bytes : (s : StoreState) (hob : HobEntry) (taken place : ℕ) (body : Body) → body_bytes (grown s hob taken) place body ≡ body_bytes s place body
same_bytes s hob taken place (Bytes bytes) = refl
same_bytes s hob taken place (Descriptor d) = refl
same_bytes s hob taken place Node = refl
same_bytes s hob taken place (Allocation a) = refl

pub same_spelled : (f g : ℕ → Body → List ℕ) (at : ℕ) (hobs : List HobEntry) → ((place : ℕ) (body : Body) → g place body ≡ f place body) → spelled g at hobs ≡ spelled f at hobs
same_spelled f g at [] same = refl
same_spelled f g at (hob ∷ hobs) same =
    ap (λ x. header_bytes hob.kind (hob_len hob) ++ x ++ spelled g (at + hob_len hob) hobs) (same (at + 8) hob.body)
    ∙ ap (λ x. header_bytes hob.kind (hob_len hob) ++ f (at + 8) hob.body ++ x) (same_spelled f g (at + hob_len hob) hobs same)

pub spelled_len : (f : ℕ → Body → List ℕ) (at : ℕ) (hobs : List HobEntry) → AreSpelled f hobs → length (spelled f at hobs) ≡ sum_by hob_len hobs
spelled_len f at [] h = refl
spelled_len f at (hob ∷ hobs) h =
    let rest = spelled_len f (at + hob_len hob) hobs h.1 in
    let here = h.0 (at + 8) in
    let c : sum_by hob_len (hob ∷ hobs) ≡ hob_len hob + sum_by hob_len hobs = sum_by-cons hob_len hob hobs in
    let head = header_bytes hob.kind (hob_len hob) in
    let all : length (head ++ f (at + 8) hob.body ++ spelled f (at + hob_len hob) hobs) ≡ length (head ++ f (at + 8) hob.body) + length (spelled f (at + hob_len hob) hobs) = length-append (head ++ f (at + 8) hob.body) (spelled f (at + hob_len hob) hobs) in
    let front : length (head ++ f (at + 8) hob.body) ≡ 8 + length (f (at + 8) hob.body) = length-append head (f (at + 8) hob.body) in
    omega (arith, all, front, rest, here, c)

-- over the end HOB and zeros
over_end : (end text : List ℕ) (k : ℕ) → length end ≡ 8 → 8 ≤ length text → replaced (end ++ replicate k 0) 0 text ≡ text ++ replicate (k - (length text - 8)) 0
over_end end text k e le =
    let sum : 0 + length text ≡ length end + (length text - 8) = omega (arith, e, le) in
    ap (λ x. text ++ x) (ap (λ n. drop n (end ++ replicate k 0)) sum ∙ sym (drop-drop (length text - 8) (length end) (end ++ replicate k 0)) ∙ ap (drop (length text - 8)) (drop_at end (replicate k 0) (length end) refl) ∙ drop-replicate (length text - 8) k 0)

-- the whole heap by its four parts
grown_parts : (old front bodies header body end : List ℕ) (len k : ℕ) → length old ≡ 56 → length front ≡ 56 → length end ≡ 8
    → k ≡ len - length (old ++ bodies ++ end)
    → front ++ (bodies ++ header ++ body) ++ end ++ replicate (len - length (front ++ (bodies ++ header ++ body) ++ end)) 0
    ≡ replaced (replaced (old ++ bodies ++ end ++ replicate k 0) 0 front) (56 + length bodies) (header ++ body ++ end)
grown_parts old front bodies header body end len k o f e is =
    let text = header ++ body ++ end in
    let zeros = replicate k 0 in
    let size : length text ≡ length header + length body + 8 = length-append (header ++ body) end ∙ ap (λ n. n + length end) (length-append header body) ∙ ap (λ n. length header + length body + n) e in
    let before : length (old ++ bodies ++ end) ≡ 64 + length bodies = length-append (old ++ bodies) end ∙ ap (λ n. n + length end) (length-append old bodies) ∙ omega (arith, o, e) in
    let mid : length (bodies ++ header ++ body) ≡ length bodies + length header + length body = length-append (bodies ++ header) body ∙ ap (λ n. n + length body) (length-append bodies header) in
    let after : length (front ++ (bodies ++ header ++ body) ++ end) ≡ 64 + length bodies + length header + length body =
    length-append (front ++ (bodies ++ header ++ body)) end ∙ ap (λ n. n + length end) (length-append front (bodies ++ header ++ body)) ∙ omega (arith, f, e, mid) in
    let left : len - length (front ++ (bodies ++ header ++ body) ++ end) ≡ k - (length text - 8) = omega (arith, is, before, after, size) in
    let first : replaced (old ++ bodies ++ end ++ zeros) 0 front ≡ front ++ bodies ++ (end ++ zeros) =
    ap (λ x. replaced x 0 front) (append_assoc (old ++ bodies) end zeros ∙ append_assoc old bodies (end ++ zeros)) ∙ replaced_here [] old (bodies ++ (end ++ zeros)) front 0 refl (f ∙ sym o) ∙ sym (append_assoc front bodies (end ++ zeros)) in
    let place : 56 + length bodies ≡ length (front ++ bodies) + 0 = omega (arith, length-append front bodies, f) in
    let second : replaced (front ++ bodies ++ (end ++ zeros)) (56 + length bodies) text ≡ front ++ bodies ++ (text ++ replicate (k - (length text - 8)) 0) =
    replaced_later (front ++ bodies) (end ++ zeros) text (56 + length bodies) 0 place ∙ ap (λ x. front ++ bodies ++ x) (over_end end text k e (omega (arith, size))) in
    let tail = replicate (k - (length text - 8)) 0 in
    let shape : front ++ (bodies ++ header ++ body) ++ end ++ tail ≡ front ++ bodies ++ (text ++ tail) = simp append_assoc refl in
    ap (λ n. front ++ (bodies ++ header ++ body) ++ end ++ replicate n 0) left ∙ shape ∙ sym (ap (λ x. replaced x (56 + length bodies) text) first ∙ second)

pub heaps_grow : (s : StoreState) (hob : HobEntry) (taken : ℕ) → AreSpelled (body_bytes s) s.hobs → length (body_bytes s (end_place s + 8) hob.body) ≡ body_len hob.body
    → end_place s + hob_len hob + 8 ≤ s.len
    → heap_image (grown s hob taken) ≡ replaced (replaced (heap_image s) 0 (front_bytes (grown s hob taken))) (end_place s) (hob_and_end s hob)
heaps_grow s hob taken h len room =
    let t = grown s hob taken in
    let bodies = spelled (body_bytes s) 56 s.hobs in
    let body = body_bytes s (end_place s + 8) hob.body in
    let header = header_bytes hob.kind (hob_len hob) in
    let end = header_bytes END 8 in
    let before : hobs_bytes s 56 s.hobs ≡ bodies = is_spelled s 56 s.hobs in
    let after : hobs_bytes t 56 (s.hobs ++ hob ∷ []) ≡ bodies ++ header ++ body =
    is_spelled t 56 (s.hobs ++ hob ∷ []) ∙ same_spelled (body_bytes s) (body_bytes t) 56 (s.hobs ++ hob ∷ []) (same_bytes s hob taken) ∙ hobs_are_appended (body_bytes s) s.hobs hob 56 (end_place s) refl in
    let place : 56 + length bodies ≡ end_place s = ap (λ n. 56 + n) (spelled_len (body_bytes s) 56 s.hobs h) in
    let parts = grown_parts (front_bytes s) (front_bytes t) bodies header body end s.len (s.len - length (front_bytes s ++ bodies ++ end)) refl refl refl refl in
    ap (λ x. front_bytes t ++ x ++ end ++ replicate (s.len - length (front_bytes t ++ x ++ end)) 0) after ∙ parts
    ∙ ap (λ n. replaced (replaced (front_bytes s ++ bodies ++ end ++ replicate (s.len - length (front_bytes s ++ bodies ++ end)) 0) 0 (front_bytes t)) n (header ++ body ++ end)) place
    ∙ ap (λ x. replaced (replaced (front_bytes s ++ x ++ end ++ replicate (s.len - length (front_bytes s ++ x ++ end)) 0) 0 (front_bytes t)) (end_place s) (header ++ body ++ end)) (sym before)
