-- Fronts of texts, and their lines.
use Rattle.std.proofs.Common.{◌≡◌, ◌≢◌, ◌≤◌, ◌<◌, ℕ, ◌+◌, Bool, true, false, ◌&&◌, not, List, [], ◌∷◌, ◌++◌, length, refl, sym, ap, ◌∙◌, append_assoc, arith, Some, slice_get, length-append}
use Rattle.boot_io.specs.Faults.{IsPrefix}
use Rattle.recorded_boot.specs.{Fronts.EndsLine, Lines.Lacks, Lines.is_feed}

pub prefix_then : (a b c : List ℕ) → IsPrefix a b → IsPrefix b c → IsPrefix a c
prefix_then a b c p q = (p.0 ++ q.0, q.1 ∙ ap (λ x. x ++ q.0) p.1 ∙ append_assoc a p.0 q.0)

pub front_is : (a b : List ℕ) → IsPrefix a (a ++ b)
front_is a b = (b, refl)

-- of two fronts of a text the shorter is a front of the longer
pub shorter_front : (a b text : List ℕ) → IsPrefix a text → IsPrefix b text → length a ≤ length b → IsPrefix a b
shorter_front [] b text p q h = (b, refl)
shorter_front (x ∷ xs) [] text p q h = absurd (omega (arith, h))
shorter_front (x ∷ xs) (y ∷ ys) [] p q h = absurd (cc)
shorter_front (x ∷ xs) (y ∷ ys) (z ∷ zs) p q h =
    let here : x ≡ z = cc in
    let there : y ≡ z = cc in
    let tail : zs ≡ xs ++ p.0 = cc in
    let others : zs ≡ ys ++ q.0 = cc in
    let rest = shorter_front xs ys zs (p.0, tail) (q.0, others) (omega (arith, h)) in
    let same : y ≡ x = there ∙ sym here in
    (rest.0, ap (λ z. z ∷ ys) same ∙ ap (λ zs. x ∷ zs) rest.1)

-- what follows a front
pub same_behind : (front a b : List ℕ) → front ++ a ≡ front ++ b → a ≡ b
same_behind [] a b e = e
same_behind (x ∷ xs) a b e = let rest : xs ++ a ≡ xs ++ b = cc in same_behind xs a b rest

not_feed : (byte : ℕ) (rest : List ℕ) → Lacks (byte ∷ rest) → byte ≢ 10
not_feed byte rest lacks is = let e : (not (is_feed 10) && true) ≡ false = refl in absurd (cc)

-- a front that ends with a line feed, and is more than nothing, has the first line
pub has_line : (line front text : List ℕ) → Lacks line → IsPrefix front text → IsPrefix (line ++ 10 ∷ []) text → EndsLine front → IsPrefix (line ++ 10 ∷ []) front
has_line line front text lacks p q e = by line e.0 front text e.1 lacks p q
  where
    second : (a b : Bool) → (a && b) ≡ true → b ≡ true
    second true b e = e
    second false b e = absurd (cc)

    later : (x : ℕ) (xs : List ℕ) → Lacks (x ∷ xs) → Lacks xs
    later x xs lacks = second (not (is_feed x)) _ lacks

    by : (line before front text : List ℕ) → front ≡ before ++ 10 ∷ [] → Lacks line → IsPrefix front text → IsPrefix (line ++ 10 ∷ []) text → IsPrefix (line ++ 10 ∷ []) front
    by [] [] front text is lacks p q = ([], is)
    by [] (b ∷ bs) front text is lacks p q =
        let begins : text ≡ b ∷ ((bs ++ 10 ∷ []) ++ p.0) = p.1 ∙ ap (λ x. x ++ p.0) is in
        let first : b ≡ 10 = cc in
        (bs ++ 10 ∷ [], is ∙ ap (λ x. x ∷ (bs ++ 10 ∷ [])) first)
    by (x ∷ xs) [] front text is lacks p q =
        let begins : text ≡ 10 ∷ p.0 = p.1 ∙ ap (λ x. x ++ p.0) is in
        let first : x ≡ 10 = cc in
        absurd (not_feed x xs lacks first)
    by (x ∷ xs) (b ∷ bs) front text is lacks p q =
        let begins : text ≡ b ∷ ((bs ++ 10 ∷ []) ++ p.0) = p.1 ∙ ap (λ x. x ++ p.0) is in
        let first : b ≡ x = cc in
        let behind : (bs ++ 10 ∷ []) ++ p.0 ≡ (xs ++ 10 ∷ []) ++ q.0 = cc in
        let rest = by xs bs (bs ++ 10 ∷ []) ((bs ++ 10 ∷ []) ++ p.0) refl (later x xs lacks) (p.0, refl) (q.0, behind) in
        (rest.0, is ∙ ap (λ (y : ℕ). y ∷ (bs ++ 10 ∷ [])) first ∙ ap (λ ys. x ∷ ys) rest.1)

-- the byte behind a front
pub byte_behind : (front rest : List ℕ) (byte : ℕ) → slice_get ((front ++ byte ∷ []) ++ rest) (length front) ≡ Some byte
byte_behind [] rest byte = refl
byte_behind (x ∷ xs) rest byte = byte_behind xs rest byte

-- what follows a front ends as the whole does, where it is more than nothing
pub ends_behind : (front rest before : List ℕ) → front ++ rest ≡ before ++ 10 ∷ [] → 1 ≤ length rest → EndsLine rest
ends_behind [] rest before e some = (before, e)
ends_behind (x ∷ xs) [] [] e some = absurd (omega (arith, some))
ends_behind (x ∷ xs) (r ∷ rs) [] e some =
    let none : xs ++ (r ∷ rs) ≡ [] = cc in
    let long : length (xs ++ (r ∷ rs)) ≡ length xs + length (r ∷ rs) = length-append xs (r ∷ rs) in
    let zero : length (xs ++ (r ∷ rs)) ≡ 0 = ap length none in
    absurd (omega (arith, long, zero))
ends_behind (x ∷ xs) rest (b ∷ bs) e some = let tail : xs ++ rest ≡ bs ++ 10 ∷ [] = cc in ends_behind xs rest bs tail some

-- a longer front that ends with a line feed has the line behind a shorter one
pub has_line_behind : (printed line front text : List ℕ) → Lacks line → IsPrefix printed front → IsPrefix front text → IsPrefix (printed ++ (line ++ 10 ∷ [])) text → EndsLine front → length printed < length front → IsPrefix (printed ++ (line ++ 10 ∷ [])) front
has_line_behind printed line front text lacks p q l e longer =
    let rest = p.0 in
    let long : length front ≡ length printed + length rest = ap length p.1 ∙ length-append printed rest in
    let ends = ends_behind printed rest e.0 (sym p.1 ∙ e.1) (omega (arith, long, longer)) in
    let behind : rest ++ q.0 ≡ (line ++ 10 ∷ []) ++ l.0 =
    same_behind printed (rest ++ q.0) ((line ++ 10 ∷ []) ++ l.0) (sym (append_assoc printed rest q.0) ∙ ap (λ x. x ++ q.0) (sym p.1) ∙ sym q.1 ∙ l.1 ∙ append_assoc printed (line ++ 10 ∷ []) l.0) in
    let in_rest = has_line line rest (rest ++ q.0) lacks (q.0, refl) (l.0, behind) ends in
    (in_rest.0, p.1 ∙ ap (λ x. printed ++ x) in_rest.1 ∙ sym (append_assoc printed (line ++ 10 ∷ []) in_rest.0))
