-- Texts written one behind another, and zeros that are there already.
use Rattle.std.proofs.Common.{◌≡◌, ℕ, ◌+◌, ◌-◌, ◌≤◌, List, ◌++◌, length, take, drop, arith, ap, refl, sym, ◌∙◌, append_assoc, length-append, length-take, length-drop, replicate, take-append-drop, drop-drop}
use Rattle.std.proofs.lemmas.List.{length-replicate}
use Rattle.phys_mem.specs.Region.{replaced}
use Rattle.store_laws.specs.Padding.{WritesAreJoined}
use Rattle.store_laws.proofs.{Pieces.replaced_here, Parts.by_place, Parts.take_len, Front.append_nil}

piece_len : (xs : List ℕ) (p n : ℕ) → p + n ≤ length xs → length (take n (drop p xs)) ≡ n
piece_len xs p n le = grind (arith, length-take, length-drop, le)

-- over plain parts
skip_parts : (f m z g r a b : List ℕ) (p : ℕ) → length f ≡ p → length m ≡ length a → length g ≡ length b
    → replaced (replaced (f ++ m ++ (z ++ g ++ r)) p a) (p + length a + length z) b ≡ replaced (f ++ (m ++ z ++ g) ++ r) p (a ++ z ++ b)
skip_parts f m z g r a b p fl ml gl =
    let first : replaced (f ++ m ++ (z ++ g ++ r)) p a ≡ f ++ a ++ (z ++ g ++ r) = replaced_here f m (z ++ g ++ r) a p fl (sym ml) in
    let shape : f ++ a ++ (z ++ g ++ r) ≡ (f ++ a ++ z) ++ g ++ r = simp append_assoc refl in
    let front : length (f ++ a ++ z) ≡ p + length a + length z = length-append (f ++ a) z ∙ ap (λ n. n + length z) (length-append f a) ∙ ap (λ n. n + length a + length z) fl in
    let second : replaced ((f ++ a ++ z) ++ g ++ r) (p + length a + length z) b ≡ (f ++ a ++ z) ++ b ++ r = replaced_here (f ++ a ++ z) g r b (p + length a + length z) front (sym gl) in
    let old : length (m ++ z ++ g) ≡ length m + length z + length g = length-append (m ++ z) g ∙ ap (λ n. n + length g) (length-append m z) in
    let new : length (a ++ z ++ b) ≡ length a + length z + length b = length-append (a ++ z) b ∙ ap (λ n. n + length b) (length-append a z) in
    let whole : replaced (f ++ (m ++ z ++ g) ++ r) p (a ++ z ++ b) ≡ f ++ (a ++ z ++ b) ++ r = replaced_here f (m ++ z ++ g) r (a ++ z ++ b) p fl (omega (arith, old, new, ml, gl)) in
    let same : (f ++ a ++ z) ++ b ++ r ≡ f ++ (a ++ z ++ b) ++ r = simp append_assoc refl in
    ap (λ x. replaced x (p + length a + length z) b) (first ∙ shape) ∙ second ∙ same ∙ sym whole

skipped : (xs a z b : List ℕ) (p : ℕ) → take (length z) (drop (p + length a) xs) ≡ z → p + length a + length z + length b ≤ length xs
    → replaced (replaced xs p a) (p + length a + length z) b ≡ replaced xs p (a ++ z ++ b)
skipped xs a z b p there le =
    let f = take p xs in
    let m = take (length a) (drop p xs) in
    let behind = drop (p + length a) xs in
    let g = take (length b) (drop (length z) behind) in
    let r = drop (length z + length b) behind in
    let split : behind ≡ take (length z) behind ++ (g ++ r) = sym (take-append-drop (length z) behind) ∙ ap (λ x. take (length z) behind ++ x) (sym (take-append-drop (length b) (drop (length z) behind)) ∙ ap (λ x. g ++ x) (drop-drop (length b) (length z) behind)) in
    let rest : behind ≡ z ++ g ++ r = split ∙ ap (λ x. x ++ (g ++ r)) there ∙ sym (append_assoc z g r) in
    let whole : xs ≡ f ++ m ++ (z ++ g ++ r) = by_place xs p (length a) ∙ ap (λ x. f ++ m ++ x) rest in
    let shape : f ++ m ++ (z ++ g ++ r) ≡ f ++ (m ++ z ++ g) ++ r = simp append_assoc refl in
    let fl : length f ≡ p = take_len xs p (omega (arith, le)) in
    let ml : length m ≡ length a = piece_len xs p (length a) (omega (arith, le)) in
    let size : length behind ≡ length xs - (p + length a) = length-drop (p + length a) xs in
    let gl : length g ≡ length b = piece_len behind (length z) (length b) (omega (arith, le, size)) in
    ap (λ x. replaced (replaced x p a) (p + length a + length z) b) whole ∙ skip_parts f m z g r a b p fl ml gl ∙ ap (λ x. replaced x p (a ++ z ++ b)) (sym shape ∙ sym whole)

pub zeros_are_skipped : (heap a b : List ℕ) (place k : ℕ) → take k (drop (place + length a) heap) ≡ replicate k 0 → place + length a + k + length b ≤ length heap
    → replaced (replaced heap place a) (place + length a + k) b ≡ replaced heap place (a ++ replicate k 0 ++ b)
zeros_are_skipped heap a b place k there le =
    let zeros : List ℕ = replicate k 0 in
    let size : length zeros ≡ k = length-replicate k 0 in
    let here : take (length zeros) (drop (place + length a) heap) ≡ zeros = ap (λ n. take n (drop (place + length a) heap)) size ∙ there in
    ap (λ n. replaced (replaced heap place a) (place + length a + n) b) (sym size) ∙ skipped heap a zeros b place here (omega (arith, size, le))

pub writes_are_joined : WritesAreJoined
writes_are_joined heap a b place le =
    let none : place + length a + 0 ≡ place + length a = omega arith in
    ap (λ n. replaced (replaced heap place a) n b) (sym none) ∙ zeros_are_skipped heap a b place 0 refl (omega (arith, le)) ∙ ap (λ x. replaced heap place (x ++ b)) (append_nil a)
