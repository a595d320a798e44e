-- A text written inside a part of a list.
use Rattle.std.proofs.Common.{◌≡◌, ℕ, ◌+◌, ◌≤◌, List, ◌++◌, length, take, drop, arith, ap, sym, ◌∙◌, append_assoc, length-append, length-take, length-drop, take-append-drop, drop-drop}
use Rattle.phys_mem.specs.Region.{replaced}
use Rattle.store_laws.proofs.{Pieces.replaced_here, Mapped.replaced_middle}

pub replaced_len : (xs text : List ℕ) (k : ℕ) → k + length text ≤ length xs → length (replaced xs k text) ≡ length xs
replaced_len xs text k le = grind (arith, length-append, length-take, length-drop, le)

-- a list by what stands before a place, so many from there, and the rest
pub by_place : (xs : List ℕ) (p n : ℕ) → xs ≡ take p xs ++ take n (drop p xs) ++ drop (p + n) xs
by_place xs p n =
    sym (take-append-drop p xs) ∙ ap (λ x. take p xs ++ x) (sym (take-append-drop n (drop p xs)) ∙ ap (λ x. take n (drop p xs) ++ x) (drop-drop n p xs))
    ∙ sym (append_assoc (take p xs) (take n (drop p xs)) (drop (p + n) xs))

pub take_len : (xs : List ℕ) (p : ℕ) → p ≤ length xs → length (take p xs) ≡ p
take_len xs p le = grind (arith, length-take, le)

on_parts : (front old rest new : List ℕ) (p at : ℕ) → length front ≡ p → at + length new ≤ length old → replaced (front ++ old ++ rest) p (replaced old at new) ≡ replaced (front ++ old ++ rest) (p + at) new
on_parts front old rest new p at f le =
    replaced_here front old rest (replaced old at new) p f (replaced_len old new at le)
    ∙ sym (ap (λ n. replaced (front ++ old ++ rest) (n + at) new) (sym f) ∙ replaced_middle front old rest new at le)

-- the part that stands at a place, with a text in it, is the text at its own place
pub part_replaced : (xs old new : List ℕ) (p at : ℕ) → take (length old) (drop p xs) ≡ old → p + length old ≤ length xs → at + length new ≤ length old
    → replaced xs p (replaced old at new) ≡ replaced xs (p + at) new
part_replaced xs old new p at there inside le =
    let rest = drop (p + length old) xs in
    let whole : xs ≡ take p xs ++ old ++ rest = by_place xs p (length old) ∙ ap (λ x. take p xs ++ x ++ rest) there in
    ap (λ x. replaced x p (replaced old at new)) whole ∙ on_parts (take p xs) old rest new p at (take_len xs p (omega (arith, inside))) le ∙ sym (ap (λ x. replaced x (p + at) new) whole)
