-- Volumes that differ come into the order one after the other, each one new to those before it.
use Rattle.std.proofs.Common.{◌≡◌, ℕ, ◌+◌, ◌<◌, ◌==◌, Bool, true, false, ◌||◌, List, [], ◌∷◌, ◌++◌, get_or, take, drop, length, refl, sym, ap, ◌∙◌, subst, append_assoc, take-append-drop}
use Rattle.std.proofs.lemmas.List.{take_more}
use Rattle.boot_model.specs.Licence.{AllDiffer}
use Rattle.mod_catalog.specs.Parts.{has_number}

absent_in_front : (xs ys : List ℕ) (n : ℕ) → has_number (xs ++ ys) n ≡ false → has_number xs n ≡ false
absent_in_front [] ys n h = refl
absent_in_front (x ∷ xs) ys n h = not_here (x == n) (has_number xs n) (has_number (xs ++ ys) n) (absent_in_front xs ys n) h
  where
    not_here : (here later all : Bool) → (all ≡ false → later ≡ false) → (here || all) ≡ false → (here || later) ≡ false
    not_here true later all f h = h
    not_here false later all f h = f h

front_differs : (xs ys : List ℕ) → AllDiffer (xs ++ ys) → AllDiffer xs
front_differs [] ys d = tt
front_differs (x ∷ xs) ys d = (absent_in_front xs ys x d.0, front_differs xs ys d.1)

-- the next of some volumes, behind those before it
pub next_differs : (reported volumes : List ℕ) (i : ℕ) → i < length volumes → AllDiffer (reported ++ volumes) → AllDiffer ((reported ++ take i volumes) ++ get_or volumes i 0 ∷ [])
next_differs reported volumes i below differ =
    let next = get_or volumes i 0 ∷ [] in
    let rest = drop (i + 1) volumes in
    let whole : volumes ≡ (take i volumes ++ next) ++ rest = sym (take-append-drop (i + 1) volumes) ∙ ap (λ front. front ++ rest) (take_more volumes i 0 below) in
    let all : reported ++ volumes ≡ ((reported ++ take i volumes) ++ next) ++ rest =
    ap (λ xs. reported ++ xs) whole ∙ sym (append_assoc reported (take i volumes ++ next) rest) ∙ ap (λ xs. xs ++ rest) (sym (append_assoc reported (take i volumes) next)) in
    front_differs ((reported ++ take i volumes) ++ next) rest (subst AllDiffer all differ)
