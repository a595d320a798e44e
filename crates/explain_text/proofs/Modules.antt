-- The lines of modules, with one module more.
use Rattle.std.proofs.Common.{◌≡◌, ℕ, suc, ◌+◌, ◌-◌, List, [], ◌∷◌, ◌++◌, length, take, get_or, ◌<◌, Option, sym, ap, subst, ◌∙◌, append_assoc, arith, length-append, append-nil, length-take-le}
use Rattle.std.proofs.{lemmas.List.take_more, Math.Seq.take-append_seam}
use Rattle.pi_base.specs.Lists.{EachPair}
use Rattle.mod_catalog.specs.declared.catalogue.Module.{Module}
use Rattle.explain_text.specs.Lines.{catalog_lines, module_lines}

pub pair_more : {A B : Type 0} (R : A → B → Type 0) (xs : List A) (ys : List B) (x : A) (y : B) → EachPair R xs ys → R x y → EachPair R (xs ++ x ∷ []) (ys ++ y ∷ [])
pair_more R [] [] x y pairs r = (r, tt)
pair_more R [] (b ∷ ys) x y pairs r = absurd pairs
pair_more R (a ∷ xs) [] x y pairs r = absurd pairs
pair_more R (a ∷ xs) (b ∷ ys) x y pairs r = (pairs.0, pair_more R xs ys x y pairs.1 r)

pub lines_more : (R : Module → Option (List ℕ) → Type 0) (number : ℕ) (ms : List Module) (titles : List (Option (List ℕ))) (m : Module) (title : Option (List ℕ)) → EachPair R ms titles
    → catalog_lines number (ms ++ m ∷ []) (titles ++ title ∷ []) ≡ catalog_lines number ms titles ++ module_lines (number + length ms) m title
lines_more R number [] [] m title pairs = append-nil (module_lines number m title) ∙ ap (λ n. module_lines n m title) (omega arith)
lines_more R number [] (t ∷ titles) m title pairs = absurd pairs
lines_more R number (x ∷ ms) [] m title pairs = absurd pairs
lines_more R number (x ∷ ms) (t ∷ titles) m title pairs =
    let later : number + 1 + length ms ≡ number + suc (length ms) = omega arith in
    ap (λ rest. module_lines number x t ++ rest) (lines_more R (number + 1) ms titles m title pairs.1)
    ∙ sym (append_assoc (module_lines number x t) (catalog_lines (number + 1) ms titles) (module_lines (number + 1 + length ms) m title))
    ∙ ap (λ n. (module_lines number x t ++ catalog_lines (number + 1) ms titles) ++ module_lines n m title) later

-- the lines of the modules before a place were added
abbrev pub SoFar : (Module → Option (List ℕ) → Type 0) → List ℕ → List Module → ℕ → List ℕ → Type 0
SoFar R out ms i new = (titles : List (Option (List ℕ))) × EachPair R (take i ms) titles × (new ≡ out ++ catalog_lines 0 (take i ms) titles)

pub next_module : (R : Module → Option (List ℕ) → Type 0) (out old new : List ℕ) (ms : List Module) (i number : ℕ) (d m : Module) → i < length ms → m ≡ get_or ms i d → number ≡ i → SoFar R out ms i old
    → (title : Option (List ℕ)) → R m title → new ≡ old ++ module_lines number m title → SoFar R out ms (i + 1) new
next_module R out old new ms i number d m within item is before title named added =
    let grown : take (i + 1) ms ≡ take i ms ++ m ∷ [] = take_more ms i d within ∙ ap (λ (x : Module). take i ms ++ x ∷ []) (sym item) in
    let here : number ≡ 0 + length (take i ms) = omega (arith, is, length-take-le i ms (omega (arith, within))) in
    let P : List Module → Type 0 = λ list. EachPair R list (before.0 ++ title ∷ []) in
    let pairs = subst P (sym grown) (pair_more R (take i ms) before.0 m title before.1 named) in
    let text : new ≡ out ++ catalog_lines 0 (take (i + 1) ms) (before.0 ++ title ∷ []) =
    added ∙ ap (λ t. t ++ module_lines number m title) before.2 ∙ append_assoc out (catalog_lines 0 (take i ms) before.0) (module_lines number m title)
    ∙ ap (λ t. out ++ t) (ap (λ n. catalog_lines 0 (take i ms) before.0 ++ module_lines n m title) here
    ∙ sym (lines_more R 0 (take i ms) before.0 m title before.1) ∙ ap (λ (list : List Module). catalog_lines 0 list (before.0 ++ title ∷ [])) (sym grown)) in
    (before.0 ++ title ∷ [], pairs, text)

-- a text without its last byte
pub without_last : (text : List ℕ) (last : ℕ) → take (length (text ++ last ∷ []) - 1) (text ++ last ∷ []) ≡ text
without_last text last =
    let len : length (text ++ last ∷ []) - 1 ≡ length text = omega (arith, length-append text (last ∷ [])) in
    ap (λ n. take n (text ++ last ∷ [])) len ∙ take-append_seam text (last ∷ [])

-- what is added in three parts
pub three_added : (old first second new x y z : List ℕ) → first ≡ old ++ x → second ≡ first ++ y → new ≡ second ++ z → new ≡ old ++ (x ++ (y ++ z))
three_added old first second new x y z e f g =
    g ∙ ap (λ t. t ++ z) (f ∙ ap (λ t. t ++ y) e) ∙ ap (λ t. t ++ z) (append_assoc old x y) ∙ append_assoc old (x ++ y) z ∙ ap (λ t. old ++ t) (append_assoc x y z)
