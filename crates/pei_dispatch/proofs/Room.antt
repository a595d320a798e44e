-- One volume more in the PEI order, and that there is room for it: volumes that differ have no more parts than there are modules.
use Rattle.std.proofs.Common.{◌≡◌, ℕ, ◌≤◌, List, [], ◌∷◌, ◌++◌, length, sym, ap, ◌∙◌, arith, length-append, append_assoc, append-nil, flat_map}
use Rattle.mod_catalog.specs.declared.catalogue.Catalog.{Catalog}
use Rattle.boot_laws.specs.PeiOrder.{OrderIsOfModules}
use Rattle.boot_model.specs.{Licence.AllDiffer, PeiChoice.volume_order, PeiChoice.pei_order}

pub order_more : (f : ℕ → List ℕ) (xs : List ℕ) (x : ℕ) → flat_map f (xs ++ x ∷ []) ≡ flat_map f xs ++ f x
order_more f [] x = append-nil (f x)
order_more f (y ∷ xs) x = ap (λ ys. f y ++ ys) (order_more f xs x) ∙ sym (append_assoc (f y) (flat_map f xs) (f x))

-- a volume more, behind those of an order: its ranked parts, and then the others
pub room_for : OrderIsOfModules → (catalog : Catalog) (reported parts ranked others : List ℕ) (volume most : ℕ) → length catalog.modules ≤ most → volume_order catalog volume ≡ ranked ++ others
    → parts ≡ pei_order catalog reported → AllDiffer (reported ++ volume ∷ []) → length ((parts ++ ranked) ++ others) ≤ most
room_for few_parts catalog reported parts ranked others volume most few is are differ =
    let fits = (few_parts catalog (reported ++ volume ∷ []) differ).few in
    let all : (parts ++ ranked) ++ others ≡ pei_order catalog (reported ++ volume ∷ []) =
    append_assoc parts ranked others ∙ ap (λ xs. parts ++ xs) (sym is) ∙ ap (λ xs. xs ++ volume_order catalog volume) are ∙ sym (order_more (volume_order catalog) reported volume) in
    let same = ap length all in
    omega (arith)

-- what is in front of others takes no more room than all
pub front_fits : (xs ys : List ℕ) (most : ℕ) → length (xs ++ ys) ≤ most → length xs ≤ most
front_fits xs ys most fits =
    let sum = length-append xs ys in
    omega (arith)
