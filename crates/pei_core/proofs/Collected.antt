-- A descriptor more is found, none is there, or all are found.
use Rattle.std.proofs.Common.{◌≡◌, List, [], ◌∷◌, ◌++◌, refl, ap, sym, append_assoc, Option, Some, None, option_map}
use Rattle.store_model.specs.declared.store_handle.Desc.{Desc}
use Rattle.boot_model.specs.Registers.{both}

pub one_more : (found : List Desc) (d : Desc) (more : Option (List Desc)) → option_map (λ rest. found ++ rest) (option_map (λ pair. pair.0 ∷ pair.1) (both (Some d) more)) ≡ option_map (λ rest. (found ++ d ∷ []) ++ rest) more
one_more found d None = refl
one_more found d (Some rest) = ap Some (sym (append_assoc found (d ∷ []) rest))
