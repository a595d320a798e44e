-- The places of a list, one more.
use Rattle.std.proofs.Common.{List, [], ◌∷◌, ◌++◌}
use Rattle.pi_base.specs.Lists.{Each}
use Rattle.hob_codec.specs.declared.list.HobPlace.{HobPlace}

pub each_more : (P : HobPlace → Type 0) (xs : List HobPlace) (x : HobPlace) → Each P xs → P x → Each P (xs ++ x ∷ [])
each_more P [] x e p = (p, tt)
each_more P (y ∷ xs) x e p = (e.0, each_more P xs x e.1 p)
