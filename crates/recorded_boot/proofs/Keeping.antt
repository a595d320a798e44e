-- The maps of the volumes, into one of which a name is put.
use Rattle.std.proofs.Common.{◌≡◌, ℕ, zero, suc, ◌==◌, ◌&&◌, if◌then◌else◌, List, [], ◌∷◌, Some, None, refl, sym, ap, subst, ◌∙◌, slice_get, slice_set, false, arith, option_and_then}
use Rattle.std.proofs.lemmas.Bool.Decides.{nat_tests}
use Rattle.pi_base.specs.{declared.guid.Guid.Guid, Guids.same_guid, GuidMap.value_of, GuidMap.IsPut}
use Rattle.recorded_boot.specs.Named.{number_in}

-- what a volume's map has not is not kept
pub none_there : (maps : List (List (Guid × ℕ))) (volume : ℕ) (name : Guid) (map : List (Guid × ℕ)) → slice_get maps volume ≡ Some map → value_of map name ≡ None → number_in maps volume name ≡ None
none_there maps volume name map there none = ap (λ found. option_and_then (λ m. value_of m name) found) there ∙ none

test_behind : (n : ℕ) → (suc n == zero) ≡ false
test_behind n = grind (arith, nat_tests)

test_front : (n : ℕ) → (zero == suc n) ≡ false
test_front n = grind (arith, nat_tests)

test_on : (n m : ℕ) → (suc n == suc m) ≡ (n == m)
test_on n m = grind (arith, nat_tests)

-- what is put into a volume's map is kept, and all else as before
pub put_there : (maps : List (List (Guid × ℕ))) (volume : ℕ) (name : Guid) (number : ℕ) (map new : List (Guid × ℕ)) → slice_get maps volume ≡ Some map → IsPut map name number new
    → (other : ℕ) (guid : Guid) → number_in (slice_set maps volume new) other guid ≡ (if (other == volume) && same_guid name guid then Some number else number_in maps other guid)
put_there [] volume name number map new there put other guid = cc
put_there (m ∷ maps) zero name number map new there put zero guid = let same : m ≡ map = cc in subst (λ old. value_of new guid ≡ (if same_guid name guid then Some number else value_of old guid)) (sym same) (put guid)
put_there (m ∷ maps) zero name number map new there put (suc other) guid = rw (test_behind other) refl
put_there (m ∷ maps) (suc volume) name number map new there put zero guid = rw (test_front volume) refl
put_there (m ∷ maps) (suc volume) name number map new there put (suc other) guid = rw (test_on other volume) (put_there maps volume name number map new there put other guid)
