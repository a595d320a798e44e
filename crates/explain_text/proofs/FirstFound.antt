-- What holds of each item holds of the one that is found.
use Rattle.std.proofs.Common.{◌≡◌, suc, Bool, true, false, cond, List, [], ◌∷◌, find, All, Some, subst, arith}

pub found_holds : {A : Type 0} (P : A → Type 0) (test : A → Bool) (xs : List A) (x : A) → All P xs → find test xs ≡ Some x → P x
found_holds P test [] x all e = absurd cc
found_holds P test (y ∷ ys) x all e = by (test y) (all 0 y (omega arith)) (found_holds P test ys x (λ k d within. all (suc k) d (omega arith))) e
  where
    by : (b : Bool) → P y → (find test ys ≡ Some x → P x) → cond b (Some y) (find test ys) ≡ Some x → P x
    by true here later e =
        let same : y ≡ x = cc in
        subst P same here
    by false here later e = later e
