-- Lists that rise by a key: where a search cuts them, and what stands there.
use Rattle.std.proofs.Common.{◌≡◌, ℕ, zero, suc, ◌<◌, ◌≤◌, ◌==◌, Bool, true, false, cond, List, [], ◌∷◌, length, get_or, refl, sym, ap, ◌∙◌, arith, nat_lt, insert, remove}
use Rattle.std.specs.List.Sorted.{IsPartitionPoint, IsNonDecreasingBy}
use Rattle.std.proofs.lemmas.Bool.Decides.{nat_tests}
use Rattle.pi_base.specs.Lists.{Each, Ordered}
use Rattle.pi_base.proofs.ListFacts.{each_more}
use Rattle.guid_lists.specs.Lists.{leading, with_number, without_number, Rises}

-- what holds of each item holds of the one at an index
pub each_index : {A : Type 0} (P : A → Type 0) (xs : List A) (k : ℕ) (d : A) → k < length xs → Each P xs → P (get_or xs k d)
each_index P [] k d below e = absurd (omega (arith, below))
each_index P (x ∷ xs) zero d below e = e.0
each_index P (x ∷ xs) (suc k) d below e = each_index P xs k d (omega (arith, below)) e.1

-- a list in order rises
pub rising : {A : Type 0} (key : A → ℕ) (xs : List A) → Ordered (λ a b. key a ≤ key b) xs → IsNonDecreasingBy key xs
rising key [] o i j d le below = absurd (omega (arith, below))
rising key (x ∷ xs) o zero zero d le below = omega arith
rising key (x ∷ xs) o zero (suc j) d le below = each_index (λ y. key x ≤ key y) xs j d (omega (arith, below)) o.0
rising key (x ∷ xs) o (suc i) zero d le below = absurd (omega (arith, le))
rising key (x ∷ xs) o (suc i) (suc j) d le below = rising key xs o.1 i j d (omega (arith, le)) (omega (arith, below))

pub weakly : (xs : List ℕ) → Rises xs → Ordered (λ a b. a ≤ b) xs
weakly [] o = tt
weakly (x ∷ xs) o = (each_more (λ y. x < y) (λ y. x ≤ y) xs (λ y h. omega (arith, h)) o.0, weakly xs o.1)

-- the place where a search cuts a list
pub cut : {A : Type 0} (p : A → Bool) (xs : List A) (i : ℕ) → i ≤ length xs → IsPartitionPoint (λ y. p y ≡ true) (λ y. p y ≡ false) xs i → i ≡ leading p xs
cut p [] i le h = omega (arith, le)
cut p (x ∷ xs) zero le h = let fails : p x ≡ false = h.1 0 x (omega arith) (omega arith) in sym (ap (λ b. cond b (suc (leading p xs)) 0) fails)
cut p (x ∷ xs) (suc i) le h =
    let passes : p x ≡ true = h.0 0 x (omega arith) (omega arith) in
    let on = cut p xs i (omega (arith, le)) ((λ k d low high. h.0 (suc k) d (omega arith) (omega (arith, high))), (λ k d low high. h.1 (suc k) d (omega (arith, low)) (omega (arith, high)))) in
    ap suc on ∙ sym (ap (λ b. cond b (suc (leading p xs)) 0) passes)

-- a number put in at its place
pub put_in : (n : ℕ) (xs : List ℕ) → insert xs (leading (λ x. nat_lt x n) xs) n ≡ with_number n xs
put_in n [] = refl
put_in n (x ∷ xs) =
    elim (nat_lt x n) as (λ b. insert (x ∷ xs) (cond b (suc (leading (λ x. nat_lt x n) xs)) 0) n ≡ cond b (x ∷ with_number n xs) (n ∷ x ∷ xs)) [ true ↦ ap (λ l. x ∷ l) (put_in n xs) | false ↦ refl ]

-- the place of a number in a list
abbrev pub at : ℕ → List ℕ → ℕ
at n xs = leading (λ x. nat_lt x n) xs

-- a number that stands at its place, taken out
take_step : (n x k d : ℕ) (xs rest : List ℕ) (b : Bool) → nat_lt x n ≡ b → (k < length xs → get_or xs k d ≡ n → remove xs k ≡ rest)
    → cond b (suc k) 0 < length (x ∷ xs) → get_or (x ∷ xs) (cond b (suc k) 0) d ≡ n → remove (x ∷ xs) (cond b (suc k) 0) ≡ cond (x == n) xs (x ∷ rest)
take_step n x k d xs rest true e on below here =
    let other : (x == n) ≡ false = grind (arith, nat_tests) in ap (λ l. x ∷ l) (on (omega (arith, below)) here) ∙ sym (ap (λ b. cond b xs (x ∷ rest)) other)
take_step n x k d xs rest false e on below here =
    let is : x ≡ n = here in
    let same : (x == n) ≡ true = grind (arith, nat_tests) in sym (ap (λ b. cond b xs (x ∷ rest)) same)

pub taken_out : (n d : ℕ) (xs : List ℕ) → at n xs < length xs → get_or xs (at n xs) d ≡ n → remove xs (at n xs) ≡ without_number n xs
taken_out n d [] below is = absurd (omega (arith, below))
taken_out n d (x ∷ xs) below is = take_step n x (at n xs) d xs (without_number n xs) (nat_lt x n) refl (taken_out n d xs) below is

none_taken : (n : ℕ) (xs : List ℕ) → Each (λ x. n < x) xs → without_number n xs ≡ xs
none_taken n [] e = refl
none_taken n (x ∷ xs) e =
    let above = e.0 in
    let other : (x == n) ≡ false = grind (arith, nat_tests) in ap (λ b. cond b xs (x ∷ without_number n xs)) other ∙ ap (λ l. x ∷ l) (none_taken n xs e.1)

-- a number that does not stand at its place stands nowhere
above_by : (x n : ℕ) (b : Bool) → (x == n) ≡ b → nat_lt x n ≡ false → (x ≡ n → ⊥) → n < x
above_by x n true same e never = let is : x ≡ n = grind (arith, nat_tests) in absurd (never is)
above_by x n false other e never = grind (arith, nat_tests)

miss_step : (n x k d : ℕ) (xs : List ℕ) (b : Bool) → nat_lt x n ≡ b → Rises (x ∷ xs) → ((k < length xs → get_or xs k d ≡ n → ⊥) → without_number n xs ≡ xs)
    → (cond b (suc k) 0 < length (x ∷ xs) → get_or (x ∷ xs) (cond b (suc k) 0) d ≡ n → ⊥) → without_number n (x ∷ xs) ≡ x ∷ xs
miss_step n x k d xs true e o on none =
    let other : (x == n) ≡ false = grind (arith, nat_tests) in
    ap (λ b. cond b xs (x ∷ without_number n xs)) other ∙ ap (λ l. x ∷ l) (on (λ low is. none (omega (arith, low)) is))
miss_step n x k d xs false e o on none =
    let above : n < x = above_by x n (x == n) refl e (λ is. none (omega arith) is) in
    none_taken n (x ∷ xs) (above, each_more (λ y. x < y) (λ y. n < y) xs (λ y h. omega (arith, h, above)) o.0)

pub not_there : (n d : ℕ) (xs : List ℕ) → Rises xs → (at n xs < length xs → get_or xs (at n xs) d ≡ n → ⊥) → without_number n xs ≡ xs
not_there n d [] o never = refl
not_there n d (x ∷ xs) o never = miss_step n x (at n xs) d xs (nat_lt x n) refl o (not_there n d xs o.1) never
