-- Facts about lists: how one begins, of each item, of each item with those after it, and of two lists item by item.
use Rattle.std.specs.Prelude.{◌≡◌, ℕ, zero, suc, ◌+◌, Bool, not, List, [], ◌∷◌, ◌++◌, filter, ⊤}

-- the bytes begin with a text
abbrev pub Begins : List ℕ → List ℕ → Type 0
Begins bytes text = (rest : List ℕ) × (bytes ≡ text ++ rest)

-- both lists have the same length, and the fact holds of each item on the left with the item at its index on the right
abbrev pub EachPair : {A B : Type 0} → (A → B → Type 0) → List A → List B → Type 0
EachPair R [] [] = ⊤
EachPair R [] (b ∷ bs) = ⊥
EachPair R (a ∷ rest) [] = ⊥
EachPair R (a ∷ rest) (b ∷ bs) = R a b × EachPair R rest bs

-- the fact holds of each item
abbrev pub Each : {A : Type 0} → (A → Type 0) → List A → Type 0
Each P [] = ⊤
Each P (a ∷ rest) = P a × Each P rest

-- the fact holds of each item with each one after it
abbrev pub Ordered : {A : Type 0} → (A → A → Type 0) → List A → Type 0
Ordered R [] = ⊤
Ordered R (a ∷ rest) = Each (R a) rest × Ordered R rest

-- the count numbers that start at from
abbrev pub numbers : ℕ → ℕ → List ℕ
numbers from zero = []
numbers from (suc count) = from ∷ numbers (from + 1) count

-- the first item of each kind, if a test says which two items are of one kind
abbrev pub firsts : {A : Type 0} → (A → A → Bool) → List A → List A
firsts same [] = []
firsts same (a ∷ rest) = a ∷ filter (λ b. not (same a b)) (firsts same rest)
