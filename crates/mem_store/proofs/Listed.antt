-- Rows that are put one by one.
use Rattle.std.proofs.Common.{◌≡◌, ℕ, zero, suc, ◌+◌, ◌<◌, ◌≤◌, Bool, true, false, cond, List, [], ◌∷◌, ◌++◌, length, drop, get_or, arith, ap, refl, sym, ◌∙◌, filter, map}
use Rattle.pi_base.specs.Lists.{Each}
use Rattle.mem_store.specs.{declared.guid_index.index.Indexed.Indexed, declared.index.Which.Which, Picked.is_picked, Picked.picked_of}
use Rattle.store_model.specs.{declared.store_handle.Desc.Desc, StoreState.StoreState}
use Rattle.store_model.specs.Service.Descriptor.{is_callback, kind_at, offsets}
use Rattle.mem_store.specs.declared.index.Which.TheVariants.{All, Callbacks, Others}

pub each_at : {A : Type 0} (P : A → Type 0) (xs : List A) (i : ℕ) (d : A) → i < length xs → Each P xs → P (get_or xs i d)
each_at P [] i d le h = absurd (omega (arith, le))
each_at P (x ∷ xs) zero d le h = h.0
each_at P (x ∷ xs) (suc i) d le h = each_at P xs i d (omega (arith, le)) h.1

pub drop_on : {A : Type 0} (xs : List A) (i : ℕ) (d : A) → i < length xs → drop i xs ≡ get_or xs i d ∷ drop (i + 1) xs
drop_on [] i d le = absurd (omega (arith, le))
drop_on (x ∷ xs) zero d le = refl
drop_on (x ∷ xs) (suc i) d le = let next : suc i + 1 ≡ suc (i + 1) = omega arith in rw next (drop_on xs i d (omega (arith, le)))

pub drop_all : {A : Type 0} (xs : List A) (i : ℕ) → length xs ≤ i → drop i xs ≡ []
drop_all [] zero le = refl
drop_all [] (suc i) le = refl
drop_all (x ∷ xs) zero le = absurd (omega (arith, le))
drop_all (x ∷ xs) (suc i) le = drop_all xs i (omega (arith, le))

nothing_more : (xs : List Indexed) → xs ++ [] ≡ xs
nothing_more [] = refl
nothing_more (x ∷ xs) = ap (λ l. x ∷ l) (nothing_more xs)

joined : (xs : List Indexed) (y : Indexed) (zs : List Indexed) → (xs ++ y ∷ []) ++ zs ≡ xs ++ y ∷ zs
joined [] y zs = refl
joined (x ∷ xs) y zs = ap (λ l. x ∷ l) (joined xs y zs)

-- the rows of those that pass a test
abbrev pub picked : (ℕ → Indexed) → (ℕ → Bool) → List Desc → List Indexed
picked row test list = map row (filter test (offsets list))

put_on : (row : ℕ → Indexed) (b : Bool) (rows : List Indexed) (place : ℕ) (rest : List ℕ)
    → (rows ++ cond b (row place ∷ []) []) ++ map row rest ≡ rows ++ map row (cond b (place ∷ rest) rest)
put_on row true rows place rest = joined rows (row place) (map row rest)
put_on row false rows place rest = ap (λ l. l ++ map row rest) (nothing_more rows)

-- one more is put, or passed over
pub put_more : (row : ℕ → Indexed) (test : ℕ → Bool) (list : List Desc) (i : ℕ) (d : Desc) (rows after : List Indexed) (b : Bool) (put : Indexed) → i < length list
    → after ≡ rows ++ cond b (put ∷ []) [] → b ≡ test (get_or list i d).offset → put ≡ row (get_or list i d).offset
    → after ++ picked row test (drop (i + 1) list) ≡ rows ++ picked row test (drop i list)
put_more row test list i d rows after b put le is due same =
    let place : ℕ = (get_or list i d).offset in
    let rest : List ℕ = filter test (offsets (drop (i + 1) list)) in
    ap (λ l. l ++ map row rest) (is ∙ ap (λ t. rows ++ cond t (put ∷ []) []) due ∙ ap (λ r. rows ++ cond (test place) (r ∷ []) []) same)
    ∙ put_on row (test place) rows place rest
    ∙ ap (λ l. rows ++ picked row test l) (sym (drop_on list i d le))

-- all are put
pub put_all : (row : ℕ → Indexed) (test : ℕ → Bool) (list : List Desc) (i : ℕ) (rows old : List Indexed) → length list ≤ i
    → rows ++ picked row test (drop i list) ≡ old ++ picked row test list → rows ≡ old ++ picked row test list
put_all row test list i rows old le is = sym (nothing_more rows) ∙ ap (λ l. rows ++ picked row test l) (sym (drop_all list i le)) ∙ is

all_of : (xs : List ℕ) → filter (λ place. true) xs ≡ xs
all_of [] = refl
all_of (x ∷ xs) = ap (λ l. x ∷ l) (all_of xs)

-- where each passes
picked_all : (row : ℕ → Indexed) (list : List Desc) → picked row (λ place. true) list ≡ map row (offsets list)
picked_all row list = ap (map row) (all_of (offsets list))

abbrev pub test_of : Which → StoreState → ℕ → Bool
test_of which s place = is_picked which (is_callback (kind_at s place))

-- those of a list
pub picked_are : (which : Which) (s : StoreState) (row : ℕ → Indexed) (list : List Desc) → picked row (test_of which s) list ≡ map row (picked_of which s list)
picked_are All s row list = picked_all row list
picked_are Callbacks s row list = refl
picked_are Others s row list = refl
