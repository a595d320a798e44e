-- What an expression lacks, found opcode by opcode.
use Rattle.std.proofs.Common.{◌≡◌, Bool, true, false, ◌||◌, not, cond, List, [], ◌∷◌, ◌++◌, filter, flat_map, Option, Some, None, is_some, refl, sym, ap, ◌∙◌, append_assoc, slice_get, append-nil}
use Rattle.std.specs.List.{list_any}
use Rattle.std.proofs.{lemmas.Cmp.nat_list_eq_equiv, lemmas.Grind.flat_map-append}
use Rattle.pi_base.specs.{declared.guid.Guid.Guid, Guids.same_guid, Lists.firsts}
use Rattle.depex_code.specs.Tree.{DepexTree, True, False, Push, Not, And, Or, postfix}
use Rattle.depex_code.specs.declared.depex.Depex.TheVariants as D
use Rattle.depex_code.specs.declared.opcode.Opcode.{Opcode}
use Rattle.depex_code.specs.declared.opcode.Opcode.TheVariants as O
use Rattle.mod_catalog.specs.declared.catalogue.PartExpr.{PartExpr}
use Rattle.mod_catalog.specs.declared.catalogue.PartExpr.TheVariants as E
use Rattle.store_model.specs.{StoreState.StoreState, Service.Install.has_ppi, Service.Reading.nth_ppi}
use Rattle.boot_laws.specs.ChangedGuids.{is_among}
use Rattle.recorded_boot.specs.Against.{lacking, pushed_by, pushed_in}
use Rattle.recorded_boot.specs.Code.{code_in, lacking_from, more_lacking, once_more, pushed_by_code, pushed_one}

-- a list has a first element that passes where any does
first_any : {A : Type 0} (test : A → Bool) (xs : List A) → is_some (slice_get (filter test xs) 0) ≡ list_any test xs
first_any test [] = refl
first_any test (x ∷ xs) = by (test x) (first_any test xs)
  where
    by : (b : Bool) → is_some (slice_get (filter test xs) 0) ≡ list_any test xs → is_some (slice_get (cond b (x ∷ filter test xs) (filter test xs)) 0) ≡ (b || list_any test xs)
    by true rest = refl
    by false rest = rest

some_mapped : {A B : Type 0} (f : A → B) (o : Option A) → is_some (elim o as (λ _. Option B) [ None ↦ None | Some a ↦ Some (f a) ]) ≡ is_some o
some_mapped f None = refl
some_mapped f (Some a) = refl

pub has_first : (s : StoreState) (guid : Guid) → is_some (nth_ppi s guid 0) ≡ has_ppi s guid
has_first s guid = some_mapped _ _ ∙ first_any _ s.ppis

filter_more : (test : Guid → Bool) (xs : List Guid) (x : Guid) → filter test (xs ++ x ∷ []) ≡ cond (test x) (filter test xs ++ x ∷ []) (filter test xs)
filter_more test [] x = refl
filter_more test (y ∷ xs) x = ap (λ ys. cond (test y) (y ∷ ys) ys) (filter_more test xs x) ∙ by (test y) (test x)
  where
    by : (a b : Bool) → cond a (y ∷ cond b (filter test xs ++ x ∷ []) (filter test xs)) (cond b (filter test xs ++ x ∷ []) (filter test xs))
        ≡ cond b (cond a (y ∷ filter test xs) (filter test xs) ++ x ∷ []) (cond a (y ∷ filter test xs) (filter test xs))
    by true true = refl
    by true false = refl
    by false true = refl
    by false false = refl

-- one that is among them adds nothing, and another comes at the end
firsts_more : (xs : List Guid) (x : Guid) → firsts same_guid (xs ++ x ∷ []) ≡ cond (is_among x xs) (firsts same_guid xs) (firsts same_guid xs ++ x ∷ [])
firsts_more [] x = refl
firsts_more (a ∷ xs) x =
    ap (λ ys. a ∷ filter (λ b. not (same_guid a b)) ys) (firsts_more xs x) ∙ by (same_guid a x) (is_among x xs) refl
  where
    by : (s w : Bool) → same_guid a x ≡ s → a ∷ filter (λ b. not (same_guid a b)) (cond w (firsts same_guid xs) (firsts same_guid xs ++ x ∷ []))
        ≡ cond (s || w) (a ∷ filter (λ b. not (same_guid a b)) (firsts same_guid xs)) (a ∷ filter (λ b. not (same_guid a b)) (firsts same_guid xs) ++ x ∷ [])
    by true true e = refl
    by false true e = refl
    by true false e = ap (λ ys. a ∷ ys) (filter_more (λ b. not (same_guid a b)) (firsts same_guid xs) x
        ∙ ap (λ t. cond (not t) (filter (λ b. not (same_guid a b)) (firsts same_guid xs) ++ x ∷ []) (filter (λ b. not (same_guid a b)) (firsts same_guid xs))) e)
    by false false e = ap (λ ys. a ∷ ys) (filter_more (λ b. not (same_guid a b)) (firsts same_guid xs) x
        ∙ ap (λ t. cond (not t) (filter (λ b. not (same_guid a b)) (firsts same_guid xs) ++ x ∷ []) (filter (λ b. not (same_guid a b)) (firsts same_guid xs))) e)

-- one that another is not may be left out
left_out : (a guid : Guid) (others : List Guid) → same_guid a guid ≡ false → is_among guid (filter (λ b. not (same_guid a b)) others) ≡ is_among guid others
left_out a guid [] differ = refl
left_out a guid (b ∷ others) differ = by (same_guid a b) refl (left_out a guid others differ)
  where
    by : (t : Bool) → same_guid a b ≡ t → is_among guid (filter (λ c. not (same_guid a c)) others) ≡ is_among guid others
        → is_among guid (cond (not t) (b ∷ filter (λ c. not (same_guid a c)) others) (filter (λ c. not (same_guid a c)) others)) ≡ same_guid b guid || is_among guid others
    by false e rest = ap (λ more. same_guid b guid || more) rest
    by true e rest =
        let apart : same_guid b guid ≡ false = sym (nat_list_eq_equiv.congr a.0 b.0 guid.0 e) ∙ differ in
        rest ∙ ap (λ t. t || is_among guid others) (sym apart)

-- each once, the same are among them
among_firsts : (guid : Guid) (guids : List Guid) → is_among guid (firsts same_guid guids) ≡ is_among guid guids
among_firsts guid [] = refl
among_firsts guid (a ∷ rest) = by (same_guid a guid) refl (among_firsts guid rest)
  where
    by : (t : Bool) → same_guid a guid ≡ t → is_among guid (firsts same_guid rest) ≡ is_among guid rest
        → (t || is_among guid (filter (λ b. not (same_guid a b)) (firsts same_guid rest))) ≡ (t || is_among guid rest)
    by true e more = refl
    by false e more = left_out a guid (firsts same_guid rest) e ∙ more

once_first : (xs : List Guid) (x : Guid) → once_more (firsts same_guid xs) x ≡ firsts same_guid (xs ++ x ∷ [])
once_first xs x = ap (λ b. cond b (firsts same_guid xs) (firsts same_guid xs ++ x ∷ [])) (among_firsts x xs) ∙ sym (firsts_more xs x)

-- with one opcode more
one_more : (has : Guid → Bool) (code : List Opcode) (opcode : Opcode) → more_lacking has (lacking has (pushed_by_code code)) opcode ≡ lacking has (pushed_by_code (code ++ opcode ∷ []))
one_more has code opcode = by opcode ∙ ap (lacking has) (sym (flat_map-append pushed_one code (opcode ∷ [])))
  where
    guids : List Guid
    guids = pushed_by_code code

    pushes : (guid : Guid) (b : Bool) → cond b (once_more (lacking has guids) guid) (lacking has guids) ≡ firsts same_guid (cond b (filter (λ g. not (has g)) guids ++ guid ∷ []) (filter (λ g. not (has g)) guids))
    pushes guid true = once_first (filter (λ g. not (has g)) guids) guid
    pushes guid false = refl

    none : lacking has guids ≡ lacking has (guids ++ [])
    none = ap (lacking has) (sym (append-nil guids))

    by : (o : Opcode) → more_lacking has (lacking has guids) o ≡ lacking has (guids ++ flat_map pushed_one (o ∷ []))
    by (O.Push guid) = pushes guid (not (has guid)) ∙ ap (firsts same_guid) (sym (filter_more (λ g. not (has g)) guids guid))
    by O.And = none
    by O.Or = none
    by O.Not = none
    by O.True = none
    by O.False = none

-- the opcodes of a tree push what the tree does
of_both : (first second : List Opcode) (guids more : List Guid) (last : Opcode) → pushed_one last ≡ [] → pushed_by_code first ≡ guids → pushed_by_code second ≡ more → pushed_by_code (first ++ (second ++ last ∷ [])) ≡ guids ++ more
of_both first second guids more last none is also =
    flat_map-append pushed_one first (second ++ last ∷ [])
    ∙ ap (λ xs. pushed_by_code first ++ xs) (flat_map-append pushed_one second (last ∷ []) ∙ ap (λ xs. pushed_by_code second ++ (xs ++ [])) none ∙ append-nil (pushed_by_code second))
    ∙ ap (λ xs. xs ++ pushed_by_code second) is ∙ ap (λ xs. guids ++ xs) also

tree_code : (node : DepexTree) → pushed_by_code (postfix node) ≡ pushed_by node
tree_code True = refl
tree_code False = refl
tree_code (Push guid) = refl
tree_code (Not node) = flat_map-append pushed_one (postfix node) (O.Not ∷ []) ∙ append-nil (pushed_by_code (postfix node)) ∙ tree_code node
tree_code (And first second) = of_both (postfix first) (postfix second) (pushed_by first) (pushed_by second) O.And refl (tree_code first) (tree_code second)
tree_code (Or first second) = of_both (postfix first) (postfix second) (pushed_by first) (pushed_by second) O.Or refl (tree_code first) (tree_code second)

expression_code : (expr : PartExpr) → pushed_by_code (code_in expr) ≡ pushed_in expr
expression_code E.Absent = refl
expression_code (E.Malformed at) = refl
expression_code (E.Held (D.Before name)) = refl
expression_code (E.Held (D.After name)) = refl
expression_code (E.Held (D.Expr sor node)) = tree_code node

-- found opcode by opcode it is the same
from_is : (has : Guid → Bool) (before code : List Opcode) → lacking_from has (lacking has (pushed_by_code before)) code ≡ lacking has (pushed_by_code (before ++ code))
from_is has before [] = ap (λ xs. lacking has (pushed_by_code xs)) (sym (append-nil before))
from_is has before (opcode ∷ code) =
    ap (λ found. lacking_from has found code) (one_more has before opcode) ∙ from_is has (before ++ opcode ∷ []) code ∙ ap (λ xs. lacking has (pushed_by_code xs)) (append_assoc before (opcode ∷ []) code)

pub lacking_is : (has : Guid → Bool) (expr : PartExpr) → lacking_from has [] (code_in expr) ≡ lacking has (pushed_in expr)
lacking_is has expr = from_is has [] (code_in expr) ∙ ap (lacking has) (expression_code expr)
