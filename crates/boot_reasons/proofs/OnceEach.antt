-- GUIDs that are noted one behind the other are noted once each.
use Rattle.std.proofs.Common.{◌≡◌, Bool, true, false, ◌||◌, not, cond, List, [], ◌∷◌, ◌++◌, filter, flat_map, refl, sym, ap, ◌∙◌, append_assoc, append-nil}
use Rattle.std.proofs.{lemmas.Cmp.nat_list_eq_equiv, lemmas.Grind.flat_map-append}
use Rattle.pi_base.specs.{declared.guid.Guid.Guid, Guids.same_guid, Lists.firsts}
use Rattle.depex_code.specs.Tree.{DepexTree, True, False, Push, Not, And, Or, postfix}
use Rattle.depex_code.specs.declared.opcode.Opcode.{Opcode}
use Rattle.depex_code.specs.declared.opcode.Opcode.TheVariants as O
use Rattle.boot_reasons.specs.Asked.{is_among, pushed_by}
use Rattle.boot_reasons.specs.NotedOnce.{noted_all, noted_code, once_more, pushed_one}

filter_more : (test : Guid → Bool) (xs : List Guid) (x : Guid) → filter test (xs ++ x ∷ []) ≡ cond (test x) (filter test xs ++ x ∷ []) (filter test xs)
filter_more test [] x = refl
filter_more test (y ∷ xs) x = ap (λ ys. cond (test y) (y ∷ ys) ys) (filter_more test xs x) ∙ by (test y) (test x)
  where
    by : (a b : Bool) → cond a (y ∷ cond b (filter test xs ++ x ∷ []) (filter test xs)) (cond b (filter test xs ++ x ∷ []) (filter test xs))
        ≡ cond b (cond a (y ∷ filter test xs) (filter test xs) ++ x ∷ []) (cond a (y ∷ filter test xs) (filter test xs))
    by true true = refl
    by true false = refl
    by false true = refl
    by false false = refl

-- one that is among them adds nothing, and another comes at the end
firsts_more : (xs : List Guid) (x : Guid) → firsts same_guid (xs ++ x ∷ []) ≡ cond (is_among x xs) (firsts same_guid xs) (firsts same_guid xs ++ x ∷ [])
firsts_more [] x = refl
firsts_more (a ∷ xs) x =
    ap (λ ys. a ∷ filter (λ b. not (same_guid a b)) ys) (firsts_more xs x) ∙ by (same_guid a x) (is_among x xs) refl
  where
    by : (s w : Bool) → same_guid a x ≡ s → a ∷ filter (λ b. not (same_guid a b)) (cond w (firsts same_guid xs) (firsts same_guid xs ++ x ∷ []))
        ≡ cond (s || w) (a ∷ filter (λ b. not (same_guid a b)) (firsts same_guid xs)) (a ∷ filter (λ b. not (same_guid a b)) (firsts same_guid xs) ++ x ∷ [])
    by true true e = refl
    by false true e = refl
    by true false e = ap (λ ys. a ∷ ys) (filter_more (λ b. not (same_guid a b)) (firsts same_guid xs) x
        ∙ ap (λ t. cond (not t) (filter (λ b. not (same_guid a b)) (firsts same_guid xs) ++ x ∷ []) (filter (λ b. not (same_guid a b)) (firsts same_guid xs))) e)
    by false false e = ap (λ ys. a ∷ ys) (filter_more (λ b. not (same_guid a b)) (firsts same_guid xs) x
        ∙ ap (λ t. cond (not t) (filter (λ b. not (same_guid a b)) (firsts same_guid xs) ++ x ∷ []) (filter (λ b. not (same_guid a b)) (firsts same_guid xs))) e)

-- one that another is not may be left out
left_out : (a guid : Guid) (others : List Guid) → same_guid a guid ≡ false → is_among guid (filter (λ b. not (same_guid a b)) others) ≡ is_among guid others
left_out a guid [] differ = refl
left_out a guid (b ∷ others) differ = by (same_guid a b) refl (left_out a guid others differ)
  where
    by : (t : Bool) → same_guid a b ≡ t → is_among guid (filter (λ c. not (same_guid a c)) others) ≡ is_among guid others
        → is_among guid (cond (not t) (b ∷ filter (λ c. not (same_guid a c)) others) (filter (λ c. not (same_guid a c)) others)) ≡ same_guid b guid || is_among guid others
    by false e rest = ap (λ more. same_guid b guid || more) rest
    by true e rest =
        let apart : same_guid b guid ≡ false = sym (nat_list_eq_equiv.congr a.0 b.0 guid.0 e) ∙ differ in
        rest ∙ ap (λ t. t || is_among guid others) (sym apart)

-- each once, the same are among them
among_firsts : (guid : Guid) (guids : List Guid) → is_among guid (firsts same_guid guids) ≡ is_among guid guids
among_firsts guid [] = refl
among_firsts guid (a ∷ rest) = by (same_guid a guid) refl (among_firsts guid rest)
  where
    by : (t : Bool) → same_guid a guid ≡ t → is_among guid (firsts same_guid rest) ≡ is_among guid rest
        → (t || is_among guid (filter (λ b. not (same_guid a b)) (firsts same_guid rest))) ≡ (t || is_among guid rest)
    by true e more = refl
    by false e more = left_out a guid (firsts same_guid rest) e ∙ more

once_first : (xs : List Guid) (x : Guid) → once_more (firsts same_guid xs) x ≡ firsts same_guid (xs ++ x ∷ [])
once_first xs x = ap (λ b. cond b (firsts same_guid xs) (firsts same_guid xs ++ x ∷ [])) (among_firsts x xs) ∙ sym (firsts_more xs x)

noted_behind : (xs ys : List Guid) → noted_all (firsts same_guid xs) ys ≡ firsts same_guid (xs ++ ys)
noted_behind xs [] = ap (firsts same_guid) (sym (append-nil xs))
noted_behind xs (y ∷ ys) = ap (λ found. noted_all found ys) (once_first xs y) ∙ noted_behind (xs ++ y ∷ []) ys ∙ ap (firsts same_guid) (append_assoc xs (y ∷ []) ys)

code_behind : (xs : List Guid) (code : List Opcode) → noted_code (firsts same_guid xs) code ≡ firsts same_guid (xs ++ flat_map pushed_one code)
code_behind xs [] = ap (firsts same_guid) (sym (append-nil xs))
code_behind xs (opcode ∷ code) =
    ap (λ found. noted_code found code) (noted_behind xs (pushed_one opcode)) ∙ code_behind (xs ++ pushed_one opcode) code
    ∙ ap (firsts same_guid) (append_assoc xs (pushed_one opcode) (flat_map pushed_one code))

-- all that are noted
pub noted_once : (guids : List Guid) → noted_all [] guids ≡ firsts same_guid guids
noted_once guids = noted_behind [] guids

-- the opcodes of a tree push what the tree does
of_both : (first second : List Opcode) (guids more : List Guid) (last : Opcode) → pushed_one last ≡ [] → flat_map pushed_one first ≡ guids → flat_map pushed_one second ≡ more
    → flat_map pushed_one (first ++ (second ++ last ∷ [])) ≡ guids ++ more
of_both first second guids more last none is also =
    flat_map-append pushed_one first (second ++ last ∷ [])
    ∙ ap (λ xs. flat_map pushed_one first ++ xs) (flat_map-append pushed_one second (last ∷ []) ∙ ap (λ xs. flat_map pushed_one second ++ (xs ++ [])) none ∙ append-nil (flat_map pushed_one second))
    ∙ ap (λ xs. xs ++ flat_map pushed_one second) is ∙ ap (λ xs. guids ++ xs) also

tree_code : (node : DepexTree) → flat_map pushed_one (postfix node) ≡ pushed_by node
tree_code True = refl
tree_code False = refl
tree_code (Push guid) = refl
tree_code (Not node) = flat_map-append pushed_one (postfix node) (O.Not ∷ []) ∙ append-nil (flat_map pushed_one (postfix node)) ∙ tree_code node
tree_code (And first second) = of_both (postfix first) (postfix second) (pushed_by first) (pushed_by second) O.And refl (tree_code first) (tree_code second)
tree_code (Or first second) = of_both (postfix first) (postfix second) (pushed_by first) (pushed_by second) O.Or refl (tree_code first) (tree_code second)

-- all that a tree pushes
pub code_once : (node : DepexTree) → noted_code [] (postfix node) ≡ firsts same_guid (pushed_by node)
code_once node = code_behind [] (postfix node) ∙ ap (firsts same_guid) (tree_code node)
