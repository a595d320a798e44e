-- A group is walked with a stack: what the items on the stack stand for, and the drivers that were put, make the group; and each turn takes something off what is left.
use Rattle.std.proofs.Common.{◌≡◌, ℕ, ◌+◌, ◌*◌, ◌<◌, ◌≤◌, Bool, true, List, [], ◌∷◌, ◌++◌, length, map, reverse, refl, sym, subst, ap, ◌∙◌, arith, append_assoc, append-nil, length-append, flat_map, sum_by}
use Rattle.std.proofs.{lemmas.List.reverse-append, lemmas.Grind.flat_map-append}
use Rattle.std.proofs.lemmas.List.Sums.{sum_by-append, sum_by-cons, sum_by_push}
use Rattle.std.specs.Prelude.{⊤}
use Rattle.pi_base.specs.{Lists.Each, declared.phase.Phase.TheVariants.Dxe}
use Rattle.mod_catalog.specs.{declared.catalogue.Catalog.Catalog, Parts.has_number, Parts.part_of}
use Rattle.boot_model.specs.DxeMachine.{DxeMachine}
use Rattle.boot_model.specs.DxeChoice.{befores, afters, companion_group, waiting}
use Rattle.boot_laws.specs.GroupUnfolds.{IsOver, IsRoot, Unfolds}
use Rattle.boot_model.proofs.ListFacts.{each_more, each_append, each_at, within}
use Rattle.boot_model.proofs.Distinct.{few_below}
use Rattle.boot_laws.proofs.{PartLists.IsKnown, Queue.waiting_known, GroupUnfolds.groups_unfold, GroupUnfolds.groups_are_small}
use Rattle.dxe_core.specs.Order.{Drivers, befores_of}
use Rattle.dxe_dispatch.specs.declared.group.Item.{Item}
use Rattle.dxe_dispatch.specs.declared.group.Item.TheVariants as I
use Rattle.dxe_dispatch.specs.Choosing.{HaveWaiting, TakesItem, companions, unfolded}
use Rattle.dxe_dispatch.proofs.{Scheduling.each_front, Companions.befores_are, Companions.afters_are}

-- the drivers that an item stands for
abbrev pub items_of : Catalog → DxeMachine → Item → List ℕ
items_of catalog m (I.Group number) = companion_group catalog m number
items_of catalog m (I.Driver number) = number ∷ []

-- how many turns an item takes: two for each driver of a group
abbrev pub turns_of : Catalog → DxeMachine → Item → ℕ
turns_of catalog m (I.Group number) = 2 * length (companion_group catalog m number)
turns_of catalog m (I.Driver number) = 1

abbrev pub IsOpen : Catalog → DxeMachine → ℕ → Item → Type 0
IsOpen catalog m root (I.Group number) = IsOver catalog m root number
IsOpen catalog m root (I.Driver number) = ⊤

pub record IsWalk (catalog : Catalog) (m : DxeMachine) (root : ℕ) (stack : List Item) (group : List ℕ) (taken : ℕ) : Type 0 where
  pub whole : flat_map (items_of catalog m) stack ++ reverse group ≡ companion_group catalog m root
  pub over : Each (IsOpen catalog m root) stack
  pub left : sum_by (turns_of catalog m) stack + taken ≤ 2 * length catalog.modules

each_last : (P : Item → Type 0) (xs : List Item) (y : Item) → Each P (xs ++ y ∷ []) → P y
each_last P [] y e = e.0
each_last P (x ∷ xs) y e = each_last P xs y e.1

groups_of : (catalog : Catalog) (m : DxeMachine) (xs : List ℕ) → flat_map (items_of catalog m) (map I.Group xs) ≡ flat_map (companion_group catalog m) xs
groups_of catalog m [] = refl
groups_of catalog m (x ∷ xs) = ap (λ ys. companion_group catalog m x ++ ys) (groups_of catalog m xs)

turns_for : (catalog : Catalog) (m : DxeMachine) (xs : List ℕ) → sum_by (turns_of catalog m) (map I.Group xs) ≡ 2 * length (flat_map (companion_group catalog m) xs)
turns_for catalog m [] = refl
turns_for catalog m (x ∷ xs) =
    let on = turns_for catalog m xs in
    let sum = length-append (companion_group catalog m x) (flat_map (companion_group catalog m) xs) in
    let first = sum_by-cons (turns_of catalog m) (I.Group x) (map I.Group xs) in
    omega (arith, on, sum, first)

open_all : (catalog : Catalog) (m : DxeMachine) (root : ℕ) (xs : List ℕ) → Each (IsOver catalog m root) xs → Each (IsOpen catalog m root) (map I.Group xs)
open_all catalog m root [] e = tt
open_all catalog m root (x ∷ xs) e = (e.0, open_all catalog m root xs e.1)

-- the items in the place of a driver's group
abbrev opened : Catalog → DxeMachine → ℕ → List Item
opened catalog m x = map I.Group (befores catalog m x) ++ I.Driver x ∷ map I.Group (afters catalog m x)

opened_is : (catalog : Catalog) (m : DxeMachine) (order : Drivers) (flags : List Bool) (x : ℕ) → HaveWaiting catalog m order flags → unfolded catalog order flags x ≡ opened catalog m x
opened_is catalog m order flags x have =
    sym (ap (λ xs. map I.Group xs ++ I.Driver x ∷ map I.Group (afters catalog m x)) (befores_are catalog m order flags x have)
    ∙ ap (λ xs. map I.Group (companions catalog order (befores_of order) flags x) ++ I.Driver x ∷ map I.Group xs) (afters_are catalog m order flags x have))

opened_whole : (catalog : Catalog) (m : DxeMachine) (root x : ℕ) → Unfolds catalog m root x → flat_map (items_of catalog m) (opened catalog m x) ≡ companion_group catalog m x
opened_whole catalog m root x u =
    let before = map I.Group (befores catalog m x) in
    let after = map I.Group (afters catalog m x) in
    flat_map-append (items_of catalog m) before (I.Driver x ∷ after)
    ∙ ap (λ xs. xs ++ x ∷ flat_map (items_of catalog m) after) (groups_of catalog m (befores catalog m x))
    ∙ ap (λ xs. flat_map (companion_group catalog m) (befores catalog m x) ++ x ∷ xs) (groups_of catalog m (afters catalog m x))
    ∙ sym u.group

opened_turns : (catalog : Catalog) (m : DxeMachine) (root x : ℕ) → Unfolds catalog m root x → sum_by (turns_of catalog m) (opened catalog m x) + 1 ≡ 2 * length (companion_group catalog m x)
opened_turns catalog m root x u =
    let before = flat_map (companion_group catalog m) (befores catalog m x) in
    let after = flat_map (companion_group catalog m) (afters catalog m x) in
    let sum = sum_by-append (turns_of catalog m) (map I.Group (befores catalog m x)) (I.Driver x ∷ map I.Group (afters catalog m x)) in
    let first = turns_for catalog m (befores catalog m x) in
    let second = turns_for catalog m (afters catalog m x) in
    let all = ap length u.group in
    let parts = length-append before (x ∷ after) in
    let own = sum_by-cons (turns_of catalog m) (I.Driver x) (map I.Group (afters catalog m x)) in
    omega (arith, sum, first, second, all, parts, own)

opened_open : (catalog : Catalog) (m : DxeMachine) (root x : ℕ) → Unfolds catalog m root x → Each (IsOpen catalog m root) (opened catalog m x)
opened_open catalog m root x u =
    each_append (IsOpen catalog m root) (map I.Group (befores catalog m x)) (I.Driver x ∷ map I.Group (afters catalog m x))
    (open_all catalog m root (befores catalog m x) u.befores) (tt, open_all catalog m root (afters catalog m x) u.afters)

-- the last item is a driver, which is put
driver_put : (catalog : Catalog) (m : DxeMachine) (root : ℕ) (rest : List Item) (group : List ℕ) (number taken : ℕ) → IsWalk catalog m root (rest ++ I.Driver number ∷ []) group taken
    → IsWalk catalog m root rest (group ++ number ∷ []) (taken + 1)
driver_put catalog m root rest group number taken w =
    let before = flat_map (items_of catalog m) rest in
    let turns = sum_by_push (turns_of catalog m) rest (I.Driver number) in
    let most = w.left in
    record {
      whole = ap (λ xs. before ++ xs) (reverse-append group (number ∷ [])) ∙ sym (append_assoc before (number ∷ []) (reverse group))
          ∙ ap (λ xs. xs ++ reverse group) (sym (flat_map-append (items_of catalog m) rest (I.Driver number ∷ []))) ∙ w.whole;
      over = each_front (IsOpen catalog m root) rest (I.Driver number ∷ []) w.over;
      left = omega (arith, turns, most);
    }

-- the last item is a group, which is opened
group_opened : (catalog : Catalog) (m : DxeMachine) (root : ℕ) (rest : List Item) (group : List ℕ) (number taken : ℕ) → IsRoot catalog m root
    → IsWalk catalog m root (rest ++ I.Group number ∷ []) group taken → IsWalk catalog m root (rest ++ opened catalog m number) group (taken + 1)
group_opened catalog m root rest group number taken is w =
    let over : IsOver catalog m root number = each_last (IsOpen catalog m root) rest (I.Group number) w.over in
    let u = groups_unfold catalog m root number is over in
    let before = flat_map (items_of catalog m) rest in
    let turns = sum_by_push (turns_of catalog m) rest (I.Group number) in
    let now = sum_by-append (turns_of catalog m) rest (opened catalog m number) in
    let few = opened_turns catalog m root number u in
    let most = w.left in
    record {
      whole = ap (λ xs. xs ++ reverse group) (flat_map-append (items_of catalog m) rest (opened catalog m number)
          ∙ ap (λ xs. before ++ xs) (opened_whole catalog m root number u ∙ sym (append-nil (companion_group catalog m number)))
          ∙ sym (flat_map-append (items_of catalog m) rest (I.Group number ∷ []))) ∙ w.whole;
      over = each_append (IsOpen catalog m root) rest (opened catalog m number) (each_front (IsOpen catalog m root) rest (I.Group number ∷ []) w.over) (opened_open catalog m root number u);
      left = omega (arith, turns, now, few, most);
    }

-- one turn
pub walk_on : (catalog : Catalog) (m : DxeMachine) (order : Drivers) (flags : List Bool) (root : ℕ) (stack rest later : List Item) (group more : List ℕ) (item : Item) (taken : ℕ)
    → HaveWaiting catalog m order flags → IsRoot catalog m root → stack ≡ rest ++ item ∷ [] → TakesItem (unfolded catalog order flags) rest group item later more
    → IsWalk catalog m root stack group taken → IsWalk catalog m root later more (taken + 1)
walk_on catalog m order flags root stack rest later group more (I.Group number) taken have is split t w =
    let popped = subst (λ xs. IsWalk catalog m root xs group taken) split w in
    let next = group_opened catalog m root rest group number taken is popped in
    let stack_is : rest ++ opened catalog m number ≡ later = sym (t.0 ∙ ap (λ xs. rest ++ xs) (opened_is catalog m order flags number have)) in
    subst (λ xs. IsWalk catalog m root later xs (taken + 1)) (sym t.1) (subst (λ xs. IsWalk catalog m root xs group (taken + 1)) stack_is next)
walk_on catalog m order flags root stack rest later group more (I.Driver number) taken have is split t w =
    let popped = subst (λ xs. IsWalk catalog m root xs group taken) split w in
    let next = driver_put catalog m root rest group number taken popped in
    subst (λ xs. IsWalk catalog m root later xs (taken + 1)) (sym t.1) (subst (λ xs. IsWalk catalog m root xs (group ++ number ∷ []) (taken + 1)) (sym t.0) next)

-- the drivers of a group are modules of the catalogue, and no more than there are
pub group_numbers : (catalog : Catalog) (m : DxeMachine) (order : Drivers) (flags : List Bool) (root : ℕ) → HaveWaiting catalog m order flags → IsRoot catalog m root
    → Each (IsKnown catalog m.discovered) (companion_group catalog m root)
group_numbers catalog m order flags root have is =
    each_more (λ n. has_number (waiting catalog m) n ≡ true) (IsKnown catalog m.discovered) (companion_group catalog m root)
    (λ n has. each_at (IsKnown catalog m.discovered) (waiting catalog m) n (waiting_known catalog m) has) (groups_are_small catalog m root have.order.known.differ is).wait

group_small : (catalog : Catalog) (m : DxeMachine) (order : Drivers) (flags : List Bool) (root : ℕ) → HaveWaiting catalog m order flags → IsRoot catalog m root
    → length (companion_group catalog m root) ≤ length catalog.modules
group_small catalog m order flags root have is =
    few_below (companion_group catalog m root) (length catalog.modules) (groups_are_small catalog m root have.order.known.differ is).differ
    (each_more (IsKnown catalog m.discovered) (λ n. n < length catalog.modules) (companion_group catalog m root) (λ n known. within (part_of Dxe) catalog.modules n known.0)
    (group_numbers catalog m order flags root have is))

pub walk_begins : (catalog : Catalog) (m : DxeMachine) (order : Drivers) (flags : List Bool) (root : ℕ) (none stack : List Item) (group : List ℕ) → HaveWaiting catalog m order flags → IsRoot catalog m root
    → none ≡ [] → stack ≡ none ++ I.Group root ∷ [] → group ≡ [] → IsWalk catalog m root stack group 0
walk_begins catalog m order flags root none stack group have is empty pushed new =
    let few = group_small catalog m order flags root have is in
    let first : I.Group root ∷ [] ≡ stack = sym (pushed ∙ ap (λ xs. xs ++ I.Group root ∷ []) empty) in
    let made : IsWalk catalog m root (I.Group root ∷ []) [] 0 = record {
      whole = append-nil (companion_group catalog m root ++ []) ∙ append-nil (companion_group catalog m root);
      over = ((0, refl), tt);
      left = omega (arith, few);
    } in
    subst (λ xs. IsWalk catalog m root xs group 0) first (subst (λ xs. IsWalk catalog m root (I.Group root ∷ []) xs 0) (sym new) made)

-- a walk ends where nothing is on the stack
pub walk_ends : (catalog : Catalog) (m : DxeMachine) (root : ℕ) (stack : List Item) (group : List ℕ) (taken : ℕ) → stack ≡ [] → IsWalk catalog m root stack group taken → reverse group ≡ companion_group catalog m root
walk_ends catalog m root stack group taken none w = ap (λ xs. flat_map (items_of catalog m) xs ++ reverse group) (sym none) ∙ w.whole

some_left : (catalog : Catalog) (m : DxeMachine) (root : ℕ) (item : Item) → IsRoot catalog m root → IsOpen catalog m root item → 1 ≤ turns_of catalog m item
some_left catalog m root (I.Group number) is over =
    let u = groups_unfold catalog m root number is over in
    let all = ap length u.group in
    let parts = length-append (flat_map (companion_group catalog m) (befores catalog m number)) (number ∷ flat_map (companion_group catalog m) (afters catalog m number)) in
    omega (arith, all, parts)
some_left catalog m root (I.Driver number) is over = omega arith

none_left : (catalog : Catalog) (m : DxeMachine) (root : ℕ) (stack : List Item) (taken : ℕ) → IsRoot catalog m root → Each (IsOpen catalog m root) stack
    → sum_by (turns_of catalog m) stack + taken ≤ 2 * length catalog.modules → 2 * length catalog.modules ≤ taken → stack ≡ []
none_left catalog m root [] taken is over le out = refl
none_left catalog m root (item ∷ stack) taken is over le out =
    let some = some_left catalog m root item is over.0 in
    let sum = sum_by-cons (turns_of catalog m) item stack in
    absurd (omega (arith, some, le, out, sum))

-- and after as many turns as there may be
pub walk_is_over : (catalog : Catalog) (m : DxeMachine) (root : ℕ) (stack : List Item) (group : List ℕ) (taken : ℕ) → IsRoot catalog m root → 2 * length catalog.modules ≤ taken → IsWalk catalog m root stack group taken
    → reverse group ≡ companion_group catalog m root
walk_is_over catalog m root stack group taken is out w = walk_ends catalog m root stack group taken (none_left catalog m root stack taken is w.over w.left out) w
