-- In a group each companion stands beside the driver that it names, and between them only companions of either.
use Rattle.std.proofs.Common.{◌≡◌, ℕ, zero, suc, ◌⊎◌, inl, inr, List, [], ◌∷◌, ◌++◌, Option, Some, refl, sym, subst, ap, ◌∙◌, append_assoc, flat_map}
use Rattle.mod_catalog.specs.declared.catalogue.Catalog.{Catalog}
use Rattle.pi_base.specs.Lists.{Each}
use Rattle.boot_model.specs.DxeMachine.{DxeMachine}
use Rattle.boot_model.specs.DxeChoice.{befores, afters, group_within}
use Rattle.boot_model.specs.DriverLicence.{target_of, Leads, IsCompanionOf, StandBeside, IsBeforeNamed, IsAfterNamed}
use Rattle.boot_model.proofs.ListFacts.{each_more, each_append, each_flat}
use Rattle.boot_laws.proofs.Groups.{IsBefore, IsAfter, are_before, are_after, before_names, after_names}

-- a companion of one that names x is a companion of x
over_one : (target : ℕ → Option ℕ) (x y z k : ℕ) → target y ≡ Some x → Leads target y z k → Leads target x z (suc k)
over_one target x y z zero names l = (x, subst (λ n. target n ≡ Some x) (sym l) names, refl)
over_one target x y z (suc k) names l = (l.0, l.1, over_one target x y l.0 k names l.2)

companion_over : (catalog : Catalog) (m : DxeMachine) (x y z : ℕ) → target_of catalog m y ≡ Some x → IsCompanionOf catalog m y z → IsCompanionOf catalog m x z
companion_over catalog m x y z names c = (suc c.0, over_one (target_of catalog m) x y z (suc c.0) names c.1)

companion_itself : (catalog : Catalog) (m : DxeMachine) (x y : ℕ) → target_of catalog m y ≡ Some x → IsCompanionOf catalog m x y
companion_itself catalog m x y names = (0, (x, names, refl))

-- a group is its driver, with companions of it before and behind
record Opened (catalog : Catalog) (m : DxeMachine) (x : ℕ) (group : List ℕ) : Type 0 where
  left : List ℕ
  right : List ℕ
  is : group ≡ left ++ x ∷ right
  left_leads : Each (IsCompanionOf catalog m x) left
  right_leads : Each (IsCompanionOf catalog m x) right

-- a group's drivers are companions of what its driver names
of_named : (catalog : Catalog) (m : DxeMachine) (x y : ℕ) (group : List ℕ) → target_of catalog m y ≡ Some x → Opened catalog m y group → Each (IsCompanionOf catalog m x) group
of_named catalog m x y group names o =
    let Of = IsCompanionOf catalog m in
    let over : (z : ℕ) → Of y z → Of x z = λ z c. companion_over catalog m x y z names c in
    subst (Each (Of x)) (sym o.is)
    (each_append (Of x) o.left (y ∷ o.right) (each_more (Of y) (Of x) o.left over o.left_leads) (companion_itself catalog m x y names, each_more (Of y) (Of x) o.right over o.right_leads))

opened : (catalog : Catalog) (m : DxeMachine) (deep x : ℕ) → Opened catalog m x (group_within catalog m deep x)
opened catalog m zero x = record { left = []; right = []; is = refl; left_leads = tt; right_leads = tt }
opened catalog m (suc deep) x =
    let group = group_within catalog m deep in
    let Of = IsCompanionOf catalog m x in
    record {
      left = flat_map group (befores catalog m x);
      right = flat_map group (afters catalog m x);
      is = refl;
      left_leads = each_flat Of (IsBefore catalog m x) group (befores catalog m x) (λ y h. of_named catalog m x y (group y) (before_names catalog m x y h) (opened catalog m deep y)) (are_before catalog m x);
      right_leads = each_flat Of (IsAfter catalog m x) group (afters catalog m x) (λ y h. of_named catalog m x y (group y) (after_names catalog m x y h) (opened catalog m deep y)) (are_after catalog m x);
    }

-- a companion that stands beside the driver that it names
abbrev pub IsPlaced : Catalog → DxeMachine → List ℕ → ℕ → Type 0
IsPlaced catalog m queue z = IsBeforeNamed catalog m queue z ⊎ IsAfterNamed catalog m queue z

-- the group's driver, or such a companion
abbrev pub IsRootOrPlaced : Catalog → DxeMachine → List ℕ → ℕ → ℕ → Type 0
IsRootOrPlaced catalog m queue x z = (z ≡ x) ⊎ IsPlaced catalog m queue z

-- in a longer queue they stand as they did
longer : (pre post front between back : List ℕ) (a b : ℕ) → pre ++ ((front ++ a ∷ (between ++ b ∷ back)) ++ post) ≡ (pre ++ front) ++ a ∷ (between ++ b ∷ (back ++ post))
longer pre post front between back a b =
    ap (λ t. pre ++ t) (append_assoc front (a ∷ (between ++ b ∷ back)) post ∙ ap (λ t. front ++ a ∷ t) (append_assoc between (b ∷ back) post))
    ∙ sym (append_assoc pre front (a ∷ (between ++ b ∷ (back ++ post))))

beside_more : (catalog : Catalog) (m : DxeMachine) (whole pre queue post : List ℕ) (a b : ℕ) → whole ≡ pre ++ (queue ++ post) → StandBeside catalog m queue a b → StandBeside catalog m whole a b
beside_more catalog m whole pre queue post a b e h = record {
  front = pre ++ h.front;
  between = h.between;
  back = h.back ++ post;
  split = e ∙ ap (λ t. pre ++ (t ++ post)) h.split ∙ longer pre post h.front h.between h.back a b;
  companions = h.companions;
}

placed_more : (catalog : Catalog) (m : DxeMachine) (whole pre queue post : List ℕ) (z : ℕ) → whole ≡ pre ++ (queue ++ post) → IsPlaced catalog m queue z → IsPlaced catalog m whole z
placed_more catalog m whole pre queue post z e (inl h) = inl (h.0, h.1, beside_more catalog m whole pre queue post z h.0 e h.2)
placed_more catalog m whole pre queue post z e (inr h) = inr (h.0, h.1, beside_more catalog m whole pre queue post h.0 z e h.2)

-- a group in a longer queue, whose own driver is placed there
group_placed : (catalog : Catalog) (m : DxeMachine) (whole pre group post : List ℕ) (x y : ℕ) → whole ≡ pre ++ (group ++ post) → IsPlaced catalog m whole y
    → Each (IsRootOrPlaced catalog m group y) group → Each (IsRootOrPlaced catalog m whole x) group
group_placed catalog m whole pre group post x y e own each = each_more (IsRootOrPlaced catalog m group y) (IsRootOrPlaced catalog m whole x) group lift each
  where
    lift : (z : ℕ) → IsRootOrPlaced catalog m group y z → IsRootOrPlaced catalog m whole x z
    lift z (inl same) = inr (subst (IsPlaced catalog m whole) (sym same) own)
    lift z (inr placed) = inr (placed_more catalog m whole pre group post z e placed)

-- the groups of those before a driver, one after the other
befores_placed : (catalog : Catalog) (m : DxeMachine) (group : ℕ → List ℕ) (x : ℕ) (whole pre ys right : List ℕ)
    → ((y : ℕ) → Opened catalog m y (group y)) → ((y : ℕ) → Each (IsRootOrPlaced catalog m (group y) y) (group y))
    → Each (IsBefore catalog m x) ys → whole ≡ pre ++ (flat_map group ys ++ x ∷ right) → Each (IsRootOrPlaced catalog m whole x) (flat_map group ys)
befores_placed catalog m group x whole pre [] right parts_of placed names e = tt
befores_placed catalog m group x whole pre (y ∷ ys) right parts_of placed names e =
    let Of = IsCompanionOf catalog m in
    let o = parts_of y in
    let rest = flat_map group ys in
    let here : whole ≡ pre ++ (group y ++ (rest ++ x ∷ right)) = e ∙ ap (λ t. pre ++ t) (append_assoc (group y) rest (x ∷ right)) in
    let behind : Each (Of x) rest = each_flat (Of x) (IsBefore catalog m x) group ys (λ a h. of_named catalog m x a (group a) (before_names catalog m x a h) (parts_of a)) names.1 in
    let beside : StandBeside catalog m whole y x = record {
      front = pre ++ o.left;
      between = o.right ++ rest;
      back = right;
      split = here ∙ ap (λ t. pre ++ (t ++ (rest ++ x ∷ right))) o.is ∙ ap (λ t. pre ++ t) (append_assoc o.left (y ∷ o.right) (rest ++ x ∷ right))
          ∙ sym (append_assoc pre o.left (y ∷ (o.right ++ (rest ++ x ∷ right)))) ∙ ap (λ t. (pre ++ o.left) ++ y ∷ t) (sym (append_assoc o.right rest (x ∷ right)));
      companions = each_append (λ n. Of y n ⊎ Of x n) o.right rest (each_more (Of y) (λ n. Of y n ⊎ Of x n) o.right (λ n c. inl c) o.right_leads) (each_more (Of x) (λ n. Of y n ⊎ Of x n) rest (λ n c. inr c) behind);
    } in
    each_append (IsRootOrPlaced catalog m whole x) (group y) rest
    (group_placed catalog m whole pre (group y) (rest ++ x ∷ right) x y here (inl (x, names.0, beside)) (placed y))
    (befores_placed catalog m group x whole (pre ++ group y) ys right parts_of placed names.1 (here ∙ sym (append_assoc pre (group y) (rest ++ x ∷ right))))

-- the groups of those after a driver, one after the other
afters_placed : (catalog : Catalog) (m : DxeMachine) (group : ℕ → List ℕ) (x : ℕ) (whole left done ys : List ℕ)
    → ((y : ℕ) → Opened catalog m y (group y)) → ((y : ℕ) → Each (IsRootOrPlaced catalog m (group y) y) (group y))
    → Each (IsAfter catalog m x) ys → Each (IsCompanionOf catalog m x) done → whole ≡ left ++ x ∷ (done ++ flat_map group ys) → Each (IsRootOrPlaced catalog m whole x) (flat_map group ys)
afters_placed catalog m group x whole left done [] parts_of placed names leads e = tt
afters_placed catalog m group x whole left done (y ∷ ys) parts_of placed names leads e =
    let Of = IsCompanionOf catalog m in
    let o = parts_of y in
    let rest = flat_map group ys in
    let beside : StandBeside catalog m whole x y = record {
      front = left;
      between = done ++ o.left;
      back = o.right ++ rest;
      split = e ∙ ap (λ t. left ++ x ∷ (done ++ (t ++ rest))) o.is ∙ ap (λ t. left ++ x ∷ (done ++ t)) (append_assoc o.left (y ∷ o.right) rest)
          ∙ ap (λ t. left ++ x ∷ t) (sym (append_assoc done o.left (y ∷ (o.right ++ rest))));
      companions = each_append (λ n. Of x n ⊎ Of y n) done o.left (each_more (Of x) (λ n. Of x n ⊎ Of y n) done (λ n c. inl c) leads) (each_more (Of y) (λ n. Of x n ⊎ Of y n) o.left (λ n c. inr c) o.left_leads);
    } in
    let here : whole ≡ (left ++ x ∷ done) ++ (group y ++ rest) = e ∙ sym (append_assoc left (x ∷ done) (group y ++ rest)) in
    let later : whole ≡ left ++ x ∷ ((done ++ group y) ++ rest) = e ∙ ap (λ t. left ++ x ∷ t) (sym (append_assoc done (group y) rest)) in
    each_append (IsRootOrPlaced catalog m whole x) (group y) rest
    (group_placed catalog m whole (left ++ x ∷ done) (group y) rest x y here (inr (x, names.0.0, beside)) (placed y))
    (afters_placed catalog m group x whole left (done ++ group y) ys parts_of placed names.1
    (each_append (Of x) done (group y) leads (of_named catalog m x y (group y) (after_names catalog m x y names.0) o)) later)

-- each of a group is its driver or stands beside the one that it names
pub all_placed : (catalog : Catalog) (m : DxeMachine) (deep x : ℕ) → Each (IsRootOrPlaced catalog m (group_within catalog m deep x) x) (group_within catalog m deep x)
all_placed catalog m zero x = (inl refl, tt)
all_placed catalog m (suc deep) x =
    let group = group_within catalog m deep in
    let left = flat_map group (befores catalog m x) in
    let right = flat_map group (afters catalog m x) in
    let whole = left ++ x ∷ right in
    each_append (IsRootOrPlaced catalog m whole x) left (x ∷ right)
    (befores_placed catalog m group x whole [] (befores catalog m x) right (opened catalog m deep) (all_placed catalog m deep) (are_before catalog m x) refl)
    (inl refl, afters_placed catalog m group x whole left [] (afters catalog m x) (opened catalog m deep) (all_placed catalog m deep) (are_after catalog m x) tt refl)
