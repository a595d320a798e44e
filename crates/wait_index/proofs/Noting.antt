-- The watchers of GUIDs, as their lists grow.
use Rattle.std.proofs.Common.{◌≡◌, ℕ, zero, suc, ◌+◌, ◌-◌, ◌≤◌, ◌<◌, Bool, true, false, ◌||◌, cond, List, [], ◌∷◌, ◌++◌, length, get_or, Option, Some, None, arith, ap, refl, sym, ◌∙◌, inl, inr, length-append, append_assoc, append-nil, ◌==◌, slice_get, slice_set, unwrap_or, option_map, filter, Result, Ok, Err, OnOk, option_and_then}
use Rattle.std.proofs.lemmas.Bool.Decides.{eqb_tells}
use Rattle.pi_base.specs.{declared.guid.Guid.Guid, declared.phase.Phase.Phase, GuidMap.value_of, Guids.same_guid, Lists.numbers}
use Rattle.depex_code.specs.declared.opcode.Opcode.{Opcode}
use Rattle.depex_code.specs.declared.opcode.Opcode.TheVariants as O
use Rattle.depex_code.specs.declared.depex.Depex.TheVariants as D
use Rattle.depex_code.specs.Tree.{DepexTree, True, False, Push, Not, And, Or, postfix}
use Rattle.mod_catalog.specs.{declared.catalogue.Catalog.Catalog, declared.catalogue.Module.Module, declared.catalogue.Part.Part}
use Rattle.mod_catalog.specs.{declared.catalogue.PartExpr.PartExpr, Parts.has_number, WellFormed.part_of}
use Rattle.mod_catalog.specs.declared.catalogue.PartExpr.TheVariants as E
use Rattle.boot_model.specs.EvaluationBound.{tree_pushes, expression_pushes, part_pushes}
use Rattle.wait_index.specs.Index.{watchers_at, watchers_of}
use Rattle.wait_index.specs.Watching.{opcode_pushes, code_pushes, code_in, part_code, module_code, is_one, ends_with, noted, noted_by, noted_from, AreApart, AreNoted}
use Rattle.wait_index.proofs.{Truth.one_guid, Arrivals.has_at, Arrivals.last_one}

pub on_ok : {A E : Type 0} (r : Result A E) (P Q : Type 0) → (P → Q) → OnOk r P → OnOk r Q
on_ok (Ok a) P Q f p = f p
on_ok (Err e) P Q f p = p

get_watchers : (lists : List (List ℕ)) (slot : ℕ) (x : List ℕ) → slot < length lists → x ≡ get_or lists slot x → x ≡ watchers_at lists slot
get_watchers [] slot x less e = absurd (omega (arith, less))
get_watchers (y ∷ lists) zero x less e = e
get_watchers (y ∷ lists) (suc slot) x less e = get_watchers lists slot x (omega (arith, less)) e

set_same : (lists : List (List ℕ)) (slot : ℕ) → slot < length lists → lists ≡ slice_set lists slot (watchers_at lists slot)
set_same [] slot less = absurd (omega (arith, less))
set_same (y ∷ lists) zero less = refl
set_same (y ∷ lists) (suc slot) less = ap (λ ls. y ∷ ls) (set_same lists slot (omega (arith, less)))

pub note_kept : (lists : List (List ℕ)) (slot number : ℕ) (x : List ℕ) → slot < length lists → x ≡ get_or lists slot x → ends_with x number ≡ true → lists ≡ slice_set lists slot (noted (watchers_at lists slot) number)
note_kept lists slot number x less e ends =
    let list = watchers_at lists slot in
    let its : ends_with list number ≡ true = ap (λ l. ends_with l number) (sym (get_watchers lists slot x less e)) ∙ ends in
    set_same lists slot less ∙ ap (slice_set lists slot) (sym (ap (λ b. cond b list (list ++ number ∷ [])) its))

pub note_pushed : (lists : List (List ℕ)) (slot number : ℕ) (x y new : List ℕ) → slot < length lists → x ≡ get_or lists slot x → ends_with x number ≡ false → y ≡ get_or lists slot y
    → new ≡ y ++ number ∷ [] → slice_set lists slot new ≡ slice_set lists slot (noted (watchers_at lists slot) number)
note_pushed lists slot number x y new less e ends f made =
    let list = watchers_at lists slot in
    let its : ends_with list number ≡ false = ap (λ l. ends_with l number) (sym (get_watchers lists slot x less e)) ∙ ends in
    ap (slice_set lists slot) (made ∙ ap (λ l. l ++ number ∷ []) (get_watchers lists slot y less f) ∙ sym (ap (λ b. cond b list (list ++ number ∷ [])) its))

at_set : (lists : List (List ℕ)) (slot : ℕ) (x : List ℕ) → slot < length lists → watchers_at (slice_set lists slot x) slot ≡ x
at_set [] slot x less = absurd (omega (arith, less))
at_set (y ∷ lists) zero x less = refl
at_set (y ∷ lists) (suc slot) x less = at_set lists slot x (omega (arith, less))

at_other : (lists : List (List ℕ)) (slot other : ℕ) (x : List ℕ) → ¬ (slot ≡ other) → watchers_at (slice_set lists slot x) other ≡ watchers_at lists other
at_other [] slot other x apart = refl
at_other (y ∷ lists) zero zero x apart = absurd (apart refl)
at_other (y ∷ lists) zero (suc other) x apart = refl
at_other (y ∷ lists) (suc slot) zero x apart = refl
at_other (y ∷ lists) (suc slot) (suc other) x apart = at_other lists slot other x (λ e. apart (ap suc e))

set_length : (lists : List (List ℕ)) (slot : ℕ) (x : List ℕ) → length (slice_set lists slot x) ≡ length lists
set_length [] slot x = refl
set_length (y ∷ lists) zero x = refl
set_length (y ∷ lists) (suc slot) x = ap suc (set_length lists slot x)

chosen : (b : Bool) (x y z : List ℕ) → (b ≡ true → z ≡ x) → (b ≡ false → z ≡ y) → z ≡ cond b x y
chosen true x y z f g = f refl
chosen false x y z f g = g refl

-- one GUID is watched by one more
pub noted_one : (slots : List (Guid × ℕ)) (lists new : List (List ℕ)) (guid : Guid) (slot number : ℕ) → AreApart slots → slot < length lists → value_of slots guid ≡ Some slot
    → new ≡ slice_set lists slot (noted (watchers_at lists slot) number) → AreNoted slots (λ other list. cond (same_guid guid other) (noted list number) list) lists new
noted_one slots lists new guid slot number apart less here made = record {
  as_many = ap length made ∙ set_length lists slot (noted (watchers_at lists slot) number);
  lists = λ other at also. chosen (same_guid guid other) (noted (watchers_at lists at) number) (watchers_at lists at) (watchers_at new at)
      (λ same.
      let one : slot ≡ at = the_slot slot at (sym here ∙ ap (value_of slots) (one_guid guid other same) ∙ also) in
      ap (λ l. watchers_at l at) made ∙ ap (watchers_at (slice_set lists slot (noted (watchers_at lists slot) number))) (sym one) ∙ at_set lists slot (noted (watchers_at lists slot) number) less
      ∙ ap (λ s. noted (watchers_at lists s) number) one)
      (λ off.
      ap (λ l. watchers_at l at) made ∙ at_other lists slot at (noted (watchers_at lists slot) number) (λ one.
      let same : same_guid guid other ≡ true = apart guid other slot here (also ∙ ap Some (sym one)) in
      let no : true ≡ false = sym same ∙ off in
      cc));
}
  where
    the_slot : (a b : ℕ) → Some a ≡ Some b → a ≡ b
    the_slot a b e = cc

pub noted_none : (slots : List (Guid × ℕ)) (lists : List (List ℕ)) (guid : Guid) (number : ℕ) → value_of slots guid ≡ None → AreNoted slots (λ other list. cond (same_guid guid other) (noted list number) list) lists lists
noted_none slots lists guid number none = record {
  as_many = refl;
  lists = λ other at also. chosen (same_guid guid other) (noted (watchers_at lists at) number) (watchers_at lists at) (watchers_at lists at)
      (λ same. let no : None ≡ Some at = sym none ∙ ap (value_of slots) (one_guid guid other same) ∙ also in absurd (cc))
      (λ off. refl);
}

-- what the opcodes of a tree push
append_pushes : (guid : Guid) (xs ys : List Opcode) → code_pushes guid (xs ++ ys) ≡ (code_pushes guid xs || code_pushes guid ys)
append_pushes guid [] ys = refl
append_pushes guid (x ∷ xs) ys = assoc (opcode_pushes guid x) (code_pushes guid (xs ++ ys)) (code_pushes guid xs) (code_pushes guid ys) (append_pushes guid xs ys)
  where
    assoc : (a b c d : Bool) → b ≡ (c || d) → (a || b) ≡ ((a || c) || d)
    assoc true b c d e = refl
    assoc false b c d e = e

or_false : (a : Bool) → (a || false) ≡ a
or_false true = refl
or_false false = refl

pub tree_code_pushes : (guid : Guid) (node : DepexTree) → code_pushes guid (postfix node) ≡ tree_pushes guid node
tree_code_pushes guid True = refl
tree_code_pushes guid False = refl
tree_code_pushes guid (Push other) = or_false (same_guid other guid)
tree_code_pushes guid (Not node) = append_pushes guid (postfix node) (O.Not ∷ []) ∙ or_false (code_pushes guid (postfix node)) ∙ tree_code_pushes guid node
tree_code_pushes guid (And first second) =
    append_pushes guid (postfix first) (postfix second ++ O.And ∷ [])
    ∙ ap (λ b. b || code_pushes guid (postfix second ++ O.And ∷ [])) (tree_code_pushes guid first)
    ∙ ap (λ b. tree_pushes guid first || b) (append_pushes guid (postfix second) (O.And ∷ []) ∙ or_false (code_pushes guid (postfix second)) ∙ tree_code_pushes guid second)
tree_code_pushes guid (Or first second) =
    append_pushes guid (postfix first) (postfix second ++ O.Or ∷ [])
    ∙ ap (λ b. b || code_pushes guid (postfix second ++ O.Or ∷ [])) (tree_code_pushes guid first)
    ∙ ap (λ b. tree_pushes guid first || b) (append_pushes guid (postfix second) (O.Or ∷ []) ∙ or_false (code_pushes guid (postfix second)) ∙ tree_code_pushes guid second)

expression_code : (guid : Guid) (expr : PartExpr) → code_pushes guid (code_in expr) ≡ expression_pushes guid expr
expression_code guid E.Absent = refl
expression_code guid (E.Malformed at) = refl
expression_code guid (E.Held (D.Before name)) = refl
expression_code guid (E.Held (D.After name)) = refl
expression_code guid (E.Held (D.Expr sor node)) = tree_code_pushes guid node

part_pushes_code : (guid : Guid) (part : Option Part) → code_pushes guid (part_code part) ≡ unwrap_or (option_map (λ p. expression_pushes guid p.expr) part) false
part_pushes_code guid None = refl
part_pushes_code guid (Some part) = expression_code guid part.expr

pub module_pushes : (phase : Phase) (catalog : Catalog) (guid : Guid) (number : ℕ) (m : Module) → slice_get catalog.modules number ≡ Some m → code_pushes guid (module_code phase m) ≡ part_pushes phase catalog guid number
module_pushes phase catalog guid number m at =
    part_pushes_code guid (part_of phase m) ∙ ap (λ found. unwrap_or (option_map (λ p. expression_pushes guid p.expr) (option_and_then (part_of phase) found)) false) (sym at)

-- a list that has no such number gets it once
last_is : (list : List ℕ) (number : ℕ) → ends_with (list ++ number ∷ []) number ≡ true
last_is list number =
    let long : length (list ++ number ∷ []) - 1 ≡ length list = omega (arith, length-append list (number ∷ [])) in
    ap (λ n. is_one (slice_get (list ++ number ∷ []) n) number) long ∙ ap (λ o. is_one o number) (last_one list number) ∙ self number
  where
    self : (n : ℕ) → (n == n) ≡ true
    self n = elim (eqb_tells n n) [ inl same ↦ same.0 | inr apart ↦ absurd (apart.1 refl) ]

not_last : (list : List ℕ) (number place : ℕ) (o : Option ℕ) → slice_get list place ≡ o → has_number list number ≡ false → is_one o number ≡ false
not_last list number place None at none = refl
not_last list number place (Some other) at none = elim (eqb_tells other number) [
  | inl same ↦ let no : true ≡ false = sym (has_at list place number (at ∙ ap Some same.1)) ∙ none in absurd (cc)
  | inr apart ↦ apart.0
]

noted_again : (guid : Guid) (number : ℕ) (list : List ℕ) (code : List Opcode) → ends_with list number ≡ true → noted_by guid number list code ≡ list
noted_again guid number list [] ends = refl
noted_again guid number list (opcode ∷ code) ends =
    ap (λ l. noted_by guid number l code) (same (opcode_pushes guid opcode)) ∙ noted_again guid number list code ends
  where
    same : (b : Bool) → cond b (noted list number) list ≡ list
    same true = ap (λ e. cond e list (list ++ number ∷ [])) ends
    same false = refl

pub noted_once : (guid : Guid) (number : ℕ) (list : List ℕ) (code : List Opcode) → has_number list number ≡ false
    → noted_by guid number list code ≡ cond (code_pushes guid code) (list ++ number ∷ []) list
noted_once guid number list [] none = refl
noted_once guid number list (opcode ∷ code) none = by (opcode_pushes guid opcode) (noted_once guid number list code none)
  where
    new : noted list number ≡ list ++ number ∷ []
    new = ap (λ e. cond e list (list ++ number ∷ [])) (not_last list number (length list - 1) (slice_get list (length list - 1)) refl none)

    by : (b : Bool) → noted_by guid number list code ≡ cond (code_pushes guid code) (list ++ number ∷ []) list
        → noted_by guid number (cond b (noted list number) list) code ≡ cond (b || code_pushes guid code) (list ++ number ∷ []) list
    by true e = ap (λ l. noted_by guid number l code) new ∙ noted_again guid number (list ++ number ∷ []) code (last_is list number)
    by false e = e

-- all numbers of a list are below one
abbrev AllBelow : List ℕ → ℕ → Type 0
AllBelow list number = (q : ℕ) → number ≤ q → has_number list q ≡ false

neither_more : (xs : List ℕ) (number q : ℕ) → (number == q) ≡ false → has_number xs q ≡ false → has_number (xs ++ number ∷ []) q ≡ false
neither_more [] number q off e = ap (λ b. b || false) off
neither_more (x ∷ xs) number q off e = one (x == q) (has_number xs q) (has_number (xs ++ number ∷ []) q) (neither_more xs number q off) e
  where
    one : (b c d : Bool) → (c ≡ false → d ≡ false) → (b || c) ≡ false → (b || d) ≡ false
    one true c d f g = absurd (cc)
    one false c d f g = f g

off_by_one : (number q : ℕ) → number + 1 ≤ q → (number == q) ≡ false
off_by_one number q le = elim (eqb_tells number q) [ inl same ↦ absurd (omega (arith, le, same.1)) | inr apart ↦ apart.0 ]

below_more : (list : List ℕ) (number : ℕ) (b : Bool) → AllBelow list number → AllBelow (cond b (list ++ number ∷ []) list) (number + 1)
below_more list number false below q le = below q (omega (arith, le))
below_more list number true below q le = neither_more list number q (off_by_one number q le) (below q (omega (arith, le)))

pub noted_all : (phase : Phase) (catalog : Catalog) (guid : Guid) (number : ℕ) (list : List ℕ) (ms : List Module) → ((i : ℕ) → slice_get ms i ≡ slice_get catalog.modules (number + i)) → AllBelow list number
    → noted_from phase guid number list ms ≡ list ++ filter (part_pushes phase catalog guid) (numbers number (length ms))
noted_all phase catalog guid number list [] same below = sym (append-nil list)
noted_all phase catalog guid number list (m ∷ ms) same below =
    let here : slice_get catalog.modules number ≡ Some m = let e : number ≡ number + 0 = omega arith in ap (slice_get catalog.modules) e ∙ sym (same 0) in
    let pushes : code_pushes guid (module_code phase m) ≡ part_pushes phase catalog guid number = module_pushes phase catalog guid number m here in
    let now : noted_by guid number list (module_code phase m) ≡ cond (part_pushes phase catalog guid number) (list ++ number ∷ []) list =
    noted_once guid number list (module_code phase m) (below number (omega arith)) ∙ ap (λ b. cond b (list ++ number ∷ []) list) pushes in
    ap (λ l. noted_from phase guid (number + 1) l ms) now
    ∙ noted_all phase catalog guid (number + 1) (cond (part_pushes phase catalog guid number) (list ++ number ∷ []) list) ms
    (λ i. let e : number + suc i ≡ (number + 1) + i = omega arith in same (suc i) ∙ ap (slice_get catalog.modules) e)
    (below_more list number (part_pushes phase catalog guid number) below)
    ∙ joined (part_pushes phase catalog guid number) (filter (part_pushes phase catalog guid) (numbers (number + 1) (length ms)))
  where
    joined : (b : Bool) (rest : List ℕ) → cond b (list ++ number ∷ []) list ++ rest ≡ list ++ cond b (number ∷ rest) rest
    joined true rest = append_assoc list (number ∷ []) rest
    joined false rest = refl

pub noted_watchers : (phase : Phase) (catalog : Catalog) (guid : Guid) → noted_from phase guid 0 [] catalog.modules ≡ watchers_of phase catalog guid
noted_watchers phase catalog guid = noted_all phase catalog guid 0 [] catalog.modules (λ i. let e : i ≡ 0 + i = omega arith in ap (slice_get catalog.modules) e) (λ q le. refl)
