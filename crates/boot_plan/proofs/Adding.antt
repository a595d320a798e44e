-- A line that has no fault is added.
use Rattle.std.proofs.Common.{◌≡◌, ℕ, true, false, ltb, List, [], ◌∷◌, ◌++◌, length, Option, Some, None, refl, ap, subst, arith, option_map}
use Rattle.std.proofs.{lemmas.List.nil_from_length, lemmas.Bool.Decides.nat_tests}
use Rattle.boot_plan.specs.{declared.draft.Draft.Draft, Form.form_of, Range.IsSpanInRange}
use Rattle.line_words.specs.{Line.is_passed_over, Number.number_of}
use Rattle.boot_plan.specs.Entry.{Entry, Temp, Ram, Volume, Fuel, Pages, read_entry, both}
use Rattle.boot_plan.specs.Said.{Said, said_from, temps, rams, fuels, pages, volumes}
use Rattle.boot_plan.specs.LineCause.{is_repeated, is_within, is_area, line_cause}
use Rattle.boot_plan.specs.Draft.{Keeps, IsInRange, HasPlace, IsEntryInRange}
use Rattle.boot_plan.proofs.{Drafts.at_line, Names.IsNamed, Names.form_named}

abbrev of : Entry ℕ → Option (Entry ℕ)
of entry = Some entry

none : {X : Type 0} (list : List X) → false ≡ ltb 0 (length list) → list ≡ []
none list h = nil_from_length list (grind (arith, nat_tests))

two : (P : Entry ℕ → Type 0) (make : ℕ → ℕ → Entry ℕ) (x y : Option ℕ) (entry : Entry ℕ) → of entry ≡ both make x y → ((a b : ℕ) → P (make a b)) → P entry
two P make None y entry e p = absurd cc
two P make (Some a) None entry e p = absurd cc
two P make (Some a) (Some b) entry e p = let s : make a b ≡ entry = cc in subst P s (p a b)

one : (P : Entry ℕ → Type 0) (make : ℕ → Entry ℕ) (x : Option ℕ) (entry : Entry ℕ) → of entry ≡ option_map make x → ((a : ℕ) → P (make a)) → P entry
one P make None entry e p = absurd cc
one P make (Some a) entry e p = let s : make a ≡ entry = cc in subst P s (p a)

-- an entry that was read has its place and its name where its form has
read_is : (before : List Said) (form : Entry (List ℕ)) (entry : Entry ℕ) → of entry ≡ read_entry form → false ≡ is_repeated before form → IsNamed form → HasPlace before entry × IsNamed entry
read_is before (Temp base size) entry e first named = two (λ x. HasPlace before x × IsNamed x) (λ a b. Temp a b) (number_of base) (number_of size) entry e (λ a b. (none (temps before) first, tt))
read_is before (Ram base size) entry e first named = two (λ x. HasPlace before x × IsNamed x) (λ a b. Ram a b) (number_of base) (number_of size) entry e (λ a b. (none (rams before) first, tt))
read_is before (Volume base name) entry e first named = one (λ x. HasPlace before x × IsNamed x) (λ a. Volume a name) (number_of base) entry e (λ a. (tt, named))
read_is before (Fuel count) entry e first named = one (λ x. HasPlace before x × IsNamed x) (λ a. Fuel a) (number_of count) entry e (λ a. (none (fuels before) first, tt))
read_is before (Pages size) entry e first named = one (λ x. HasPlace before x × IsNamed x) (λ a. Pages a) (number_of size) entry e (λ a. (none (pages before) first, tt))

area : (least most base size : ℕ) → true ≡ is_area least most base size → IsSpanInRange least most base size
area least most base size h = record {
  base_of_pages = grind (arith, nat_tests);
  len_of_pages = grind (arith, nat_tests);
  least = grind (arith, nat_tests);
  most = grind (arith, nat_tests);
  address = grind (arith, nat_tests);
  end = grind (arith, nat_tests);
}

few : (before : List Said) (d : Draft) → Keeps before d → length (volumes before) ≡ length d.volumes
few before d k = ap length k.volumes

in_range : (before : List Said) (d : Draft) (entry : Entry ℕ) → Keeps before d → IsNamed entry → true ≡ is_within before entry → IsEntryInRange d entry
in_range before d (Temp base size) k named h = area _ _ base size h
in_range before d (Ram base size) k named h = area _ _ base size h
in_range before d (Volume base name) k named h = let n = few before d k in (record { aligned = grind (arith, nat_tests); address = grind (arith, nat_tests); name = named }, grind (arith, nat_tests))
in_range before d (Fuel count) k named h = (grind (arith, nat_tests), grind (arith, nat_tests))
in_range before d (Pages size) k named h = (grind (arith, nat_tests), grind (arith, nat_tests))

pub added : (before : List Said) (old new : Draft) (number : ℕ) (line : List ℕ) (form : Entry (List ℕ)) (entry : Entry ℕ)
    → is_passed_over line ≡ false → ◌≡◌ {A = Option (Entry (List ℕ))} (Some form) (form_of line) → false ≡ is_repeated before form → of entry ≡ read_entry form → true ≡ is_within before entry
    → Keeps before old → IsInRange old
    → (Keeps before old → HasPlace before entry → Keeps (before ++ at_line number entry ∷ []) new)
    → (IsInRange old → IsEntryInRange old entry → IsInRange new)
    → (line_cause before line ≡ None) × Keeps (before ++ said_from number (line ∷ [])) new × IsInRange new
added before old new number line form entry passed formed first read within keeps range put_keeps put_range =
    let placed = read_is before form entry read first (form_named line form formed) in
    let kept = put_keeps keeps placed.0 in
    let ranged = put_range range (in_range before old entry keeps placed.1 within) in
    (rw (passed, ← formed, ← first, ← read, ← within) refl, rw (passed, ← formed, ← read) kept, ranged)
