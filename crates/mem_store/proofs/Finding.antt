-- The first PPI that names a descriptor, by the rows of all nodes.
use Rattle.std.proofs.Common.{◌≡◌, ℕ, zero, suc, ◌+◌, ◌<◌, ◌^◌, ◌==◌, Bool, true, false, cond, ◌||◌, List, [], ◌∷◌, length, drop, map, Some, None, ap, refl, sym, ◌∙◌, arith, slice_get, replicate, option_map, unwrap_or}
use Rattle.std.specs.List.{list_any}
use Rattle.std.proofs.{lemmas.Bool.Decides.nat_tests, lemmas.Slice.Eq.bytes_eq-Decides}
use Rattle.pi_base.specs.{Guids.same_guid, Lists.Each, Field.little_number, declared.guid.Guid.Guid}
use Rattle.pi_base.proofs.FieldLaws.{little_number-little_bytes}
use Rattle.store_model.specs.{declared.state.Entry.Entry, declared.state.Body.TheVariants.Descriptor, StoreState.StoreState}
use Rattle.store_model.specs.{StateFacts.IsEntry, StateFacts.IsStoreState, declared.store_handle.DescKind.TheVariants.Ppi}
use Rattle.store_model.specs.{Service.Descriptor.descriptors, Service.Install.place_of, declared.store_handle.Desc.Desc}
use Rattle.store_laws.specs.{Bodies.BodiesAreInside, Fitting.StatesFit}
use Rattle.mem_store.specs.{declared.guid_index.index.Indexed.Indexed, Entries.has_at, Entries.has_guid}
use Rattle.mem_store.specs.Nodes.{AreKnown, key_of, named_row, named_rows}
use Rattle.guid_lists.specs.Places.{IsFirstFrom}
use Rattle.pei_heap.specs.Replaced.{IsFound}
use Rattle.mem_store.proofs.Learning.{some_one}

key_number : (a : ℕ) → a < 2 ^ 64 → little_number 8 (key_of a).0 ≡ a
key_number a fits = little_number-little_bytes 8 a (replicate 8 0) fits

one_key : (a b : ℕ) → a < 2 ^ 64 → b < 2 ^ 64 → (key_of a).0 ≡ (key_of b).0 → a ≡ b
one_key a b small fits same = sym (key_number a small) ∙ ap (little_number 8) same ∙ key_number b fits

eq_of : (a b : ℕ) → (a == b) ≡ true → a ≡ b
eq_of a b e = grind (arith, nat_tests, e)

not_eq : (a b : ℕ) → (a == b) ≡ false → a ≡ b → ⊥
not_eq a b e same = grind (arith, nat_tests, e, same)

key_on : (a b : ℕ) → a < 2 ^ 64 → b < 2 ^ 64 → (t u : Bool) → (a == b) ≡ t → same_guid (key_of a) (key_of b) ≡ u → t ≡ u
key_on a b small fits true true e f = refl
key_on a b small fits false false e f = refl
key_on a b small fits true false e f =
    let same = eq_of a b e in
    let yes : same_guid (key_of a) (key_of b) ≡ true = (bytes_eq-Decides (key_of a).0 (key_of b).0).1 (ap (λ n. (key_of n).0) same) in
    absurd (let no : false ≡ true = sym f ∙ yes in cc)
key_on a b small fits false true e f = absurd (not_eq a b e (one_key a b small fits ((bytes_eq-Decides (key_of a).0 (key_of b).0).0 f)))

key_is : (a b : ℕ) → a < 2 ^ 64 → b < 2 ^ 64 → (a == b) ≡ same_guid (key_of a) (key_of b)
key_is a b small fits = key_on a b small fits (a == b) (same_guid (key_of a) (key_of b)) refl refl

-- the descriptor of an entry stands in 64 bits
abbrev pub IsSmall : Entry → Type 0
IsSmall entry = entry.descriptor < 2 ^ 64

small_each : (s : StoreState) → ((entry : Entry) → IsEntry s Ppi entry → IsSmall entry) → (entries : List Entry) → Each (IsEntry s Ppi) entries → Each IsSmall entries
small_each s small [] each = tt
small_each s small (entry ∷ entries) each = (small entry each.0, small_each s small entries each.1)

pub all_small : BodiesAreInside → StatesFit → (s : StoreState) → IsStoreState s → Each IsSmall s.ppis
all_small inside fit s state =
    small_each s (λ entry is.
    let at = inside s entry.descriptor (Descriptor is.1.0) state is.1.1 in
    let before = at.before in
    let room = state.room in
    let end = (fit.heap s state).len in
    omega (arith, before, room, end)) s.ppis state.ppis

-- the first entry that names a descriptor
pub record IsFirstOf (entries : List Entry) (d place : ℕ) : Type 0 where
  pub entry : Entry
  pub rest : List Entry
  pub there : drop place entries ≡ entry ∷ rest
  pub place_is : place ≡ place_of entries d
  pub inside : place < length entries
  pub installed : list_any (λ other. other == d) (descriptors entries) ≡ true
  pub node : slice_get (map named_row entries) place ≡ Some (named_row entry)

or_true : (a : Bool) → (a || true) ≡ true
or_true true = refl
or_true false = refl

pub first_of : (entries : List Entry) (d place : ℕ) → d < 2 ^ 64 → Each IsSmall entries → has_at (map named_row entries) (key_of d) place ≡ true
    → ((other : ℕ) → other < place → has_at (map named_row entries) (key_of d) other ≡ false) → IsFirstOf entries d place
first_of [] d place fits small has none = absurd (let no : false ≡ true = has in cc)
first_of (e ∷ es) d zero fits small has none =
    let named : (e.descriptor == d) ≡ true = key_is e.descriptor d small.0 fits ∙ has in
    record {
      entry = e;
      rest = es;
      there = refl;
      place_is = sym (ap (λ b. cond b 0 (1 + place_of es d)) named);
      inside = omega arith;
      installed = ap (λ b. b || list_any (λ other. other == d) (descriptors es)) named;
      node = refl;
    }
first_of (e ∷ es) d (suc place) fits small has none =
    let named : (e.descriptor == d) ≡ false = key_is e.descriptor d small.0 fits ∙ none 0 (omega arith) in
    let later = first_of es d place fits small.1 has (λ other less. none (suc other) (omega (arith, less))) in
    let is = later.place_is in
    let more : suc place ≡ 1 + place_of es d = omega (arith, is) in
    let within = later.inside in
    record {
      entry = later.entry;
      rest = later.rest;
      there = later.there;
      place_is = more ∙ sym (ap (λ b. cond b 0 (1 + place_of es d)) named);
      inside = omega (arith, within);
      installed = ap (λ b. (e.descriptor == d) || b) later.installed ∙ or_true (e.descriptor == d);
      node = later.node;
    }

pub none_of : (entries : List Entry) (d : ℕ) → d < 2 ^ 64 → Each IsSmall entries → ((other : ℕ) → has_at (map named_row entries) (key_of d) other ≡ false)
    → list_any (λ other. other == d) (descriptors entries) ≡ false
none_of [] d fits small none = refl
none_of (e ∷ es) d fits small none =
    ap (λ b. b || list_any (λ other. other == d) (descriptors es)) (key_is e.descriptor d small.0 fits ∙ none 0) ∙ none_of es d fits small.1 (λ other. none (suc other))

-- a place of a key is within the rows
pub not_past : (rows : List Indexed) (key : Guid) (place : ℕ) → has_at rows key place ≡ true → None ≡ slice_get rows place → ⊥
not_past rows key place has none = let no : false ≡ true = ap (λ o. unwrap_or (option_map (has_guid key) o) false) none ∙ has in cc

-- what is found among the rows of all nodes
pub record Sought (s : StoreState) (rows : List Indexed) (d : Desc) (key : Guid) : Type 0 where
  pub inside : BodiesAreInside
  pub fit : StatesFit
  pub known : AreKnown rows s
  pub keyed : key ≡ key_of d.offset
  pub fits : d.offset < 2 ^ 64

small_ones : (s : StoreState) (rows : List Indexed) (d : Desc) (key : Guid) → Sought s rows d key → Each IsSmall s.ppis
small_ones s rows d key sought = all_small sought.inside sought.fit s sought.known.0

test_is : (s : StoreState) (rows : List Indexed) (d : Desc) (key : Guid) → Sought s rows d key → (place : ℕ) → has_at rows key place ≡ has_at (named_rows s) (key_of d.offset) place
test_is s rows d key sought place =
    ap (λ k. has_at rows k place) sought.keyed ∙ ap (λ l. has_at l (key_of d.offset) place) sought.known.1

pub found_first : (s : StoreState) (rows : List Indexed) (d : Desc) (key : Guid) (place : ℕ) (row : Indexed) → Sought s rows d key
    → IsFirstFrom (has_at rows key) 0 0 (Some place) → Some row ≡ slice_get rows place → IsFound s d (Some (record { place = place; node = row.at }))
found_first s rows d key place row sought first there =
    let is = test_is s rows d key sought in
    let named = first_of s.ppis d.offset place sought.fits (small_ones s rows d key sought) (sym (is place) ∙ first.2)
    (λ other less. sym (is other) ∙ first.3 other (omega arith) (omega arith) less) in
    let same = some_one row (named_row named.entry) (there ∙ ap (λ l. slice_get l place) sought.known.1 ∙ named.node) in
    record {
      entry = named.entry;
      rest = named.rest;
      there = named.there;
      place_is = named.place_is;
      node_is = ap (λ (r : Indexed). r.at) same;
      inside = named.inside;
      installed = named.installed;
    }

pub found_none : (s : StoreState) (rows : List Indexed) (d : Desc) (key : Guid) → Sought s rows d key → IsFirstFrom (has_at rows key) 0 0 None → IsFound s d None
found_none s rows d key sought none =
    let is = test_is s rows d key sought in
    none_of s.ppis d.offset sought.fits (small_ones s rows d key sought) (λ other. sym (is other) ∙ none other (omega arith) (omega arith))
