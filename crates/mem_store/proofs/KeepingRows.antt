-- Rows that stay as they are.
use Rattle.std.proofs.Common.{◌≡◌, ◌≢◌, ℕ, Bool, true, false, cond, ◌||◌, ◌==◌, List, [], ◌∷◌, ◌++◌, ap, refl, sym, ◌∙◌, Option, Some, eq-eqb, option_map, unwrap_or}
use Rattle.std.specs.List.{list_any}
use Rattle.pi_base.specs.{declared.guid.Guid.Guid, Lists.Each}
use Rattle.store_model.specs.{declared.state.Body.Body, declared.state.Body.TheVariants.Bytes, declared.state.Body.TheVariants.Descriptor}
use Rattle.store_model.specs.{declared.state.DescriptorBody.DescriptorBody, declared.state.Entry.Entry}
use Rattle.store_model.specs.{declared.store_handle.DescKind.DescKind, HeapImage.descriptor_bytes}
use Rattle.store_model.specs.declared.store_handle.DescKind.TheVariants.{Ppi, Callback, Dispatch}
use Rattle.store_model.specs.StoreState.{Range, StoreState, body_at}
use Rattle.store_model.specs.StateFacts.{IsEntry, IsStoreState}
use Rattle.store_model.specs.Migration.{migrated_to, moved_body, moved_descriptor}
use Rattle.store_model.specs.Service.Descriptor.{descriptor_in, descriptors, is_named, no_guid}
use Rattle.store_laws.specs.Bodies.{BodiesStay, IsGrown, KeepsLength, changed}
use Rattle.mem_store.specs.{Rows.row_at, Rows.rows_of, Staying.RowsAre}

-- the GUID that a body tells
abbrev pub guid_in : Option Body → Guid
guid_in body = unwrap_or (option_map (λ d. d.guid) (descriptor_in body)) no_guid

-- an entry's descriptor has the GUID that it had
abbrev HasStill : StoreState → StoreState → Entry → Type 0
HasStill s t entry = guid_in (body_at t entry.descriptor) ≡ guid_in (body_at s entry.descriptor)

same_rows : (s t : StoreState) (entries : List Entry) → Each (HasStill s t) entries → rows_of t entries ≡ rows_of s entries
same_rows s t [] same = refl
same_rows s t (e ∷ es) same =
    ap (λ (guid : Guid). record { guid = guid; at = e.descriptor } ∷ rows_of t es) same.0
    ∙ ap (λ l. row_at s e.descriptor ∷ l) (same_rows s t es same.1)

each_map : (P Q : Entry → Type 0) → ((entry : Entry) → P entry → Q entry) → (entries : List Entry) → Each P entries → Each Q entries
each_map P Q f [] each = tt
each_map P Q f (e ∷ es) each = (f e each.0, each_map P Q f es each.1)

each_both : (P Q R : Entry → Type 0) → ((entry : Entry) → P entry → Q entry → R entry) → (entries : List Entry) → Each P entries → Each Q entries → Each R entries
each_both P Q R f [] first second = tt
each_both P Q R f (e ∷ es) first second = (f e first.0 second.0, each_both P Q R f es first.1 second.1)

grown_still : (s t : StoreState) (kind : DescKind) → IsGrown s t → (entry : Entry) → IsEntry s kind entry → HasStill s t entry
grown_still s t kind grown entry is =
    let there : body_at s entry.descriptor ≡ Some (Descriptor is.1.0) = is.1.1 in
    ap guid_in (grown entry.descriptor (Descriptor is.1.0) there ∙ sym there)

changed_still : BodiesStay → (change : Body → Body) (s : StoreState) (place : ℕ) (body : Body) (kind : DescKind) → KeepsLength change s place body
    → ((d : DescriptorBody) → body ≢ Descriptor d) → (entry : Entry) → IsEntry s kind entry → HasStill s (changed change s place) entry
changed_still stay change s place body kind keeps other entry is =
    ap guid_in (stay.elsewhere change s place entry.descriptor body keeps (λ same.
    let one : Some body ≡ Some (Descriptor is.1.0) = sym keeps.there ∙ ap (body_at s) (sym same) ∙ is.1.1 in
    let eq : body ≡ Descriptor is.1.0 = cc in
    other is.1.0 eq))

-- an entry whose descriptor is named keeps its GUID in the move
moved_still : BodiesStay → (s : StoreState) (to : Range) (kind : DescKind) → IsStoreState s → (entry : Entry) → IsEntry s kind entry
    → is_named s entry.descriptor ≡ true → HasStill s (migrated_to s to) entry
moved_still stay s to kind state entry is named =
    let there : body_at s entry.descriptor ≡ Some (Descriptor is.1.0) = is.1.1 in
    let d : DescriptorBody = is.1.0 in
    let place : ℕ = entry.descriptor in
    ap guid_in (stay.moved s to place state)
    ∙ ap (λ b. guid_in (option_map (moved_body s to place) b)) there
    ∙ ap (λ b. guid_in (Some (cond b (Descriptor (moved_descriptor s to d)) (Bytes (descriptor_bytes s.base place d))))) named
    ∙ sym (ap guid_in there)

or_true : (a b : Bool) → b ≡ true → (a || b) ≡ true
or_true true b e = refl
or_true false b e = e

or_first : (a b : Bool) → a ≡ true → (a || b) ≡ true
or_first true b e = refl
or_first false b e = absurd (let no : false ≡ true = e in cc)

-- one of the entries names the descriptor at a place
abbrev names : List Entry → ℕ → Bool
names entries place = list_any (λ named. named == place) (descriptors entries)

front_on : (a b c : Bool) → (b ≡ true → c ≡ true) → (a || b) ≡ true → (a || c) ≡ true
front_on true b c f e = refl
front_on false b c f e = f e

in_front : (xs ys : List Entry) (place : ℕ) → names xs place ≡ true → names (xs ++ ys) place ≡ true
in_front [] ys place e = absurd (let no : false ≡ true = e in cc)
in_front (x ∷ xs) ys place e = front_on (x.descriptor == place) (names xs place) (names (xs ++ ys) place) (in_front xs ys place) e

behind : (xs ys : List Entry) (place : ℕ) → names ys place ≡ true → names (xs ++ ys) place ≡ true
behind [] ys place e = e
behind (x ∷ xs) ys place e = or_true (x.descriptor == place) (names (xs ++ ys) place) (behind xs ys place e)

own : (xs : List Entry) → Each (λ entry. names xs entry.descriptor ≡ true) xs
own [] = tt
own (x ∷ xs) = (
  or_first (x.descriptor == x.descriptor) (names xs x.descriptor) (eq-eqb x.descriptor x.descriptor refl),
  each_map (λ entry. names xs entry.descriptor ≡ true) (λ entry. names (x ∷ xs) entry.descriptor ≡ true)
      (λ entry e. or_true (x.descriptor == entry.descriptor) (names xs entry.descriptor) e) xs (own xs),
)

-- an entry of one of the three lists names its descriptor
named_in : (s : StoreState) (list : List Entry) → ((place : ℕ) → names list place ≡ true → names (s.ppis ++ s.callbacks ++ s.dispatches) place ≡ true)
    → Each (λ entry. is_named s entry.descriptor ≡ true) list
named_in s list among = each_map (λ entry. names list entry.descriptor ≡ true) (λ entry. is_named s entry.descriptor ≡ true)
    (λ entry e. or_first (names (s.ppis ++ s.callbacks ++ s.dispatches) entry.descriptor)
    (list_any (λ pending. pending.descriptor == entry.descriptor || pending.ppi == entry.descriptor) s.pendings) (among entry.descriptor e))
    list (own list)

-- what holds of the entries of each list holds of the rows
rows_are : (s t : StoreState) → IsStoreState s → ((kind : DescKind) (entry : Entry) → IsEntry s kind entry → HasStill s t entry) → RowsAre s t
rows_are s t state still = record {
  ppis = same_rows s t s.ppis (each_map (IsEntry s Ppi) (HasStill s t) (still Ppi) s.ppis state.ppis);
  callbacks = same_rows s t s.callbacks (each_map (IsEntry s Callback) (HasStill s t) (still Callback) s.callbacks state.callbacks);
  dispatches = same_rows s t s.dispatches (each_map (IsEntry s Dispatch) (HasStill s t) (still Dispatch) s.dispatches state.dispatches);
}

pub grown_rows : (s t : StoreState) → IsStoreState s → IsGrown s t → RowsAre s t
grown_rows s t state grown = rows_are s t state (λ kind. grown_still s t kind grown)

pub changed_rows : BodiesStay → (change : Body → Body) (s : StoreState) (place : ℕ) (body : Body) → IsStoreState s → KeepsLength change s place body
    → ((d : DescriptorBody) → body ≢ Descriptor d) → RowsAre s (changed change s place)
changed_rows stay change s place body state keeps other = rows_are s (changed change s place) state (λ kind. changed_still stay change s place body kind keeps other)

moved_list : BodiesStay → (s : StoreState) (to : Range) (kind : DescKind) (list : List Entry) → IsStoreState s → Each (IsEntry s kind) list
    → ((place : ℕ) → names list place ≡ true → names (s.ppis ++ s.callbacks ++ s.dispatches) place ≡ true) → rows_of (migrated_to s to) list ≡ rows_of s list
moved_list stay s to kind list state there among = same_rows s (migrated_to s to) list
    (each_both (IsEntry s kind) (λ entry. is_named s entry.descriptor ≡ true) (HasStill s (migrated_to s to)) (moved_still stay s to kind state) list there
    (named_in s list among))

pub moved_rows : BodiesStay → (s : StoreState) (to : Range) → IsStoreState s → RowsAre s (migrated_to s to)
moved_rows stay s to state = record {
  ppis = moved_list stay s to Ppi s.ppis state state.ppis
      (λ place e. in_front (s.ppis ++ s.callbacks) s.dispatches place (in_front s.ppis s.callbacks place e));
  callbacks = moved_list stay s to Callback s.callbacks state state.callbacks
      (λ place e. in_front (s.ppis ++ s.callbacks) s.dispatches place (behind s.ppis s.callbacks place e));
  dispatches = moved_list stay s to Dispatch s.dispatches state state.dispatches (λ place e. behind (s.ppis ++ s.callbacks) s.dispatches place e);
}
