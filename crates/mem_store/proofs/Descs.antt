-- Descriptors that are handed in stay, with their kinds and GUIDs.
use Rattle.std.proofs.Common.{◌≡◌, ℕ, Bool, true, false, not, cond, List, [], ◌∷◌, ap, refl, sym, ◌∙◌, Option, filter, map, option_map, unwrap_or}
use Rattle.pi_base.specs.{declared.guid.Guid.Guid, Lists.Each}
use Rattle.store_model.specs.{declared.state.Body.Body, declared.state.Body.TheVariants.Descriptor, declared.store_handle.Desc.Desc}
use Rattle.store_model.specs.{declared.store_handle.DescKind.DescKind, declared.store_handle.DescKind.TheVariants.Dispatch}
use Rattle.store_model.specs.{StoreState.StoreState, StateFacts.IsDesc}
use Rattle.store_model.specs.Service.Descriptor.{descriptor_in, is_callback, kind_at, offsets}
use Rattle.store_laws.specs.Bodies.{IsGrown}
use Rattle.mem_store.specs.{Rows.row_at, Serving.DescsStay}
use Rattle.mem_store.proofs.KeepingRows.{guid_in}

-- the kind that a body tells
abbrev pub kind_in : Option Body → DescKind
kind_in body = unwrap_or (option_map (λ d. d.kind) (descriptor_in body)) Dispatch

pub descs_rows : (s t : StoreState) (list : List Desc) → IsGrown s t → Each (IsDesc s) list → map (row_at t) (offsets list) ≡ map (row_at s) (offsets list)
descs_rows s t [] grown there = refl
descs_rows s t (d ∷ list) grown there =
    let first = ap guid_in (grown d.offset (Descriptor there.0.0) there.0.1 ∙ sym there.0.1) in
    ap (λ (guid : Guid). record { guid = guid; at = d.offset } ∷ map (row_at t) (offsets list)) first
    ∙ ap (λ l. row_at s d.offset ∷ l) (descs_rows s t list grown there.1)

abbrev guid_row : StoreState → StoreState → ℕ → Type 0
guid_row s t place = row_at t place ≡ row_at s place

-- rows of descriptors that are picked from those handed in
rows_on : (s t : StoreState) (b : Bool) (place : ℕ) (rest : List ℕ) → guid_row s t place → map (row_at t) rest ≡ map (row_at s) rest
    → map (row_at t) (cond b (place ∷ rest) rest) ≡ map (row_at s) (cond b (place ∷ rest) rest)
rows_on s t true place rest one h = ap (λ r. r ∷ map (row_at t) rest) one ∙ ap (λ l. row_at s place ∷ l) h
rows_on s t false place rest one h = h

pub picked_rows : (s t : StoreState) (test : ℕ → Bool) (list : List Desc) → IsGrown s t → Each (IsDesc s) list
    → map (row_at t) (filter test (offsets list)) ≡ map (row_at s) (filter test (offsets list))
picked_rows s t test [] grown there = refl
picked_rows s t test (d ∷ list) grown there =
    let one = ap guid_in (grown d.offset (Descriptor there.0.0) there.0.1 ∙ sym there.0.1) in
    rows_on s t (test d.offset) d.offset (filter test (offsets list)) (ap (λ (guid : Guid). record { guid = guid; at = d.offset }) one)
    (picked_rows s t test list grown there.1)

descs_there : (s t : StoreState) (list : List Desc) → IsGrown s t → Each (IsDesc s) list → Each (IsDesc t) list
descs_there s t [] grown there = tt
descs_there s t (d ∷ list) grown there = ((there.0.0, grown d.offset (Descriptor there.0.0) there.0.1), descs_there s t list grown there.1)

kind_same : (s t : StoreState) (d : Desc) → IsGrown s t → IsDesc s d → kind_at t d.offset ≡ kind_at s d.offset
kind_same s t d grown there = ap kind_in (grown d.offset (Descriptor there.0) there.1 ∙ sym there.1)

-- the same ones are picked by their kinds
same_picked : (test : DescKind → Bool) (s t : StoreState) (list : List Desc) → IsGrown s t → Each (IsDesc s) list
    → filter (λ place. test (kind_at t place)) (offsets list) ≡ filter (λ place. test (kind_at s place)) (offsets list)
same_picked test s t [] grown there = refl
same_picked test s t (d ∷ list) grown there =
    ap (λ k. cond (test k) (d.offset ∷ filter (λ place. test (kind_at t place)) (offsets list)) (filter (λ place. test (kind_at t place)) (offsets list)))
    (kind_same s t d grown there.0)
    ∙ ap (λ l. cond (test (kind_at s d.offset)) (d.offset ∷ l) l) (same_picked test s t list grown there.1)

pub descs_stay : (s t : StoreState) (list : List Desc) → IsGrown s t → Each (IsDesc s) list → DescsStay s t list
descs_stay s t list grown there = record {
  there = descs_there s t list grown there;
  rows = descs_rows s t list grown there;
  callbacks = ap (map (row_at t)) (same_picked is_callback s t list grown there)
      ∙ picked_rows s t (λ place. is_callback (kind_at s place)) list grown there;
  dispatches = ap (map (row_at t)) (same_picked (λ kind. not (is_callback kind)) s t list grown there)
      ∙ picked_rows s t (λ place. not (is_callback (kind_at s place))) list grown there;
}
